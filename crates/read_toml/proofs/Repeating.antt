-- Those of a kind that are there again, one after the other.
use Rattle.std.proofs.Common.{◌≡◌, ℕ, ◌+◌, ◌<◌, Bool, true, false, ◌||◌, cond, List, [], ◌∷◌, ◌++◌, map, take, drop, length}
use Rattle.std.proofs.Common.{get_or, set, Bor, refl, ap, sym, ◌∙◌, arith, eqb, inl, inr, get_or-set_same}
use Rattle.std.proofs.Common.{get_or-set_other}
use Rattle.std.proofs.lemmas.Bool.Decides.{eqb_tells}
use Rattle.std.proofs.lemmas.List.{append-nil, map-append, drop_more, take_more}
use Rattle.std.specs.Prelude.{codes, decimal, flat_map}
use Rattle.base_words.specs.declared.op.Op.{Op}
use Rattle.base_words.specs.declared.location.Location.{Location}
use Rattle.base_notes.specs.declared.notes.edge.Edge.{Edge}
use Rattle.base_notes.specs.EdgeOf.{edge_of}
use Rattle.read_toml.specs.Document.{Fault, two_marks, two_lists, missing_in, element_faults, elements_faults}
use Rattle.read_toml.specs.NotesDocument.{has_edge, edge_faults, has_location, location_faults}
use Rattle.read_toml.specs.TimesDocument.{operation_faults}
use Rattle.toml.specs.Data.{Members}
use Rattle.toml.specs.View.{view, items_view}
use Rattle.toml.specs.declared.value.Value.{Value}

-- the keys from a place on, that one and the others
pub missing_left : (at : List ℕ) (fields : Members) (keys : List (Bor (List ℕ))) (i : ℕ) (d : Bor (List ℕ))
    → i < length keys
    → missing_in at (map (λ key. key.now) (drop i keys)) fields
    ≡ missing_in at ((get_or keys i d).now ∷ []) fields ++ missing_in at (map (λ key. key.now) (drop (i + 1) keys)) fields
missing_left at fields keys i d within =
    ap (λ (ks : List (Bor (List ℕ))). missing_in at (map (λ key. key.now) ks) fields) (drop_more keys i d within)
    ∙ ap (λ (xs : List Fault). xs ++ missing_in at (map (λ key. key.now) (drop (i + 1) keys)) fields)
    (sym (append-nil _))

drop_item : {A : Type 0} (xs : List A) (i : ℕ) (x : A) → i < length xs → x ≡ get_or xs i x
    → drop i xs ≡ x ∷ drop (i + 1) xs
drop_item {A} xs i x within is = drop_more xs i x within ∙ ap (λ (y : A). y ∷ drop (i + 1) xs) (sym is)

take_item : {A : Type 0} (xs : List A) (i : ℕ) (x : A) → i < length xs → x ≡ get_or xs i x
    → take (i + 1) xs ≡ take i xs ++ x ∷ []
take_item {A} xs i x within is = take_more xs i x within ∙ ap (λ (y : A). take i xs ++ y ∷ []) (sym is)

-- the edges from a place on
pub edges_left : (edges : List Edge) (i : ℕ) (edge : Edge) → i < length edges
    → edge ≡ get_or edges i edge
    → edge_faults (map edge_of (take i edges)) (map edge_of (drop i edges))
    ≡ cond (has_edge (map edge_of (take i edges)) (edge_of edge))
    (two_marks edge.from.number edge.onto.number ∷ []) []
    ++ edge_faults (map edge_of (take (i + 1) edges)) (map edge_of (drop (i + 1) edges))
edges_left edges i edge within is =
    ap (λ (es : List Edge). edge_faults (map edge_of (take i edges)) (map edge_of es))
    (drop_item edges i edge within is)
    ∙ ap (λ (earlier : List (ℕ × ℕ)). cond (has_edge (map edge_of (take i edges)) (edge_of edge))
    (two_marks edge.from.number edge.onto.number ∷ []) [] ++ edge_faults earlier (map edge_of (drop (i + 1) edges)))
    (sym (map-append edge_of (take i edges) (edge ∷ []))
    ∙ ap (map edge_of) (sym (take_item edges i edge within is)))

abbrev number_of : Location → ℕ
number_of place = place.number

-- the locations from a place on
pub places_left : (places : List Location) (i : ℕ) (place : Location) → i < length places
    → place ≡ get_or places i place
    → location_faults (map (λ place. place.number) (take i places)) (map (λ place. place.number) (drop i places))
    ≡ cond (has_location (map (λ place. place.number) (take i places)) place.number) (two_lists place.number ∷ []) []
    ++ location_faults (map (λ place. place.number) (take (i + 1) places))
    (map (λ place. place.number) (drop (i + 1) places))
places_left places i place within is =
    ap (λ (ps : List Location). location_faults (map number_of (take i places)) (map number_of ps))
    (drop_item places i place within is)
    ∙ ap (λ (earlier : List ℕ). cond (has_location (map number_of (take i places)) place.number)
    (two_lists place.number ∷ []) [] ++ location_faults earlier (map number_of (drop (i + 1) places)))
    (sym (map-append number_of (take i places) (place ∷ []))
    ∙ ap (map number_of) (sym (take_item places i place within is)))

or_true : (b : Bool) → (b || true) ≡ true
or_true true = refl
or_true false = refl

has_same : (xs : List ℕ) (m n : ℕ) → eqb m n ≡ true → has_location (xs ++ m ∷ []) n ≡ true
has_same [] m n same = ap (λ (b : Bool). b || false) same
has_same (x ∷ xs) m n same = ap (λ (b : Bool). eqb x n || b) (has_same xs m n same) ∙ or_true (eqb x n)

has_other : (xs : List ℕ) (m n : ℕ) → eqb m n ≡ false → has_location (xs ++ m ∷ []) n ≡ has_location xs n
has_other [] m n other = ap (λ (b : Bool). b || false) other
has_other (x ∷ xs) m n other = ap (λ (b : Bool). eqb x n || b) (has_other xs m n other)

-- one flag more is up
pub flags_more : (places : List Location) (i : ℕ) (place : Location) (seen : List Bool) → i < length places
    → place ≡ get_or places i place → length seen ≡ 8004 → place.number < 8004
    → ((n : ℕ) → n < 8004 → get_or seen n false ≡ has_location (map (λ place. place.number) (take i places)) n)
    → (n : ℕ) → n < 8004 → get_or (set seen place.number true) n false
    ≡ has_location (map (λ place. place.number) (take (i + 1) places)) n
flags_more places i place seen within is size below flags n low =
    let more : map number_of (take (i + 1) places) ≡ map number_of (take i places) ++ place.number ∷ [] =
    ap (map number_of) (take_item places i place within is)
    ∙ map-append number_of (take i places) (place ∷ []) in
    elim (eqb_tells place.number n) [
      | inl same ↦
          ap (λ (k : ℕ). get_or (set seen place.number true) k false) (sym same.1)
          ∙ get_or-set_same seen place.number true false (omega (arith, size, below))
          ∙ sym (ap (λ (xs : List ℕ). has_location xs n) more
          ∙ has_same (map number_of (take i places)) place.number n same.0)
      | inr other ↦
          get_or-set_other seen place.number n true false (λ e. other.1 (sym e)) ∙ flags n low
          ∙ sym (ap (λ (xs : List ℕ). has_location xs n) more
          ∙ has_other (map number_of (take i places)) place.number n other.0)
    ]

-- the elements from a place on
pub elements_left : (check : ℕ → List ℕ → Members → List Fault) (path : List ℕ) (vs : List Value) (place : ℕ) (v : Value)
    → place < length vs → v ≡ get_or vs place v
    → elements_faults check path (place + 1) (items_view (drop place vs))
    ≡ element_faults check (place + 1) (path ++ codes "." ++ decimal (place + 1)) (view v)
    ++ elements_faults check path (place + 1 + 1) (items_view (drop (place + 1) vs))
elements_left check path vs place v within is =
    ap (λ (ws : List Value). elements_faults check path (place + 1) (items_view ws)) (drop_item vs place v within is)

-- the operations from a place on
pub operations_left : (T : Members) (listed : List Op) (i : ℕ) (d : Op) → i < length listed
    → flat_map (operation_faults T) (drop i listed) ≡ operation_faults T (get_or listed i d)
    ++ flat_map (operation_faults T) (drop (i + 1) listed)
operations_left T listed i d within = ap (flat_map (operation_faults T)) (drop_more listed i d within)
