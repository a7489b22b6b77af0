-- What is kept at the keys, by what the entries keep of each.
use Rattle.std.proofs.Common.{◌≡◌, ◌≢◌, ℕ, zero, suc, ◌+◌, ◌*◌, ◌/◌, ◌<◌, ◌≤◌, Bool, true, false, cond, List, [], ◌∷◌}
use Rattle.std.proofs.Common.{length, set, map, replicate, refl, ap, sym, ◌∙◌, subst, inl, inr, Option, Some, None}
use Rattle.std.proofs.Common.{arith, eq-eqb}
use Rattle.std.specs.Prelude.{slice_get, nat_eq, Contains}
use Rattle.std.specs.List.{range_with_len}
use Rattle.std.proofs.lemmas.Bool.{cases_lt, cases_eq, ne_eqb, lt-ltb, le-ltb}
use Rattle.std.proofs.lemmas.List.{ext_get_or, get_or-set_same, get_or-set_other, get_or_past, get_or-replicate, length-set}
use Rattle.std.proofs.lemmas.List.{length-replicate}
use Rattle.std.proofs.lemmas.Nat.{div_below}
use Rattle.std.proofs.Math.Nat.{ℕ_set}
use Rattle.base_words.specs.declared.location.Location.{Location}
use Rattle.base_graphs.proofs.Lists.{contains_here, contains_there, get_other, get_written}
use Rattle.bound_scan.specs.declared.cells.Cells.{Cells}
use Rattle.bound_scan.specs.declared.cells.entries.Entries.{Entries}
use Rattle.bound_scan.specs.declared.key_hop.KeyHop.{KeyHop}
use Rattle.bound_scan.specs.declared.latest.Latest.{Latest}
use Rattle.bound_scan.specs.declared.worst.Worst.{Worst}
use Rattle.bound_scan.specs.InCells.{size_of, kept_below, kept_in, AreHeld}
use Rattle.bound_scan.specs.InEntries.{latest_at, kept_by, kept_of, pairs_of, Adds}
use Rattle.bound_scan.specs.Scanned.{cell_at, later, later_than, raised}

-- two numbers are equal in one way
pub one_equation : {m n : ℕ} (one other : m ≡ n) → one ≡ other
one_equation {m} {n} one other = ℕ_set m n one other

-- each key has a cell
kept_long : (f : ℕ → Option Latest) (first n : ℕ) → length (map f (range_with_len first n)) ≡ n
kept_long f first zero = refl
kept_long f first (suc n) = ap suc (kept_long f (first + 1) n)

pub kept_length : (cells : Cells) → length (kept_in cells) ≡ size_of cells
kept_length cells = kept_long (kept_of cells.entries) 0 (size_of cells)

-- and what is kept there is what the entries keep of it
kept_there : (f : ℕ → Option Latest) (first n k : ℕ) → k < n → cell_at (map f (range_with_len first n)) k ≡ f (first + k)
kept_there f first zero k below = absurd (omega (arith, below))
kept_there f first (suc n) zero below =
    let same : first ≡ first + 0 = omega arith in
    ap f same
kept_there f first (suc n) (suc k) below =
    let same : first + 1 + k ≡ first + suc k = omega arith in
    kept_there f (first + 1) n k (omega (arith, below)) ∙ ap f same

kept_at_key : (entries : Entries) (size key : ℕ) → key < size → cell_at (kept_below entries size) key ≡ kept_of entries key
kept_at_key entries size key below =
    let same : 0 + key ≡ key = omega arith in
    kept_there (kept_of entries) 0 size key below ∙ ap (kept_of entries) same

pub kept_is : (cells : Cells) (key : ℕ) → key < size_of cells → cell_at (kept_in cells) key ≡ kept_of cells.entries key
kept_is cells key below = kept_at_key cells.entries (size_of cells) key below

-- something is kept at the keys alone
pub kept_inside : (cells : Cells) (key : ℕ) (kept : Latest) → cell_at (kept_in cells) key ≡ Some kept → key < size_of cells
kept_inside cells key kept there = elim (cases_lt key (size_of cells)) [
  | inl below ↦ below
  | inr past ↦ clash (sym there ∙ get_or_past (kept_in cells) key None (omega (arith, past, kept_length cells)))
]
  where
    clash : Some kept ≡ None → key < size_of cells
    clash e = absurd (cc)

-- The cells are those where one was put.
put_is : (entries : Entries) (size : ℕ) (before : List (Option Latest)) (key : ℕ) (latest : Latest)
    → length before ≡ size → key < size → kept_of entries key ≡ Some latest
    → ((other : ℕ) → other < size → other ≢ key → kept_of entries other ≡ cell_at before other)
    → kept_below entries size ≡ set before key (Some latest)
put_is entries size before key latest long inside here others =
    ext_get_or None (kept_below entries size) (set before key (Some latest))
    (kept_long (kept_of entries) 0 size ∙ sym long ∙ sym (length-set before key (Some latest)))
    (λ k within. elim (cases_eq k key) [
      | inl same ↦ (
          let put : cell_at (set before key (Some latest)) key ≡ Some latest =
          get_or-set_same before key (Some latest) None (omega (arith, inside, long)) in
          subst (λ (one : ℕ). cell_at (kept_below entries size) one ≡ cell_at (set before key (Some latest)) one)
          (sym same) (kept_at_key entries size key inside ∙ here ∙ sym put))
      | inr ne ↦ (
          let below : k < size = omega (arith, within, kept_long (kept_of entries) 0 size) in
          kept_at_key entries size k below ∙ others k below ne
          ∙ sym (get_or-set_other before key k (Some latest) None ne))
    ])

-- Where what a key keeps is raised, it alone is.
pub raised_is : (old new : Entries) (size key : ℕ) (latest : Latest) → key < size
    → kept_of new key ≡ Some (later_than (kept_of old key) latest)
    → ((other : ℕ) → other ≢ key → kept_of new other ≡ kept_of old other)
    → kept_below new size ≡ raised (kept_below old size) key latest
raised_is old new size key latest inside here others =
    put_is new size (kept_below old size) key (later_than (cell_at (kept_below old size) key) latest)
    (kept_long (kept_of old) 0 size) inside
    (here ∙ ap (λ (cell : Option Latest). Some (later_than cell latest)) (sym (kept_at_key old size key inside)))
    (λ other below ne. others other ne ∙ sym (kept_at_key old size other below))

-- The moment of the start alone is kept.
pub first_is : (entries : Entries) (size key : ℕ) (latest : Latest) → key < size
    → kept_of entries key ≡ Some latest → ((other : ℕ) → other ≢ key → kept_of entries other ≡ None)
    → kept_below entries size ≡ set (replicate size None) key (Some latest)
first_is entries size key latest inside here others =
    put_is entries size (replicate size None) key latest (length-replicate {A = Option Latest} size None) inside here
    (λ other below ne. others other ne ∙ sym (get_or-replicate size other None None below))

-- what is kept is no earlier than the start
after_by : (angle key : ℕ) (pairs : List (ℕ × Worst)) (origins : List KeyHop) (kept : Latest)
    → kept_by angle key pairs origins ≡ Some kept → angle ≤ kept.clock
after_by angle key [] origins kept there = absurd (cc)
after_by angle key (pair ∷ pairs) [] kept there = absurd (cc)
after_by angle key (pair ∷ pairs) (origin ∷ origins) kept there =
    go (nat_eq key pair.0) there (λ more. after_by angle key pairs origins kept more)
  where
    now : Some (latest_at angle key pair.1 origin) ≡ Some kept → angle ≤ kept.clock
    now e =
        let same : latest_at angle key pair.1 origin ≡ kept = cc in
        omega (arith, ap (λ (l : Latest). l.clock) same)

    go : (b : Bool) → cond b (Some (latest_at angle key pair.1 origin)) (kept_by angle key pairs origins) ≡ Some kept
        → (kept_by angle key pairs origins ≡ Some kept → angle ≤ kept.clock) → angle ≤ kept.clock
    go true there others = now there
    go false there others = others there

pub clock_after : (cells : Cells) (key : ℕ) (kept : Latest) → cell_at (kept_in cells) key ≡ Some kept
    → cells.entries.angle ≤ kept.clock
clock_after cells key kept there =
    after_by cells.entries.angle key (pairs_of cells.entries) cells.entries.origins.items kept
    (sym (kept_is cells key (kept_inside cells key kept there)) ∙ there)

-- Nothing is kept at the keys of a round that isn't noted.
unnoted_by : (angle key : ℕ) (pairs : List (ℕ × Worst)) (origins : List KeyHop)
    → ((entry : Worst) → Contains pairs (key, entry) → ⊥) → kept_by angle key pairs origins ≡ None
unnoted_by angle key [] origins none = refl
unnoted_by angle key (pair ∷ pairs) [] none = refl
unnoted_by angle key (pair ∷ pairs) (origin ∷ origins) none = elim (cases_eq key pair.0) [
  | inl same ↦ absurd (none pair.1
      (subst (λ (k : ℕ). Contains (pair ∷ pairs) (k, pair.1)) (sym same) (contains_here pair pairs)))
  | inr ne ↦ ap (λ (b : Bool). cond b (Some (latest_at angle key pair.1 origin)) (kept_by angle key pairs origins))
      (ne_eqb key pair.0 ne)
      ∙ unnoted_by angle key pairs origins (λ entry there. none entry (contains_there pair (key, entry) pairs there))
]

pub unnoted : (cells : Cells) (key : ℕ) → AreHeld cells → key < size_of cells
    → slice_get cells.rounds.items (key / cells.words) ≡ Some false → cell_at (kept_in cells) key ≡ None
unnoted cells key held below none =
    kept_is cells key below
    ∙ unnoted_by cells.entries.angle key (pairs_of cells.entries) cells.entries.origins.items
    (λ entry there. clash (sym none ∙ (held.noted key entry there).1))
  where
    clash : Some false ≡ Some true → ⊥
    clash e = cc

abbrev pub latest_of : ℕ → Option KeyHop → Latest
latest_of clock origin = record { clock = clock; origin = origin }

-- an entry that comes from another key says so
pub latest_other : (angle key : ℕ) (entry : Worst) (origin : KeyHop) → origin.key ≢ key
    → latest_at angle key entry origin ≡ latest_of (angle + entry.time) (Some origin)
latest_other angle key entry origin apart =
    ap (λ (own : Bool). latest_of (angle + entry.time) (cond own None (Some origin))) (ne_eqb origin.key key apart)

pub latest_came : (angle key clock : ℕ) (entry : Worst) (origin : KeyHop) → angle + entry.time ≡ clock
    → origin.key < key
    → latest_at angle key entry origin ≡ latest_of clock (Some origin)
latest_came angle key clock entry origin now earlier =
    latest_other angle key entry origin (λ same. omega (arith, earlier, same))
    ∙ ap (λ (c : ℕ). latest_of c (Some origin)) now

-- and the start's, from nowhere
pub latest_start : (angle key clock : ℕ) (entry : Worst) (origin : KeyHop) → angle + entry.time ≡ clock
    → origin.key ≡ key
    → latest_at angle key entry origin ≡ latest_of clock None
latest_start angle key clock entry origin now own =
    ap (λ (own : Bool). latest_of (angle + entry.time) (cond own None (Some origin))) (eq-eqb origin.key key own)
    ∙ ap (λ (c : ℕ). latest_of c None) now

-- what comes is kept where it is later, and not where it isn't
pub later_is_new : (old new : Latest) → old.clock < new.clock → later old new ≡ new
later_is_new old new less = ap (λ (b : Bool). cond b new old) (lt-ltb old.clock new.clock less)

pub later_is_old : (old new : Latest) → new.clock ≤ old.clock → later old new ≡ old
later_is_old old new less = ap (λ (b : Bool). cond b new old) (le-ltb old.clock new.clock less)

-- The entry that a kept clock is of.
pub record IsEntered (cells : Cells) (key : ℕ) (kept : Latest) : Type 0 where
  pub entry : Worst
  pub there : Contains (pairs_of cells.entries) (key, entry)
  pub origin : KeyHop
  pub is : latest_at cells.entries.angle key entry origin ≡ kept

entered_by : (angle key : ℕ) (pairs : List (ℕ × Worst)) (origins : List KeyHop) (kept : Latest)
    → kept_by angle key pairs origins ≡ Some kept
    → (entry : Worst) × (origin : KeyHop) × Contains pairs (key, entry) × (latest_at angle key entry origin ≡ kept)
entered_by angle key [] origins kept there = absurd (cc)
entered_by angle key (pair ∷ pairs) [] kept there = absurd (cc)
entered_by angle key (pair ∷ pairs) (origin ∷ origins) kept there = elim (cases_eq key pair.0) [
  | inl same ↦ (
    pair.1,
    origin,
    subst (λ (k : ℕ). Contains (pair ∷ pairs) (k, pair.1)) (sym same) (contains_here pair pairs),
    now (eq-eqb key pair.0 same) there,
  )
  | inr ne ↦ (
      let one = entered_by angle key pairs origins kept (rest (ne_eqb key pair.0 ne) there) in
      (one.0, one.1, contains_there pair (key, one.0) pairs one.2, one.3))
]
  where
    now : nat_eq key pair.0 ≡ true → kept_by angle key (pair ∷ pairs) (origin ∷ origins) ≡ Some kept
        → latest_at angle key pair.1 origin ≡ kept
    now e there = cc

    rest : nat_eq key pair.0 ≡ false → kept_by angle key (pair ∷ pairs) (origin ∷ origins) ≡ Some kept
        → kept_by angle key pairs origins ≡ Some kept
    rest e there = cc

pub is_entered : (cells : Cells) (key : ℕ) (kept : Latest) → cell_at (kept_in cells) key ≡ Some kept
    → IsEntered cells key kept
is_entered cells key kept there =
    let one = entered_by cells.entries.angle key (pairs_of cells.entries) cells.entries.origins.items kept
    (sym (kept_is cells key (kept_inside cells key kept there)) ∙ there) in
    record { entry = one.0; there = one.2; origin = one.1; is = one.3 }

-- a round of a key is one of the rounds
pub round_inside : (cells : Cells) (key : ℕ) → key < size_of cells → key / cells.words < cells.counts
round_inside cells key below = div_below key cells.words cells.counts (some_words cells.words below) below
  where
    some_words : (words : ℕ) → key < cells.counts * words → 0 < words
    some_words zero less = absurd (omega (arith, less))
    some_words (suc words) less = omega arith

-- The entries with one for a key are noted, where the round of the key is.
pub raised_noted : (cells : Cells) (pairs : List (ℕ × Worst)) (key round : ℕ) (location : Location) (counts : ℕ)
    → AreHeld cells → Adds (pairs_of cells.entries) key location counts pairs → key < size_of cells
    → key / cells.words ≡ round → (other : ℕ) (entry : Worst) → Contains pairs (other, entry)
    → (other < size_of cells) × (slice_get (set cells.rounds.items round true) (other / cells.words) ≡ Some true)
raised_noted cells pairs key round location counts held adds below is other entry there =
    elim (adds other entry there) [
      | inl own ↦ (
        omega (arith, own.0, below),
        ap (λ (k : ℕ). slice_get (set cells.rounds.items round true) (k / cells.words)) own.0
            ∙ ap (slice_get (set cells.rounds.items round true)) is
            ∙ get_written cells.rounds.items round true
            (omega (arith, round_inside cells key below, is, held.rounds)),
      )
      | inr was ↦ (
          let noted = held.noted other was.0 was.1 in (
            noted.0,
            elim (cases_eq (other / cells.words) round) [
              | inl same ↦ ap (slice_get (set cells.rounds.items round true)) same
                  ∙ get_written cells.rounds.items round true
                  (omega (arith, round_inside cells key below, is, held.rounds))
              | inr ne ↦ get_other cells.rounds.items round (other / cells.words) true ne ∙ noted.1
            ],
          ))
    ]

-- And they say where their keys are, with which counts.
pub raised_entries : (place_of counts_of : ℕ → ℕ) (old new : List (ℕ × Worst)) (key : ℕ) (location : Location)
    (counts : ℕ) → Adds old key location counts new → location.number ≡ place_of key → counts ≡ counts_of key
    → ((other : ℕ) (entry : Worst) → Contains old (other, entry)
    → (entry.place.number ≡ place_of other) × (entry.counts ≡ counts_of other))
    → (other : ℕ) (entry : Worst) → Contains new (other, entry)
    → (entry.place.number ≡ place_of other) × (entry.counts ≡ counts_of other)
raised_entries place_of counts_of old new key location counts adds at counted right other entry there =
    elim (adds other entry there) [
      | inl own ↦ (
        ap (λ (l : Location). l.number) own.1 ∙ at ∙ ap place_of (sym own.0),
        own.2 ∙ counted ∙ ap counts_of (sym own.0),
      )
      | inr was ↦ (
          let is = right other was.0 was.1 in
          (ap (λ (l : Location). l.number) was.2 ∙ is.0, was.3 ∙ is.1))
    ]
