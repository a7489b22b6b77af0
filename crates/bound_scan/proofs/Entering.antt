-- What is kept at a key by entries, where the entry of a key is raised and where one is added.
use Rattle.std.proofs.Common.{◌≡◌, ◌≢◌, ℕ, zero, suc, ◌+◌, ◌≤◌, ◌<◌, Bool, true, false, cond, List, [], ◌∷◌, ◌++◌, length, get_or, set}
use Rattle.std.proofs.Common.{refl, ap, sym, ◌∙◌, subst, inl, inr, ◌⊎◌, Option, Some, None, arith, eq-eqb}
use Rattle.std.specs.Prelude.{slice_get, position, nat_eq, Contains}
use Rattle.std.specs.List.{IsDistinct}
use Rattle.std.specs.Map.{keys_of, values_of, lookup}
use Rattle.std.proofs.lemmas.Bool.{eqb-true, ne_eqb}
use Rattle.std.proofs.lemmas.List.Quantifiers.{position-Some}
use Rattle.std.proofs.lemmas.List.{length-append, length-map, length-set}
use Rattle.std.proofs.lemmas.Option.{slice_get-get_or, slice_get_read}
use Rattle.indexmap.specs.Layout.{set_value_at, length-set_value_at}
use Rattle.base_words.specs.declared.location.Location.{Location}
use Rattle.base_graphs.proofs.Lists.{contains_here, contains_there, contains_cases, contains_none}
use Rattle.bound_scan.specs.declared.cells.entries.Entries.{Entries}
use Rattle.bound_scan.specs.declared.key_hop.KeyHop.{KeyHop}
use Rattle.bound_scan.specs.declared.latest.Latest.{Latest}
use Rattle.bound_scan.specs.declared.worst.Worst.{Worst}
use Rattle.bound_scan.specs.InEntries.{latest_at, kept_by, kept_of, pairs_of, AreKept, IsEntryOf, IsTimed, Keeps}
use Rattle.bound_scan.specs.Scanned.{later_than}
use Rattle.bound_scan.proofs.InCellsLaws.{later_is_new, later_is_old, latest_came, latest_of}

-- the first key that is one is that of its entry
first_found : (key : ℕ) (pairs : List (ℕ × Worst)) (index : ℕ) → index < length (keys_of pairs)
    → nat_eq key (get_or (keys_of pairs) index key) ≡ true
    → ((k : ℕ) → k < index → nat_eq key (get_or (keys_of pairs) k key) ≡ false) → IsEntryOf key pairs index
first_found key [] index inside is before = absurd (omega (arith, inside))
first_found key (pair ∷ pairs) zero inside is before = eqb-true key pair.0 is
first_found key (pair ∷ pairs) (suc index) inside is before = (
  λ same. clash (sym (before 0 (omega arith)) ∙ eq-eqb key pair.0 same),
  first_found key pairs index (omega (arith, inside)) is (λ k below. before (suc k) (omega (arith, below))),
)
  where
    clash : false ≡ true → ⊥
    clash e = cc

-- the index that a key's search gives is that of its entry
pub entry_found : (key : ℕ) (pairs : List (ℕ × Worst)) (index : ℕ) → position (nat_eq key) (keys_of pairs) ≡ Some index
    → IsEntryOf key pairs index
entry_found key pairs index found =
    let is = position-Some (nat_eq key) (keys_of pairs) index key found in
    first_found key pairs index is.0 is.1 is.2

-- what a key that has an entry keeps
pub kept_found : (angle key : ℕ) (pairs : List (ℕ × Worst)) (origins : List KeyHop) (index : ℕ) (entry : Worst)
    (origin : KeyHop) → IsEntryOf key pairs index → slice_get (values_of pairs) index ≡ Some entry
    → slice_get origins index ≡ Some origin
    → kept_by angle key pairs origins ≡ Some (latest_at angle key entry origin)
kept_found angle key [] origins index entry origin is there by = absurd is
kept_found angle key (pair ∷ pairs) [] index entry origin is there by = absurd (cc)
kept_found angle key (pair ∷ pairs) (first ∷ origins) zero entry origin is there by =
    let same : pair.1 ≡ entry = cc in
    let from : first ≡ origin = cc in
    ap (λ (b : Bool). cond b (Some (latest_at angle key pair.1 first)) (kept_by angle key pairs origins))
    (eq-eqb key pair.0 is)
    ∙ ap (λ (e : Worst). Some (latest_at angle key e first)) same
    ∙ ap (λ (o : KeyHop). Some (latest_at angle key entry o)) from
kept_found angle key (pair ∷ pairs) (first ∷ origins) (suc index) entry origin is there by =
    ap (λ (b : Bool). cond b (Some (latest_at angle key pair.1 first)) (kept_by angle key pairs origins))
    (ne_eqb key pair.0 is.0)
    ∙ kept_found angle key pairs origins index entry origin is.1 there by

-- and one that has none
pub kept_none : (angle key : ℕ) (pairs : List (ℕ × Worst)) (origins : List KeyHop) → lookup (nat_eq key) pairs ≡ None
    → kept_by angle key pairs origins ≡ None
kept_none angle key [] origins none = refl
kept_none angle key (pair ∷ pairs) [] none = refl
kept_none angle key (pair ∷ pairs) (origin ∷ origins) none =
    go (nat_eq key pair.0) none (λ more. kept_none angle key pairs origins more)
  where
    go : (b : Bool) → cond b (Some pair.1) (lookup (nat_eq key) pairs) ≡ None
        → (lookup (nat_eq key) pairs ≡ None → kept_by angle key pairs origins ≡ None)
        → cond b (Some (latest_at angle key pair.1 origin)) (kept_by angle key pairs origins) ≡ None
    go true none others = absurd (cc)
    go false none others = others none

-- A key that is beyond all that have entries has none.
pub beyond_none : (key n : ℕ) (pairs : List (ℕ × Worst)) → ((k : ℕ) (entry : Worst) → Contains pairs (k, entry) → k ≤ n)
    → n < key → lookup (nat_eq key) pairs ≡ None
beyond_none key n [] within beyond = refl
beyond_none key n (pair ∷ pairs) within beyond =
    ap (λ (b : Bool). cond b (Some pair.1) (lookup (nat_eq key) pairs))
    (ne_eqb key pair.0 (λ same. omega (arith, same, beyond, within pair.0 pair.1 (contains_here pair pairs))))
    ∙ beyond_none key n pairs (λ k entry there. within k entry (contains_there pair (k, entry) pairs there)) beyond

module _ (angle key : ℕ) (entry : Worst) (origin : KeyHop) where
  -- Where a key's entry is written, the key keeps it,
  pub raised_here : (pairs : List (ℕ × Worst)) (origins : List KeyHop) (index : ℕ) → IsEntryOf key pairs index
      → length origins ≡ length pairs
      → kept_by angle key (set_value_at pairs index entry) (set origins index origin)
      ≡ Some (latest_at angle key entry origin)
  raised_here [] origins index is paired = absurd is
  raised_here (pair ∷ pairs) [] index is paired = absurd (omega (arith, paired))
  raised_here (pair ∷ pairs) (first ∷ origins) zero is paired =
      ap (λ (b : Bool). cond b (Some (latest_at angle key entry origin)) (kept_by angle key pairs origins))
      (eq-eqb key pair.0 is)
  raised_here (pair ∷ pairs) (first ∷ origins) (suc index) is paired =
      ap (λ (b : Bool). cond b (Some (latest_at angle key pair.1 first))
      (kept_by angle key (set_value_at pairs index entry) (set origins index origin))) (ne_eqb key pair.0 is.0)
      ∙ raised_here pairs origins index is.1 (omega (arith, paired))

  -- and the others what they did.
  pub raised_others : (pairs : List (ℕ × Worst)) (origins : List KeyHop) (index other : ℕ) → IsEntryOf key pairs index
      → other ≢ key
      → kept_by angle other (set_value_at pairs index entry) (set origins index origin)
      ≡ kept_by angle other pairs origins
  raised_others [] origins index other is ne = absurd is
  raised_others (pair ∷ pairs) [] zero other is ne = refl
  raised_others (pair ∷ pairs) [] (suc index) other is ne = refl
  raised_others (pair ∷ pairs) (first ∷ origins) zero other is ne =
      let apart : nat_eq other pair.0 ≡ false = ne_eqb other pair.0 (λ same. ne (same ∙ sym is)) in
      ap (λ (b : Bool). cond b (Some (latest_at angle other entry origin)) (kept_by angle other pairs origins)) apart
      ∙ sym (ap (λ (b : Bool). cond b (Some (latest_at angle other pair.1 first)) (kept_by angle other pairs origins))
      apart)
  raised_others (pair ∷ pairs) (first ∷ origins) (suc index) other is ne =
      ap (λ (rest : Option Latest). cond (nat_eq other pair.0) (Some (latest_at angle other pair.1 first)) rest)
      (raised_others pairs origins index other is.1 ne)

  -- Where one is added, the key keeps it,
  pub added_here : (pairs : List (ℕ × Worst)) (origins : List KeyHop) → lookup (nat_eq key) pairs ≡ None
      → length origins ≡ length pairs
      → kept_by angle key (pairs ++ (key, entry) ∷ []) (origins ++ origin ∷ [])
      ≡ Some (latest_at angle key entry origin)
  added_here [] [] none paired =
      ap (λ (b : Bool). cond b (Some (latest_at angle key entry origin)) None) (eq-eqb key key refl)
  added_here [] (first ∷ origins) none paired = absurd (omega (arith, paired))
  added_here (pair ∷ pairs) [] none paired = absurd (omega (arith, paired))
  added_here (pair ∷ pairs) (first ∷ origins) none paired =
      go (nat_eq key pair.0) none (λ more. added_here pairs origins more (omega (arith, paired)))
    where
      go : (b : Bool) → cond b (Some pair.1) (lookup (nat_eq key) pairs) ≡ None
          → (lookup (nat_eq key) pairs ≡ None
          → kept_by angle key (pairs ++ (key, entry) ∷ []) (origins ++ origin ∷ [])
          ≡ Some (latest_at angle key entry origin))
          → cond b (Some (latest_at angle key pair.1 first))
          (kept_by angle key (pairs ++ (key, entry) ∷ []) (origins ++ origin ∷ []))
          ≡ Some (latest_at angle key entry origin)
      go true none others = absurd (cc)
      go false none others = others none

  -- and the others what they did.
  pub added_others : (pairs : List (ℕ × Worst)) (origins : List KeyHop) (other : ℕ) → length origins ≡ length pairs
      → other ≢ key
      → kept_by angle other (pairs ++ (key, entry) ∷ []) (origins ++ origin ∷ [])
      ≡ kept_by angle other pairs origins
  added_others [] [] other paired ne =
      ap (λ (b : Bool). cond b (Some (latest_at angle other entry origin)) None) (ne_eqb other key ne)
  added_others [] (first ∷ origins) other paired ne = absurd (omega (arith, paired))
  added_others (pair ∷ pairs) [] other paired ne = absurd (omega (arith, paired))
  added_others (pair ∷ pairs) (first ∷ origins) other paired ne =
      ap (λ (rest : Option Latest). cond (nat_eq other pair.0) (Some (latest_at angle other pair.1 first)) rest)
      (added_others pairs origins other (omega (arith, paired)) ne)

-- one of the entries, where that of a key was written, is that, or was there
written_cases : (key : ℕ) (pairs : List (ℕ × Worst)) (index : ℕ) (entry : Worst) (pair : ℕ × Worst)
    → IsEntryOf key pairs index → Contains (set_value_at pairs index entry) pair
    → ((key, entry) ≡ pair) ⊎ Contains pairs pair
written_cases key [] index entry pair is has = absurd is
written_cases key (first ∷ pairs) zero entry pair is has = elim (contains_cases (first.0, entry) pair pairs has) [
  | inl same ↦ inl (ap (λ (k : ℕ). (k, entry)) is ∙ same)
  | inr behind ↦ inr (contains_there first pair pairs behind)
]
written_cases key (first ∷ pairs) (suc index) entry pair is has =
    elim (contains_cases first pair (set_value_at pairs index entry) has) [
      | inl same ↦ inr (subst (Contains (first ∷ pairs)) same (contains_here first pairs))
      | inr behind ↦ (elim (written_cases key pairs index entry pair is.1 behind) [
        | inl here ↦ inl here
        | inr there ↦ inr (contains_there first pair pairs there)
      ])
    ]

-- and so with one more
pub added_cases : (pairs : List (ℕ × Worst)) (new pair : ℕ × Worst) → Contains (pairs ++ new ∷ []) pair
    → (new ≡ pair) ⊎ Contains pairs pair
added_cases [] new pair has = elim (contains_cases new pair [] has) [
  | inl same ↦ inl same
  | inr none ↦ absurd (contains_none pair none)
]
added_cases (first ∷ pairs) new pair has = elim (contains_cases first pair (pairs ++ new ∷ []) has) [
  | inl same ↦ inr (subst (Contains (first ∷ pairs)) same (contains_here first pairs))
  | inr behind ↦ (elim (added_cases pairs new pair behind) [
    | inl is ↦ inl is
    | inr there ↦ inr (contains_there first pair pairs there)
  ])
]

-- an entry's index is inside
pub entry_inside : (key : ℕ) (pairs : List (ℕ × Worst)) (index : ℕ) → IsEntryOf key pairs index → index < length pairs
entry_inside key [] index is = absurd is
entry_inside key (pair ∷ pairs) zero is = omega arith
entry_inside key (pair ∷ pairs) (suc index) is = omega (arith, entry_inside key pairs index is.1)

-- and its key there
pub entry_pair : (key : ℕ) (pairs : List (ℕ × Worst)) (index : ℕ) (entry : Worst) → IsEntryOf key pairs index
    → slice_get (values_of pairs) index ≡ Some entry → Contains pairs (key, entry)
entry_pair key [] index entry is there = absurd is
entry_pair key (pair ∷ pairs) zero entry is there =
    let same : pair.1 ≡ entry = cc in
    subst (λ (k : ℕ). Contains (pair ∷ pairs) (k, entry)) (sym is)
    (subst (λ (e : Worst). Contains (pair ∷ pairs) (pair.0, e)) same (contains_here pair pairs))
entry_pair key (pair ∷ pairs) (suc index) entry is there =
    contains_there pair (key, entry) pairs (entry_pair key pairs index entry is.1 there)

-- a write leaves the keys
pub written_keys : (pairs : List (ℕ × Worst)) (index : ℕ) (entry : Worst)
    → keys_of (set_value_at pairs index entry) ≡ keys_of pairs
written_keys [] index entry = refl
written_keys (pair ∷ pairs) zero entry = refl
written_keys (pair ∷ pairs) (suc index) entry = ap (λ (keys : List ℕ). pair.0 ∷ keys) (written_keys pairs index entry)

-- what a key keeps whose entry is there
module _ (old : Entries) (key index : ℕ) (was : Worst) (origin : KeyHop) (is : IsEntryOf key (pairs_of old) index)
    (kept : AreKept old) (there : slice_get (values_of (pairs_of old)) index ≡ Some was) where
  keeps : kept_of old key ≡ Some (latest_at old.angle key was (get_or old.origins.items index origin))
  keeps =
      kept_found old.angle key (pairs_of old) old.origins.items index was (get_or old.origins.items index origin) is
      there
      (slice_get-get_or old.origins.items index origin
      (omega (arith, entry_inside key (pairs_of old) index is, kept.paired)))

  -- gives way to an end that is later,
  gives_way : (new : Latest) → old.angle + was.time < new.clock → later_than (kept_of old key) new ≡ new
  gives_way new less =
      ap (λ (cell : Option Latest). later_than cell new) keeps
      ∙ later_is_new (latest_at old.angle key was (get_or old.origins.items index origin)) new less

  -- and stays where that isn't.
  pub stays_kept : (new : Latest) (near : ℕ) → new.clock ≤ old.angle + was.time → (location : Location) (counts : ℕ)
      → Keeps old key location counts new (record old { near = near })
  stays_kept new near less location counts = record {
    kept = record { paired = kept.paired; apart = kept.apart; within = kept.within; timed = kept.timed };
    here = keeps
        ∙ ap (λ (l : Latest). Some l)
        (sym (later_is_old (latest_at old.angle key was (get_or old.origins.items index origin)) new less))
        ∙ ap (λ (cell : Option Latest). Some (later_than cell new)) (sym keeps);
    others = λ other ne. refl;
    adds = λ other one there. inr (one, there, refl, refl);
    angle = refl;
  }

-- what is kept, by what the entries are
kept_as : (entries : Entries) (angle other : ℕ) (pairs : List (ℕ × Worst)) (origins : List KeyHop) → entries.angle ≡ angle
    → pairs_of entries ≡ pairs → entries.origins.items ≡ origins → kept_of entries other ≡ kept_by angle other pairs origins
kept_as entries angle other pairs origins same all from =
    ap (λ (n : ℕ). kept_by n other (pairs_of entries) entries.origins.items) same
    ∙ ap (λ (some : List (ℕ × Worst)). kept_by angle other some entries.origins.items) all
    ∙ ap (λ (some : List KeyHop). kept_by angle other pairs some) from

-- What comes is kept where it is later.
later_keeps : (angle key clock : ℕ) (entry : Worst) (origin : KeyHop) → angle + entry.time ≡ clock → origin.key < key
    → (before : Option Latest) → later_than before (latest_of clock (Some origin)) ≡ latest_of clock (Some origin)
    → Some (latest_at angle key entry origin) ≡ Some (later_than before (latest_of clock (Some origin)))
later_keeps angle key clock entry origin now earlier before later =
    ap (λ (l : Latest). Some l) (latest_came angle key clock entry origin now earlier ∙ sym later)

-- Entries where one was added keep it,
module _ (old new : Entries) (key clock : ℕ) (entry : Worst) (origin : KeyHop) (angle : new.angle ≡ old.angle)
    (pairs : pairs_of new ≡ pairs_of old ++ (key, entry) ∷ [])
    (from : new.origins.items ≡ old.origins.items ++ origin ∷ []) (kept : AreKept old)
    (none : lookup (nat_eq key) (pairs_of old) ≡ None) (grown : old.greatest ≤ new.greatest)
    (within : key ≤ new.greatest) where
  -- the one that was added, or one that was there
  added : (pair : ℕ × Worst) → Contains (pairs_of new) pair → ((key, entry) ≡ pair) ⊎ Contains (pairs_of old) pair
  added pair there =
      added_cases (pairs_of old) (key, entry) pair
      (subst (λ (all : List (ℕ × Worst)). Contains all pair) pairs there)

  pub added_keeps : IsDistinct nat_eq (keys_of (pairs_of new)) → IsTimed new.angle entry → old.angle + entry.time ≡ clock
      → origin.key < key → Keeps old key entry.place entry.counts (latest_of clock (Some origin)) new
  added_keeps apart timed now earlier = record {
    kept = record {
      paired = omega (
        arith,
        ap (λ (all : List (ℕ × Worst)). length all) pairs,
        ap (λ (all : List KeyHop). length all) from,
        length-append (pairs_of old) ((key, entry) ∷ []),
        length-append old.origins.items (origin ∷ []),
        kept.paired,
      );
      apart = apart;
      within = λ other one there. elim (added (other, one) there) [
        | inl same ↦ omega (arith, within, ap (λ (pair : ℕ × Worst). pair.0) same)
        | inr was ↦ omega (arith, grown, kept.within other one was)
      ];
      timed = λ other one there. elim (added (other, one) there) [
        | inl same ↦ subst (IsTimed new.angle) (ap (λ (pair : ℕ × Worst). pair.1) same) timed
        | inr was ↦ subst (λ (n : ℕ). IsTimed n one) (sym angle) (kept.timed other one was)
      ];
    };
    here = kept_as new old.angle key _ _ angle pairs from
        ∙ added_here old.angle key entry origin (pairs_of old) old.origins.items none kept.paired
        ∙ later_keeps old.angle key clock entry origin now earlier (kept_of old key)
        (ap (λ (was : Option Latest). later_than was (latest_of clock (Some origin)))
        (kept_none old.angle key (pairs_of old) old.origins.items none));
    others = λ other ne.
        kept_as new old.angle other _ _ angle pairs from
        ∙ added_others old.angle key entry origin (pairs_of old) old.origins.items other kept.paired ne;
    adds = λ other one there. elim (added (other, one) there) [
      | inl same ↦ inl (
        sym (ap (λ (pair : ℕ × Worst). pair.0) same),
        sym (ap (λ (pair : ℕ × Worst). pair.1.place) same),
        sym (ap (λ (pair : ℕ × Worst). pair.1.counts) same),
      )
      | inr was ↦ inr (one, was, refl, refl)
    ];
    angle = angle;
  }

-- those where that of a key was raised keep that,
module _ (old new : Entries) (key index clock : ℕ) (was entry : Worst) (origin : KeyHop) (angle : new.angle ≡ old.angle)
    (is : IsEntryOf key (pairs_of old) index) (before : slice_get (values_of (pairs_of old)) index ≡ Some was)
    (pairs : pairs_of new ≡ set_value_at (pairs_of old) index entry)
    (from : new.origins.items ≡ set old.origins.items index origin) (kept : AreKept old)
    (place : entry.place ≡ was.place) (count : entry.counts ≡ was.counts) (greatest : new.greatest ≡ old.greatest) where
  -- the one that was raised, or one that was there
  raised : (pair : ℕ × Worst) → Contains (pairs_of new) pair → ((key, entry) ≡ pair) ⊎ Contains (pairs_of old) pair
  raised pair there =
      written_cases key (pairs_of old) index entry pair is
      (subst (λ (all : List (ℕ × Worst)). Contains all pair) pairs there)

  pub raised_keeps : IsTimed new.angle entry → old.angle + entry.time ≡ clock → origin.key < key
      → old.angle + was.time < clock → (location : Location) (counts : ℕ)
      → Keeps old key location counts (latest_of clock (Some origin)) new
  raised_keeps timed now earlier less location counts = record {
    kept = record {
      paired = omega (
        arith,
        ap (λ (all : List (ℕ × Worst)). length all) pairs,
        ap (λ (all : List KeyHop). length all) from,
        length-set_value_at (pairs_of old) index entry,
        length-set old.origins.items index origin,
        kept.paired,
      );
      apart = subst (IsDistinct nat_eq)
          (sym (ap (λ (all : List (ℕ × Worst)). keys_of all) pairs ∙ written_keys (pairs_of old) index entry)) kept.apart;
      within = λ other one there. elim (raised (other, one) there) [
        | inl same ↦ omega (
          arith,
          greatest,
          ap (λ (pair : ℕ × Worst). pair.0) same,
          kept.within key was (entry_pair key (pairs_of old) index was is before),
        )
        | inr there ↦ omega (arith, greatest, kept.within other one there)
      ];
      timed = λ other one there. elim (raised (other, one) there) [
        | inl same ↦ subst (IsTimed new.angle) (ap (λ (pair : ℕ × Worst). pair.1) same) timed
        | inr there ↦ subst (λ (n : ℕ). IsTimed n one) (sym angle) (kept.timed other one there)
      ];
    };
    here = kept_as new old.angle key _ _ angle pairs from
        ∙ raised_here old.angle key entry origin (pairs_of old) old.origins.items index is kept.paired
        ∙ later_keeps old.angle key clock entry origin now earlier (kept_of old key)
        (gives_way old key index was origin is kept before (latest_of clock (Some origin)) less);
    others = λ other ne.
        kept_as new old.angle other _ _ angle pairs from
        ∙ raised_others old.angle key entry origin (pairs_of old) old.origins.items index other is ne;
    adds = λ other one there. elim (raised (other, one) there) [
      | inl same ↦ inr (
        was,
        subst (λ (k : ℕ). Contains (pairs_of old) (k, was)) (ap (λ (pair : ℕ × Worst). pair.0) same)
            (entry_pair key (pairs_of old) index was is before),
        sym (ap (λ (pair : ℕ × Worst). pair.1.place) same) ∙ place,
        sym (ap (λ (pair : ℕ × Worst). pair.1.counts) same) ∙ count,
      )
      | inr there ↦ inr (one, there, refl, refl)
    ];
    angle = angle;
  }

-- what is read at an index is the entry there
pub entry_read : (pairs : List (ℕ × Worst)) (index : ℕ) (table : List Worst) (entry : Worst) → index < length pairs
    → table ≡ values_of pairs → entry ≡ get_or table index entry → slice_get (values_of pairs) index ≡ Some entry
entry_read pairs index table entry inside all at =
    ap (λ (some : List Worst). slice_get some index) (sym all)
    ∙ slice_get_read table (length table) index entry refl
    (omega (
      arith,
      inside,
      ap (λ (some : List Worst). length some) all,
      length-map pairs (λ (pair : ℕ × Worst). pair.1),
    )) at
