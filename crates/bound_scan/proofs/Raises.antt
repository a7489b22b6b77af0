-- What a raise of one cell leaves.
use Rattle.std.proofs.Common.{◌≡◌, ◌≢◌, ℕ, ◌<◌, ◌≤◌, Bool, true, false, cond, List, length, refl, ap, sym, ◌∙◌, subst}
use Rattle.std.proofs.Common.{inl, inr, Option, Some, None, arith}
use Rattle.std.specs.Prelude.{nat_lt}
use Rattle.std.proofs.lemmas.Bool.{cases_lt, cases_eq, ltb-true, ltb-false}
use Rattle.std.proofs.lemmas.List.{get_or-set_other, get_or-set_same, length-set, get_or_past}
use Rattle.base_notes.specs.declared.notes.mark.Mark.{Mark}
use Rattle.bound_scan.specs.declared.latest.Latest.{Latest}
use Rattle.bound_scan.specs.Scanned.{cell_at, later, later_than, raised, Arrives}

-- something is kept at keys alone
pub kept_inside : (cells : List (Option Latest)) (key : ℕ) (kept : Latest) → cell_at cells key ≡ Some kept
    → key < length cells
kept_inside cells key kept e =
    elim (cases_lt key (length cells))
    [ inl inside ↦ inside | inr past ↦ absurd (nothing (sym (get_or_past cells key None past) ∙ e)) ]
  where
    nothing : None ≡ Some kept → ⊥
    nothing h = cc

-- what is so of two is so of the later
pub later_either : (P : Latest → Type 0) (old new : Latest) → P old → P new → P (later old new)
later_either P old new p q = go (nat_lt old.clock new.clock)
  where
    go : (b : Bool) → P (cond b new old)
    go true = q
    go false = p

pub later_old : (old new : Latest) → old.clock ≤ (later old new).clock
later_old old new = go (nat_lt old.clock new.clock) refl
  where
    go : (b : Bool) → nat_lt old.clock new.clock ≡ b → old.clock ≤ (cond b new old).clock
    go true e = omega (arith, ltb-true old.clock new.clock e)
    go false e = omega arith

pub later_new : (old new : Latest) → new.clock ≤ (later old new).clock
later_new old new = go (nat_lt old.clock new.clock) refl
  where
    go : (b : Bool) → nat_lt old.clock new.clock ≡ b → new.clock ≤ (cond b new old).clock
    go true e = omega arith
    go false e = ltb-false old.clock new.clock e

-- what was kept, is kept or a later one
abbrev pub Grows : List (Option Latest) → List (Option Latest) → Type 0
Grows cells cells' =
    (key : ℕ) (kept : Latest) → cell_at cells key ≡ Some kept → (kept' : Latest) × (cell_at cells' key ≡ Some kept')
    × (kept.clock ≤ kept'.clock)

-- the cells of the first keys are the same
abbrev pub Agree : ℕ → List (Option Latest) → List (Option Latest) → Type 0
Agree first cells cells' = (key : ℕ) → key < first → cell_at cells' key ≡ cell_at cells key

pub grows_same : (cells : List (Option Latest)) → Grows cells cells
grows_same cells key kept e = (kept, e, omega arith)

pub raised_here : (cells : List (Option Latest)) (key : ℕ) (new : Latest) → key < length cells
    → cell_at (raised cells key new) key ≡ Some (later_than (cell_at cells key) new)
raised_here cells key new inside = get_or-set_same cells key (Some (later_than (cell_at cells key) new)) None inside

pub raised_other : (cells : List (Option Latest)) (key other : ℕ) (new : Latest) → other ≢ key
    → cell_at (raised cells key new) other ≡ cell_at cells other
raised_other cells key other new ne =
    get_or-set_other cells key other (Some (later_than (cell_at cells key) new)) None ne

pub raised_length : (cells : List (Option Latest)) (key : ℕ) (new : Latest)
    → length (raised cells key new) ≡ length cells
raised_length cells key new = length-set cells key (Some (later_than (cell_at cells key) new))

pub raised_agree : (cells : List (Option Latest)) (first key : ℕ) (new : Latest) → first ≤ key
    → Agree first cells (raised cells key new)
raised_agree cells first key new h other below = raised_other cells key other new (λ e. omega arith)

pub raised_grows : (cells : List (Option Latest)) (key : ℕ) (new : Latest) → key < length cells
    → Grows cells (raised cells key new)
raised_grows cells key new inside other kept e = elim (cases_eq other key) [
  | inl same ↦ (
      let here : cell_at cells key ≡ Some kept = subst (λ (k : ℕ). cell_at cells k ≡ Some kept) same e in
      let there : cell_at (raised cells key new) key ≡ Some (later kept new) =
      raised_here cells key new inside ∙ ap (λ (c : Option Latest). Some (later_than c new)) here in (
        later kept new,
        subst (λ (k : ℕ). cell_at (raised cells key new) k ≡ Some (later kept new)) (sym same) there,
        later_old kept new,
      ))
  | inr ne ↦ (kept, raised_other cells key other new ne ∙ e, omega arith)
]

-- what came is kept, or a later one
pub raised_new : (cells : List (Option Latest)) (key : ℕ) (new : Latest) → key < length cells
    → (kept : Latest) × (cell_at (raised cells key new) key ≡ Some kept) × (new.clock ≤ kept.clock)
raised_new cells key new inside =
    (later_than (cell_at cells key) new, raised_here cells key new inside, go (cell_at cells key))
  where
    go : (c : Option Latest) → new.clock ≤ (later_than c new).clock
    go None = omega arith
    go (Some old) = later_new old new

-- what is so of each that was kept, and of what came, is so of each
pub raised_each : (P : ℕ → Latest → Type 0) (cells : List (Option Latest)) (key : ℕ) (new : Latest) → key < length cells
    → ((other : ℕ) (kept : Latest) → cell_at cells other ≡ Some kept → P other kept) → P key new
    → (other : ℕ) (kept : Latest) → cell_at (raised cells key new) other ≡ Some kept → P other kept
raised_each P cells key new inside old came other kept e = elim (cases_eq other key) [
  | inl same ↦ (
      let here : cell_at (raised cells key new) key ≡ Some kept =
      subst (λ (k : ℕ). cell_at (raised cells key new) k ≡ Some kept) same e in
      let is : Some kept ≡ Some (later_than (cell_at cells key) new) = sym here ∙ raised_here cells key new inside in
      let eq : kept ≡ later_than (cell_at cells key) new = cc in
      subst (λ (k : ℕ). P k kept) (sym same) (subst (P key) (sym eq) (go (cell_at cells key) refl)))
  | inr ne ↦ old other kept (sym (raised_other cells key other new ne) ∙ e)
]
  where
    go : (c : Option Latest) → cell_at cells key ≡ c → P key (later_than c new)
    go None h = came
    go (Some before) h = later_either (P key) before new (old key before h) came

pub arrives_grows : (marks : List Mark) (order : List ℕ) (cells cells' : List (Option Latest)) (place : ℕ)
    (counts : List ℕ) (clock : ℕ)
    → Grows cells cells' → Arrives marks order cells place counts clock → Arrives marks order cells' place counts clock
arrives_grows marks order cells cells' place counts clock grows a =
    let more = grows a.key a.kept a.there in
    record { key = a.key; is = a.is; kept = more.0; there = more.1; after = omega (arith, more.2, a.after) }
