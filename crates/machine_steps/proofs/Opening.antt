-- Calls in a row: what is open at their exits, one call at a time.
use Rattle.std.specs.Prelude.{slice_set, take, drop, map}
use Rattle.std.proofs.lemmas.Grind.{common_steps}
use Rattle.std.proofs.Common.{get_or, ◌≡◌, ℕ, zero, suc, ◌+◌, ◌≤◌, ◌<◌, List, ◌∷◌, ◌++◌, length, replicate, []}
use Rattle.std.proofs.Common.{Option, Some, None, refl, subst, sym, ap, ◌∙◌, append_assoc, length-set, arith}
use Rattle.base_words.specs.declared.location.Location.{Location}
use Rattle.base_notes.specs.declared.notes.call.Call.{Call}
use Rattle.machine_steps.specs.Calls.{none_open, opened, way_behind, MayGo}
use Rattle.machine_steps.specs.OpenIn.{number_of}
use Rattle.machine_steps.specs.Since.{Edge}

-- nothing is open at first
pub none_yet : (calls : List Call) (most : ℕ) → length calls ≤ most
    → map number_of (take (length calls) (replicate most None)) ≡ none_open calls
none_yet [] most few = refl
none_yet (call ∷ calls) zero few = absurd (omega arith)
none_yet (call ∷ calls) (suc most) few = ap (λ (ways : List (Option ℕ)). None ∷ ways) (none_yet calls most (omega arith))

abbrev Held : Type 0
Held = List (Option Location)

-- the ways of these calls that are left from a place on, and the calls
abbrev ways_from : ℕ → ℕ → Held → List (Option ℕ)
ways_from place size held = drop place (map number_of (take size held))

next_way_by : (held : Held) (size place : ℕ) (way : Option Location) → place < size → place < length held
    → way ≡ get_or held place way → ways_from place size held ≡ number_of way ∷ ways_from (suc place) size held
next_way_by [] size place way below inside is = absurd (omega arith)
next_way_by (one ∷ held) zero place way below inside is = absurd (omega arith)
next_way_by (one ∷ held) (suc size) zero way below inside is =
    ap (λ (w : Option Location). number_of w ∷ map number_of (take size held)) (sym is)
next_way_by (one ∷ held) (suc size) (suc place) way below inside is =
    next_way_by held size place way (omega arith) (omega arith) is

next_way : (held : Held) (size place : ℕ) (way : Option Location) → place < size → place < length held
    → way ≡ get_or held place way → ways_from place size held ≡ number_of way ∷ ways_from (place + 1) size held
next_way held size place way below inside is =
    let later : suc place ≡ place + 1 = omega arith in
    subst (λ (n : ℕ). ways_from place size held ≡ number_of way ∷ ways_from n size held) later
    (next_way_by held size place way below inside is)

next_call : (calls : List Call) (place : ℕ) (call : Call) → place < length calls → call ≡ get_or calls place call
    → drop place calls ≡ call ∷ drop (place + 1) calls
next_call calls place call inside is = grind (arith, common_steps)

-- Where the calls before a place let a step go, all do if those from there on do.
abbrev pub LetGo : List Call → Held → Edge → ℕ → Type 0
LetGo calls held edge place =
    MayGo (drop place calls) (ways_from place (length calls) held) edge
    → MayGo calls (map number_of (take (length calls) held)) edge

pub let_go_more : (calls : List Call) (held : Held) (edge : Edge) (place : ℕ) (call : Call) (way : Option Location)
    → place < length calls → length calls ≤ length held → call ≡ get_or calls place call → way ≡ get_or held place way
    → (call.exit.number ≡ edge.from → number_of way ≡ Some edge.onto) → LetGo calls held edge place
    → LetGo calls held edge (place + 1)
let_go_more calls held edge place call way inside few at held_at goes before rest =
    let one : MayGo (call ∷ drop (place + 1) calls) (number_of way ∷ ways_from (place + 1) (length calls) held) edge =
    (goes, rest) in
    let ways = next_way held (length calls) place way inside (omega arith) held_at in
    before (subst (λ (left : List Call). MayGo left (ways_from place (length calls) held) edge)
    (sym (next_call calls place call inside at))
    (subst (λ (open_ways : List (Option ℕ)). MayGo (call ∷ drop (place + 1) calls) open_ways edge) (sym ways) one))

-- what all let go, those from a place on do
goes_from : (calls : List Call) (ways : List (Option ℕ)) (edge : Edge) (place : ℕ) → MayGo calls ways edge
    → MayGo (drop place calls) (drop place ways) edge
goes_from calls ways edge zero may = may
goes_from [] ways edge (suc place) may = tt
goes_from (call ∷ calls) [] edge (suc place) may = none_left (drop place calls)
  where
    none_left : (left : List Call) → MayGo left [] edge
    none_left [] = tt
    none_left (one ∷ left) = tt
goes_from (call ∷ calls) (way ∷ ways) edge (suc place) may = goes_from calls ways edge place may.1

-- a call at whose exit another way back is open, or none, lets no step go
pub not_let_go : (calls : List Call) (held : Held) (edge : Edge) (place : ℕ) (call : Call) (way : Option Location)
    → place < length calls → length calls ≤ length held → call ≡ get_or calls place call → way ≡ get_or held place way
    → ¬ (call.exit.number ≡ edge.from → number_of way ≡ Some edge.onto)
    → ¬ MayGo calls (map number_of (take (length calls) held)) edge
not_let_go calls held edge place call way inside few at held_at other may =
    let from = goes_from calls (map number_of (take (length calls) held)) edge place may in
    let ways = next_way held (length calls) place way inside (omega arith) held_at in
    let one : MayGo (call ∷ drop (place + 1) calls) (number_of way ∷ ways_from (place + 1) (length calls) held) edge =
    subst (λ (open_ways : List (Option ℕ)). MayGo (call ∷ drop (place + 1) calls) open_ways edge) ways
    (subst (λ (left : List Call). MayGo left (ways_from place (length calls) held) edge)
    (next_call calls place call inside at) from) in
    other one.0

-- the ways before a place are those behind the step, and the others as they were
pub record OpenedBelow (calls : List Call) (edge : Edge) (place : ℕ) (held before : Held) : Type 0 where
  pub opened_so_far : map number_of (take place held)
      ++ opened calls edge (drop place calls) (ways_from place (length calls) before)
      ≡ opened calls edge calls (map number_of (take (length calls) before))
  pub long : length held ≡ 64

opened_more_by : (held : Held) (place : ℕ) (x : Option Location) → place < length held
    → map number_of (take (suc place) (slice_set held place x)) ≡ map number_of (take place held) ++ number_of x ∷ []
opened_more_by [] place x inside = absurd (omega arith)
opened_more_by (one ∷ held) zero x inside = refl
opened_more_by (one ∷ held) (suc place) x inside =
    ap (λ (ways : List (Option ℕ)). number_of one ∷ ways) (opened_more_by held place x (omega arith))

pub opened_more : (calls : List Call) (edge : Edge) (place : ℕ) (held before : Held) (call : Call)
    (way x : Option Location) → place < length calls → length calls ≤ 64 → length before ≡ 64
    → call ≡ get_or calls place call → way ≡ get_or before place way
    → number_of x ≡ way_behind calls edge call.exit.number (number_of way)
    → OpenedBelow calls edge place held before → OpenedBelow calls edge (place + 1) (slice_set held place x) before
opened_more calls edge place held before call way x inside few size at before_at is h =
    let left = opened calls edge (drop (place + 1) calls) (ways_from (place + 1) (length calls) before) in
    let prefix = map number_of (take place held) in
    let later : place + 1 ≡ suc place = omega arith in
    let ways = next_way before (length calls) place way inside (omega (arith, size)) before_at in
    record {
      opened_so_far =
          ap (λ (t : List (Option ℕ)). t ++ left)
          (ap (λ (n : ℕ). map number_of (take n (slice_set held place x))) later
          ∙ opened_more_by held place x (omega (arith, h.long)))
          ∙ append_assoc prefix (number_of x ∷ []) left
          ∙ ap (λ (v : Option ℕ). prefix ++ (v ∷ left)) is
          ∙ ap (λ (w : List (Option ℕ)). prefix ++ opened calls edge (call ∷ drop (place + 1) calls) w) (sym ways)
          ∙ ap (λ (cs : List Call). prefix ++ opened calls edge cs (ways_from place (length calls) before))
          (sym (next_call calls place call inside at))
          ∙ h.opened_so_far;
      long = length-set held place x ∙ h.long;
    }
