-- Marks inside of marks, and counts after a pass, one step at a time.
use Rattle.std.proofs.Common.{◌≡◌, ℕ, suc, ◌+◌, ◌-◌, ◌≤◌, ◌<◌, Bool, false, List, [], ◌∷◌, ◌++◌, length, take, drop}
use Rattle.std.proofs.Common.{get_or, Option, Some, None, refl, subst, append_assoc, ◌≢◌, get_or-set_other, ap, sym}
use Rattle.std.proofs.Common.{◌∙◌, arith}
use Rattle.std.specs.Prelude.{◌==◌, ◌||◌, if◌then◌else◌, slice_get, slice_set}
use Rattle.std.proofs.lemmas.Grind.{common_steps}
use Rattle.std.proofs.lemmas.List.{drop-set-lt}
use Rattle.std.proofs.Math.Seq.{take-set-lt}
use Rattle.base_notes.specs.declared.notes.mark.Mark.{Mark}
use Rattle.machine_steps.specs.Counts.{outer_of, is_inside_by, is_inside, passed_from}

-- one step outward
step_outward : (more : ℕ) (marks : List Mark) (place next outer : ℕ) → outer_of (slice_get marks place) ≡ Some next
    → (next == outer) ≡ false
    → is_inside_by (suc more) marks place outer ≡ is_inside_by more marks next outer
step_outward more marks place next outer is other =
    subst (λ (o : Option ℕ). (elim o as (λ _. Bool)
    [ None ↦ false | Some n ↦ n == outer || is_inside_by more marks n outer ]) ≡ is_inside_by more marks next outer)
    (sym is)
    (ap (λ (b : Bool). b || is_inside_by more marks next outer) other)

pub inside_outward : (marks : List Mark) (counter place next outer : ℕ) → counter < length marks
    → Some next ≡ outer_of (slice_get marks place) → (next == outer) ≡ false
    → is_inside_by (length marks - (counter + 1)) marks next outer
    ≡ is_inside_by (length marks - counter) marks place outer
inside_outward marks counter place next outer more is other =
    let count : length marks - counter ≡ suc (length marks - (counter + 1)) = omega arith in
    sym (step_outward (length marks - (counter + 1)) marks place next outer (sym is) other)
    ∙ ap (λ (n : ℕ). is_inside_by n marks place outer) (sym count)

-- the counts before a place are those after the pass, and the others as they were
pub record CountedBelow (marks : List Mark) (passed place : ℕ) (counts before : List ℕ) : Type 0 where
  pub counted : take place counts ++ passed_from marks passed place (drop place (take (length marks) counts))
      ≡ passed_from marks passed 0 (take (length marks) before)
  pub short : place ≤ passed → get_or counts passed 0 ≤ 9999

-- one more count
taken_more : (counts : List ℕ) (place x : ℕ) → place < length counts
    → take (place + 1) (slice_set counts place x) ≡ take place counts ++ x ∷ []
taken_more counts place x inside = grind (arith, common_steps)

left_more : (counts : List ℕ) (size place x : ℕ) → place < size
    → drop (place + 1) (take size (slice_set counts place x)) ≡ drop (place + 1) (take size counts)
left_more counts size place x below =
    ap (drop (place + 1)) (take-set-lt size counts place x below)
    ∙ drop-set-lt (place + 1) (take size counts) place x (omega arith)

next_of : (counts : List ℕ) (size place : ℕ) → place < size → place < length counts
    → drop place (take size counts) ≡ get_or counts place 0 ∷ drop (place + 1) (take size counts)
next_of counts size place below inside = grind (arith, common_steps)

pub counted_more : (marks : List Mark) (passed place : ℕ) (counts before : List ℕ) (x : ℕ) → place < length marks
    → length marks ≤ 64 → length counts ≡ 64
    → x ≡ (if place == passed then get_or counts place 0 + 1
    else (if is_inside marks place passed then 0 else get_or counts place 0))
    → CountedBelow marks passed place counts before
    → CountedBelow marks passed (place + 1) (slice_set counts place x) before
counted_more marks passed place counts before x below few eight is h =
    let prefix = take place counts in
    let size = length marks in
    let left = drop (place + 1) (take (length marks) counts) in
    let next : drop place (take (length marks) counts) ≡ get_or counts place 0
    ∷ drop (place + 1) (take (length marks) counts) = next_of counts (length marks) place below (omega arith) in
    record {
      counted =
          ap (λ (t : List ℕ). t ++ passed_from marks passed (place + 1)
          (drop (place + 1) (take size (slice_set counts place x)))) (taken_more counts place x (omega arith))
          ∙ ap (λ (d : List ℕ). (prefix ++ x ∷ []) ++ passed_from marks passed (place + 1) d)
          (left_more counts size place x below)
          ∙ append_assoc prefix (x ∷ []) (passed_from marks passed (place + 1) left)
          ∙ ap (λ (v : ℕ). prefix ++ (v ∷ passed_from marks passed (place + 1) left)) is
          ∙ ap (λ (d : List ℕ). prefix ++ passed_from marks passed place d) (sym next)
          ∙ h.counted;
      short = λ later.
          let other : passed ≢ place = omega arith in
          let same : get_or (slice_set counts place x) passed 0 ≡ get_or counts passed 0 = rw get_or-set_other refl in
          omega (arith, same, h.short (omega arith));
    }
