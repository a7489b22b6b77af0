-- Definitions evaluated: the counts of marks, one of which stands inside the other.
use Rattle.std.proofs.Common.{◌≡◌, ℕ, ◌≤◌, true, false, List, [], ◌∷◌, refl, arith, Some, None}
use Rattle.base_words.specs.declared.location.Location.{Location}
use Rattle.base_words.specs.Location.{IsLocation}
use Rattle.base_notes.specs.declared.notes.mark.Mark.{Mark}
use Rattle.machine_steps.specs.Counts.{after_pass, is_inside, no_counts}

pub at : (n : ℕ) → IsLocation n → Location
at n exists = record { number = n; exists = exists }

pub hundred : IsLocation 100
hundred = (omega arith, λ past. omega arith)

pub hundred_ten : IsLocation 110
hundred_ten = (omega arith, λ past. omega arith)

pub once : 1 ≤ 9999
once = omega arith

pub twice : 2 ≤ 9999
twice = omega arith

-- from 0110 back to 0100 once, and inside of that from 0100 to itself twice; a third inside the second
abbrev pub outer : Mark
outer =
    record {
      from = record { number = 110; exists = hundred_ten };
      onto = record { number = 100; exists = hundred };
      others = [];
      most = 1;
      inside = None;
      name = None;
      four_digits = once;
    }

abbrev pub inner : Mark
inner =
    record {
      from = record { number = 100; exists = hundred };
      onto = record { number = 100; exists = hundred };
      others = [];
      most = 2;
      inside = Some 0;
      name = None;
      four_digits = twice;
    }

abbrev pub innermost : Mark
innermost =
    record {
      from = record { number = 100; exists = hundred };
      onto = record { number = 110; exists = hundred_ten };
      others = [];
      most = 2;
      inside = Some 1;
      name = None;
      four_digits = twice;
    }

abbrev pub marks : List Mark
marks = outer ∷ inner ∷ innermost ∷ []

none_yet : no_counts marks ≡ 0 ∷ 0 ∷ 0 ∷ []
none_yet = refl

inside : (is_inside marks 1 0 ≡ true) × (is_inside marks 2 0 ≡ true) × (is_inside marks 2 1 ≡ true)
    × (is_inside marks 0 1 ≡ false) × (is_inside marks 1 1 ≡ false)
inside = (refl, refl, refl, refl, refl)

-- a pass of the outer one sets back what is inside it, directly or through the other
outer_passed : after_pass marks 110 100 (0 ∷ 2 ∷ 1 ∷ []) ≡ 1 ∷ 0 ∷ 0 ∷ []
outer_passed = refl

inner_passed : after_pass marks 100 100 (1 ∷ 1 ∷ 2 ∷ []) ≡ 1 ∷ 2 ∷ 0 ∷ []
inner_passed = refl

innermost_passed : after_pass marks 100 110 (1 ∷ 2 ∷ 0 ∷ []) ≡ 1 ∷ 2 ∷ 1 ∷ []
innermost_passed = refl

none_passed : after_pass marks 110 120 (1 ∷ 2 ∷ 1 ∷ []) ≡ 1 ∷ 2 ∷ 1 ∷ []
none_passed = refl
