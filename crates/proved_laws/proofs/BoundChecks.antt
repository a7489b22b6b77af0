-- Definitions evaluated: the counts of three marks, which may be passed once, twice and twice.
use Rattle.std.proofs.Common.{◌≡◌, ◌≤◌, List, [], ◌∷◌, refl, arith, None}
use Rattle.base_words.specs.declared.location.Location.{Location}
use Rattle.base_words.specs.Location.{IsLocation}
use Rattle.base_notes.specs.declared.notes.mark.Mark.{Mark}
use Rattle.flow_graph.specs.Accepted.{counts_of}
use Rattle.flow_graph.specs.Passes.{leading}
use Rattle.bound_scan.specs.Digits.{digits}
use Rattle.bound_scan.specs.Table.{number_of}

exists : IsLocation 100
exists = (omega arith, λ past. omega arith)

place : Location
place = record { number = 100; exists = exists }

once : 1 ≤ 9999
once = omega arith

twice : 2 ≤ 9999
twice = omega arith

abbrev marks : List Mark
marks =
    (record { from = place; onto = place; others = []; most = 1; inside = None; name = None; four_digits = once })
    ∷ (record { from = place; onto = place; others = []; most = 2; inside = None; name = None; four_digits = twice })
    ∷ (record { from = place; onto = place; others = []; most = 2; inside = None; name = None; four_digits = twice })
    ∷ []

eighteen : counts_of marks ≡ 18
eighteen = refl

eleventh : digits marks 10 ≡ 1 ∷ 0 ∷ 1 ∷ []
eleventh = refl

last : digits marks 17 ≡ 1 ∷ 2 ∷ 2 ∷ []
last = refl

-- the first mark's count leads
with_first_leading : leading marks (1 ∷ 0 ∷ 1 ∷ []) ≡ 10
with_first_leading = refl

-- or comes last
with_first_last : number_of marks (1 ∷ 0 ∷ 1 ∷ []) ≡ 7
with_first_last = refl
