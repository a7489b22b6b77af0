use Rattle.std.proofs.Common.{◌≡◌, List, Option, Some, None, Bor, refl, ap, sym, ◌∙◌, rules}
use Rattle.std.specs.Option.{option_map, option_and_then}
use Rattle.std.specs.Prelude.{find}
use borrow.Author.Tests.{tests}
use Rattle.std.proofs.lemmas.Iterator.{YieldsList-from_slice}
use Rattle.std.proofs.lemmas.Iterator.Search.{find_from_yields_List}
use Rattle.read_faults.specs.Alike.{has_slip, first_alike}
use Rattle.read_faults.specs.declared.placed_fault.PlacedFault.{PlacedFault}
use Rattle.read_faults.specs.declared.slip.Slip.{Slip}
use Rattle.read_faults.proofs.alike.first_alike.Goals as goal

-- the line of what is found is that of the first
line_of : {Fault : Type 0} (faults : List (PlacedFault Fault)) (slip : Slip) (of : Option Slip)
    (result found : Option (Bor (PlacedFault Fault))) → of ≡ Some slip → result ≡ found
    → option_map (λ x. x.now) result ≡ find (has_slip slip) faults
    → option_and_then (λ x. x.now.line) found ≡ first_alike faults of
line_of {Fault} faults slip of result found is found_is first =
    same found
    ∙ ap (option_and_then (λ (one : PlacedFault Fault). one.line))
    (ap (option_map (λ (x : Bor (PlacedFault Fault)). x.now)) (sym found_is) ∙ first)
    ∙ ap (first_alike faults) (sym is)
  where
    same : (x : Option (Bor (PlacedFault Fault)))
        → option_and_then (λ y. y.now.line) x ≡ option_and_then (λ one. one.line) (option_map (λ y. y.now) x)
    same None = refl
    same (Some x) = refl

pub returns-in-None : goal.returns-in-None
returns-in-None g c =
    let slip = c.in_ok-slip.slip in
    line_of c.args.faults.now slip c.args.slip c.find.result None c.in_ok-slip.was c.in-None.is
    (find_from_yields_List (has_slip slip) _ _ _ c.find.ensures.ran
    (YieldsList-from_slice c.args.faults.now c.iter.ensures.rest) (λ x b q k. search (rules, tests)))

pub returns-in-Some : goal.returns-in-Some
returns-in-Some g c =
    let slip = c.in_ok-slip.slip in
    line_of c.args.faults.now slip c.args.slip c.find.result (Some c.in-Some.first) c.in_ok-slip.was c.in-Some.is
    (find_from_yields_List (has_slip slip) _ _ _ c.find.ensures.ran
    (YieldsList-from_slice c.args.faults.now c.iter.ensures.rest) (λ x b q k. search (rules, tests)))
