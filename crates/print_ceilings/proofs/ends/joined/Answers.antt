use Rattle.std.proofs.Common.{refl, subst, Option}
use Rattle.print_ceilings.specs.declared.ends.Ends.{Ends}
use Rattle.print_ceilings.specs.EndsOf.{AreEnds}
use Rattle.print_ceilings.proofs.EndLaws.{both_ends}
use Rattle.print_ceilings.proofs.ends.joined.Goals as goal

pub returns : goal.returns
returns c hops behind first second =
    let one = c.in-Some.one in
    let other = c.in-Some-others.other in
    both_ends one other (record { first = one.first; last = other.last }) hops behind refl refl
    (subst (λ (o : Option Ends). AreEnds o hops) c.in-Some.is first)
    (subst (λ (o : Option Ends). AreEnds o behind) c.in-Some-others.is second)
