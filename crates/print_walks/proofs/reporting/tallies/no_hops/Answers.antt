use Rattle.std.proofs.Common.{◌<◌, replicate, Some, ap, ◌∙◌, arith}
use Rattle.std.proofs.lemmas.Option.{slice_get-get_or}
use Rattle.std.proofs.Math.ListN.{get_or-replicate, length-replicate}
use Rattle.print_walks.specs.declared.reporting.tally.Tally.{Tally}
use Rattle.print_walks.proofs.reporting.tallies.no_hops.Goals as goal

pub returns-clause-none : goal.returns-clause-none
returns-clause-none c line within =
    let none : Tally = record { visits = 0; time = 0 } in
    let below : line < 4001 = omega (arith, within) in
    slice_get-get_or (replicate 4001 none) line none (omega (arith, below, length-replicate 4001 none))
    ∙ ap Some (get_or-replicate 4001 line none none below)
