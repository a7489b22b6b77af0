use Rattle.std.proofs.Common.{refl, subst}
use Rattle.machine_steps.specs.Keeps.{reads_load}
use Rattle.machine_steps.specs.Step.{fetched}
use Rattle.machine_steps.specs.WaysLeft.{seen_way}
use Rattle.machine_emulator.specs.Machine.{Tells}
use Rattle.print_hops.proofs.Strides.{went_on, stopped_there}
use Rattle.print_hops.proofs.step_line.as_hop.Goals as goal

pub returns-in-Went-clause-told : goal.returns-in-Went-clause-told
returns-in-Went-clause-told c times stride told time =
    let w = c.in-Went in
    went_on stride stride.outcome told.origin w.origin w.next w.word (reads_load stride.origin) w.load told.punched w.punched
    w.used c.args.before c.of.result refl
    (subst (Tells stride.outcome told.origin (fetched stride.origin) (reads_load stride.origin) told.punched) w.is told.tells)
    told.sought time c.of.ensures.is

pub returns-in-Stopped-clause-told : goal.returns-in-Stopped-clause-told
returns-in-Stopped-clause-told c times stride told time =
    let w = c.in-Stopped in
    stopped_there stride stride.outcome told.origin w.origin w.word (reads_load stride.origin) told.punched w.why w.used
    c.args.before c.of-in-Stopped.result (seen_way c.way_of.result) refl
    (subst (Tells stride.outcome told.origin (fetched stride.origin) (reads_load stride.origin) told.punched) w.is told.tells)
    told.sought time c.of-in-Stopped.ensures.is c.way_of.ensures
