use Rattle.std.proofs.Common.{ℕ, ◌≤◌, length, subst}
use Rattle.std.proofs.lemmas.List.{get_or-take}
use Rattle.machine_steps.specs.CountsIn.{counts_in}
use Rattle.program_replay.proofs.Seen.{within_short}
use Rattle.program_replay.proofs.coverage.Coverage.pass.Goals as goal

pub count_pass-requires-clause-short : goal.count_pass-requires-clause-short
count_pass-requires-clause-short c =
    let marks = c.args.marks.now in
    let place = c.in-Some.place in
    subst (λ (n : ℕ). n ≤ 9999)
    (get_or-take (length marks) c.args.self.now.counts.passes place 0 c.in-Some.ensures.inside)
    (within_short marks (counts_in c.args.self.now.counts marks) place c.requires.within)
