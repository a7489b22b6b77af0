use Rattle.std.proofs.Common.{◌++◌, List, map, ap, ◌∙◌}
use Rattle.check_findings.specs.Finding.{Finding}
use Rattle.check_findings.specs.FindingOf.{seen}
use Rattle.check_deck.specs.FindingsOf.{found_in}
use Rattle.check_deck.proofs.findings.Findings.add_loops.Goals as goal

pub returns : goal.returns
returns c =
    let found = c.in_ok-loops.ensures in
    let told = c.in_ok-add_all.ensures
    ∙ ap (λ (all : List Finding). found_in c.args.self.now ++ all) (ap (map seen) c.deref.ensures.value) in
    (map seen c.in_ok-loops.loops.items, found.0, found.1, found.2, told)
