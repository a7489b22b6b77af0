use Rattle.std.proofs.Common.{List, ap, sym, ◌∙◌}
use Rattle.std.specs.List.{list_all}
use Rattle.std.proofs.lemmas.List.Folds.{list_all-map}
use Rattle.check_findings.specs.declared.finding.Finding.{Finding}
use Rattle.check_findings.specs.Finding.{may_be_meant}
use Rattle.check_findings.specs.FindingOf.{seen}
use Rattle.check_deck.proofs.findings.Findings.may_be_meant.Goals as goal

pub returns : goal.returns
returns c =
    c.may_all_be_meant.ensures
    ∙ ap (λ (items : List Finding). list_all (λ (finding : Finding). may_be_meant (seen finding)) items)
    c.deref.ensures.value ∙ sym (list_all-map may_be_meant seen c.args.self.now.all.items)
