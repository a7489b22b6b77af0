-- Of add_each: one more word is told by itself.
use Rattle.std.proofs.Common.{ℕ, ◌++◌, List, [], ◌∷◌, map, ap, ◌∙◌}
use Rattle.std.proofs.lemmas.List.{map-append}
use Rattle.check_findings.specs.declared.finding.Finding.TheVariants as finding
use Rattle.check_findings.specs.Finding.{Finding, idle}
use Rattle.check_findings.specs.FindingOf.{seen}
use Rattle.check_findings.proofs.Adding.{told_next}
use Rattle.check_findings.proofs.idle.add_each.Goals as goal

pub loop-number-preserved : goal.loop-number-preserved
loop-number-preserved c =
    let before : List Finding = map seen c.loop-number.found.items in
    let location = c.on_drum-location.result in
    told_next (λ (place : ℕ). idle place place) before (map seen c.push.new.self.items) c.loop-number.number c.args.below
    c.loop-number-test.true
    (ap (map seen) c.in_ok-push.ensures.items
    ∙ map-append seen c.loop-number.found.items (finding.Idle location location ∷ [])
    ∙ ap (λ (n : ℕ). before ++ idle n n ∷ []) c.on_drum-location.ensures)
    ∙ c.loop-number.invariant
