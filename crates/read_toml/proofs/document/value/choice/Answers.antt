use Rattle.std.proofs.Common.{sym, ◌∙◌, arith}
use Rattle.std.proofs.lemmas.Grind.{common_steps}
use Rattle.std.proofs.lemmas.Map.Text.{is_eq-slice_cmp}
use Rattle.std.proofs.lemmas.Slice.Eq.{bytes_eq-Decides}
use Rattle.read_toml.proofs.Choices.{stands_for}
use Rattle.read_toml.proofs.document.value.choice.Goals as goal

pub returns-then-eq-clause-found : goal.returns-then-eq-clause-found
returns-then-eq-clause-found g c =
    stands_for c.args.choices.now c.loop-name.name-index c.loop-name-item.result _ c.in-Some.text.now (omega arith)
    c.loop-name-item.is (sym c.in-Some.ensures)
    ((bytes_eq-Decides c.loop-name-item.result.0.now c.in-Some.text.now).0 (sym c.eq.ensures ∙ c.if-eq.true))

pub loop-name-preserved : goal.loop-name-preserved
loop-name-preserved g c = grind (arith, common_steps, is_eq-slice_cmp)
