use Rattle.std.proofs.Common.{◌++◌, ◌∷◌, List, take, ap, sym, ◌∙◌, []}
use Rattle.ceiling_rounds.specs.declared.change.Change.{Change}
use Rattle.ceiling_rounds.specs.Stretch.{changes_by}
use Rattle.ceiling_rounds.proofs.CountLaws.{by_more}
use Rattle.ceiling_rounds.proofs.changes.changes_by.Goals as goal

pub loop-index-preserved : goal.loop-index-preserved
loop-index-preserved c =
    let marks = c.args.marks.now in
    let k = c.loop-index.index in
    c.in_ok-push.ensures.items ∙ ap (λ (cs : List Change). cs ++ c.change_by.result ∷ []) c.loop-index.invariant
    ∙ ap (λ (one : Change). changes_by marks c.args.passed 0 (take k marks) ++ one ∷ []) c.change_by.ensures
    ∙ sym (by_more marks c.args.passed k marks c.loop-index-test.true)
