use Rattle.std.proofs.Common.{◌++◌, ◌∷◌, List, take, ap, sym, ◌∙◌, []}
use Rattle.ceiling_rounds.specs.declared.change.Change.{Change}
use Rattle.ceiling_rounds.specs.Change.{all_followed}
use Rattle.ceiling_rounds.proofs.CountLaws.{followed_more}
use Rattle.ceiling_rounds.proofs.changes.followed.Goals as goal

pub loop-index-preserved : goal.loop-index-preserved
loop-index-preserved c =
    let changes = c.args.changes.now in
    let others = c.args.others.now in
    let k = c.loop-index.index in
    let so = c.in-Some.ensures in
    c.in_ok-push.ensures.items ∙ ap (λ (cs : List Change). cs ++ c.in-Some.both ∷ []) c.loop-index.invariant
    ∙ ap (λ (one : Change). all_followed (take k changes) (take k others) ++ one ∷ []) so.2.2
    ∙ sym (followed_more changes others k so.0 so.2.0 so.1 so.2.1)
