use Rattle.std.proofs.Common.{◌≡◌, ◌+◌, suc, ◌++◌, ◌∷◌, ℕ, take, sym, subst, arith, []}
use Rattle.ceiling_rounds.specs.Opening.{AreBoth}
use Rattle.ceiling_rounds.proofs.OpeningLaws.{both_more}
use Rattle.ceiling_rounds.proofs.openings.followed.Goals as goal

pub loop-index-preserved : goal.loop-index-preserved
loop-index-preserved c =
    let firsts = c.args.firsts.now in
    let nexts = c.args.nexts.now in
    let k = c.loop-index.index in
    let so = c.in-Some.ensures in
    let later : suc k ≡ k + 1 = omega arith in
    subst (AreBoth (take (k + 1) firsts) (take (k + 1) nexts)) (sym c.in_ok-push.ensures.items)
    (subst (λ (n : ℕ). AreBoth (take n firsts) (take n nexts) (c.loop-index.all.items ++ c.in-Some.both ∷ [])) later
    (both_more firsts nexts c.loop-index.all.items k so.0 so.2.0 c.in-Some.both so.1 so.2.1 c.loop-index.invariant
    so.2.2))
