use Rattle.std.proofs.Common.{◌≡◌, ℕ, ◌+◌, ◌∙◌, ap, arith, get_or}
use Rattle.std.proofs.lemmas.List.{get_or_default}
use Rattle.ceiling_rounds.proofs.OftenLaws.{one_shared}
use Rattle.ceiling_rounds.proofs.often.Often.share.Goals as goal

pub returns-in-Some-clause-shared : goal.returns-in-Some-clause-shared
returns-in-Some-clause-shared c = λ yes.
    let often = c.args.self.now.often.items in
    let is : c.in-Some.sum ≡ get_or often c.args.number 0 + c.args.more =
    c.in-Some.ensures.1
    ∙ ap (λ (n : ℕ). n + c.args.more)
    (c.index.ensures
    ∙ get_or_default often c.args.number c.index.result.now 0 (omega (arith, c.requires, c.if-number-limit.false))) in
    one_shared c.args.limit often c.args.number c.args.more c.in-Some.sum c.if-number-limit.false c.requires is
