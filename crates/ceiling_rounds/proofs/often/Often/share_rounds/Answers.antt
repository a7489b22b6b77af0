use Rattle.std.proofs.Common.{◌≡◌, ℕ, ◌*◌, ap, sym, ◌∙◌}
use Rattle.std.proofs.Math.Nat.{mul_assoc}
use Rattle.ceiling_rounds.proofs.OftenLaws.{same_shared}
use Rattle.ceiling_rounds.proofs.often.Often.share_rounds.Goals as goal

pub returns-in-Some-clause-shared : goal.returns-in-Some-clause-shared
returns-in-Some-clause-shared c = λ yes.
    let times = c.args.rounds.times in
    let all : c.in-Some.all ≡ c.args.more * times =
    c.in-Some.ensures.1 ∙ ap (λ (n : ℕ). c.args.more * n) c.from.ensures in
    same_shared c.args.limit c.args.self.now.often.items c.share.new.self.often.items
    (λ of_piece. c.in-Some.all * of_piece c.args.rounds.piece)
    (λ of_piece. c.args.more * (times * of_piece c.args.rounds.piece))
    (λ of_piece.
    sym (mul_assoc c.args.more times (of_piece c.args.rounds.piece))
    ∙ ap (λ (n : ℕ). n * of_piece c.args.rounds.piece) (sym all))
    (c.share.ensures.shared yes)
