use Rattle.std.proofs.Common.{ℕ, ◌+◌, ◌*◌, get_or, take, refl, ap, ◌∙◌}
use Rattle.std.specs.Prelude.{sum_by}
use Rattle.std.proofs.Math.Nat.{mul-add}
use Rattle.std.proofs.lemmas.List.Sums.{sum_by_more}
use Rattle.ceiling_rounds.proofs.OftenLaws.{both_shared}
use Rattle.ceiling_rounds.proofs.often.Often.share_row.Goals as goal

pub loop-number-preserved : goal.loop-number-preserved
loop-number-preserved c =
    let names = c.args.names.now in
    let more = c.args.more in
    let k = c.loop-number.number-index in
    let number : ℕ = get_or names k 0 in
    record {
      hops = c.share.ensures.hops ∙ c.loop-number.invariant.hops;
      shared = both_shared c.args.limit c.args.self.now.often.items c.loop-number.self.often.items
          c.share.new.self.often.items (λ of_piece. more * sum_by of_piece (take k names))
          (λ of_piece. more * of_piece number) (λ of_piece. more * sum_by of_piece (take (k + 1) names))
          c.loop-number.invariant.shared (c.if-not-share.ensures.shared refl)
          (λ of_piece.
          ap (λ (n : ℕ). more * n) (sum_by_more of_piece names k 0 c.loop-number-test.true)
          ∙ mul-add more (sum_by of_piece (take k names)) (of_piece number));
    }
