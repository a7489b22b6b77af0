use Rattle.std.proofs.Common.{◌≡◌, ℕ, ◌+◌, ◌-◌, ◌*◌, ◌<◌, drop, get_or, length, refl, ap, sym, ◌∙◌, arith}
use Rattle.ceiling_rounds.proofs.OftenLaws.{counted_piece, passed_piece, worth}
use Rattle.ceiling_rounds.specs.InRounds.{summed}
use Rattle.ceiling_rounds.specs.OftenOf.{hops_in, owed}
use Rattle.ceiling_rounds.proofs.often.Often.of.Goals as goal

pub loop-number-preserved : goal.loop-number-preserved
loop-number-preserved c =
    let pieces = c.args.pieces.now in
    let n = c.loop-number.number - 1 in
    let one = c.index-pieces-number.result in
    let before = c.loop-number.often.often.items in
    let after = c.pass.new.self.often.items in
    let on : n + 1 ≡ c.loop-number.number = omega (arith, c.loop-number-test.true) in
    let within : n < length pieces = omega (arith, c.loop-number-test.true, c.loop-number.auto.number) in
    let shared = c.if-not-pass.ensures.shared refl in
    record {
      each = shared.each ∙ c.loop-number.invariant.each;
      adds = λ what.
          passed_piece pieces n one before after what within c.index-pieces-number.is c.loop-number.invariant.each shared
          ∙ ap (λ (k : ℕ). owed (worth what pieces) before k + summed what (drop k pieces) (drop k before)) on
          ∙ c.loop-number.invariant.adds what;
      hops =
          c.if-not-pass.ensures.hops refl
          ∙ ap (λ (k : ℕ). k + get_or before n 0 * hops_in one) c.loop-number.invariant.hops
          ∙ ap (λ (k : ℕ).
          summed (λ _. 1) (drop k pieces) (drop k before) + get_or before n 0 * hops_in one) (sym on)
          ∙ sym (counted_piece pieces n one before after within c.index-pieces-number.is c.loop-number.invariant.each
          shared.others);
    }
