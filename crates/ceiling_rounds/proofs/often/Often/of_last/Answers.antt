use Rattle.std.proofs.Common.{◌≡◌, ℕ, List, suc, ◌-◌, refl, ap, sym, ◌∙◌, arith, replicate, rules, set}
use Rattle.std.specs.Prelude.{length}
use Rattle.std.proofs.lemmas.List.{length-replicate, length-set}
use Rattle.ceiling_rounds.specs.OftenOf.{owed}
use Rattle.ceiling_rounds.proofs.OftenLaws.{owed_last}
use Rattle.ceiling_rounds.proofs.often.Often.of_last.Goals as goal

pub returns : goal.returns
returns c =
    let count = c.args.count in
    let last = c.in-Some.last in
    let some : suc last ≡ count = omega (arith, c.in-Some.ensures.0, c.in-Some.ensures.1) in
    let zeros : c.in_ok-often.often.items ≡ replicate count 0 =
    c.in_ok-often.ensures.items_if_clones_equal (λ y h. search rules) in
    let long : length c.in_ok-often.often.items ≡ count = ap length zeros ∙ length-replicate count 0 in (
      omega (arith, some),
      refl,
      length-set c.in_ok-often.often.items last 1 ∙ long,
      λ of_piece.
          let back : last ≡ count - 1 = omega (arith, some) in
          ap (λ (xs : List ℕ). owed of_piece (set xs last 1) count) zeros
          ∙ ap (λ (n : ℕ). owed of_piece (set (replicate n 0) last 1) n) (sym some)
          ∙ owed_last of_piece last ∙ ap of_piece back,
    )
