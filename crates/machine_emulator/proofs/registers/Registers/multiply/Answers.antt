use Rattle.std.proofs.Common.{FitsSigned, ap, sym, ◌∙◌, rules}
use Rattle.std.proofs.lemmas.Int.{to_z-of_z}
use Rattle.base_words.specs.declared.word.Word.{Word}
use Rattle.base_words.specs.Word.{number_in}
use Rattle.machine_steps.specs.Effect.{product}
use Rattle.machine_emulator.specs.Registers.{contents_with}
use Rattle.machine_emulator.proofs.Keeping.{same_kept}
use Rattle.machine_emulator.proofs.registers.Registers.multiply.Goals as goal
use mir.Syntax.{w128}

pub returns : goal.returns
returns c cards =
    let a = c.args.self.now.accumulator in
    let fits : FitsSigned w128 c.product-number.result = search rules in
    let by_fits : FitsSigned w128 c.number_in.result = search rules in
    let whole : FitsSigned w128 a = search rules in
    let word = c.operand-word.ensures cards in
    let value = simp to_z-of_z at c.product-number.ensures.value in
    let kept = simp to_z-of_z at c.keep.ensures cards in
    same_kept (contents_with c.args.self.now cards) _ _ _ _ _ (sym word)
    (sym (value ∙ ap (product a) c.number_in.ensures.value ∙ ap (λ (w : Word). product a (number_in w)) word))
    ∙ kept
