use Rattle.std.proofs.Common.{◌∙◌, ap, sym}
use Rattle.base_words.specs.declared.op.store.Store.{Store}
use Rattle.machine_steps.specs.Effect.{stored}
use Rattle.machine_emulator.specs.Registers.{contents_with}
use Rattle.machine_emulator.proofs.registers.Registers.stored.Goals as goal

pub returns-in-Lower : goal.returns-in-Lower
returns-in-Lower c cards =
    c.lower_word.ensures cards
    ∙ ap (λ (store : Store). stored store (contents_with c.args.self.now cards)) (sym c.in-Lower.is)

pub returns-in-Upper : goal.returns-in-Upper
returns-in-Upper c cards =
    c.upper_word.ensures cards
    ∙ ap (λ (store : Store). stored store (contents_with c.args.self.now cards)) (sym c.in-Upper.is)
