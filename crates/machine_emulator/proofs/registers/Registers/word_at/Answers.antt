use Rattle.std.proofs.Common.{◌∙◌, ap}
use Rattle.base_words.specs.declared.location.Kind.{Kind}
use Rattle.machine_steps.specs.Contents.{word_of_kind}
use Rattle.machine_emulator.specs.Registers.{contents_with}
use Rattle.machine_emulator.proofs.registers.Registers.word_at.Goals as goal

pub returns-in-Lower : goal.returns-in-Lower
returns-in-Lower c cards =
    c.lower_word.ensures cards
    ∙ ap (λ (kind : Kind). word_of_kind kind (contents_with c.args.self.now cards) c.args.location.number)
    c.in-Lower.ensures

pub returns-in-Upper : goal.returns-in-Upper
returns-in-Upper c cards =
    c.upper_word.ensures cards
    ∙ ap (λ (kind : Kind). word_of_kind kind (contents_with c.args.self.now cards) c.args.location.number)
    c.in-Upper.ensures
