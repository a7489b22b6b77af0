use Rattle.std.proofs.Common.{◌∙◌, ap, sym, Some}
use Rattle.machine_steps.specs.Contents.{Contents}
use Rattle.machine_steps.specs.Effect.{punched}
use Rattle.machine_emulator.proofs.machine.Machine.punched.Goals as goal

pub returns-in-Punch : goal.returns-in-Punch
returns-in-Punch c s cards same same_d =
    rw c.in-Punch.is (ap Some
    (c.punched.ensures cards ∙ ap (λ (held : Contents). punched held c.args.d) (sym same)
    ∙ ap (punched s.contents) (sym same_d)))
