use Rattle.std.proofs.Common.{ℕ, ◌+◌, ◌++◌, Option, Some, ap, sym, ◌∙◌}
use Rattle.std.specs.Prelude.{codes}
use Rattle.base_words.specs.declared.op.Op.{Op}
use Rattle.machine_steps.specs.Effect.{band}
use Rattle.print_lines.proofs.Passing.{passes_as}
use Rattle.print_hops.specs.ContentsText.{acted_text, words_text}
use Rattle.print_hops.proofs.acted.put_acted.Goals as goal

pub returns-in-Some-Store : goal.returns-in-Some-Store
returns-in-Some-Store g c =
    let drum = c.args.drum.now in
    passes_as
    (ap (λ (d : ℕ). codes " wrote " ++ words_text drum d 1) c.d-d.ensures
    ∙ ap (λ (o : Option Op). acted_text o c.args.told.now.instruction.d drum)
    (ap Some (sym c.in-Some-Store.field-0-is) ∙ sym c.in-Some-Store.is ∙ c.acting.ensures.told)) c.put_words.ensures

pub returns-in-Some-Punch : goal.returns-in-Some-Punch
returns-in-Some-Punch g c =
    let drum = c.args.drum.now in
    passes_as
    (ap (λ (d : ℕ). codes "\npunched " ++ words_text drum (band d + 27) 10) c.d-d.ensures
    ∙ ap (λ (o : Option Op). acted_text o c.args.told.now.instruction.d drum)
    (ap Some (sym c.in-Some-Punch.field-0-is) ∙ sym c.in-Some-Punch.is ∙ c.acting.ensures.told))
    c.put_words-in-Some-Punch.ensures
