use Rattle.std.proofs.Common.{subst, [], ◌∷◌, Option}
use Rattle.std.specs.Bool.{MatchBool}
use Rattle.std.specs.List.{Contains}
use Rattle.base_words.specs.declared.instruction.Instruction.{Instruction}
use Rattle.base_words.specs.declared.word.Word.{Word}
use Rattle.base_notes.specs.Allowed.{loaded}
use Rattle.machine_emulator.proofs.Allowing.{loaded_test}
use Rattle.machine_emulator.proofs.monitor.allowed.is_loaded.Goals as goal

pub returns-in-Some : goal.returns-in-Some
returns-in-Some c =
    let ins = c.args.instruction in
    subst (λ (o : Option Word). MatchBool c.eq.result (Contains (loaded o) ins) (¬ Contains (loaded o) ins))
    c.in-Some.ensures.held
    (subst (λ (held : Instruction). MatchBool c.eq.result (Contains (held ∷ []) ins) (¬ Contains (held ∷ []) ins))
    c.of.ensures.is
    (loaded_test c.of.result ins c.eq.result c.eq.ensures))
