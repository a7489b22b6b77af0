use Rattle.std.proofs.Common.{◌∙◌, ℕ, Bool, List, [], length, ap, sym}
use Rattle.std.specs.Prelude.{slice_index}
use Rattle.std.proofs.lemmas.List.{get_or-take}
use Rattle.base_notes.specs.declared.notes.pattern.Pattern.{Pattern}
use Rattle.base_notes.specs.Allowed.{Listed}
use Rattle.program_replay.specs.Coverage.{is_met}
use Rattle.program_replay.specs.CoverageOf.{flags_of}
use Rattle.program_replay.proofs.Seen.{rows_listed}
use Rattle.program_replay.proofs.coverage.Coverage.of.Goals as goal

pub returns : goal.returns
returns c =
    let marks = c.args.notes.now.marks in
    let none = c.none-none.ensures marks c.marks.ensures.sound.few_marks in
    let flag : Listed → Pattern → Bool = λ list pattern. is_met [] list.location pattern in
    record {
      counts = none;
      highest = λ place inside.
          sym (get_or-take (length marks) c.none-none.result.passes place 0 inside)
          ∙ ap (λ (counts : List ℕ). slice_index counts place) none;
      met =
          c.in_ok-met.ensures ∙ sym (rows_listed flag c.lists.result.now)
          ∙ ap (flags_of flag) c.lists.ensures.all;
    }
