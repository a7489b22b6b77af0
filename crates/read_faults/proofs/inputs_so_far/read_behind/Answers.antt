use Rattle.std.proofs.Common.{◌≡◌, ◌+◌, ℕ, length, map, ap, sym, true}
use Rattle.std.proofs.lemmas.List.{length-map}
use Rattle.read_replays.specs.InputsText.{IsPastDrum}
use Rattle.read_replays.specs.Said.{said}
use Rattle.read_replays.proofs.Sounds.{sound_more}
use Rattle.read_faults.proofs.PlacedInputs.{repeated}
use Rattle.read_faults.proofs.inputs_so_far.read_behind.Goals as goal

pub returns-in-None-clause-sound : goal.returns-in-None-clause-sound
returns-in-None-clause-sound c =
    let on_drum : ¬ IsPastDrum (said c.in-Some.line) =
    λ past. let is : c.is_past_drum.result ≡ true = c.is_past_drum.ensures.1 past in cc (is, c.if-is_past_drum.false) in (
      c.in-Some.ensures.found,
      λ sound. sound_more (map said c.args.before.now) (said c.in-Some.line) sound on_drum c.in-None.ensures.none,
    )

pub returns-in-Some-first_repeated-clause-faulty : goal.returns-in-Some-first_repeated-clause-faulty
returns-in-Some-first_repeated-clause-faulty c =
    let on_drum : ¬ IsPastDrum (said c.in-Some.line) =
    λ past. let is : c.is_past_drum.result ≡ true = c.is_past_drum.ensures.1 past in cc (is, c.if-is_past_drum.false) in
    let counted : length c.args.before.now + 1 ≡ length (map said c.args.before.now) + 1 =
    ap (λ (n : ℕ). n + 1) (sym (length-map c.args.before.now said)) in
    repeated (map said c.args.before.now) c.args.bytes.now (length c.args.before.now + 1) (said c.in-Some.line)
    c.in-Some-first_repeated.index counted c.in-Some.ensures.found on_drum c.in-Some-first_repeated.ensures.found
