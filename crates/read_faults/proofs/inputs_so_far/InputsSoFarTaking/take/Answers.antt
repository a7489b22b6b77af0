use Rattle.std.proofs.Common.{List, map, ap, ◌∙◌, ◌++◌, ◌∷◌, [], subst}
use Rattle.std.proofs.lemmas.List.{map-append}
use Rattle.read_replays.specs.InputsText.{Line, comment}
use Rattle.read_replays.specs.Said.{said}
use Rattle.read_replays.specs.declared.line.Line as read
use Rattle.read_replays.specs.declared.line.Line.TheVariants.{Comment}
use Rattle.read_replays.proofs.Sounds.{sound_more}
use Rattle.read_faults.specs.InputFaults.{IsPlaced}
use Rattle.read_faults.proofs.inputs_so_far.InputsSoFarTaking.take.Goals as goal

pub returns-in_ok-push-in-Err : goal.returns-in_ok-push-in-Err
returns-in_ok-push-in-Err c before counted holds = (
  subst (λ (lines : List Line). IsPlaced lines c.args.bytes.now c.in-Err.placed) holds.said
      (subst (λ (lines : List read.Line). IsPlaced (map said lines) c.args.bytes.now c.in-Err.placed)
      c.deref.ensures.value c.in-Err.ensures.faulty),
  record {
    said =
        ap (map said) c.in_ok-push-in-Err.ensures.items ∙ map-append said c.args.self.now.before.items (Comment ∷ [])
        ∙ ap (λ (lines : List Line). lines ++ comment ∷ []) holds.said;
    sound = sound_more before comment holds.sound (λ past. past) (λ again. again);
  },
)
