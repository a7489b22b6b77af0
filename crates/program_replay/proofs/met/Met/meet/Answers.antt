use Rattle.std.proofs.Common.{◌||◌, Bool, ap, ◌∙◌, arith, length-set}
use Rattle.base_notes.specs.declared.notes.pattern.Pattern.{Pattern}
use Rattle.program_replay.specs.Coverage.{is_match}
use Rattle.program_replay.proofs.Flags.{held_at, set_at}
use Rattle.program_replay.proofs.Seen.{match_is}
use Rattle.program_replay.proofs.met.Met.meet.Goals as goal

pub loop-place-preserved : goal.loop-place-preserved
loop-place-preserved c =
    let patterns = c.args.patterns.now in
    let ins = c.args.instruction in
    let place = c.loop-place.place in
    let items = c.loop-place.self-inside.flags.items in
    let pattern = c.index-patterns-place.result in
    let held = c.index_mut.result.now in
    record {
      size = omega (arith, length-set items place (held || c.matches.result), c.loop-place.invariant.size);
      so_far = λ flag was.
          let set : Pattern → Bool = λ one. flag one || is_match one ins in
          let so_far = c.loop-place.invariant.so_far flag was in
          set_at flag set place patterns items pattern (held || c.matches.result) c.loop-place-test.true
          c.index-patterns-place.is so_far
          (ap (λ (b : Bool). b || c.matches.result)
          (held_at flag set place patterns items pattern held c.loop-place-test.true c.index-patterns-place.is so_far
          c.index_mut.ensures.value)
          ∙ ap (λ (b : Bool). flag pattern || b) (match_is c.matches.result pattern ins c.matches.ensures));
    }
