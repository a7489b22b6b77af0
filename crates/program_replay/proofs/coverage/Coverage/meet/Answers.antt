use Rattle.std.proofs.Common.{◌||◌, ◌&&◌, ◌==◌, Bool, sym, ◌∙◌, refl, arith, length-set}
use Rattle.base_notes.specs.declared.notes.pattern.Pattern.{Pattern}
use Rattle.base_notes.specs.Allowed.{Listed}
use Rattle.base_notes.specs.Listed.{listed}
use Rattle.program_replay.specs.Coverage.{is_match}
use Rattle.program_replay.proofs.Flags.{held_at, mixed_all, set_at}
use Rattle.program_replay.proofs.Seen.{row, rows_listed, rows_size}
use Rattle.program_replay.proofs.coverage.Coverage.meet.Goals as goal

pub loop-place-init : goal.loop-place-init
loop-place-init c = record {
  size = rows_size c.requires.0 c.args.lists.now c.args.self.now.met.items c.requires.1;
  so_far = λ flag was. was ∙ rows_listed flag c.args.lists.now;
  counts = refl;
  highest = refl;
}

pub loop-place-preserved : goal.loop-place-preserved
loop-place-preserved c =
    let lists = c.args.lists.now in
    let ins = c.args.instruction in
    let place = c.loop-place.place in
    let items = c.loop-place.self.met.items in
    let list = c.index-lists-place.result in
    record {
      size = omega (arith, length-set items place c.see.new.self, c.loop-place.invariant.size);
      so_far = λ flag was.
          let set : Listed → Pattern → Bool =
          λ one pattern. flag one pattern || (c.args.location.number == one.location && is_match pattern ins) in
          let so_far = c.loop-place.invariant.so_far flag was in
          set_at (row flag) (row set) place lists items list c.see.new.self c.loop-place-test.true
          c.index-lists-place.is so_far
          (c.see.ensures (flag (listed list))
          (held_at (row flag) (row set) place lists items list c.index_mut.result.now c.loop-place-test.true
          c.index-lists-place.is so_far c.index_mut.ensures.value));
      counts = c.loop-place.invariant.counts;
      highest = c.loop-place.invariant.highest;
    }

pub returns-clause-met : goal.returns-clause-met
returns-clause-met c flag was =
    let lists = c.args.lists.now in
    let set : Listed → Pattern → Bool = λ one pattern. flag one pattern
    || (c.args.location.number == one.location && is_match pattern c.args.instruction) in
    c.loop-place.invariant.so_far flag was
    ∙ mixed_all (row flag) (row set) c.loop-place.place lists (omega (arith, c.loop-place-test.false))
    ∙ sym (rows_listed set lists)
