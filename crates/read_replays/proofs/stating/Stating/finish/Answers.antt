use Rattle.std.proofs.Common.{◌^◌, ◌<◌, refl, ap, sym, ◌∙◌, subst, map, true, false, ℤ, pos}
use Rattle.std.specs.Prelude.{unsigned_abs}
use Rattle.read_replays.specs.Inputs.{read_card}
use Rattle.read_replays.proofs.Defaults.{or_default, or_zero, small_or_zero}
use Rattle.read_replays.proofs.Takes.{same_signed}
use Rattle.read_replays.proofs.Own.{own_locations}
use Rattle.read_replays.proofs.stating.Stating.finish.Goals as goal

pub invariant_of-result-clause-own_locations : goal.invariant_of-result-clause-own_locations
invariant_of-result-clause-own_locations c =
    own_locations c.args.self.drum.words.items c.requires.0 c.requires.1.sound c.requires.1.words.words

pub returns : goal.returns
returns c lines holds = record {
  angle = or_default 0 c.unwrap_or.ensures holds.settings.angle;
  switches = or_zero _ c.unwrap_or-2.ensures holds.settings.switches refl refl;
  distributor = or_zero _ c.unwrap_or-3.ensures holds.settings.distributor refl refl;
  accumulator =
      let value = or_default {slot = c.args.self.settings.accumulator} (pos 0) c.unwrap_or-4.ensures refl in
      let small =
      subst (λ (a : ℤ). unsigned_abs a < 10 ^ 20) (sym value)
      (small_or_zero c.args.self.settings.accumulator holds.settings.twenty) in
      same_signed c.unwrap_or-4.result small ∙ or_default (pos 0) c.unwrap_or-4.ensures holds.settings.accumulator;
  latch = or_default false c.unwrap_or-5.ensures holds.settings.latch;
  programmed = or_default true c.unwrap_or-6.ensures holds.settings.programmed;
  on_overflow = or_default true c.unwrap_or-7.ensures holds.settings.on_overflow;
  words = holds.words.words;
  cards = ap (map read_card) c.new.ensures.cards ∙ holds.cards;
  waits = c.new.ensures.waits ∙ holds.waits;
}
