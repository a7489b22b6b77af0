-- Of Keys::leap: a hop takes as long from each clock of one angle (FromAngles), so the time from
-- the angle itself is that of all. Where it goes on there is an index, since the order has all
-- targets of its hops.
use Rattle.std.proofs.Common.{◌≡◌, ◌⊎◌, ℕ, ◌+◌, ◌-◌, Some, ap, sym, ◌∙◌, subst, inl, inr, refl, arith}
use Rattle.std.specs.Prelude.{Contains}
use Rattle.read_decks.specs.InDeck.{loads_in}
use Rattle.base_notes.specs.Entries.{entry_in}
use Rattle.base_notes.specs.Marks.{mark_on}
use Rattle.machine_steps.specs.Ways.{Way, early, to, late}
use Rattle.machine_steps.specs.declared.ways.Way as code
use Rattle.machine_steps.specs.declared.ways.Way.TheVariants as way
use Rattle.machine_steps.specs.WaysLeft.{seen_way}
use Rattle.machine_steps.specs.Counts.{no_counts}
use Rattle.flow_graph.specs.Flow.{deck_of, notes_of}
use Rattle.flow_graph.specs.Hops.{hops}
use Rattle.flow_graph.proofs.PassLaws.{no_counts_within}
use Rattle.flow_graph.proofs.FromAngles.{leap_time}
use Rattle.flow_graph.proofs.Profiles.{hop_may_end}
use Rattle.flow_acceptance.specs.OrderedFlow.{in_order}
use Rattle.bound_scan.proofs.Nodes.{small_number}
use Rattle.bound_scan.proofs.keys.Keys.leap.Goals as goal

-- a hop that goes on goes on there alone
one_next : (n next : ℕ) → to n ≡ to next → n ≡ next
one_next n next e = cc

pub longest-requires-clause-may_end : goal.longest-requires-clause-may_end
longest-requires-clause-may_end c =
    let accepted = c.args.self.now.accepted.now in
    hop_may_end (loads_in (deck_of accepted.flow)) (notes_of accepted.flow) c.args.location.number
    c.args.hop.instruction
    (seen_way c.args.hop.way) c.requires.hop

pub index_of-requires-clause-there : goal.index_of-requires-clause-there
index_of-requires-clause-there c =
    let accepted = c.args.self.now.accepted.now in
    c.requires.keys.ordered.0.closed c.args.location.number c.in-To.next.number c.requires.there (
      c.args.hop.instruction,
      subst (λ (w : Way). Contains
          (hops (loads_in (deck_of accepted.flow)) (notes_of accepted.flow) c.args.location.number)
          (record { ins = c.args.hop.instruction; way = w }))
          (ap seen_way c.in-To.is) c.requires.hop,
    )

pub overflow_cast-index : goal.overflow_cast-index
overflow_cast-index c =
    let accepted = c.args.self.now.accepted.now in
    let marks = (notes_of accepted.flow).marks in
    omega (
      arith,
      small_number marks (in_order accepted) (no_counts marks) c.index_of.result c.in-To.next.number
          (no_counts_within marks) c.requires.keys.ordered.0.few c.index_of.ensures,
    )

pub returns-in-To-clause-leap : goal.returns-in-To-clause-leap
returns-in-To-clause-leap c =
    let accepted = c.args.self.now.accepted.now in
    let times = entry_in c.args.times.now in
    let place = c.args.location.number in
    let ins = c.args.hop.instruction in
    let goes = seen_way c.args.hop.way in
    record {
      time = λ clock at. leap_time times place ins goes c.args.angle clock c.requires.on_drum at
          ∙ ap (λ (n : ℕ). clock + (n - c.args.angle)) (sym c.longest.ensures.value);
      onto = λ next on.
          let same : c.in-To.next.number ≡ next =
          one_next c.in-To.next.number next (sym (ap seen_way c.in-To.is) ∙ on) in (
            c.index_of.ensures ∙ ap Some same,
            ap (mark_on (notes_of accepted.flow).marks place) (sym same) ∙ c.mark_between.ensures,
          );
    }

pub returns-in-Early : goal.returns-in-Early
returns-in-Early c =
    let accepted = c.args.self.now.accepted.now in
    let times = entry_in c.args.times.now in
    let place = c.args.location.number in
    let ins = c.args.hop.instruction in
    let goes = seen_way c.args.hop.way in
    record {
      leap = record {
        time = λ clock at. leap_time times place ins goes c.args.angle clock c.requires.on_drum at
            ∙ ap (λ (n : ℕ). clock + (n - c.args.angle)) (sym c.longest.ensures.value);
        onto = λ next on. absurd (stops c.args.hop.way next c.in-Early.is on);
      };
      hop = refl;
    }
  where
    stops : (w : code.Way) (next : ℕ) → (w ≡ way.Early) ⊎ (w ≡ way.Late) → seen_way w ≡ to next → ⊥
    stops w next (inl e) on = no_early next (sym (ap seen_way e) ∙ on)
      where
        no_early : (n : ℕ) → early ≡ to n → ⊥
        no_early n h = cc
    stops w next (inr e) on = no_late next (sym (ap seen_way e) ∙ on)
      where
        no_late : (n : ℕ) → late ≡ to n → ⊥
        no_late n h = cc
