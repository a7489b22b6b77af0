-- Of edges_of: each number of the bands so far at which a hop stands has its edge.
use Rattle.std.proofs.Common.{◌≡◌, ◌*◌, List, Some, false, ap, ◌∙◌, inl, inr, arith}
use Rattle.std.specs.Prelude.{slice_get}
use Rattle.std.proofs.lemmas.Bool.{cases_lt}
use Rattle.std.proofs.lemmas.Option.{slice_get-get_or, slice_get_within}
use Rattle.ceiling_rows.proofs.Bands.{none_in}
use Rattle.ceiling_rows.proofs.RowLaws.{edge_stays}
use Rattle.ceiling_rows.proofs.edges.edges_of.Goals as goal

pub loop-band-preserved-then-not-raised-band : goal.loop-band-preserved-then-not-raised-band
loop-band-preserved-then-not-raised-band c slot hop low high at =
    let raised = c.args.raised.now in
    let band = c.loop-band.band in
    elim (cases_lt slot (band * 50)) [
      | inl before ↦ c.loop-band.invariant slot hop low before at
      | inr here ↦ (
          let off : slice_get raised.bands band ≡ Some false =
          slice_get-get_or raised.bands band _ (omega (arith, c.loop-band-test.true, c.well_formed)) ∙ ap Some c.if-not-raised-band.true in
          absurd (none_in raised.onward.items raised.bands band slot hop raised.within off here (omega (arith, high)) at))
    ]

pub loop-band-preserved : goal.loop-band-preserved
loop-band-preserved c slot hop low high at =
    let band = c.loop-band.band in
    elim (cases_lt slot (band * 50)) [
      | inl before ↦ edge_stays c.args.marks.now c.args.from.number c.loop-band.edges.items c.add_band.new.edges.items slot hop
          c.in_ok-add_band.ensures.kept (c.loop-band.invariant slot hop low before at)
      | inr here ↦ c.in_ok-add_band.ensures.added slot hop here (omega (arith, high))
          (ap (λ (all : List _). slice_get all slot) c.deref.ensures.value ∙ at)
    ]

pub returns : goal.returns
returns c = record {
  each = λ slot hop at.
      let within = slice_get_within c.args.raised.now.onward.items slot (Some hop) at in
      c.loop-band.invariant slot hop (omega arith)
      (omega (arith, within, c.loop-band-test.false, c.args.raised.now.long, c.args.raised.now.onward.ok.0)) at;
}
