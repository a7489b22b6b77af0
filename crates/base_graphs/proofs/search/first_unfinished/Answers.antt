use Rattle.std.proofs.Common.{◌≡◌, length, slice_get, Some, None, slice_index_or, sym, ap, ◌∙◌, inl, inr, arith}
use Rattle.std.proofs.lemmas.Bool.{cases_eq}
use Rattle.std.proofs.lemmas.List.Elements.{Contains-get_or}
use Rattle.std.proofs.lemmas.Option.{slice_get-get_or, slice_get_past, get_or_from_slice_get}
use Rattle.base_graphs.specs.declared.progress.Progress.TheVariants.{New, Finished}
use Rattle.base_graphs.proofs.search.first_unfinished.Goals as goal

pub bounds-states-next : goal.bounds-states-next
bounds-states-next c =
    c.requires.within (slice_index_or c.args.row.now c.loop-at.at 0)
    (Contains-get_or c.args.row.now c.loop-at.at 0 c.loop-at-test.true)

pub loop-at-preserved : goal.loop-at-preserved
loop-at-preserved c k next low high at = elim (cases_eq k c.loop-at.at) [
  | inl same ↦ (
      let states = c.args.states.now in
      let here : slice_index_or c.args.row.now c.loop-at.at 0 ≡ next =
      get_or_from_slice_get c.args.row.now c.loop-at.at next 0 (sym (ap (slice_get c.args.row.now) same) ∙ at) in
      let finished : slice_index_or states (slice_index_or c.args.row.now c.loop-at.at 0) New ≡ Finished =
      c.is_finished.ensures.0 c.if-not-is_finished.false in
      let within =
      c.requires.within (slice_index_or c.args.row.now c.loop-at.at 0)
      (Contains-get_or c.args.row.now c.loop-at.at 0 c.loop-at-test.true) in
      sym (ap (slice_get states) here)
      ∙ slice_get-get_or states (slice_index_or c.args.row.now c.loop-at.at 0) New within ∙ ap Some finished)
  | inr ne ↦ c.loop-at.invariant k next low (omega (arith, high, ne)) at
]

pub returns-clause-least : goal.returns-clause-least
returns-clause-least c next at done =
    let past : None ≡ Some next = sym (slice_get_past c.args.row.now (length c.args.row.now) (omega arith)) ∙ at in
    cc
