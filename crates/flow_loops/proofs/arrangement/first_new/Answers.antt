-- Of first_new: each node of the row from `from` on and before the place at hand is met. So the
-- first that isn't is the result, or the row's length.
use Rattle.std.proofs.Common.{◌≡◌, true, false, ◌<◌, ℕ, length, slice_get, Some, None, slice_index_or, sym, ap, ◌∙◌, inl, inr}
use Rattle.std.proofs.Common.{arith}
use Rattle.std.proofs.lemmas.Bool.{cases_eq}
use Rattle.std.proofs.lemmas.List.Elements.{Contains-get_or}
use Rattle.std.proofs.lemmas.Option.{slice_get-get_or, slice_get_past, get_or_from_slice_get}
use Rattle.flow_loops.proofs.arrangement.first_new.Goals as goal

pub bounds-met-next : goal.bounds-met-next
bounds-met-next c =
    c.requires.within (slice_index_or c.args.row.now c.loop-at.at 0)
    (Contains-get_or c.args.row.now c.loop-at.at 0 c.loop-at-test.true)

pub returns-then-not-met-next-clause-least : goal.returns-then-not-met-next-clause-least
returns-then-not-met-next-clause-least c next at =
    let met = c.args.met.now in
    let here : slice_index_or c.args.row.now c.loop-at.at 0 ≡ next =
    get_or_from_slice_get c.args.row.now c.loop-at.at next 0 at in
    let inside : slice_index_or c.args.row.now c.loop-at.at 0 < length met =
    c.requires.within (slice_index_or c.args.row.now c.loop-at.at 0)
    (Contains-get_or c.args.row.now c.loop-at.at 0 c.loop-at-test.true) in
    let unmet : slice_index_or met (slice_index_or c.args.row.now c.loop-at.at 0) false ≡ false =
    c.if-not-met-next.true in
    sym (ap (λ (n : ℕ). slice_get met n) here)
    ∙ slice_get-get_or met (slice_index_or c.args.row.now c.loop-at.at 0) false inside ∙ ap Some unmet

pub loop-at-preserved : goal.loop-at-preserved
loop-at-preserved c k next low high at = elim (cases_eq k c.loop-at.at) [
  | inl same ↦ (
      let met = c.args.met.now in
      let here : slice_index_or c.args.row.now c.loop-at.at 0 ≡ next =
      get_or_from_slice_get c.args.row.now c.loop-at.at next 0 (sym (ap (slice_get c.args.row.now) same) ∙ at) in
      let inside : slice_index_or c.args.row.now c.loop-at.at 0 < length met =
      c.requires.within (slice_index_or c.args.row.now c.loop-at.at 0)
      (Contains-get_or c.args.row.now c.loop-at.at 0 c.loop-at-test.true) in
      let found : slice_index_or met (slice_index_or c.args.row.now c.loop-at.at 0) false ≡ true =
      c.if-not-met-next.false in
      sym (ap (λ (n : ℕ). slice_get met n) here)
      ∙ slice_get-get_or met (slice_index_or c.args.row.now c.loop-at.at 0) false inside ∙ ap Some found)
  | inr ne ↦ c.loop-at.invariant k next low (omega (arith, high, ne)) at
]

pub returns-clause-least : goal.returns-clause-least
returns-clause-least c next at =
    let past : None ≡ Some next = sym (slice_get_past c.args.row.now (length c.args.row.now) (omega arith)) ∙ at in
    cc
