-- Of Arrangement::pass: the nodes of the row that were passed before are met, and so are those that
-- are passed now. So where the row's end is reached, all are.
use Rattle.std.proofs.Common.{◌≡◌, Bool, true, ℕ, ◌<◌, ◌≤◌, length, List, Option, Some, None, IfNone, Contains, sym, ap}
use Rattle.std.proofs.Common.{◌∙◌, subst, refl, arith}
use Rattle.std.specs.Prelude.{slice_get, slice_index}
use Rattle.std.proofs.lemmas.List.{get_or_read}
use Rattle.base_graphs.specs.Graph.{row, size}
use Rattle.flow_loops.proofs.Arrangements.{row_passed}
use Rattle.flow_loops.proofs.arrangement.Arrangement.pass.Goals as goal

pub first_new-at-requires : goal.first_new-at-requires
first_new-at-requires c = record {
  within = λ next there.
      let edge : Contains (row c.args.graph.now c.args.node) next =
      subst (λ (xs : List ℕ). Contains xs next) c.row-row.ensures there in
      let inside = c.args.graph.now.within c.args.node next edge in
      let long : length c.deref.result.now ≡ size c.args.graph.now =
      ap (λ (xs : List Bool). length xs) c.deref.ensures.value ∙ c.requires.sound.met_long in
      omega (arith, inside, long);
}

if_none : (found : Option ℕ) (P : Type 0) → (found ≡ None → P) → IfNone found P
if_none None P all = all refl
if_none (Some one) P all = tt

pub returns-clause-all : goal.returns-clause-all
returns-clause-all c =
    let search = c.args.self.now in
    let nodes = row c.args.graph.now c.args.node in
    let at = c.first_new-at.result in
    let inside : c.args.node < length search.passed.items =
    omega (arith, c.requires.within, c.requires.sound.passed_long) in
    let passed : c.index.result.now ≡ slice_index search.passed.items c.args.node =
    get_or_read search.passed.items c.args.node c.index.result.now inside c.index.ensures 0 in
    let met : c.deref.result.now ≡ search.met.items = c.deref.ensures.value in
    let more : (k next : ℕ) → slice_index search.passed.items c.args.node ≤ k → k < at → slice_get nodes k ≡ Some next
    → slice_get search.met.items next ≡ Some true = λ k next low high here.
    sym (ap (λ (all : List Bool). slice_get all next) met)
    ∙ c.first_new-at.ensures.met k next (omega (arith, low, passed)) high
    (ap (λ (xs : List ℕ). slice_get xs k) c.row-row.ensures ∙ here) in
    if_none c.node_at.result _
    (λ none. row_passed nodes search.met.items (slice_index search.passed.items c.args.node) at
    (c.requires.sound.behind c.args.node) more
    (sym (ap (λ (xs : List ℕ). slice_get xs at) c.row-row.ensures) ∙ sym c.node_at.ensures ∙ none))
