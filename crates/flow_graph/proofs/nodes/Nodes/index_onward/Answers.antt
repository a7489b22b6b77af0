-- Of index_onward: the step may go along the edge, or not, as the definitions have it; and what is
-- open behind it, with the location, is a node that is there, or isn't.
use Rattle.std.proofs.Common.{◌≡◌, ◌<◌, ℕ, List, [], ◌∷◌, length, get_or, false, Option, Some, None, inl, inr, IfSome, IfNone, refl, ap, sym, ◌∙◌, subst, arith}
use Rattle.std.specs.Prelude.{is_some, slice_get, slice_index_or, Contains}
use Rattle.std.proofs.lemmas.List.{length-map}
use Rattle.std.proofs.lemmas.Option.{get_or_from_slice_get, slice_get_within}
use Rattle.base_words.specs.declared.location.Location.{Location}
use Rattle.base_notes.specs.Allowed.{Notes}
use Rattle.base_notes.specs.declared.notes.call.Call.{Call}
use Rattle.machine_steps.specs.declared.open.Open.{Open}
use Rattle.machine_steps.specs.Calls.{open_after, MayGo}
use Rattle.machine_steps.specs.OpenIn.{open_in}
use Rattle.base_graphs.proofs.Lists.{contains_cases, contains_none}
use Rattle.flow_graph.specs.declared.node.Node as held
use Rattle.flow_graph.specs.declared.nodes.Nodes.{Nodes}
use Rattle.flow_graph.specs.Executed.{onward}
use Rattle.flow_graph.specs.InNodes.{node_in, nodes_in, ways_in}
use Rattle.flow_graph.specs.Hops.{edge_between, Node}
use Rattle.flow_graph.proofs.InNodesLaws.{held_absent, held_found, none_onward, one_onward, ways_held, ways_of_one}
use Rattle.flow_graph.proofs.nodes.Nodes.index_onward.Goals as goal

if_some : (found : Option ℕ) (P : ℕ → Type 0) → ((place : ℕ) → found ≡ Some place → P place) → IfSome found P
if_some None P all = tt
if_some (Some place) P all = all place refl

if_none : (found : Option ℕ) (P : Type 0) → (is_some found ≡ false → P) → IfNone found P
if_none None P all = all refl
if_none (Some place) P all = tt

-- a list of one has it alone
only_one : (one other : Node) → Contains (one ∷ []) other → one ≡ other
only_one one other there =
    elim (contains_cases one other [] there) [ inl same ↦ same | inr none ↦ absurd (contains_none other none) ]

pub returns-then-not-may_go-clause-none : goal.returns-then-not-may_go-clause-none
returns-then-not-may_go-clause-none c next there onto =
    let calls = c.args.notes.now.calls in
    let self = c.args.self.now in
    let edge = edge_between c.args.from.location.number c.args.onto.number in
    let one = c.index.result.now in
    let node = node_in calls self c.args.from in
    let not_so : MayGo calls node.ways edge → ⊥ = λ may. c.if-not-may_go.ensures
    (subst (λ (cs : List Call). MayGo cs (open_in one cs) edge) (sym c.calls-calls.ensures.all)
    (subst (λ (ways : List (Option ℕ)). MayGo calls ways edge)
    (ways_of_one calls self.openings.items c.args.from.opening one c.requires.from c.index.ensures) may)) in
    contains_none next
    (subst (λ (ns : List Node). Contains ns next) (none_onward c.args.notes.now node c.args.onto.number not_so) onto)

-- where a step may go along the edge, there is one node that it leads to
leads : (notes : Notes) (self : Nodes) (from : held.Node) (onto : Location) (calls : List Call) (one : Open)
    → calls ≡ notes.calls → from.opening < length self.openings.items → one ≡ get_or self.openings.items from.opening one
    → MayGo calls (open_in one calls) (edge_between from.location.number onto.number)
    → (let node : Node = node_in notes.calls self from in
    onward notes node onto.number ≡ record {
      place = onto.number;
      ways = open_after notes.calls (edge_between node.place onto.number) node.ways;
    } ∷ [])
leads notes self from onto calls one same below is may =
    one_onward notes (node_in notes.calls self from) onto.number
    (subst (λ (ways : List (Option ℕ)). MayGo notes.calls ways (edge_between from.location.number onto.number))
    (sym (ways_of_one notes.calls self.openings.items from.opening one below is))
    (subst (λ (cs : List Call). MayGo cs (open_in one cs) (edge_between from.location.number onto.number)) same may))

pub returns-in_default-clause-none : goal.returns-in_default-clause-none
returns-in_default-clause-none c next there onto =
    let calls = c.args.notes.now.calls in
    let self = c.args.self.now in
    let node = node_in calls self c.args.from in
    let edge = edge_between node.place c.args.onto.number in
    let made : Node = record { place = c.args.onto.number; ways = open_after calls edge node.ways } in
    let same : made ≡ next =
    only_one made next (subst (λ (ns : List Node). Contains ns next) (leads c.args.notes.now c.args.self.now c.args.from c.args.onto c.calls-calls.result.now c.index.result.now
    c.calls-calls.ensures.all c.requires.from c.index.ensures c.if-not-may_go.ensures) onto) in
    let new : (open_in c.in_default.field-0 calls ≡ made.ways)
    × ¬ Contains (ways_in calls self.openings.items) (open_in c.in_default.field-0 calls) =
    subst (λ (cs : List Call). (open_in c.in_default.field-0 cs
    ≡ open_after cs edge (slice_index_or (ways_in cs self.openings.items) c.args.from.opening []))
    × ¬ Contains (ways_in cs self.openings.items) (open_in c.in_default.field-0 cs)) c.calls-calls.ensures.all
    (subst (λ (os : List Open). (open_in c.in_default.field-0 c.calls-calls.result.now
    ≡ open_after c.calls-calls.result.now edge
    (slice_index_or (ways_in c.calls-calls.result.now os) c.args.from.opening []))
    × ¬ Contains (ways_in c.calls-calls.result.now os) (open_in c.in_default.field-0 c.calls-calls.result.now))
    c.deref.ensures.value c.in_default.ensures.new) in
    new.1
    (subst (λ (w : List (Option ℕ)). Contains (ways_in calls self.openings.items) w)
    (sym (ap (λ (n : Node). n.ways) same) ∙ sym new.0)
    (ways_held calls self.openings.items c.requires.held.different self.nodes.keys.items next c.requires.held.within there))

-- what is open behind the step has this index
placed : (c : goal.After-index_of) → (let node : Node = node_in c.args.notes.now.calls c.args.self.now c.args.from in
    slice_get (ways_in c.args.notes.now.calls c.args.self.now.openings.items) c.in-Ok.opening
    ≡ Some (open_after c.args.notes.now.calls (edge_between node.place c.args.onto.number) node.ways))
placed c =
    let self = c.args.self.now in
    let edge = edge_between c.args.from.location.number c.args.onto.number in
    subst (λ (cs : List Call). slice_get (ways_in cs self.openings.items) c.in-Ok.opening
    ≡ Some (open_after cs edge (slice_index_or (ways_in cs self.openings.items) c.args.from.opening [])))
    c.calls-calls.ensures.all
    (subst (λ (os : List Open). slice_get (ways_in c.calls-calls.result.now os) c.in-Ok.opening
    ≡ Some (open_after c.calls-calls.result.now edge
    (slice_index_or (ways_in c.calls-calls.result.now os) c.args.from.opening []))) c.deref.ensures.value
    c.in-Ok.ensures.there)

below : (c : goal.After-index_of) → c.in-Ok.opening < length c.args.self.now.openings.items
below c =
    let calls = c.args.notes.now.calls in
    let openings = c.args.self.now.openings.items in
    omega (
      arith,
      slice_get_within (ways_in calls openings) c.in-Ok.opening _ (placed c),
      length-map openings (λ (o : Open). open_in o calls),
    )

-- the node that is looked for
sought : (c : goal.After-index_of) → (let node : Node = node_in c.args.notes.now.calls c.args.self.now c.args.from in
    node_in c.args.notes.now.calls c.args.self.now (record { location = c.args.onto; opening = c.in-Ok.opening })
    ≡ record {
      place = c.args.onto.number;
      ways = open_after c.args.notes.now.calls (edge_between node.place c.args.onto.number) node.ways;
    })
sought c =
    let calls = c.args.notes.now.calls in
    let self = c.args.self.now in
    let node = node_in calls self c.args.from in
    ap (λ (w : List (Option ℕ)). let made : Node = record { place = c.args.onto.number; ways = w } in made)
    (get_or_from_slice_get (ways_in calls self.openings.items) c.in-Ok.opening
    (open_after calls (edge_between node.place c.args.onto.number) node.ways) [] (placed c))

pub returns-clause-found : goal.returns-clause-found
returns-clause-found c =
    let calls = c.args.notes.now.calls in
    let self = c.args.self.now in
    let key : held.Node = record { location = c.args.onto; opening = c.in-Ok.opening } in
    if_some c.index_of.result _
    (λ index e. (
      node_in calls self key,
      held_found calls self.openings.items c.requires.held.different self.nodes.keys.items key index (below c)
          c.requires.held.within (sym c.index_of.ensures.index ∙ e),
      leads c.args.notes.now c.args.self.now c.args.from c.args.onto c.calls-calls.result.now c.index.result.now
          c.calls-calls.ensures.all c.requires.from c.index.ensures c.if-not-may_go.ensures ∙ ap (λ (n : Node). n ∷ []) (sym (sought c)),
    ))

pub returns-clause-none : goal.returns-clause-none
returns-clause-none c =
    let calls = c.args.notes.now.calls in
    let self = c.args.self.now in
    let key : held.Node = record { location = c.args.onto; opening = c.in-Ok.opening } in
    if_none c.index_of.result _
    (λ e next there onto. held_absent calls self.openings.items c.requires.held.different self.nodes.keys.items key (below c)
    c.requires.held.within (sym c.index_of.ensures.found ∙ e)
    (subst (λ (n : Node). Contains (nodes_in calls self) n)
    (sym (only_one _ next (subst (λ (ns : List Node). Contains ns next) (leads c.args.notes.now c.args.self.now c.args.from c.args.onto c.calls-calls.result.now c.index.result.now
    c.calls-calls.ensures.all c.requires.from c.index.ensures c.if-not-may_go.ensures) onto)) ∙ sym (sought c)) there))
