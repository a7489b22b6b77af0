-- A deck that is accepted with its notes isn't refused.
use Rattle.std.proofs.Common.{◌≡◌, ℕ, ◌*◌, ◌≤◌, List, [], ◌∷◌, ◌++◌, length, Option, Some, get_or, refl, sym, subst, arith}
use Rattle.std.specs.Prelude.{slice_get, Contains, IsSome, IsNone}
use Rattle.std.proofs.lemmas.Option.{slice_get_within, slice_get-get_or}
use Rattle.base_words.specs.declared.instruction.Instruction.{Instruction}
use Rattle.base_words.specs.declared.word.Word.{Word}
use Rattle.base_words.specs.Op.{op_of}
use Rattle.base_notes.specs.Allowed.{Notes, allowed}
use Rattle.base_graphs.specs.Graph.{IsClosed}
use Rattle.base_graphs.proofs.Lists.{contains_here, contains_there, contains_from_get}
use Rattle.flow_graph.specs.declared.refusal.Refusal.{Refusal}
use Rattle.flow_graph.specs.declared.refusal.Refusal.TheVariants.{Memory, NotLoaded, NotInProfile, Alters, Unbounded}
use Rattle.flow_graph.specs.declared.refusal.Refusal.TheVariants.{HasCalls, TooMany, TooLarge}
use Rattle.flow_graph.specs.Accepted.{IsAccepted, IsMet, IsFirstIn, IsFreeLink, counts_of, Alters as AltersOne}
use Rattle.flow_graph.specs.Executed.{found_after, IsOrder}
use Rattle.flow_graph.specs.Hops.{first_node, IsExecuted, IsNode, Node}
use Rattle.flow_graph.proofs.Orders.{only_reached, order_found}
use Rattle.flow_acceptance.specs.Acceptance.{IsRefusal}
use Rattle.flow_acceptance.proofs.Products.{many_told}
use Rattle.flow_acceptance.proofs.Acceptances.{in_the_end, one_order}

within : {X : Type 0} (before : List X) (one : X) (behind : List X) → Contains (before ++ one ∷ behind) one
within [] one behind = contains_here one behind
within (first ∷ before) one behind = contains_there first one (before ++ one ∷ behind) (within before one behind)

first_is_there : (list : List Instruction) (Property : Instruction → Type 0) (ins : Instruction)
    → IsFirstIn list Property ins → Contains list ins
first_is_there list Property ins (before, after, split, has, none) =
    subst (λ (xs : List Instruction). Contains xs ins) (sym split) (within before ins after)

module _ (loads : ℕ → Option Word) (notes : Notes) (start : ℕ) where
  met_is_executed : (place : ℕ) → IsMet loads notes start place → IsExecuted loads notes start place
  met_is_executed place met =
      let node : Node = record { place = place; ways = met.ways } in (
        met.ways,
        only_reached loads notes start met.count node
            (contains_from_get (found_after loads notes start met.count) met.count node met.member),
      )

  in_order_is_executed : (order : List ℕ) (place : ℕ) → IsOrder loads notes start order → Contains order place
      → IsExecuted loads notes start place
  in_order_is_executed order place is there = (order_found loads notes start order is).only place there

  not_closed : (executed : List ℕ) (nodes : List Node) → IsAccepted loads notes start executed
      → ((node : Node) → Contains nodes node → IsNode loads notes start node)
      → IsClosed (IsFreeLink loads notes) nodes → ⊥
  not_closed executed [] accepted there closed = closed
  not_closed executed (first ∷ others) accepted there closed =
      accepted.admitted.bounded first others (there first (contains_here first others)) closed

  pub only_memory : (executed : List ℕ) (refusal : Refusal) → IsAccepted loads notes start executed
      → IsRefusal loads notes start refusal → refusal ≡ Memory
  only_memory executed (NotLoaded location) accepted is =
      absurd (is.1 (accepted.admitted.there location.number (met_is_executed location.number is.0)))
  only_memory executed (NotInProfile location op) accepted (met, there, (ins, first, number)) =
      let outside : IsNone (op_of ins.op) = first.3 in
      let inside : IsSome (op_of ins.op) =
      accepted.admitted.profile location.number (met_is_executed location.number met) ins
      (first_is_there (allowed loads notes location.number) _ ins first) in
      cc
  only_memory executed (Alters writer word) accepted is =
      let there : Contains (allowed loads notes writer.number) is.ins =
      first_is_there (allowed loads notes writer.number) (AltersOne loads notes start) is.ins is.first in
      let written : AltersOne loads notes start is.ins = is.first.3 in
      let writes : IsExecuted loads notes start writer.number =
      in_order_is_executed is.executed writer.number is.order
      (subst (λ (xs : List ℕ). Contains xs writer.number) (sym is.split)
      (within is.before writer.number is.behind)) in
      absurd (accepted.admitted.unaltered writer.number is.ins written.0 writes there written.1 written.2)
  only_memory executed (TooLarge product) accepted (sound, large, (other, order, number)) =
      let same : other ≡ executed = one_order loads notes start other executed order accepted.admitted.order in
      let small : length other * counts_of notes.marks ≤ 4000000 =
      subst (λ (xs : List ℕ). length xs * counts_of notes.marks ≤ 4000000) (sym same) accepted.small in
      absurd (omega (arith, many_told (length other * counts_of notes.marks) (omega (arith, large, number)), small))
  only_memory executed (Unbounded cycle) accepted is =
      absurd (not_closed executed is.round.round.nodes accepted is.round.round.within is.round.round.closed)
  only_memory executed HasCalls accepted is = absurd (is accepted.plain)
  only_memory executed TooMany accepted is =
      let order = accepted.admitted.order in
      let found = found_after loads notes start is.count in
      let last : slice_get found 65536 ≡ Some (get_or found 65536 (first_node notes start)) =
      slice_get-get_or found 65536 (first_node notes start) is.many in
      absurd (omega (
        arith,
        accepted.admitted.few,
        slice_get_within order.nodes 65536 (get_or found 65536 (first_node notes start))
            (in_the_end loads notes start order.nodes order.reached is.count 65536
            (get_or found 65536 (first_node notes start)) last),
      ))
  only_memory executed Memory accepted is = refl
