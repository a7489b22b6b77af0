-- Of prices_by_order: where the size is below 2^127 nothing was cut off, so these prices are those of the certificate by
-- the order; else the size is as large.
use Rattle.std.proofs.Common.{◌≡◌, ◌≢◌, ℕ, ◌+◌, ◌*◌, ◌<◌, List, [], ◌∷◌, length, Some, ap, sym, ◌∙◌, subst, refl, inl, inr, arith}
use Rattle.std.specs.Prelude.{slice_get, Contains}
use Rattle.std.proofs.lemmas.Bool.Decides.{eqb_tells}
use Rattle.std.proofs.lemmas.Option.{same_Some}
use Rattle.read_decks.specs.InDeck.{loads_in, start_in}
use Rattle.base_notes.specs.declared.notes.mark.Mark.{Mark}
use Rattle.base_notes.specs.Allowed.{Notes, AreSound}
use Rattle.base_graphs.specs.Graph.{height, AreDifferent}
use Rattle.base_graphs.proofs.Lists.{contains_here, contains_there, one_place}
use Rattle.flow_graph.specs.Accepted.{capped}
use Rattle.flow_graph.specs.Executed.{same_node}
use Rattle.flow_graph.specs.Flow.{deck_of, executed_in, nodes_of, notes_of}
use Rattle.flow_graph.specs.Hops.{first_node, Node}
use Rattle.flow_graph.specs.SettingOf.{setting}
use Rattle.flow_graph.proofs.Links.{node_law}
use Rattle.flow_graph.proofs.Orders.{reached_different, stays_there}
use Rattle.flow_graph.proofs.Proper.{is_proper}
use Rattle.flow_acceptance.specs.OrderedFlow.{indices_in_order, nodes_in_order}
use Rattle.flow_acceptance.specs.Free.{those_at}
use Rattle.flow_acceptance.proofs.FreeRows.{some_at}
use Rattle.flow_acceptance.proofs.Heights.{height_here, height_of_here, height_of_there, height_there}
use Rattle.flow_acceptance.proofs.Translations.{those_first, those_long}
use Rattle.ceiling_rows.specs.Steps.{TakesAtMost}
use Rattle.ceiling_checked.specs.InRounds.{priced}
use Rattle.ceiling_checked.proofs.ByOrder.{high}
use Rattle.ceiling_checked.proofs.CeilingLaws.{executed_places}
use Rattle.ceiling_checked.proofs.Fallback.{by_order}
use Rattle.ceiling_checked.proofs.prices.prices_by_order.Goals as goal

pub returns-then-size-ge-LARGEST : goal.returns-then-size-ge-LARGEST
returns-then-size-ge-LARGEST c times takes = omega (arith, c.requires.sized.low, c.if-size-ge-LARGEST.true)

-- how far before the end the first node stands, by its index
high_at : (nodes : List Node) (order : List ℕ) (first : Node) → AreDifferent nodes
    → ((k : ℕ) → Contains order k → k < length nodes) → slice_get nodes 0 ≡ Some first
    → height order 0 ≡ high (those_at nodes order) first
high_at nodes [] first different within at = refl
high_at nodes (k ∷ order) first different within at =
    let one = some_at nodes k (within k (contains_here k order)) in
    let rest = high_at nodes order first different (λ j there. within j (contains_there k j order there)) at in
    let long : length (those_at nodes order) ≡ length order =
    those_long nodes order (λ j there. within j (contains_there k j order there)) in
    let made : high (those_at nodes (k ∷ order)) first ≡ high (one.0 ∷ those_at nodes order) first =
    ap (λ (all : List Node). high all first) (those_first nodes k one.0 order one.1) in
    elim (eqb_tells k 0) [
      | inl here ↦ (
          let same : one.0 ≡ first = same_Some one.0 first (sym one.1 ∙ ap (slice_get nodes) here.1 ∙ at) in
          omega (
            arith,
            height_here k 0 order here.1,
            height_of_here same_node node_law one.0 first (those_at nodes order) same,
            long,
            made,
          ))
      | inr other ↦ (
          let apart : one.0 ≢ first =
          λ same. other.1 (one_place nodes k 0 first different (one.1 ∙ ap Some same) at) in
          omega (
            arith,
            height_there k 0 order other.1,
            height_of_there same_node node_law one.0 first (those_at nodes order) apart,
            rest,
            made,
          ))
    ]

pub returns : goal.returns
returns c times takes =
    let accepted = c.args.accepted.now in
    let flow = accepted.flow in
    let deck = deck_of flow in
    let notes = notes_of flow in
    let nodes = nodes_of flow in
    let g = setting deck times notes in
    let size = c.args.size.now in
    let sized = c.requires.sized in
    let words : ℕ = length nodes in
    let same_notes : c.notes.result.now ≡ notes = c.notes.ensures ∙ ap notes_of c.flow-flow.ensures in
    let marks : c.marks-marks.result.now ≡ notes.marks =
    c.marks-marks.ensures.all ∙ ap (λ (n : Notes). n.marks) same_notes in
    let proper = is_proper deck times notes (subst AreSound same_notes c.marks-marks.ensures.sound) in
    let first : Node = first_node notes (start_in deck) in
    let at : slice_get nodes 0 ≡ Some first =
    stays_there (loads_in deck) notes (start_in deck) nodes c.requires.nodes 0 0 first (omega arith) refl in
    let tall : c.height_of-height.result ≡ high (nodes_in_order accepted) first =
    c.height_of-height.ensures.value ∙ ap (λ (ks : List ℕ). height ks 0) c.nodes.ensures
    ∙ high_at nodes (indices_in_order accepted) first
    (reached_different (loads_in deck) notes (start_in deck) nodes c.requires.nodes) c.requires.within at in
    let made : c.in_ok-priced.field-0.items ≡ priced capped (words * c.args.longest) notes.marks size.rounds.items =
    c.in_ok-priced.ensures ∙ ap (λ (n : ℕ). priced capped n c.marks-marks.result.now c.deref.result.now) sized.unit
    ∙ ap (λ (all : List ℕ). priced capped (words * c.args.longest) c.marks-marks.result.now all) c.deref.ensures.value
    ∙ ap (λ (ms : List Mark). priced capped (words * c.args.longest) ms size.rounds.items) marks in
    by_order g nodes (nodes_in_order accepted) proper c.requires.nodes c.requires.order c.args.longest
    (subst (λ (places : List ℕ). TakesAtMost g places c.args.longest)
    (executed_places (loads_in deck) notes (start_in deck) (executed_in flow) nodes c.requires.admitted c.requires.nodes)
    takes)
    size.rounds.items sized.rounds size.passes (capped (1 + size.passes)) size.whole sized.passes refl
    (sized.whole ∙ ap (λ (n : ℕ). capped (n * capped (1 + size.passes))) sized.unit) c.if-size-ge-LARGEST.false
    c.in_ok-priced.field-0.items (c.height_of-height.result * c.from.result + c.product.result) c.product.result made
    (c.product.ensures ∙ ap (λ (n : ℕ). capped (n * size.passes)) sized.unit)
    (ap (λ (n : ℕ). c.height_of-height.result * n + c.product.result) c.from.ensures
    ∙ ap (λ (n : ℕ). n * c.args.longest + c.product.result) tall)
