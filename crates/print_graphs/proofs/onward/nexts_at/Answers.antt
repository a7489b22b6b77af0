-- Of nexts_at: of the locations where the instructions go on, those to which a step may go on are kept.
use Rattle.std.proofs.Common.{◌≡◌, [], ℕ, List, map, refl, sym, ap, ◌∙◌, subst, arith}
use Rattle.std.specs.Prelude.{filter}
use Rattle.std.proofs.lemmas.List.{length-map}
use Rattle.base_words.specs.declared.location.Location.{Location}
use Rattle.read_decks.specs.declared.deck.Deck.{Deck}
use Rattle.read_decks.specs.InDeck.{loads_in, start_in}
use Rattle.base_notes.specs.Allowed.{Notes}
use Rattle.base_graphs.specs.Graph.{AreDifferent}
use Rattle.base_graphs.proofs.Lists.{contains_from_get}
use Rattle.flow_graph.specs.Executed.{successors, with_new}
use Rattle.flow_graph.specs.Flow.{nodes_of}
use Rattle.flow_graph.specs.Found.{places_of}
use Rattle.flow_graph.specs.Taken.{is_taken}
use Rattle.flow_graph.proofs.Founds.{number_at}
use Rattle.print_graphs.proofs.Taken.{all_kept, none_kept, one_kept, target_edge}
use Rattle.print_graphs.proofs.onward.nexts_at.Goals as goal

pub is_taken-requires-clause-edge : goal.is_taken-requires-clause-edge
is_taken-requires-clause-edge c =
    let flow = c.args.flow.now in
    let place = c.args.location.number in
    let targets = with_new [] (successors (loads_in flow.deck.now) flow.notes.now place) in
    let all : map (λ location. location.number) c.locations-next-items.result.now ≡ targets =
    c.locations-next-items.ensures.all ∙ c.in_ok-add_successors.ensures
    ∙ ap (λ (places : List ℕ). with_new places (successors (loads_in c.deck.result.now) c.notes.result.now place))
    c.none-all.ensures
    ∙ ap (λ (deck : Deck). with_new [] (successors (loads_in deck) c.notes.result.now place)) c.deck.ensures
    ∙ ap (λ (notes : Notes). with_new [] (successors (loads_in flow.deck.now) notes place)) c.notes.ensures in
    target_edge (loads_in flow.deck.now) flow.notes.now (start_in flow.deck.now) (nodes_of flow) c.requires place
    c.next-item.result.number
    (contains_from_get targets c.loop-next.next-index c.next-item.result.number
    (number_at c.locations-next-items.result.now targets c.loop-next.next-index c.next-item.result all
    c.loop-next-test.true c.next-item.is))

pub loop-next-preserved-then-not-is_taken : goal.loop-next-preserved-then-not-is_taken
loop-next-preserved-then-not-is_taken c =
    let flow = c.args.flow.now in
    let numbers = map (λ location. location.number) c.locations-next-items.result.now in
    none_kept (is_taken flow.notes.now (nodes_of flow) c.args.location.number) numbers c.loop-next.next-index
    c.next-item.result.number
    (number_at c.locations-next-items.result.now numbers c.loop-next.next-index c.next-item.result refl
    c.loop-next-test.true c.next-item.is)
    (places_of c.loop-next.nexts) c.loop-next.invariant (sym c.is_taken.ensures ∙ c.if-not-is_taken.true)

pub loop-next-preserved : goal.loop-next-preserved
loop-next-preserved c =
    let flow = c.args.flow.now in
    let numbers = map (λ location. location.number) c.locations-next-items.result.now in
    one_kept (is_taken flow.notes.now (nodes_of flow) c.args.location.number) numbers c.loop-next.next-index
    c.next-item.result.number
    (number_at c.locations-next-items.result.now numbers c.loop-next.next-index c.next-item.result refl
    c.loop-next-test.true c.next-item.is)
    (places_of c.loop-next.nexts) (places_of c.add.new.self) c.loop-next.invariant
    (sym c.is_taken.ensures ∙ c.if-not-is_taken.false) c.in_ok-add.ensures

pub returns : goal.returns
returns c =
    let flow = c.args.flow.now in
    let place = c.args.location.number in
    let test = is_taken flow.notes.now (nodes_of flow) place in
    let locations = c.locations-next-items.result.now in
    let numbers = map (λ location. location.number) locations in
    let targets = with_new [] (successors (loads_in flow.deck.now) flow.notes.now place) in
    let all : numbers ≡ targets =
    c.locations-next-items.ensures.all ∙ c.in_ok-add_successors.ensures
    ∙ ap (λ (places : List ℕ). with_new places (successors (loads_in c.deck.result.now) c.notes.result.now place))
    c.none-all.ensures
    ∙ ap (λ (deck : Deck). with_new [] (successors (loads_in deck) c.notes.result.now place)) c.deck.ensures
    ∙ ap (λ (notes : Notes). with_new [] (successors (loads_in flow.deck.now) notes place)) c.notes.ensures in
    all_kept test numbers (places_of c.loop-next.nexts) c.loop-next.next-index
    (subst (λ (places : List ℕ). AreDifferent places) (sym c.locations-next-items.ensures.all)
    c.locations-next-items.ensures.different)
    (omega (arith, length-map locations (λ (location : Location). location.number), c.loop-next-test.false))
    c.loop-next.invariant
    ∙ ap (filter test) all
