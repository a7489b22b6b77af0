-- The nodes of a graph.
use Rattle.std.proofs.Common.{◌≡◌, ℕ, ◌+◌, ◌<◌, List, [], ◌∷◌, ◌++◌, map, take, length, ap, sym, ◌∙◌, Some}
use Rattle.std.proofs.Common.{Option}
use Rattle.std.specs.Prelude.{slice_get}
use Rattle.std.proofs.lemmas.List.{map_more}
use Rattle.std.proofs.lemmas.Option.{get_or_from_slice_get, slice_get_within}
use Rattle.base_words.specs.declared.word.Word.{Word}
use Rattle.base_notes.specs.Allowed.{Notes}
use Rattle.flow_graph.specs.Executed.{each_place}
use Rattle.flow_graph.specs.Hops as flow
use Rattle.flow_acceptance.proofs.Acceptances.{one_reached}
use Rattle.print_graphs.specs.Graph.{AreNodes, Node, node}

-- there is one graph
pub one_graph : (loads : ℕ → Option Word) (notes : Notes) (start : ℕ) (nodes others : List Node)
    → AreNodes loads notes start nodes → AreNodes loads notes start others → nodes ≡ others
one_graph loads notes start nodes others a b =
    a.all
    ∙ ap (λ (reached : List flow.Node). map (node loads notes reached) (each_place reached))
    (one_reached loads notes start a.reached b.reached a.found b.found)
    ∙ sym b.all

-- one more node
pub node_more : (draw : ℕ → Node) (before after : List Node) (places : List ℕ) (k place : ℕ) (one : Node)
    → slice_get places k ≡ Some place → before ≡ map draw (take k places) → one ≡ draw place
    → after ≡ before ++ one ∷ [] → after ≡ map draw (take (k + 1) places)
node_more draw before after places k place one here so_far is added =
    let inside : k < length places = slice_get_within places k place here in
    added ∙ ap (λ (all : List Node). all ++ one ∷ []) so_far
    ∙ ap (λ (last : Node). map draw (take k places) ++ last ∷ []) (is
    ∙ ap draw (sym (get_or_from_slice_get places k place place here)))
    ∙ sym (map_more draw places k place inside)
