-- Notes with more marks have the same flow graph, in which fewer edges are free.
use Rattle.std.proofs.Common.{◌≡◌, ℕ, Bool, true, false, List, [], ◌∷◌, ◌++◌, refl, ap, ◌∙◌, subst}
use Rattle.std.proofs.Common.{Option, Some, None}
use Rattle.std.specs.Prelude.{Contains, IsNone, IsSome, flat_map, if◌then◌else◌, map}
use Rattle.base_words.specs.declared.op.Op.{Op}
use Rattle.base_words.specs.declared.op.Op.TheVariants.{NoOperation, Stop, Add, ResetAdd, Divide, DivideReset, Multiply}
use Rattle.base_words.specs.declared.op.Op.TheVariants.{Store, Shift, Branch, LoadDistributor, Read, Punch, BranchOnDigit}
use Rattle.base_words.specs.declared.word.Word.{Word}
use Rattle.base_words.specs.Op.{is_operand, op_of, operand_of}
use Rattle.base_notes.specs.Allowed.{Listed, Notes, allowed, listed, loaded, patterns_in}
use Rattle.base_notes.specs.Marks.{mark_on}
use Rattle.base_notes.specs.declared.notes.call.Call.{Call}
use Rattle.base_notes.specs.declared.notes.programmed.Programmed.{Programmed}
use Rattle.machine_steps.specs.Calls.{none_open, open_after, MayGo}
use Rattle.machine_steps.specs.Ways.{Way, early, in_order, to, ways_of, ways_of_stop, ways_with}
use Rattle.base_graphs.specs.Graph.{IsClosed, LeadRound}
use Rattle.flow_graph.specs.Accepted.{IsFreeLink}
use Rattle.flow_graph.specs.Hops.{edge_between, first_node, Hop, hops, hops_of, IsEdge, IsLink, IsNode, Lead, Node}
use Rattle.flow_loops.specs.Loops.{AreClosing, IsFreeBeside}
use Rattle.proved_laws.specs.Marked.{AreMarked}

-- the ways of an instruction go by the switch and the load cards alone
same_ways_of : (a b : Notes) (op : Op) (d i : ℕ) → a.programmed ≡ b.programmed → a.load_cards ≡ b.load_cards
    → ways_of a op d i ≡ ways_of b op d i
same_ways_of a b NoOperation d i switch cards = refl
same_ways_of a b Stop d i switch cards = ap (λ (s : Programmed). ways_of_stop s i) switch
same_ways_of a b (Add x) d i switch cards = refl
same_ways_of a b (ResetAdd x) d i switch cards = refl
same_ways_of a b Divide d i switch cards = refl
same_ways_of a b DivideReset d i switch cards = refl
same_ways_of a b Multiply d i switch cards = refl
same_ways_of a b (Store x) d i switch cards = refl
same_ways_of a b (Shift x) d i switch cards = refl
same_ways_of a b (Branch x) d i switch cards = refl
same_ways_of a b LoadDistributor d i switch cards = refl
same_ways_of a b Read d i switch cards =
    ap (λ (c : Bool). in_order true ((if c then d ∷ [] else []) ++ i ∷ []) false) cards
same_ways_of a b Punch d i switch cards = refl
same_ways_of a b (BranchOnDigit x) d i switch cards = refl

same_ways_with : (a b : Notes) (op : Option Op) (d i : ℕ) → a.programmed ≡ b.programmed → a.load_cards ≡ b.load_cards
    → ways_with a op d i ≡ ways_with b op d i
same_ways_with a b None d i switch cards = refl
same_ways_with a b (Some op) d i switch cards =
    ap (λ (all : List Way). if is_operand (operand_of op) d then all else early ∷ [])
    (same_ways_of a b op d i switch cards)

-- lists of the same lists are the same
flat_map_same : {X Y : Type 0} (f g : X → List Y) (xs : List X) → ((x : X) → f x ≡ g x) → flat_map f xs ≡ flat_map g xs
flat_map_same f g [] same = refl
flat_map_same f g (x ∷ xs) same =
    ap (λ (ys : List _). ys ++ flat_map f xs) (same x) ∙ ap (λ (ys : List _). g x ++ ys) (flat_map_same f g xs same)

module _ (loads : ℕ → Option Word) (notes : Notes) (edges : List (ℕ × ℕ)) (marked : Notes)
    (are : AreMarked notes edges marked) where
  same_hops : (place : ℕ) → hops loads marked place ≡ hops loads notes place
  same_hops place =
      flat_map_same (hops_of marked) (hops_of notes) (allowed loads marked place)
      (λ ins. ap (map (λ (w : Way). record { ins = ins; way = w }))
      (same_ways_with marked notes (op_of ins.op) ins.d ins.i are.programmed are.load_cards))
      ∙ ap (λ (lists : List Listed). flat_map (hops_of notes) (loaded (loads place) ++ listed (patterns_in lists place)))
      are.lists

  same_edge : (from onto : ℕ) → IsEdge loads marked from onto → IsEdge loads notes from onto
  same_edge from onto (ins, has) =
      (ins, subst (λ (all : List Hop). Contains all (record { ins = ins; way = to onto })) (same_hops from) has)

  same_link : (node next : Node) → IsLink loads marked node next → IsLink loads notes node next
  same_link node next link = record {
    edge = same_edge node.place next.place link.edge;
    may = subst (λ (calls : List Call). MayGo calls node.ways (edge_between node.place next.place)) are.calls link.may;
    behind = link.behind
        ∙ ap (λ (calls : List Call). open_after calls (edge_between node.place next.place) node.ways) are.calls;
  }

  same_lead : (node : Node) (through : List Node) (last : Node) → Lead loads marked node through last
      → Lead loads notes node through last
  same_lead node [] last lead = lead
  same_lead node (next ∷ nexts) last lead = (same_link node next lead.0, same_lead next nexts last lead.1)

  same_reached : (start : ℕ) (node : Node) → IsNode loads marked start node → IsNode loads notes start node
  same_reached start node (through, lead) = (
    through,
    subst (λ (calls : List Call). Lead loads notes (record { place = start; ways = none_open calls }) through node) are.calls
        (same_lead (first_node marked start) through node lead),
  )

  -- an edge that is free under more marks is left
  free_left : (node next : Node) → IsFreeLink loads marked node next → IsFreeBeside loads notes edges node next
  free_left node next free = (
    (same_link node next free.0, are.kept node.place next.place free.1),
    λ there. none_is_some (mark_on marked.marks node.place next.place) free.1 (are.marks node.place next.place there),
  )
    where
      none_is_some : (mark : Option ℕ) → IsNone mark → IsSome mark → ⊥
      none_is_some None none some = cc
      none_is_some (Some place) none some = cc

  round_left : (first node : Node) (nodes : List Node) → LeadRound (IsFreeLink loads marked) first node nodes
      → LeadRound (IsFreeBeside loads notes edges) first node nodes
  round_left first node [] round = free_left node first round
  round_left first node (next ∷ nodes) round = (free_left node next round.0, round_left first next nodes round.1)

pub marked_closed : (loads : ℕ → Option Word) (notes : Notes) (start : ℕ) (edges : List (ℕ × ℕ)) (marked : Notes)
    → AreClosing loads notes start edges → AreMarked notes edges marked → (first : Node) (others : List Node)
    → IsNode loads marked start first → ¬ IsClosed (IsFreeLink loads marked) (first ∷ others)
marked_closed loads notes start edges marked closing are first others reached closed =
    closing.enough first others (same_reached loads notes edges marked are start first reached)
    (round_left loads notes edges marked are first first others closed)
