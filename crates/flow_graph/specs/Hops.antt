-- The flow graph of a deck under its notes.
use Rattle.std.specs.Prelude.{◌≡◌, ℕ, List, [], ◌∷◌, map, flat_map, Option, Contains}
use Rattle.base_words.specs.declared.instruction.Instruction.{Instruction}
use Rattle.base_words.specs.declared.word.Word.{Word}
use Rattle.base_notes.specs.Allowed.{Notes, allowed}
use Rattle.machine_steps.specs.Calls.{none_open, open_after, MayGo}
use Rattle.machine_steps.specs.Since.{Edge}
use Rattle.machine_steps.specs.Ways.{Way, to, ways}

-- an instruction that is allowed at a location, and one of its ways
pub record Hop : Type 0 where
  pub ins : Instruction
  pub way : Way

abbrev pub hops_of : Notes → Instruction → List Hop
hops_of notes ins = map (λ w. record { ins = ins; way = w }) (ways notes ins)

-- The hops of a location: the allowed instructions in order, each with its ways. `loads` says which
-- word the deck loads into a location.
abbrev pub hops : (ℕ → Option Word) → Notes → ℕ → List Hop
hops loads notes place = flat_map (hops_of notes) (allowed loads notes place)

-- an edge: some hop goes from the one location to the other
abbrev pub IsEdge : (ℕ → Option Word) → Notes → ℕ → ℕ → Type 0
IsEdge loads notes place next =
    (ins : Instruction) × Contains (hops loads notes place) (record { ins = ins; way = to next })

-- A node is a location with what is open there at the exits of calls.
pub record Node : Type 0 where
  pub place : ℕ
  pub ways : List (Option ℕ)

-- where runs begin: at the start of the deck, with nothing open
abbrev pub first_node : Notes → ℕ → Node
first_node notes start = record { place = start; ways = none_open notes.calls }

-- the edge from a location onto another
abbrev pub edge_between : ℕ → ℕ → Edge
edge_between place next = record { from = place; onto = next }

-- An edge leads from the one node to the other: it is one of their locations, a step may go along
-- it with what is open there, and behind it this is open.
pub record IsLink (loads : ℕ → Option Word) (notes : Notes) (node next : Node) : Type 0 where
  pub edge : IsEdge loads notes node.place next.place
  pub may : MayGo notes.calls node.ways (edge_between node.place next.place)
  pub behind : next.ways ≡ open_after notes.calls (edge_between node.place next.place) node.ways

-- some edges lead from the one node along these, the last of which is the other
abbrev pub Lead : (ℕ → Option Word) → Notes → Node → List Node → Node → Type 0
Lead loads notes node [] last = node ≡ last
Lead loads notes node (next ∷ nexts) last =
    IsLink loads notes node next × Lead loads notes next nexts last

-- a node of the flow graph: some list of edges from the first node, perhaps empty, ends there
abbrev pub IsNode : (ℕ → Option Word) → Notes → ℕ → Node → Type 0
IsNode loads notes start node =
    (through : List Node) × Lead loads notes (first_node notes start) through node

-- an executed location: that of some node of the flow graph
abbrev pub IsExecuted : (ℕ → Option Word) → Notes → ℕ → ℕ → Type 0
IsExecuted loads notes start place =
    (ways : List (Option ℕ)) × IsNode loads notes start (record { place = place; ways = ways })
