-- What discovery found, as it is held: all nodes, or more than there may be.
use Rattle.std.specs.Prelude.{◌≡◌, ℕ, ◌≤◌, ◌<◌, List, length, Option}
use Rattle.base_words.specs.declared.word.Word.{Word}
use Rattle.base_notes.specs.Allowed.{Notes}
use Rattle.flow_graph.specs.declared.discovery.Discovery.{Discovery}
use Rattle.flow_graph.specs.declared.discovery.Discovery.TheVariants.{Whole, TooMany}
use Rattle.flow_graph.specs.Executed.{found_after, AreAllNodes}
use Rattle.flow_graph.specs.InNodes.{AreHeld, nodes_in}
use Rattle.flow_graph.specs.Hops.{Node}

-- These are the nodes that discovery has met in its first turns.
abbrev pub AreMet : (ℕ → Option Word) → Notes → ℕ → List Node → Type 0
AreMet loads notes start nodes = (count : ℕ) × (found_after loads notes start count ≡ nodes)

abbrev pub IsDiscovered : (ℕ → Option Word) → Notes → ℕ → Discovery → Type 0
IsDiscovered loads notes start (Whole nodes) =
    AreAllNodes loads notes start (nodes_in notes.calls nodes) × AreHeld notes.calls nodes
    × (length (nodes_in notes.calls nodes) ≤ 65536)
IsDiscovered loads notes start (TooMany nodes) =
    AreMet loads notes start (nodes_in notes.calls nodes)
    × (65536 < length (nodes_in notes.calls nodes))
