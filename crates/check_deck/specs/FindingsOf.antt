-- What was found, as it is held.
use Rattle.std.specs.Prelude.{ℕ, Bool, List, map}
use Rattle.flow_graph.specs.declared.flow_graph.Flow.{Flow}
use Rattle.flow_graph.specs.Flow.{nodes_of, of_flow}
use Rattle.check_findings.specs.Finding.{Finding}
use Rattle.check_findings.specs.FindingOf.{seen}
use Rattle.check_deck.specs.declared.findings.Findings.{Findings}
use Rattle.check_deck.specs.Insides.{IsLoopInside}

-- all of them, in order
abbrev pub found_in : Findings → List Finding
found_in findings = map seen findings.all.items

-- whether marks are lacking, and the notes are long once they have them
abbrev pub is_long_in : Findings → Bool
is_long_in findings = findings.long

-- the loop of the inner edge stands inside that of the outer one, in a flow graph
abbrev pub IsInsideIn : Flow → ℕ × ℕ → ℕ × ℕ → Type 0
IsInsideIn flow outer inner = of_flow IsLoopInside flow (nodes_of flow) outer inner
