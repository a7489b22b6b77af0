-- All that keeps a deck from having a bound under its notes, and the loose ends of both.
-- `loads` says which word the deck loads into a location.
use Rattle.std.specs.Prelude.{◌≡◌, ◌≢◌, ◌≤◌, ℕ, false, List, [], ◌++◌, map, flat_map, length}
use Rattle.std.specs.Prelude.{slice_get, Option, Some, None}
use Rattle.std.specs.List.{range_with_len}
use Rattle.base_words.specs.declared.word.Word.{Word}
use Rattle.base_notes.specs.declared.notes.mark.Mark.{Mark}
use Rattle.base_notes.specs.Allowed.{Notes}
use Rattle.base_notes.specs.Marks.{edges_of}
use Rattle.machine_steps.specs.Counts.{is_inside}
use Rattle.flow_graph.specs.Accepted.{product_of}
use Rattle.flow_graph.specs.Executed.{AreAllNodes}
use Rattle.flow_graph.specs.Flow.{AreFound}
use Rattle.flow_graph.specs.Hops.{Node}
use Rattle.flow_loops.specs.Loops.{AreClosing}
use Rattle.check_findings.specs.Edges.{marked_edges, marks_of}
use Rattle.check_findings.specs.Finding.{Finding, inside}
use Rattle.check_findings.specs.FoundAt.{unfit, altering, too_many, unused, unused_calls}
use Rattle.check_findings.specs.Idle.{idle_words}
use Rattle.check_deck.specs.Insides.{AreLoops, HasSeveralWays, IsMarkRound, IsRound, IsLoopInside}
use Rattle.check_deck.specs.Those.{AreThose}

-- the first edge of the mark with this index
abbrev pub edge_at : List Mark → ℕ → ℕ × ℕ
edge_at marks index =
    elim (slice_get marks index) [
      | None ↦ (0, 0)
      | Some mark ↦ (mark.from.number, mark.onto.number)
    ]

-- all edges of that mark
abbrev pub edges_at : List Mark → ℕ → List (ℕ × ℕ)
edges_at marks index =
    elim (slice_get marks index) [
      | None ↦ []
      | Some mark ↦ edges_of mark
    ]

-- Of two marks, by their indices: the loop of one of the first one's edges stands inside that of
-- one of the second one's, and the first doesn't say that it stands inside the second, directly or
-- through others, though it doesn't stand inside several ways back of one loop. With more than 64
-- edges in all it isn't looked for: it would take too long.
pub record IsUnsaid (loads : ℕ → Option Word) (notes : Notes) (start : ℕ) (nodes : List Node)
    (pair : ℕ × ℕ) : Type 0 where
  pub few : length (marked_edges notes) ≤ 64
  pub different : pair.0 ≢ pair.1
  pub unsaid : is_inside notes.marks pair.0 pair.1 ≡ false
  pub one_way : ¬ HasSeveralWays
      (IsRound (IsLoopInside loads notes start nodes) (edges_at notes.marks pair.0))
      (marks_of notes)
  pub nested : IsMarkRound (IsLoopInside loads notes start nodes)
      (edges_at notes.marks pair.0) (edges_at notes.marks pair.1)

-- all pairs of marks' indices, by the first and then by the second
abbrev pub pairs_of : List Mark → List (ℕ × ℕ)
pairs_of marks =
    flat_map (λ inner. map (λ outer. (inner, outer)) (range_with_len 0 (length marks)))
    (range_with_len 0 (length marks))

-- that the loop of the first mark of a pair stands inside that of the second
abbrev pub inside_at : List Mark → ℕ × ℕ → Finding
inside_at marks pair = inside (edge_at marks pair.0) (edge_at marks pair.1)

-- The loose ends of a deck and its notes: the marks' edges, the lists and the calls that are
-- unused, the words that nothing comes to, and each pair of marks whose loops stand one inside the
-- other where the notes don't say so.
pub record AreLooseEnds (loads : ℕ → Option Word) (notes : Notes) (start : ℕ)
    (executed : List ℕ) (nodes : List Node) (loose : List Finding) : Type 0 where
  pub pairs : List (ℕ × ℕ)
  pub unsaid : AreThose (IsUnsaid loads notes start nodes) (pairs_of notes.marks) pairs
  pub all : loose ≡ unused loads notes executed nodes ++ unused_calls loads notes executed nodes
      ++ idle_words loads notes executed ++ map (inside_at notes.marks) pairs

-- These are all the findings, of a flow graph of 65,536 nodes at most: of each executed location,
-- in the order of discovery, what is wrong with it, then what each alters, then the size, the loops
-- of the edges that close them, and last the loose ends.
pub record AreFindings (loads : ℕ → Option Word) (notes : Notes) (start : ℕ)
    (findings : List Finding) : Type 0 where
  pub executed : List ℕ
  pub found : AreFound loads notes start executed
  pub nodes : List Node
  pub reached : AreAllNodes loads notes start nodes
  pub few : length nodes ≤ 65536
  pub edges : List (ℕ × ℕ)
  pub closing : AreClosing loads notes start edges
  pub loops : List Finding
  pub told : AreLoops loads notes start nodes edges loops
  pub loose : List Finding
  pub are_loose : AreLooseEnds loads notes start executed nodes loose
  pub all : findings ≡ flat_map (unfit loads notes) executed
      ++ flat_map (altering loads notes executed) executed
      ++ too_many notes (product_of executed notes.marks) ++ loops ++ loose
