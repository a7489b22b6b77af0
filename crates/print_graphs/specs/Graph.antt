-- What is drawn of a deck's flow graph under its notes. `loads` says which word the deck loads into
-- a location.
use Rattle.std.specs.Prelude.{◌≡◌, ℕ, ◌==◌, ◌&&◌, ◌||◌, not, Bool, true, false, List, [], map}
use Rattle.std.specs.Prelude.{filter, flat_map, Option, None, Some, is_some}
use Rattle.std.specs.List.{list_all, list_any}
use Rattle.base_words.specs.declared.instruction.Instruction.{Instruction}
use Rattle.base_words.specs.declared.word.Word.{Word}
use Rattle.base_words.specs.Op.{op_of}
use Rattle.base_notes.specs.Allowed as lists
use Rattle.base_notes.specs.Allowed.{Notes, allowed}
use Rattle.machine_steps.specs.Ways.{Way, early, to, late}
use Rattle.machine_steps.specs.Writes.{writes}
use Rattle.base_graphs.specs.Search.{last_of}
use Rattle.flow_graph.specs.Executed.{each_place, successors, with_new, AreAllNodes}
use Rattle.flow_graph.specs.Hops as flow
use Rattle.flow_graph.specs.Hops.{hops}
use Rattle.flow_graph.specs.Taken.{is_among, is_taken}

-- what is drawn as a box: an executed word, and in an outline those behind it, to which it goes
-- straight on; then its next ones are those of the last word
pub record Node : Type 0 where
  pub place : ℕ
  pub further : List ℕ
  pub operations : List ℕ
  pub is_listed : Bool
  pub is_unfit : Bool
  pub may_stop : Bool
  pub nexts : List ℕ
  pub written : List ℕ

-- the operations that are allowed at a location, each once
abbrev pub operations : (ℕ → Option Word) → Notes → ℕ → List ℕ
operations loads notes place = with_new [] (map (λ ins. ins.op) (allowed loads notes place))

-- whether a location is loaded or listed
abbrev pub is_there : (ℕ → Option Word) → Notes → ℕ → Bool
is_there loads notes place = is_some (loads place) || lists.is_listed notes place

-- whether a location is neither, or has an operation outside the profile: then nothing has a bound
-- that comes there
abbrev pub is_unfit : (ℕ → Option Word) → Notes → ℕ → Bool
is_unfit loads notes place =
    not (is_there loads notes place
    && list_all (λ op. is_some (op_of op)) (operations loads notes place))

-- the last word of a box
abbrev pub last_word : Node → ℕ
last_word node = elim (last_of node.further) [ None ↦ node.place | Some word ↦ word ]

-- whether a way goes on nowhere
abbrev pub stops : Way → Bool
stops early = true
stops (to next) = false
stops late = true

-- whether some instruction of a location, with an operation of the profile, may stop the run
abbrev pub may_stop : (ℕ → Option Word) → Notes → ℕ → Bool
may_stop loads notes place = list_any (λ hop. stops hop.way) (hops loads notes place)

-- where the instructions of a location go on, each location once, of those to which a step may go
-- on: these are the nodes of the flow graph
abbrev pub nexts : (ℕ → Option Word) → Notes → List flow.Node → ℕ → List ℕ
nexts loads notes nodes place =
    filter (is_taken notes nodes place) (with_new [] (successors loads notes place))

-- the executed words that an instruction writes
abbrev pub executed_writes : List ℕ → Instruction → List ℕ
executed_writes executed ins = filter (is_among executed) (writes ins)

-- those that the instructions of a location write, each once
abbrev pub written : (ℕ → Option Word) → Notes → List ℕ → ℕ → List ℕ
written loads notes executed place =
    with_new [] (flat_map (executed_writes executed) (allowed loads notes place))

-- what is drawn of a location, where these are the nodes of the flow graph
abbrev pub node : (ℕ → Option Word) → Notes → List flow.Node → ℕ → Node
node loads notes nodes place = record {
  place = place;
  further = [];
  operations = operations loads notes place;
  is_listed = lists.is_listed notes place;
  is_unfit = is_unfit loads notes place;
  may_stop = may_stop loads notes place;
  nexts = nexts loads notes nodes place;
  written = written loads notes (each_place nodes) place;
}

-- This is what is drawn of a deck's flow graph: of each location of its nodes, in the order of
-- discovery.
pub record AreNodes (loads : ℕ → Option Word) (notes : Notes) (start : ℕ)
    (nodes : List Node) : Type 0 where
  pub reached : List flow.Node
  pub found : AreAllNodes loads notes start reached
  pub all : nodes ≡ map (node loads notes reached) (each_place reached)
