-- A depth-first search that arranges a graph's nodes: the path, and behind it the finished nodes,
-- the last first, are the order so far.
-- `row` says which nodes the edges of a node lead to.
use Rattle.std.specs.Prelude.{◌≡◌, ℕ, ◌+◌, ◌<◌, Bool, true, false, List, ◌++◌, length, reverse}
use Rattle.std.specs.Prelude.{slice_get, slice_index, sum_by, Some, Contains}
use Rattle.base_graphs.specs.Graph.{AreDifferent}
use Rattle.base_graphs.specs.Search.{AreLinked}
use Rattle.flow_loops.specs.declared.arrangement.Arrangement.{Arrangement}
use Rattle.flow_loops.specs.Arranged.{IsPlaced}
use Rattle.flow_loops.specs.Flags.{AreFlags}

-- What is so of a search: the nodes of the order are met, and so are `passed` nodes of each row;
-- the edges of finished nodes are placed.
pub record IsArranging (row : ℕ → List ℕ) (size : ℕ) (met : List Bool)
    (passed path finished order : List ℕ) : Type 0 where
  pub met_long : length met ≡ size
  pub passed_long : length passed ≡ size
  pub flags : AreFlags met order
  pub behind : (node k next : ℕ) → k < slice_index passed node → slice_get (row node) k ≡ Some next
      → slice_get met next ≡ Some true
  pub linked : AreLinked row path
  pub distinct : AreDifferent order
  pub placed : (node next : ℕ) → Contains finished node → Contains (row node) next
      → IsPlaced row order node next

abbrev pub Arranges : (ℕ → List ℕ) → ℕ → Arrangement → Type 0
Arranges row size search = IsArranging row size search.met.items search.passed.items
    search.path.items search.finished.items (search.path.items ++ reverse search.finished.items)

-- a node that isn't met is still to be entered and left
abbrev pub steps_left : Bool → ℕ
steps_left true = 0
steps_left false = 2

-- the steps that a search still takes: it leaves each node of the path, too
abbrev pub work_left : Arrangement → ℕ
work_left search = sum_by steps_left search.met.items + length search.path.items

-- nodes that were met before are met
abbrev pub ForgetsNone : List Bool → List Bool → Type 0
ForgetsNone before after = (node : ℕ) → slice_get before node ≡ Some true
    → slice_get after node ≡ Some true
