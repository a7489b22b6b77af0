-- A depth-first search of a graph: a path of nodes, whose edges to come are open, and the nodes
-- that are finished.
-- `row` says which nodes the edges of a node lead to.
use Rattle.std.specs.Prelude.{◌≡◌, ℕ, ◌-◌, ◌<◌, List, [], ◌∷◌, length, reverse, slice_get}
use Rattle.std.specs.Prelude.{slice_index, sum_by, Option, Some, Contains}
use Rattle.base_graphs.specs.declared.progress.Progress.{Progress}
use Rattle.base_graphs.specs.declared.progress.Progress.TheVariants.{New, Open, Finished}
use Rattle.base_graphs.specs.declared.search.Search.{Search}
use Rattle.base_graphs.specs.Graph.{AreDifferent, GoOn, Leads}

-- edges lead from a node along these
abbrev pub LeadAlong : (ℕ → List ℕ) → ℕ → List ℕ → Type 0
LeadAlong row node [] = Unit {0}
LeadAlong row node (next ∷ nexts) = Contains (row node) next × LeadAlong row next nexts

-- edges lead from each to the next
abbrev pub AreLinked : (ℕ → List ℕ) → List ℕ → Type 0
AreLinked row [] = Unit {0}
AreLinked row (node ∷ nodes) = LeadAlong row node nodes

-- the last member, if there is one
abbrev pub last_of : List ℕ → Option ℕ
last_of nodes = slice_get nodes (length nodes - 1)

-- What is so of a search: `passed` nodes of each row are finished, and all edges of a finished node
-- lead to nodes that were finished before it.
pub record IsSearch (row : ℕ → List ℕ) (size : ℕ) (states : List Progress)
    (passed path finished : List ℕ) : Type 0 where
  pub states_long : length states ≡ size
  pub passed_long : length passed ≡ size
  pub open_on_path : (node : ℕ) → slice_get states node ≡ Some Open → Contains path node
  pub path_open : (node : ℕ) → Contains path node → slice_get states node ≡ Some Open
  pub finished_there : (node : ℕ) → slice_get states node ≡ Some Finished → Contains finished node
  pub there_finished : (node : ℕ) → Contains finished node → slice_get states node ≡ Some Finished
  pub behind : (node k next : ℕ) → k < slice_index passed node → slice_get (row node) k ≡ Some next
      → slice_get states next ≡ Some Finished
  pub linked : AreLinked row path
  pub path_distinct : AreDifferent path
  pub finished_distinct : AreDifferent finished
  pub onward : GoOn (Leads row) (reverse finished)

abbrev pub Searches : (ℕ → List ℕ) → ℕ → Search → Type 0
Searches row size search = IsSearch row size search.states.items search.passed.items
    search.path.items search.finished.items

-- the steps that a node's search still takes
abbrev pub steps_left : Progress → ℕ
steps_left New = 2
steps_left Open = 1
steps_left Finished = 0

-- the steps that a search still takes
abbrev pub work_left : Search → ℕ
work_left search = sum_by steps_left search.states.items

-- nodes that a search had met before are met
abbrev pub ForgetsNone : List Progress → List Progress → Type 0
ForgetsNone before after = (node : ℕ) → slice_get after node ≡ Some New
    → slice_get before node ≡ Some New
