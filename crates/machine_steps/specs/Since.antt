-- What the counts of marks are: the passes of a mark are counted since the last pass of a mark that
-- it stands inside of, and from the beginning where there is none yet.
use Rattle.std.specs.Prelude.{◌≡◌, ℕ, nat_eq, List, [], ◌∷◌, ◌++◌, take, slice_get}
use Rattle.std.specs.Prelude.{Some, ◌⊎◌, All, count_by, flat_map}
use Rattle.std.specs.Option.{option_eq}
use Rattle.base_notes.specs.declared.notes.mark.Mark.{Mark}
use Rattle.base_notes.specs.Allowed.{Notes}
use Rattle.base_notes.specs.Marks.{mark_on}
use Rattle.machine_steps.specs.Counts.{outer_of, after_pass, no_counts}
use Rattle.machine_steps.specs.Run.{Stride}
use Rattle.machine_steps.specs.Step.{Stepped, on, stopped}

-- an edge that was taken: from which location onto which
pub record Edge : Type 0 where
  pub from : ℕ
  pub onto : ℕ

-- the counts after edges were taken, in their order
abbrev pub counts_along : List Mark → List ℕ → List Edge → List ℕ
counts_along marks counts [] = counts
counts_along marks counts (edge ∷ edges) =
    counts_along marks (after_pass marks edge.from edge.onto counts) edges

-- the edge passes the mark with this index
abbrev pub Passes : List Mark → ℕ → Edge → Type 0
Passes marks index edge = mark_on marks edge.from edge.onto ≡ Some index

-- how many of these edges pass the mark with this index
abbrev pub passes_of : List Mark → ℕ → List Edge → ℕ
passes_of marks index edges =
    count_by (λ edge. option_eq nat_eq (mark_on marks edge.from edge.onto) (Some index)) edges

-- the mark with the one index stands inside of the first of these, each of them inside of the next,
-- and the last inside of the mark with the other index; without any, the one inside of the other
abbrev pub LeadsOut : List Mark → ℕ → List ℕ → ℕ → Type 0
LeadsOut marks inner [] outer = outer_of (slice_get marks inner) ≡ Some outer
LeadsOut marks inner (next ∷ nexts) outer =
    (outer_of (slice_get marks inner) ≡ Some next) × LeadsOut marks next nexts outer

-- the mark with the one index stands inside of the one with the other index, directly or through
-- others
abbrev pub StandsInside : List Mark → ℕ → ℕ → Type 0
StandsInside marks inner outer = (through : List ℕ) × LeadsOut marks inner through outer

-- the edge passes a mark that the one with this index stands inside of
abbrev pub Restarts : List Mark → ℕ → Edge → Type 0
Restarts marks index edge =
    (outer : ℕ) × Passes marks outer edge × StandsInside marks index outer

-- there is a last one of these edges, and it is such a one
abbrev pub EndsIn : (Edge → Type 0) → List Edge → Type 0
EndsIn Such edges =
    (earlier : List Edge) × (last : Edge) × (edges ≡ earlier ++ last ∷ []) × Such last

-- How often the mark with this index was passed: since the last of these edges that restarts its
-- count, or since the beginning where none does.
pub record IsCountSince (marks : List Mark) (index : ℕ) (edges : List Edge)
    (count : ℕ) : Type 0 where
  pub before : List Edge
  pub since : List Edge
  pub split : edges ≡ before ++ since
  pub begins : (before ≡ []) ⊎ EndsIn (Restarts marks index) before
  pub unbroken : All (λ edge. ¬ Restarts marks index edge) since
  pub counted : count ≡ passes_of marks index since

-- the edge that a step from a location takes, as a list of one, or of none where the step stops
abbrev pub edge_by : ℕ → Stepped → List Edge
edge_by from (on next) = record { from = from; onto = next.sought } ∷ []
edge_by from (stopped held because moment) = []

-- the edges that strides take, in their order
abbrev pub edges_of : List Stride → List Edge
edges_of strides = flat_map (λ stride. edge_by stride.origin.sought stride.outcome) strides

-- the counts when the stride with this index begins
abbrev pub counts_before : Notes → List Stride → ℕ → List ℕ
counts_before notes strides index =
    counts_along notes.marks (no_counts notes.marks) (edges_of (take index strides))
