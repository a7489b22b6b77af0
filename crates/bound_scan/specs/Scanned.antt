-- What is known when some of the keys have been taken, the others not yet: the latest end at each
-- key, and of all.
use Rattle.std.specs.Prelude.{◌≡◌, ℕ, zero, suc, ◌+◌, ◌*◌, ◌<◌, ◌≤◌, nat_lt, if◌then◌else◌, List}
use Rattle.std.specs.Prelude.{length, slice_get, slice_index_or, slice_set, Option, Some, None}
use Rattle.std.specs.Prelude.{Contains, ◌⊎◌}
use Rattle.base_notes.specs.declared.notes.mark.Mark.{Mark}
use Rattle.machine_steps.specs.Timing.{longest_step}
use Rattle.machine_steps.specs.Counts.{after_pass, no_counts, AreWithin}
use Rattle.machine_steps.specs.Ways.{Way, early, to, late}
use Rattle.flow_graph.specs.Hops.{Hop, hops}
use Rattle.flow_graph.specs.Walk.{Setting}
use Rattle.bound_scan.specs.declared.latest.Latest.{Latest}
use Rattle.bound_scan.specs.declared.key_hop.KeyHop.{KeyHop}
use Rattle.bound_scan.specs.Keys.{keys_of, place_at, counts_at, IsKey}
use Rattle.flow_graph.specs.Longest.{longest}
use Rattle.bound_scan.specs.Table.{start_angle}

-- what is kept at a key
abbrev pub cell_at : List (Option Latest) → ℕ → Option Latest
cell_at cells key = slice_index_or cells key None

-- the later of what is kept and what comes
abbrev pub later : Latest → Latest → Latest
later old new = if nat_lt old.clock new.clock then new else old

-- and of nothing, what comes
abbrev pub later_than : Option Latest → Latest → Latest
later_than None new = new
later_than (Some old) new = later old new

-- the cells, where what comes is kept at a key if it is later
abbrev pub raised : List (Option Latest) → ℕ → Latest → List (Option Latest)
raised cells key new = slice_set cells key (Some (later_than (cell_at cells key) new))

-- where the start's counts and place are, something is kept that is no earlier than the start
pub record Begins (g : Setting) (order : List ℕ) (cells : List (Option Latest)) : Type 0 where
  pub key : ℕ
  pub is : IsKey g.notes.marks order key g.start (no_counts g.notes.marks)
  pub kept : Latest
  pub there : cell_at cells key ≡ Some kept
  pub after : start_angle g.start ≤ kept.clock

-- the latest end of a hop of a key whose search begins at this clock
abbrev pub end_from : Setting → List ℕ → ℕ → Hop → ℕ → ℕ
end_from g order key hop clock = longest g.times (place_at order key) hop.ins hop.way clock

-- a hop leads from one key to another, with the counts after it
pub record LeadsOn (g : Setting) (order : List ℕ) (from : ℕ) (hop : Hop) (key : ℕ) : Type 0 where
  pub onto : hop.way ≡ to (place_at order key)
  pub within : AreWithin g.notes.marks (counts_at g.notes.marks order key)
  pub passed : counts_at g.notes.marks order key
      ≡ after_pass g.notes.marks (place_at order from) (place_at order key)
      (counts_at g.notes.marks order from)
  pub below : key < keys_of g.notes.marks order
  pub later : from < key

-- the hop isn't barred by a full mark
abbrev pub IsOpen : Setting → List ℕ → ℕ → Way → Type 0
IsOpen g order key early = Unit {0}
IsOpen g order key (to next) =
    AreWithin g.notes.marks
    (after_pass g.notes.marks (place_at order key) next (counts_at g.notes.marks order key))
IsOpen g order key late = Unit {0}

-- the hop of a key that has this number
abbrev pub IsKeyHop : Setting → List ℕ → KeyHop → Hop → Type 0
IsKeyHop g order origin hop =
    slice_get (hops g.loads g.notes (place_at order origin.key)) origin.number ≡ Some hop

-- A clock is the latest end of this hop from what is kept at its key, which is among the first
-- keys.
pub record IsEndOf (g : Setting) (order : List ℕ) (first : ℕ) (cells : List (Option Latest))
    (origin : KeyHop) (clock : ℕ) : Type 0 where
  pub below : origin.key < first
  pub kept : Latest
  pub there : cell_at cells origin.key ≡ Some kept
  pub hop : Hop
  pub is : IsKeyHop g order origin hop
  pub end : clock ≡ end_from g order origin.key hop kept.clock

-- what is kept at a key comes from an earlier key, or is the start's
abbrev pub IsBackedBy : Setting → List ℕ → ℕ → List (Option Latest) → ℕ → ℕ → Option KeyHop → Type 0
IsBackedBy g order first cells key clock None =
    IsKey g.notes.marks order key g.start (no_counts g.notes.marks) × (clock ≡ start_angle g.start)
IsBackedBy g order first cells key clock (Some origin) =
    (end : IsEndOf g order first cells origin clock) × LeadsOn g order origin.key end.hop key

-- the latest of all is the end of some hop, or there is none
abbrev pub IsLastBy : Setting → List ℕ → ℕ → List (Option Latest) → ℕ → Option KeyHop → Type 0
IsLastBy g order first cells clock None = clock ≡ start_angle g.start
IsLastBy g order first cells clock (Some origin) =
    (end : IsEndOf g order first cells origin clock) × IsOpen g order origin.key end.hop.way

-- something no earlier than this clock is kept for a location and counts
pub record Arrives (marks : List Mark) (order : List ℕ) (cells : List (Option Latest)) (place : ℕ)
    (counts : List ℕ) (clock : ℕ) : Type 0 where
  pub key : ℕ
  pub is : IsKey marks order key place counts
  pub kept : Latest
  pub there : cell_at cells key ≡ Some kept
  pub after : clock ≤ kept.clock

-- the end of a hop was looked at
abbrev pub IsTakenBy : Setting → List ℕ → List (Option Latest) → ℕ → ℕ → ℕ → Way → Type 0
IsTakenBy g order cells last key end early = end ≤ last
IsTakenBy g order cells last key end (to next) =
    let passed = after_pass g.notes.marks (place_at order key) next
    (counts_at g.notes.marks order key) in
    AreWithin g.notes.marks passed → (end ≤ last)
    × Arrives g.notes.marks order cells next passed end
IsTakenBy g order cells last key end late = end ≤ last

abbrev pub IsTaken : Setting → List ℕ → List (Option Latest) → ℕ → ℕ → ℕ → Hop → Type 0
IsTaken g order cells last key clock hop =
    IsTakenBy g order cells last key (end_from g order key hop clock) hop.way

-- The keys below one have been taken; what is kept comes from keys below another.
pub record Scanned (g : Setting) (order : List ℕ) (taken from : ℕ) (cells : List (Option Latest))
    (last : Latest) : Type 0 where
  pub size : length cells ≡ keys_of g.notes.marks order
  pub begins : Begins g order cells
  pub backed : (key : ℕ) (kept : Latest) → cell_at cells key ≡ Some kept
      → IsBackedBy g order from cells key kept.clock kept.origin
  pub took : (key : ℕ) (kept : Latest) (hop : Hop) → key < taken → cell_at cells key ≡ Some kept
      → Contains (hops g.loads g.notes (place_at order key)) hop
      → IsTaken g order cells last.clock key kept.clock hop
  pub ends : IsLastBy g order from cells last.clock last.origin
  pub below : (key : ℕ) (kept : Latest) → cell_at cells key ≡ Some kept → kept.clock ≤ last.clock
  pub near : (key : ℕ) (kept : Latest) → cell_at cells key ≡ Some kept
      → kept.clock ≤ 49 + longest_step * key
  pub last_near : last.clock ≤ 49 + longest_step * from

-- A key is being taken, at this clock: some of its hops are left.
pub record Taking (g : Setting) (order : List ℕ) (key clock : ℕ) (left : List Hop)
    (cells : List (Option Latest)) (last : Latest) : Type 0 where
  pub before : Scanned g order key (suc key) cells last
  pub kept : Latest
  pub there : cell_at cells key ≡ Some kept
  pub now : kept.clock ≡ clock
  pub here : (hop : Hop) → Contains (hops g.loads g.notes (place_at order key)) hop
      → Contains left hop ⊎ IsTaken g order cells last.clock key clock hop

-- how many hops a key has that something is kept at
abbrev pub turns_at : Setting → List ℕ → ℕ → Option Latest → ℕ
turns_at g order key None = 0
turns_at g order key (Some kept) = length (hops g.loads g.notes (place_at order key))

-- how many hops the first keys have that something is kept at
abbrev pub turns_below : Setting → List ℕ → List (Option Latest) → ℕ → ℕ
turns_below g order cells zero = 0
turns_below g order cells (suc key) =
    turns_below g order cells key + turns_at g order key (cell_at cells key)
