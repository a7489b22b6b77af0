-- The table of worst times.
use Rattle.std.specs.Prelude.{◌≡◌, ℕ, ◌+◌, ◌*◌, ◌/◌, ◌%◌, ◌≤◌, List, [], ◌∷◌, Contains}
use Rattle.base_notes.specs.declared.notes.mark.Mark.{Mark}
use Rattle.machine_steps.specs.Counts.{after_pass, no_counts}
use Rattle.machine_steps.specs.Ways.{Way, early, to, late}
use Rattle.flow_graph.specs.Walk.{Setting, Taken, IsWalk}

-- counts as one number: the first mark's, and in units of its `most + 1` the number of the others'
abbrev pub number_of : List Mark → List ℕ → ℕ
number_of [] counts = 0
number_of (mark ∷ marks) [] = 0
number_of (mark ∷ marks) (count ∷ counts) = count + (mark.most + 1) * number_of marks counts

-- the counts that a number stands for
abbrev pub counts_for : List Mark → ℕ → List ℕ
counts_for [] number = []
counts_for (mark ∷ marks) number =
    number % (mark.most + 1) ∷ counts_for marks (number / (mark.most + 1))

-- a hop goes on to a location with this property
abbrev pub GoesOn : Way → (ℕ → Type 0) → Type 0
GoesOn early Right = ⊥
GoesOn (to next) Right = Right next
GoesOn late Right = ⊥

-- hops from a place, a time and counts on arrive at another place, at its time and with its counts
abbrev pub Arrive : Setting → ℕ → ℕ → List ℕ → List Taken → ℕ → ℕ → List ℕ → Type 0
Arrive g place time counts [] place' time' counts' =
    (place ≡ place') × (time ≡ time') × (counts ≡ counts')
Arrive g place time counts (hop ∷ hops) place' time' counts' =
    GoesOn hop.way (λ next.
    Arrive g next hop.ended (after_pass g.notes.marks place next counts) hops place' time'
    counts')

-- A walk, empty or ending with a To, arrives at a place at a time with the counts of this number.
pub record IsReached (g : Setting) (angle place counts time : ℕ) : Type 0 where
  pub hops : List Taken
  pub walk : IsWalk g angle hops
  pub passes : List ℕ
  pub number : number_of g.notes.marks passes ≡ counts
  pub arrives : Arrive g g.start 0 (no_counts g.notes.marks) hops place time passes

-- the one start angle of the table: one past the angle of the deck's start
abbrev pub start_angle : ℕ → ℕ
start_angle start = (start + 1) % 50

-- an entry of the table
pub record Row : Type 0 where
  pub place : ℕ
  pub angle : ℕ
  pub counts : ℕ
  pub time : ℕ

-- The entry is right: some walk from the table's start angle arrives at this place with these
-- counts, at this time and angle, and no walk from any angle arrives there with them later.
pub record IsRow (g : Setting) (row : Row) : Type 0 where
  pub reached : IsReached g (start_angle g.start) row.place row.counts row.time
  pub most : (angle time : ℕ) → IsReached g angle row.place row.counts time → time ≤ row.time
  pub angled : row.angle ≡ (g.start + 1 + row.time) % 50

-- no two entries for one place and counts
abbrev pub AreApart : List Row → Type 0
AreApart [] = Unit {0}
AreApart (row ∷ rows) =
    ((other : Row) → Contains rows other → row.place ≡ other.place → row.counts ≡ other.counts → ⊥)
    × AreApart rows

-- The table: exactly one entry for each reached place and counts.
pub record IsTable (g : Setting) (rows : List Row) : Type 0 where
  pub right : (row : Row) → Contains rows row → IsRow g row
  pub all : (angle place counts time : ℕ) → IsReached g angle place counts time → (row : Row)
      × Contains rows row × (row.place ≡ place) × (row.counts ≡ counts)
  pub apart : AreApart rows
