-- The hops of a walk as they are handed out: without their units and their waits.
use Rattle.std.specs.Prelude.{◌≡◌, ℕ, ◌+◌, ◌≤◌, List, [], ◌∷◌, map}
use Rattle.base_words.specs.declared.instruction.Instruction.{Instruction}
use Rattle.base_notes.specs.declared.notes.mark.Mark.{Mark}
use Rattle.machine_steps.specs.Ways.{Way}
use Rattle.machine_steps.specs.WaysLeft.{seen_way}
use Rattle.flow_graph.specs.Longest.{longest}
use Rattle.flow_graph.specs.Walk.{Setting, Taken, IsWalk, time_of, passes_by}
use Rattle.flow_walks.specs.declared.visit.Visit.{Visit}

-- a hop of a walk without its units and its wait
pub record Visited : Type 0 where
  pub place : ℕ
  pub ins : Instruction
  pub way : Way
  pub begun : ℕ
  pub ended : ℕ

abbrev pub visited : Taken → Visited
visited hop =
    record { place = hop.place; ins = hop.ins; way = hop.way; begun = hop.begun; ended = hop.ended }

-- a visit as the code has it
abbrev pub seen_visit : Visit → Visited
seen_visit visit = record {
  place = visit.place.number;
  ins = visit.instruction;
  way = seen_way visit.way;
  begun = visit.begun;
  ended = visit.begun + visit.took;
}

-- These are the hops of a walk from this angle that takes `used` word times.
pub record IsWalkOf (g : Setting) (angle used : ℕ) (visits : List Visited) : Type 0 where
  pub hops : List Taken
  pub walk : IsWalk g angle hops
  pub time : time_of hops ≡ used
  pub same : map visited hops ≡ visits

-- Visits follow one another in time, from one time to another: each begins when the one before has
-- ended.
abbrev pub AreInTime : ℕ → List Visited → ℕ → Type 0
AreInTime time [] used = time ≡ used
AreInTime time (visit ∷ visits) used =
    (visit.begun ≡ time) × (time ≤ visit.ended) × AreInTime visit.ended visits used

-- A hop takes as long as it can: with the most units, and the longest wait.
abbrev pub IsLongest : Setting → ℕ → Visited → Type 0
IsLongest g angle hop =
    angle + hop.ended ≡ longest g.times hop.place hop.ins hop.way (angle + hop.begun)

-- so does each
abbrev pub AreLongest : Setting → ℕ → List Visited → Type 0
AreLongest g angle [] = Unit {0}
AreLongest g angle (visit ∷ visits) = IsLongest g angle visit × AreLongest g angle visits

-- how often hops pass a mark, whatever it stands inside of
abbrev pub passes_in : Mark → List Visited → ℕ
passes_in mark [] = 0
passes_in mark (visit ∷ visits) = passes_by mark visit.place visit.way + passes_in mark visits
