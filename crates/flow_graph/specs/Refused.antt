-- Why a flow isn't made: a location that discovery meets is neither loaded nor listed, or has an
-- operation outside the profile; or there are too many nodes.
use Rattle.std.specs.Prelude.{◌≡◌, ℕ, ◌<◌, List, Option, Some, slice_get}
use Rattle.base_words.specs.declared.word.Word.{Word}
use Rattle.base_notes.specs.Allowed.{Notes}
use Rattle.flow_graph.specs.declared.refusal.Refusal.{Refusal}
use Rattle.flow_graph.specs.declared.refusal.Refusal.TheVariants.{Memory, NotLoaded, NotInProfile}
use Rattle.flow_graph.specs.declared.refusal.Refusal.TheVariants.{TooMany}
use Rattle.flow_graph.specs.Accepted.{IsThere, IsFirstOutside, IsGood, IsNotLoaded, IsNotInProfile}
use Rattle.flow_graph.specs.Accepted.{IsTooMany, HasManyNodes}

-- what is wrong with a location, whatever comes before it
abbrev pub IsWrong : (ℕ → Option Word) → Notes → ℕ → Refusal → Type 0
IsWrong loads notes place (NotLoaded location) =
    (location.number ≡ place) × ¬ IsThere loads notes place
IsWrong loads notes place (NotInProfile location op) =
    (location.number ≡ place) × IsThere loads notes place × IsFirstOutside loads notes place op
IsWrong loads notes place _ = ⊥

-- what is wrong with the first of these locations that isn't good
abbrev pub IsFirstWrong : (ℕ → Option Word) → Notes → List ℕ → Refusal → Type 0
IsFirstWrong loads notes places refusal =
    (turn : ℕ) × (place : ℕ) × (slice_get places turn ≡ Some place)
    × ((k other : ℕ) → k < turn → slice_get places k ≡ Some other → IsGood loads notes other)
    × IsWrong loads notes place refusal

-- discovery meets more nodes than there may be; or there is no memory
abbrev pub IsDiscoveryRefusal : (ℕ → Option Word) → Notes → ℕ → Refusal → Type 0
IsDiscoveryRefusal loads notes start TooMany = HasManyNodes loads notes start
IsDiscoveryRefusal loads notes start Memory = Unit {0}
IsDiscoveryRefusal loads notes start _ = ⊥

-- the first location that discovery meets with something wrong, or that there are too many nodes;
-- or there is no memory
abbrev pub IsFlowRefusal : (ℕ → Option Word) → Notes → ℕ → Refusal → Type 0
IsFlowRefusal loads notes start (NotLoaded location) = IsNotLoaded loads notes start location.number
IsFlowRefusal loads notes start (NotInProfile location op) =
    IsNotInProfile loads notes start location.number op
IsFlowRefusal loads notes start TooMany = IsTooMany loads notes start
IsFlowRefusal loads notes start Memory = Unit {0}
IsFlowRefusal loads notes start _ = ⊥
