-- Why a deck with its notes isn't accepted.
use Rattle.std.specs.Prelude.{◌≡◌, ℕ, [], map, Option}
use Rattle.base_words.specs.declared.word.Word.{Word}
use Rattle.base_notes.specs.Allowed.{Notes}
use Rattle.flow_graph.specs.declared.refusal.Refusal.{Refusal}
use Rattle.flow_graph.specs.declared.refusal.Refusal.TheVariants.{Memory, NotLoaded, NotInProfile}
use Rattle.flow_graph.specs.declared.refusal.Refusal.TheVariants.{TooMany, Alters, Unbounded}
use Rattle.flow_graph.specs.declared.refusal.Refusal.TheVariants.{TooLarge, HasCalls}
use Rattle.flow_graph.specs.Accepted.{IsNotLoaded, IsNotInProfile, IsTooMany, IsAltered, IsFreeRound}
use Rattle.flow_graph.specs.Accepted.{IsTooLarge, IsUnbounded}

-- the refusal is that of the deck with its notes, or there is no memory
abbrev pub IsRefusal : (ℕ → Option Word) → Notes → ℕ → Refusal → Type 0
IsRefusal loads notes start (NotLoaded location) = IsNotLoaded loads notes start location.number
IsRefusal loads notes start (NotInProfile location op) =
    IsNotInProfile loads notes start location.number op
IsRefusal loads notes start TooMany = IsTooMany loads notes start
IsRefusal loads notes start (Alters writer word) =
    IsAltered loads notes start writer.number word.number
IsRefusal loads notes start (TooLarge product) = IsTooLarge loads notes start product
IsRefusal loads notes start (Unbounded cycle) =
    IsUnbounded loads notes start (map (λ location. location.number) cycle.locations.items)
IsRefusal loads notes start HasCalls = ¬ (notes.calls ≡ [])
IsRefusal loads notes start Memory = Unit {0}

-- the refusal is that of the deck with its notes, where the notes may have calls, and the size
-- isn't looked at; or there is no memory
abbrev pub IsAdmissionRefusal : (ℕ → Option Word) → Notes → ℕ → Refusal → Type 0
IsAdmissionRefusal loads notes start (NotLoaded location) =
    IsNotLoaded loads notes start location.number
IsAdmissionRefusal loads notes start (NotInProfile location op) =
    IsNotInProfile loads notes start location.number op
IsAdmissionRefusal loads notes start TooMany = IsTooMany loads notes start
IsAdmissionRefusal loads notes start (Alters writer word) =
    IsAltered loads notes start writer.number word.number
IsAdmissionRefusal loads notes start (TooLarge product) = ⊥
IsAdmissionRefusal loads notes start (Unbounded cycle) =
    IsFreeRound loads notes start (map (λ location. location.number) cycle.locations.items)
IsAdmissionRefusal loads notes start HasCalls = ⊥
IsAdmissionRefusal loads notes start Memory = Unit {0}
