-- A ceiling, as it is held, when it is right, and why there is none.
use Rattle.std.specs.Prelude.{ℕ, ◌^◌, List}
use Rattle.read_decks.specs.declared.deck.Deck.{Deck}
use Rattle.read_decks.specs.InDeck.{loads_in, start_in}
use Rattle.base_notes.specs.declared.times.Times.{Times}
use Rattle.base_notes.specs.Allowed.{Notes}
use Rattle.flow_graph.specs.declared.refusal.Refusal.{Refusal}
use Rattle.flow_graph.specs.declared.refusal.Refusal.TheVariants.{TooLarge}
use Rattle.flow_graph.specs.Accepted.{IsTooLarge}
use Rattle.flow_graph.specs.SettingOf.{setting}
use Rattle.flow_acceptance.specs.Acceptance.{IsAdmissionRefusal}
use Rattle.ceiling_checked.specs.declared.answer.Ceiling.{Ceiling}
use Rattle.ceiling_checked.specs.Right.{IsCeiling, IsTooDear}

-- what a pass of each mark costs, in word times, by its index in the notes
abbrev pub prices_of : Ceiling → List ℕ
prices_of ceiling = ceiling.prices.items

-- what no run and no walk takes more than, in word times
abbrev pub total_of : Ceiling → ℕ
total_of ceiling = ceiling.total

-- a ceiling of a deck with its timing table and notes is right
abbrev pub IsCeilingOf : Deck → Times → Notes → Ceiling → Type 0
IsCeilingOf deck times notes ceiling =
    IsCeiling (setting deck times notes) (prices_of ceiling) (total_of ceiling)

-- The refusal is that of the deck with its notes, but for its size; or the deck is too large, with
-- this product, and what no ceiling is above (`IsTooDear`) is `least` or more; or there is no
-- memory.
abbrev pub IsRefusedFrom : ℕ → Deck → Times → Notes → Refusal → Type 0
IsRefusedFrom least deck times notes (TooLarge product) =
    IsTooLarge (loads_in deck) notes (start_in deck) product
    × IsTooDear (setting deck times notes) least
IsRefusedFrom least deck times notes refusal =
    IsAdmissionRefusal (loads_in deck) notes (start_in deck) refusal

abbrev pub IsCeilingRefusal : Deck → Times → Notes → Refusal → Type 0
IsCeilingRefusal = IsRefusedFrom (2 ^ 127)
