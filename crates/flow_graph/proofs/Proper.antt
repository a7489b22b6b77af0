-- What the walks of a deck under sound notes are in is right.
use Rattle.std.proofs.Common.{◌≡◌, ℕ, ◌<◌, Option, Some, None, refl, arith}
use Rattle.std.specs.Prelude.{slice_get}
use Rattle.std.specs.Option.{option_map}
use Rattle.std.proofs.lemmas.Option.{slice_get_within}
use Rattle.read_decks.specs.declared.deck.Deck.{Deck}
use Rattle.read_decks.specs.declared.deck.Given.{Given}
use Rattle.base_words.specs.declared.word.Word.{Word}
use Rattle.read_decks.specs.InDeck.{found_in, loads_in}
use Rattle.base_notes.specs.declared.times.Times.{Times}
use Rattle.base_notes.specs.Allowed.{Notes, AreSound}
use Rattle.flow_graph.specs.SettingOf.{setting}
use Rattle.flow_graph.specs.Walk.{IsProper}

-- A deck loads drum words alone.
pub loaded_on_drum : (deck : Deck) (place : ℕ) (w : Word) → loads_in deck place ≡ Some w → place < 2000
loaded_on_drum deck place w loads = go (slice_get deck.image.items place) refl loads
  where
    go : (one : Option (Option Given)) → slice_get deck.image.items place ≡ one
        → option_map (λ given. given.word) (found_in one) ≡ Some w → place < 2000
    go None at none = absurd (cc)
    go (Some one) at some = omega (arith, slice_get_within deck.image.items place one at, deck.image.ok.0, deck.whole)

-- What the walks of a deck under sound notes are in is right.
pub is_proper : (deck : Deck) (times : Times) (notes : Notes) → AreSound notes → IsProper (setting deck times notes)
is_proper deck times notes sound = record { on_drum = loaded_on_drum deck; starts = deck.on_drum; notes = sound }
