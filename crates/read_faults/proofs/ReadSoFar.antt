-- All faults of a deck's text that isn't too long.
use Rattle.std.proofs.Common.{◌≡◌, List, [], ◌∷◌, ◌++◌, sym, subst, Bool, true, false, None, inr, inl, ℕ}
use Rattle.std.specs.Prelude.{IsTrue, ◌↔◌}
use Rattle.read_decks.specs.declared.deck.fault.DeckFault.{DeckFault}
use Rattle.read_decks.specs.declared.deck.fault.DeckFault.TheVariants.{NoStart}
use Rattle.read_decks.specs.DeckText.{IsTooLong}
use Rattle.read_decks.specs.Lines.{lines_of}
use Rattle.read_faults.specs.ByLine.{alone}
use Rattle.read_faults.specs.DeckFaults.{HaveDeckFaults, HasStart, AreDeckFaults}
use Rattle.read_faults.specs.declared.placed_fault.PlacedFault.{PlacedFault}

-- all faults of a text that isn't too long, where some line says START
pub deck_told : (text : List ℕ) (placed faults : List (PlacedFault DeckFault)) (starts : Bool) → ¬ IsTooLong text
    → HaveDeckFaults [] (lines_of text) placed → (IsTrue starts ↔ HasStart text) → starts ≡ true → faults ≡ placed
    → AreDeckFaults text faults
deck_told text placed faults starts short have means is_true same =
    inr (short, inl (means.0 is_true, subst (λ (fs : List (PlacedFault DeckFault)). HaveDeckFaults [] (lines_of text) fs) (sym same) have))

-- and where none does
pub startless_told : (text : List ℕ) (placed faults : List (PlacedFault DeckFault)) (starts : Bool) → ¬ IsTooLong text
    → HaveDeckFaults [] (lines_of text) placed → (IsTrue starts ↔ HasStart text) → starts ≡ false
    → faults ≡ placed ++ alone NoStart None ∷ [] → AreDeckFaults text faults
startless_told text placed faults starts short have means is_false same =
    inr (short, inr (λ has. let is_true : starts ≡ true = means.1 has in cc, (placed, have, same)))
