-- A text has one list of faults, a deck's and one of inputs.
use Rattle.std.proofs.Common.{◌≡◌, ℕ, List, [], ◌∷◌, ◌++◌, ap, sym, ◌∙◌, inl, inr, None}
use Rattle.read_decks.specs.declared.deck.fault.DeckFault.{DeckFault}
use Rattle.read_decks.specs.declared.deck.fault.DeckFault.TheVariants.{NoStart, TooLong}
use Rattle.read_decks.specs.DeckText as deck
use Rattle.read_decks.specs.Lines.{lines_of}
use Rattle.read_replays.specs.declared.fault.InputFault.{InputFault}
use Rattle.read_replays.specs.declared.fault.InputFault.TheVariants as input_faults
use Rattle.read_replays.specs.InputsText as input
use Rattle.read_faults.specs.ByLine.{alone}
use Rattle.read_faults.specs.DeckFaults as of_deck
use Rattle.read_faults.specs.DeckFaults.{HaveDeckFaults, AreDeckFaults, AreOfShort}
use Rattle.read_faults.specs.InputFaults as of_inputs
use Rattle.read_faults.specs.InputFaults.{HaveInputFaults, AreInputFaults}
use Rattle.read_faults.specs.declared.placed_fault.PlacedFault.{PlacedFault}
use Rattle.read_faults.proofs.ByLine.{past_is_long, past_limit_one, lines_one}
use Rattle.read_faults.proofs.OnePlaced.{deck_one, inputs_one}

-- lines of a deck have one list of faults
deck_lines_one : (texts : List (List ℕ)) (a b : List (PlacedFault DeckFault)) → HaveDeckFaults [] texts a
    → HaveDeckFaults [] texts b → a ≡ b
deck_lines_one texts a b p q =
    lines_one deck.comment deck.IsLine deck.AreSound deck.IsFaultOfLine of_deck.IsPlaced deck_one [] texts a b p q

-- and so have lines of inputs
input_lines_one : (texts : List (List ℕ)) (a b : List (PlacedFault InputFault)) → HaveInputFaults [] texts a
    → HaveInputFaults [] texts b → a ≡ b
input_lines_one texts a b p q =
    lines_one input.comment input.IsLine input.AreSound input.IsFaultOfLine of_inputs.IsPlaced inputs_one [] texts a b
    p q

short_one : (text : List ℕ) (a b : List (PlacedFault DeckFault)) → AreOfShort text a → AreOfShort text b → a ≡ b
short_one text a b (inl p) (inl q) = deck_lines_one (lines_of text) a b p.1 q.1
short_one text a b (inl p) (inr q) = absurd (q.0 p.0)
short_one text a b (inr p) (inl q) = absurd (p.0 q.0)
short_one text a b (inr p) (inr q) =
    let same : p.1.0 ≡ q.1.0 = deck_lines_one (lines_of text) p.1.0 q.1.0 p.1.1 q.1.1 in
    p.1.2 ∙ ap (λ (fs : List (PlacedFault DeckFault)). fs ++ alone NoStart None ∷ []) same ∙ sym q.1.2

-- a deck's text has one list of faults
pub faults_one : (text : List ℕ) (a b : List (PlacedFault DeckFault)) → AreDeckFaults text a → AreDeckFaults text b
    → a ≡ b
faults_one text a b (inl p) (inl q) =
    p.3
    ∙ ap (λ (placed : PlacedFault DeckFault). placed ∷ [])
    (past_limit_one TooLong 4000 100 text p.0 q.0 p.1 q.1 p.2 q.2)
    ∙ sym q.3
faults_one text a b (inl p) (inr q) = absurd (q.0 (past_is_long 4000 100 text p.0 p.1 p.2))
faults_one text a b (inr p) (inl q) = absurd (p.0 (past_is_long 4000 100 text q.0 q.1 q.2))
faults_one text a b (inr p) (inr q) = short_one text a b p.1 q.1

-- and so has a text of inputs
pub input_faults_one : (text : List ℕ) (a b : List (PlacedFault InputFault)) → AreInputFaults text a
    → AreInputFaults text b → a ≡ b
input_faults_one text a b (inl p) (inl q) =
    p.3
    ∙ ap (λ (placed : PlacedFault InputFault). placed ∷ [])
    (past_limit_one input_faults.TooLong 4000 200 text p.0 q.0 p.1 q.1 p.2 q.2)
    ∙ sym q.3
input_faults_one text a b (inl p) (inr q) = absurd (q.0 (past_is_long 4000 200 text p.0 p.1 p.2))
input_faults_one text a b (inr p) (inl q) = absurd (p.0 (past_is_long 4000 200 text q.0 q.1 q.2))
input_faults_one text a b (inr p) (inr q) = input_lines_one (lines_of text) a b p.1 q.1
