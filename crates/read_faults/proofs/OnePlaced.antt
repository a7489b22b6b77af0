-- A line of a deck or of inputs has one fault, and that fault one place.
use Rattle.std.proofs.Common.{◌≡◌, ℕ, ◌+◌, ◌<◌, List, length, ap, sym, ◌∙◌, subst, arith}
use Rattle.std.proofs.Common.{inl, inr, Option, Some}
use Rattle.std.proofs.lemmas.Bool.{cases_lt}
use Rattle.read_decks.proofs.FaultLaws.{deck_faults}
use Rattle.read_decks.specs.DeckText as deck
use Rattle.read_decks.specs.EarlierLines.{earlier_for}
use Rattle.read_decks.specs.declared.deck.fault.DeckFault.{DeckFault}
use Rattle.read_replays.proofs.Refusals.{inputs_faults}
use Rattle.read_replays.specs.declared.fault.InputFault.{InputFault}
use Rattle.read_replays.specs.declared.fault.InputFault.TheVariants as faults
use Rattle.read_replays.specs.InputsText as input
use Rattle.read_replays.specs.InputsText.{Repeats}
use Rattle.read_faults.specs.DeckFaults as of_deck
use Rattle.read_faults.specs.InputFaults as of_inputs
use Rattle.read_faults.specs.InputFaults.{IsFirstRepeated, IsEarlier}
use Rattle.read_faults.specs.declared.placed_fault.PlacedFault.{PlacedFault}
use Rattle.read_faults.proofs.ByLine.{HasOnePlaced, same_placed}

-- a line of a deck has one placed fault
deck_placed_one : (before : List deck.Line) (text : List ℕ) (a b : PlacedFault DeckFault)
    → of_deck.IsPlaced before text a → of_deck.IsPlaced before text b → a ≡ b
deck_placed_one before text a b p q =
    let fault : a.fault ≡ b.fault =
    deck_faults.one_fault before (length before + 1) text a.fault b.fault p.is q.is in
    same_placed a b fault (p.line ∙ sym q.line) (p.earlier ∙ ap (earlier_for before) fault ∙ sym q.earlier)
    (p.slip ∙ ap (of_deck.slip_for text) fault ∙ sym q.slip)

pub deck_one : HasOnePlaced deck.IsLine deck.AreSound deck.IsFaultOfLine of_deck.IsPlaced
deck_one = record {
  laws = deck_faults;
  is_fault = λ before text placed p. p.is;
  one_placed = deck_placed_one;
  nothing_sound = record { on_drum = tt; once = tt; one_start = omega arith };
}

-- what is said again stands first at no later place
not_later : (before : List input.Line) (line : input.Line) (i j : ℕ) → IsFirstRepeated before line i
    → IsFirstRepeated before line j → i < j → ⊥
not_later before line i j p q less = q.first i p.earlier less p.is p.repeated

-- so it stands first at one place
first_repeated_one : (before : List input.Line) (line : input.Line) (i j : ℕ) → IsFirstRepeated before line i
    → IsFirstRepeated before line j → i ≡ j
first_repeated_one before line i j p q = elim (cases_lt i j) [
  | inl less ↦ absurd (not_later before line i j p q less)
  | inr upto ↦ elim (cases_lt j i) [
    | inl less ↦ absurd (not_later before line j i q p less)
    | inr upto' ↦ omega (arith, upto, upto')
  ]
]

-- a fault points at one earlier line
earlier_one : (before : List input.Line) (text : List ℕ) (fault : InputFault) (a b : Option ℕ)
    → IsEarlier before text fault a → IsEarlier before text fault b → a ≡ b
earlier_one before text (faults.Repeated n) a b p q =
    let line : p.0 ≡ q.0 = inputs_faults.one_line text p.0 q.0 p.1 q.1 in
    let first : IsFirstRepeated before q.0 p.2.0 =
    subst (λ (l : input.Line). IsFirstRepeated before l p.2.0) line p.2.1 in
    let index : p.2.0 ≡ q.2.0 = first_repeated_one before q.0 p.2.0 q.2.0 first q.2.1 in
    p.2.2 ∙ ap (λ (n : ℕ). Some (n + 1)) index ∙ sym q.2.2
earlier_one before text (faults.Line n) a b p q = p ∙ sym q
earlier_one before text (faults.PastDrum n) a b p q = p ∙ sym q
earlier_one before text faults.Read a b p q = p ∙ sym q
earlier_one before text faults.Memory a b p q = p ∙ sym q
earlier_one before text faults.TooLong a b p q = p ∙ sym q

-- a line of inputs has one placed fault
input_placed_one : (before : List input.Line) (text : List ℕ) (a b : PlacedFault InputFault)
    → of_inputs.IsPlaced before text a → of_inputs.IsPlaced before text b → a ≡ b
input_placed_one before text a b p q =
    let fault : a.fault ≡ b.fault =
    inputs_faults.one_fault before (length before + 1) text a.fault b.fault p.is q.is in
    let earlier : IsEarlier before text b.fault a.earlier =
    subst (λ (f : InputFault). IsEarlier before text f a.earlier) fault p.earlier in
    same_placed a b fault (p.line ∙ sym q.line) (earlier_one before text b.fault a.earlier b.earlier earlier q.earlier)
    (p.slip ∙ ap (of_inputs.slip_for text) fault ∙ sym q.slip)

pub inputs_one : HasOnePlaced input.IsLine input.AreSound input.IsFaultOfLine of_inputs.IsPlaced
inputs_one = record {
  laws = inputs_faults;
  is_fault = λ before text placed p. p.is;
  one_placed = input_placed_one;
  nothing_sound = tt;
}
