-- The first of a text's faults is the one that a reader refuses it for.
use Rattle.std.proofs.Common.{◌≡◌, ℕ, zero, suc, ◌≤◌, List, [], ◌∷◌, ◌++◌, length, refl, sym, subst}
use Rattle.std.proofs.Common.{arith, inl, inr, None}
use Rattle.std.specs.Prelude.{Any}
use Rattle.read_decks.specs.declared.deck.fault.DeckFault.{DeckFault}
use Rattle.read_decks.specs.declared.deck.fault.DeckFault.TheVariants.{NoStart, TooLong}
use Rattle.read_decks.specs.DeckText.{Line, comment, start, card, IsLine, Say, AreSound, starts, IsTooLong, IsDeck}
use Rattle.read_decks.specs.DeckText.{IsFaultOfLine, IsRefused, LacksStart}
use Rattle.read_decks.specs.Lines.{lines_of}
use Rattle.read_decks.proofs.DeckLaws.{line_one}
use Rattle.read_decks.proofs.Progress.{first_refused}
use Rattle.read_faults.specs.ByLine.{alone}
use Rattle.read_faults.specs.DeckFaults.{IsPlaced, HaveDeckFaults, SaysStart, HasStart, AreDeckFaults}
use Rattle.read_faults.specs.declared.placed_fault.PlacedFault.{PlacedFault}
use Rattle.read_faults.proofs.ByLine.{past_is_long, first_of_lines, AllSound, none_of_lines}
use Rattle.read_faults.proofs.OnePlaced.{deck_one}

-- what sound lines of a deck say
abbrev AllOfDeck : List (List ℕ) → Type 0
AllOfDeck texts = AllSound IsLine AreSound texts

nothing_told : (text : List ℕ) → HaveDeckFaults [] (lines_of text) [] → AllOfDeck (lines_of text)
nothing_told text have = none_of_lines comment IsLine AreSound IsPlaced deck_one.nothing_sound text have

-- lines of which a text says START have a start
has_starts : (texts : List (List ℕ)) (lines : List Line) → Say texts lines → Any SaysStart texts
    → 1 ≤ length (starts lines)
has_starts [] lines said (k, text, within, here, is) = absurd (omega (arith, within))
has_starts (text ∷ texts) [] said some = absurd said
has_starts (text ∷ texts) (line ∷ lines) said (zero, one, within, here, is) =
    let says : IsLine text (start is.0) =
    subst (λ (bytes : List ℕ). IsLine bytes (start is.0)) (sym here) is.1 in
    let same : line ≡ start is.0 = line_one text line (start is.0) said.0 says in
    subst (λ (l : Line). 1 ≤ length (starts (l ∷ lines))) (sym same) (omega arith)
has_starts (text ∷ texts) (line ∷ lines) said (suc k, one, within, here, is) =
    more line (has_starts texts lines said.1 (k, one, omega (arith, within), here, is))
  where
    more : (line : Line) → 1 ≤ length (starts lines) → 1 ≤ length (starts (line ∷ lines))
    more comment few = few
    more (start n) few = omega arith
    more (card n words) few = few

-- and lines of which none does have none
has_no_starts : (texts : List (List ℕ)) (lines : List Line) → Say texts lines → ¬ Any SaysStart texts
    → starts lines ≡ []
has_no_starts [] [] said none = refl
has_no_starts [] (line ∷ lines) said none = absurd said
has_no_starts (text ∷ texts) [] said none = absurd said
has_no_starts (text ∷ texts) (line ∷ lines) said none =
    go line said.0 (has_no_starts texts lines said.1
    (λ some. none (suc some.0, some.1, omega (arith, some.2), some.3, some.4)))
  where
    go : (line : Line) → IsLine text line → starts lines ≡ [] → starts (line ∷ lines) ≡ []
    go comment is rest = rest
    go (start n) is rest = absurd (none (0, text, omega arith, refl, (n, is)))
    go (card n words) is rest = rest

lacks : (text : List ℕ) → AllOfDeck (lines_of text) → ¬ HasStart text → LacksStart text
lacks text all none = record {
  lines = all.lines;
  said = all.said;
  sound = all.sound;
  none = has_no_starts (lines_of text) all.lines all.said none;
}

-- the first of the lines' faults, where there is one
line_refused : (text : List ℕ) (placed : PlacedFault DeckFault) (others : List (PlacedFault DeckFault)) → ¬ IsTooLong text
    → HaveDeckFaults [] (lines_of text) (placed ∷ others) → IsRefused text placed.fault
line_refused text placed others short have = first_refused text placed.fault short
    (first_of_lines comment IsLine AreSound IsFaultOfLine IsPlaced deck_one text placed others have)

-- the first of the lines' faults, or of none NoStart
first_or_no_start : (text : List ℕ) (of_lines : List (PlacedFault DeckFault)) (placed : PlacedFault DeckFault) (others : List (PlacedFault DeckFault))
    → ¬ IsTooLong text → ¬ HasStart text → HaveDeckFaults [] (lines_of text) of_lines
    → placed ∷ others ≡ of_lines ++ alone NoStart None ∷ [] → IsRefused text placed.fault
first_or_no_start text [] placed others short none have are =
    let same : placed ≡ alone NoStart None = cc (are) in
    subst (λ (p : PlacedFault DeckFault). IsRefused text p.fault) (sym same)
    (short, lacks text (nothing_told text have) none)
first_or_no_start text (first ∷ further) placed others short none have are =
    let same : placed ≡ first = cc (are) in
    subst (λ (p : PlacedFault DeckFault). IsRefused text p.fault) (sym same) (line_refused text first further short have)

pub first_is_refused : (text : List ℕ) (placed : PlacedFault DeckFault) (others : List (PlacedFault DeckFault))
    → AreDeckFaults text (placed ∷ others) → IsRefused text placed.fault
first_is_refused text placed others (inl (number, line, past, are)) =
    let same : placed.fault ≡ TooLong = cc (are) in
    subst (IsRefused text) (sym same) (past_is_long 4000 100 text number line past)
first_is_refused text placed others (inr (short, inl (has, have))) = line_refused text placed others short have
first_is_refused text placed others (inr (short, inr (none, (of_lines, have, are)))) =
    first_or_no_start text of_lines placed others short none have are

nothing_behind : (of_lines : List (PlacedFault DeckFault)) (last : PlacedFault DeckFault) → [] ≡ of_lines ++ last ∷ [] → ⊥
nothing_behind [] last e = cc
nothing_behind (first ∷ further) last e = cc

pub none_is_deck : (text : List ℕ) → AreDeckFaults text [] → (lines : List Line) × IsDeck text lines
none_is_deck text (inl (number, line, past, are)) = cc (are)
none_is_deck text (inr (short, inl (has, have))) =
    let all = nothing_told text have in (
      all.lines,
      record {
        short = short;
        said = all.said;
        sound = all.sound;
        one_start = omega (arith, all.sound.one_start, has_starts (lines_of text) all.lines all.said has);
      },
    )
none_is_deck text (inr (short, inr (none, (of_lines, have, are)))) =
    absurd (nothing_behind of_lines (alone NoStart None) are)
