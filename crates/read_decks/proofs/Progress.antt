-- How a deck's lines are read.
use Rattle.std.proofs.Common.{◌≡◌, ℕ, ◌<◌, ◌≤◌, List, [], length, ap, sym, subst, arith, inl, inr}
use Rattle.std.proofs.lemmas.Bool.{cases_lt}
use Rattle.std.specs.Prelude.{Option, Some, None, IfSome, Result, Ok, Err, IfOk, IfErr}
use Rattle.read_decks.specs.declared.deck.Deck.{Deck}
use Rattle.read_decks.specs.declared.deck.fault.DeckFault.{DeckFault}
use Rattle.read_decks.specs.declared.deck.fault.DeckFault.TheVariants as faults
use Rattle.read_decks.specs.declared.deck.line_fault.LineFault.{LineFault}
use Rattle.read_decks.specs.declared.deck.loading.Loading.{Loading}
use Rattle.read_decks.specs.Lines.{lines_of}
use Rattle.read_decks.specs.Taking.{GoesFrom}
use Rattle.read_decks.proofs.LineLemmas.{longer_by_bytes}
use Rattle.read_decks.proofs.Passing.{Whole, whole_of, first_met, say_length}
use Rattle.read_decks.specs.DeckText.{Line, Say, starts, IsTooLong, IsDeck, LacksStart, IsFaultOfLine, AreSound}
use Rattle.read_decks.specs.DeckText.{IsFirstFault, IsRefused}
use Rattle.read_decks.specs.DeckOfLines.{IsDeckOf}
use Rattle.read_decks.specs.LinesSoFar.{HoldsLines, deck_rules}

pub few_lines : (text : List ℕ) → ¬ IsTooLong text → length (lines_of text) ≤ 4000
few_lines text short = elim (cases_lt 4000 (length (lines_of text)))
    [ inl more ↦ absurd (short (inl more)) | inr few ↦ few ]

pub nothing_sound : AreSound []
nothing_sound = record { on_drum = tt; once = tt; one_start = omega arith }

pub first_refused : (text : List ℕ) (fault : DeckFault) → (IsTooLong text → ⊥) → IsFirstFault text fault
    → IsRefused text fault
first_refused text faults.Read short p = absurd p.first
first_refused text faults.Memory short p = absurd p.first
first_refused text faults.TooLong short p = absurd p.first
first_refused text faults.NoStart short p = absurd p.first
first_refused text (faults.Card n) short p = (short, p)
first_refused text (faults.PastDrum n) short p = (short, p)
first_refused text (faults.TwoStarts n) short p = (short, p)
first_refused text (faults.Twice location) short p = (short, p)

pub refused_met : (text : List ℕ) (left : List (List ℕ)) (loading : Loading) (count : ℕ) (found : LineFault DeckFault)
    → ¬ IsTooLong text → GoesFrom deck_rules loading count (lines_of text) left [] (Some found)
    → IsRefused text found.fault
refused_met text left loading count found short (after, line, passed, counted, has, holds) =
    first_refused text found.fault short
    (first_met deck_rules IsFaultOfLine text line left after found.fault nothing_sound passed has.is)

-- all lines of a text have been taken
abbrev pub AllTaken : List ℕ → Loading → Type 0
AllTaken text loading = (lines : List Line) × Whole deck_rules (lines_of text) lines × HoldsLines loading lines

pub all_taken : (text : List ℕ) (left : List (List ℕ)) (loading : Loading) (count : ℕ)
    → GoesFrom deck_rules loading count (lines_of text) left [] None → AllTaken text loading
all_taken text left loading count (after, passed, holds) =
    (after, whole_of deck_rules (lines_of text) after nothing_sound passed, holds)

-- so the deck can be made
pub can_finish : (text : List ℕ) (loading : Loading) → ¬ IsTooLong text → AllTaken text loading
    → (texts : List (List ℕ)) × (lines : List Line) × Say texts lines × HoldsLines loading lines
    × (length lines ≤ 4000)
can_finish text loading short (lines, whole, holds) = (
  lines_of text,
  lines,
  whole.said,
  holds,
  omega (arith, few_lines text short, say_length deck_rules.Says (lines_of text) lines whole.said),
)

pub deck_of_all : (text : List ℕ) (loading : Loading) (result : Result Deck DeckFault) → ¬ IsTooLong text
    → AllTaken text loading
    → IfOk result (λ deck. (lines : List Line) → HoldsLines loading lines → IsDeckOf deck lines)
    → IfOk result (λ deck. (lines : List Line) × IsDeck text lines × IsDeckOf deck lines)
deck_of_all text loading (Ok deck) short (lines, whole, holds) held = (
  lines,
  record {
    short = short;
    said = whole.said;
    sound = whole.sound;
    one_start = ap (λ (xs : List ℕ). length xs) (held lines holds).begins;
  },
  held lines holds,
)
deck_of_all text loading (Err fault) short all held = tt

pub no_start_at_all : (text : List ℕ) (loading : Loading) (result : Result Deck DeckFault) → ¬ IsTooLong text
    → AllTaken text loading
    → IfErr result (λ fault. (fault ≡ faults.NoStart)
    × ((lines : List Line) → HoldsLines loading lines → starts lines ≡ []))
    → IfErr result (λ fault. (fault ≡ faults.Memory → ⊥) → IsRefused text fault)
no_start_at_all text loading (Ok deck) short all held = tt
no_start_at_all text loading (Err fault) short (lines, whole, holds) held = λ not_memory.
    let lacks : LacksStart text =
    record { lines = lines; said = whole.said; sound = whole.sound; none = held.1 lines holds } in
    subst (IsRefused text) (sym held.0) (short, lacks)

pub left_too_long : (left : Option (List ℕ)) → IfSome left (λ bytes. 404000 < length bytes) → IfSome left IsTooLong
left_too_long None more = tt
left_too_long (Some bytes) more = longer_by_bytes 4000 100 bytes more
