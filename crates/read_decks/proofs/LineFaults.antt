-- What a deck holds of one line more, or which fault the line has.
use Rattle.std.proofs.Common.{◌≡◌, ℕ, zero, suc, ◌+◌, ◌<◌, ◌≤◌, List, [], ◌∷◌, ◌++◌, length, slice_get, refl, ap, sym, ◌∙◌}
use Rattle.std.proofs.Common.{arith, subst, replicate, ◌⊎◌, Option, Some, None}
use Rattle.std.specs.Option.{option_map}
use Rattle.base_words.specs.declared.location.Location.{Location}
use Rattle.base_words.specs.declared.word.Word.{Word}
use Rattle.read_decks.specs.declared.deck.Given as held
use Rattle.read_decks.specs.declared.deck.fault.DeckFault.{DeckFault}
use Rattle.read_decks.specs.declared.deck.fault.DeckFault.TheVariants.{Card, Twice, TwoStarts, PastDrum}
use Rattle.read_decks.specs.declared.deck.line_fault.LineFault.{LineFault}
use Rattle.read_decks.specs.declared.deck.loading.Loading.{Loading}
use Rattle.read_decks.specs.declared.deck.loading.Start.{Start}
use Rattle.read_decks.specs.LinesSoFar.{HoldsLines, deck_rules}
use Rattle.read_decks.specs.DeckText.{Line, comment, start, card, IsLine, IsPastDrum, Given, given_at, given_from, starts}
use Rattle.read_decks.specs.EarlierLines.{first_start, HasLineFault}
use Rattle.read_decks.specs.FirstLoaded.{IsFirstLoaded}
use Rattle.read_decks.specs.ImageOfLines.{seen, started, Holds}
use Rattle.read_decks.specs.Taking.{IsNext}
use Rattle.read_decks.proofs.InDeckLaws.{holds_comment, holds_start, holds_card, twice_fault}

-- a line that is no start changes no first start
first_start-quiet : (number : ℕ) (lines : List Line) (line : Line)
    → ((other : ℕ) → first_start other (line ∷ []) ≡ None)
    → first_start number (lines ++ line ∷ []) ≡ first_start number lines
first_start-quiet number [] line quiet = quiet number
first_start-quiet number (comment ∷ lines) line quiet = first_start-quiet (number + 1) lines line quiet
first_start-quiet number (start n ∷ lines) line quiet = refl
first_start-quiet number (card n words ∷ lines) line quiet = first_start-quiet (number + 1) lines line quiet

-- and one behind lines that have none is the first
first_start-new : (number : ℕ) (lines : List Line) (at : ℕ) → first_start number lines ≡ None
    → first_start number (lines ++ start at ∷ []) ≡ Some (length lines + number)
first_start-new number [] at none = let same : number ≡ 0 + number = omega arith in ap Some same
first_start-new number (comment ∷ lines) at none =
    let same : length lines + (number + 1) ≡ suc (length lines) + number = omega arith in
    first_start-new (number + 1) lines at none ∙ ap Some same
first_start-new number (start n ∷ lines) at none = cc
first_start-new number (card n words ∷ lines) at none =
    let same : length lines + (number + 1) ≡ suc (length lines) + number = omega arith in
    first_start-new (number + 1) lines at none ∙ ap Some same

held_comment : (loading : Loading) (lines : List Line) → HoldsLines loading lines
    → HoldsLines loading (lines ++ comment ∷ [])
held_comment loading lines holds = record {
  deck = holds_comment loading.image.items loading.cards.items (option_map (λ start. start.location) loading.start)
      lines holds.deck;
  begun = holds.begun ∙ sym (first_start-quiet 1 lines comment (λ other. refl));
}

pub comment_next : (loading : Loading) (lines : List Line) (bytes : List ℕ) → IsLine bytes comment
    → HoldsLines loading lines → IsNext deck_rules loading lines bytes None
comment_next loading lines bytes is_line holds =
    let held = held_comment loading lines holds in (comment, is_line, held.deck.sound, held)

pub no_card : (loading : Loading) (lines : List Line) (bytes : List ℕ) (number : ℕ) {found : LineFault DeckFault}
    → found ≡ record { fault = Card number; earlier = None } → number ≡ length lines + 1
    → ((line : Line) → ¬ IsLine bytes line) → HoldsLines loading lines
    → IsNext deck_rules loading lines bytes (Some found)
no_card loading lines bytes number same counted none holds = (
  subst (HasLineFault lines bytes) (sym same) (record { is = (counted, none); earlier = refl }),
  held_comment loading lines holds,
)

pub past_drum : (loading : Loading) (lines : List Line) (bytes : List ℕ) (number : ℕ) (line : Line)
    {found : LineFault DeckFault} → found ≡ record { fault = PastDrum number; earlier = None }
    → number ≡ length lines + 1 → IsLine bytes line → IsPastDrum line → HoldsLines loading lines
    → IsNext deck_rules loading lines bytes (Some found)
past_drum loading lines bytes number line same counted is_line past holds = (
  subst (HasLineFault lines bytes) (sym same) (record { is = (counted, (line, is_line, past)); earlier = refl }),
  held_comment loading lines holds,
)

pub two_starts : (loading : Loading) (lines : List Line) (bytes : List ℕ) (number at : ℕ) (begun : Start)
    → loading.start ≡ Some begun → number ≡ length lines + 1 → IsLine bytes (start at) → at < 2000
    → HoldsLines loading lines
    → IsNext deck_rules loading lines bytes (Some (record { fault = TwoStarts number; earlier = Some begun.line }))
two_starts loading lines bytes number at begun is counted is_line on_drum holds =
    let begins : starts lines ≡ begun.location.number ∷ [] =
    holds.deck.begins ∙ ap (λ (s : Option Start). started (option_map (λ start. start.location) s)) is in (
      record {
        is = (counted, (at, is_line, on_drum, ap length begins));
        earlier = sym (ap (option_map (λ (s : Start). s.line)) is) ∙ holds.begun;
      },
      held_comment loading lines holds,
    )

pub start_next : (old new : Loading) (begun : Start) (lines : List Line) (bytes : List ℕ)
    → old.start ≡ None → new.image.items ≡ old.image.items → new.cards.items ≡ old.cards.items
    → new.start ≡ Some begun → begun.location.number < 2000 → begun.line ≡ length lines + 1
    → IsLine bytes (start begun.location.number) → HoldsLines old lines → IsNext deck_rules new lines bytes None
start_next old new begun lines bytes nothing image cards is on_drum counted is_line holds =
    let at : ℕ = begun.location.number in
    let unstarted : Holds old.image.items old.cards.items None lines =
    subst (λ (s : Option Start). Holds old.image.items old.cards.items (option_map (λ start. start.location) s) lines)
    nothing holds.deck in
    let started : Holds old.image.items old.cards.items (Some begun.location) (lines ++ start at ∷ []) =
    holds_start old.image.items old.cards.items lines on_drum unstarted in
    let moved : Holds new.image.items new.cards.items (Some begun.location) (lines ++ start at ∷ []) =
    subst (λ (image : List (Option held.Given)). Holds image new.cards.items (Some begun.location)
    (lines ++ start at ∷ [])) (sym image)
    (subst (λ (cards : List ℕ). Holds old.image.items cards (Some begun.location) (lines ++ start at ∷ [])) (sym cards)
    started) in
    let none : first_start 1 lines ≡ None =
    sym holds.begun ∙ ap (option_map (λ (s : Start). s.line)) nothing in (
      start at,
      is_line,
      moved.sound,
      record {
        deck = subst (λ (s : Option Start). Holds new.image.items new.cards.items
            (option_map (λ start. start.location) s) (lines ++ start at ∷ [])) (sym is) moved;
        begun = ap (option_map (λ (s : Start). s.line)) is ∙ ap Some counted ∙ sym (first_start-new 1 lines at none);
      },
    )

-- the line of what an image holds is that of what lines give
line_seen : (one : Option Given) (given : held.Given) → seen one ≡ Some given
    → Some given.line ≡ option_map (λ (one : Given). one.line) one
line_seen None given e = cc
line_seen (Some one) given e =
    let same : given ≡ record { word = one.word; line = one.line } = cc (e) in ap (λ (g : held.Given). Some g.line) same

pub twice : (loading : Loading) (lines : List Line) (bytes : List ℕ) (number first : ℕ) (words : List Word)
    (location : Location) (given : held.Given) → number ≡ length lines + 1 → IsLine bytes (card first words)
    → first + length words ≤ 2000 → IsFirstLoaded loading.image.items first (length words) location.number
    → slice_get loading.image.items location.number ≡ Some (Some given) → HoldsLines loading lines
    → IsNext deck_rules loading lines bytes (Some (record { fault = Twice location; earlier = Some given.line }))
twice loading lines bytes number first words location given counted is_card within taken here holds =
    let one : Option Given = given_at (given_from 1 lines) location.number in
    let told : Some (seen one) ≡ Some (Some given) =
    sym (holds.deck.words location.number (omega (arith, taken.high, within))) ∙ here in
    let same : seen one ≡ Some given = cc (told) in (
      record {
        is = twice_fault loading.image.items loading.cards.items (option_map (λ start. start.location) loading.start)
            lines (length lines + 1) bytes first words location holds.deck is_card within taken;
        earlier = line_seen one given same;
      },
      held_comment loading lines holds,
    )

pub card_next : (old new : Loading) (lines : List Line) (bytes : List ℕ) (number first : ℕ) (words : List Word)
    → new.start ≡ old.start → new.cards.items ≡ old.cards.items ++ number ∷ [] → number ≡ length lines + 1
    → IsLine bytes (card first words) → first + length words ≤ 2000
    → ((n : ℕ) → first ≤ n → n < first + length words → slice_get old.image.items n ≡ Some None)
    → ((k : ℕ) (word : Word) → slice_get words k ≡ Some word
    → slice_get new.image.items (first + k) ≡ Some (Some (record { word = word; line = number })))
    → ((n : ℕ) → (n < first) ⊎ (first + length words ≤ n)
    → slice_get new.image.items n ≡ slice_get old.image.items n)
    → HoldsLines old lines → IsNext deck_rules new lines bytes None
card_next old new lines bytes number first words begun cards counted is_card within free put others holds =
    let at : number ≡ 1 + length lines = omega (arith, counted) in
    let loaded : Holds new.image.items (old.cards.items ++ (1 + length lines) ∷ [])
    (option_map (λ start. start.location) old.start) (lines ++ card first words ∷ []) =
    holds_card old.image.items new.image.items old.cards.items (option_map (λ start. start.location) old.start) lines
    first words holds.deck within (λ k less. free (first + k) (omega arith) (omega (arith, less)))
    (λ k word is_word. put k word is_word
    ∙ ap (λ (n : ℕ). Some (Some (record { word = word; line = n }))) at) others in
    let numbered : new.cards.items ≡ old.cards.items ++ (1 + length lines) ∷ [] =
    cards ∙ ap (λ (n : ℕ). old.cards.items ++ n ∷ []) at in (
      card first words,
      is_card,
      loaded.sound,
      record {
        deck = subst (λ (s : Option Start). Holds new.image.items new.cards.items
            (option_map (λ start. start.location) s) (lines ++ card first words ∷ [])) (sym begun)
            (subst (λ (cards : List ℕ). Holds new.image.items cards (option_map (λ start. start.location) old.start)
            (lines ++ card first words ∷ [])) (sym numbered) loaded);
        begun = ap (option_map (λ (s : Start). s.line)) begun ∙ holds.begun
            ∙ sym (first_start-quiet 1 lines (card first words) (λ other. refl));
      },
    )

empty_at : (count n : ℕ) → n < count → slice_get (replicate {A = Option held.Given} count None) n ≡ Some None
empty_at zero n below = absurd (omega arith)
empty_at (suc count) zero below = refl
empty_at (suc count) (suc n) below = empty_at count n (omega arith)

-- where no line has been read, nothing is held
pub nothing_held : (loading : Loading) → loading.image.items ≡ replicate 2000 None → loading.cards.items ≡ []
    → loading.start ≡ None → HoldsLines loading []
nothing_held loading image cards begun = record {
  deck = record {
    words = λ n below. ap (λ (xs : List (Option held.Given)). slice_get xs n) image ∙ empty_at 2000 n below;
    numbers = cards;
    begins = ap (λ (s : Option Start). started (option_map (λ start. start.location) s)) (sym begun);
    sound = record { on_drum = tt; once = tt; one_start = omega arith };
  };
  begun = ap (option_map (λ (s : Start). s.line)) begun;
}
