-- Every text is a deck, or it has its fault.
use Rattle.std.proofs.Common.{◌≡◌, ℕ, zero, suc, ◌+◌, ◌<◌, List, [], ◌∷◌, length, refl, ap, ◌∙◌}
use Rattle.std.proofs.Common.{arith, inl, inr, ◌⊎◌, length-append}
use Rattle.std.proofs.lemmas.Bool.{cases_lt, cases_eq}
use Rattle.std.proofs.lemmas.List.{append-nil}
use Rattle.read_decks.specs.declared.deck.fault.DeckFault.{DeckFault}
use Rattle.read_decks.specs.declared.deck.fault.DeckFault.TheVariants.{Card, Twice, NoStart, TwoStarts, PastDrum}
use Rattle.read_decks.specs.declared.deck.fault.DeckFault.TheVariants.{TooLong}
use Rattle.read_decks.specs.DeckText.{Line, comment, start, card, IsLine, Say, Given, given_from, starts, IsGiven}
use Rattle.read_decks.specs.DeckText.{AreSound, IsTooLong, IsDeck, IsFaultOfLine, LacksStart, IsRefused}
use Rattle.read_decks.specs.Lines.{lines_of}
use Rattle.read_decks.proofs.DeckLaws.{line_one}
use Rattle.read_decks.proofs.FaultLaws.{starts-append}
use Rattle.read_decks.proofs.FirstFaults as firsts
use Rattle.read_decks.proofs.FirstFaults.{all_or_first, say_one}
use Rattle.proved_laws.proofs.LineCases.{least_or_none, line_cases, longer_or_not}
use Rattle.read_decks.proofs.InDeckLaws.{sound_more, sound_card}
use Rattle.read_decks.proofs.Progress.{first_refused}

given_cases : (given : List Given) (location : ℕ) → IsGiven given location ⊎ (IsGiven given location → ⊥)
given_cases [] location = inr (λ given. omega (arith, given.2))
given_cases (one ∷ given) location = elim (cases_eq one.location location) [
  | inl here ↦ inl (0, one, omega arith, refl, here)
  | inr other ↦ elim (given_cases given location) [
    | inl further ↦ inl (suc further.0, further.1, omega (arith, further.2), further.3, further.4)
    | inr none ↦ inr (neither other none)
  ]
]
  where
    neither : (one.location ≡ location → ⊥) → (IsGiven given location → ⊥) → IsGiven (one ∷ given) location → ⊥
    neither other none (zero, first, within, here, at) = other (ap (λ (g : Given). g.location) here ∙ at)
    neither other none (suc k, first, within, here, at) = none (k, first, omega arith, here, at)

abbrev Goes : List Line → ℕ → List ℕ → Type 0
Goes before number text = firsts.Goes IsLine AreSound IsFaultOfLine before number text

-- what a line says leaves the lines sound, or it has a fault
line_goes : (before : List Line) (number : ℕ) (text : List ℕ) (line : Line) → AreSound before → IsLine text line
    → Goes before number text
line_goes before number text comment sound is =
    inl (
      comment,
      is,
      sound_more before comment sound refl (λ past. past)
          (omega (
            arith,
            ap length (starts-append before (comment ∷ []) ∙ append-nil (starts before)),
            sound.one_start,
          )),
    )
line_goes before number text (start n) sound is = elim (cases_lt n 2000) [
  | inr past ↦ inr (PastDrum number, (refl, (start n, is, past)))
  | inl on_drum ↦ elim (cases_lt 0 (length (starts before))) [
    | inl some ↦ inr (TwoStarts number, (refl, (n, is, on_drum, omega (arith, sound.one_start))))
    | inr none ↦ inl (
      start n,
      is,
      sound_more before (start n) sound refl (λ past. omega (arith, past))
          (omega (arith, ap length (starts-append before (start n ∷ [])), length-append (starts before) (n ∷ []))),
    )
  ]
]
line_goes before number text (card n words) sound is = elim (cases_lt 2000 (n + length words)) [
  | inl past ↦ inr (PastDrum number, (refl, (card n words, is, past)))
  | inr within ↦ elim (least_or_none (IsGiven (given_from 1 before)) (given_cases (given_from 1 before)) n
      (length words)) [
        | inl twice ↦
            let on_drum : twice.0 < 2000 = omega (arith, twice.2) in
            inr (
              Twice (record { number = twice.0; exists = (omega arith, λ from. omega arith) }),
              (n, words, is, within, twice.1, twice.2, twice.3, twice.4),
            )
        | inr none ↦ inl (card n words, is, sound_card before n words sound within none)
      ]
]

goes_on : (before : List Line) (number : ℕ) (text : List ℕ) → AreSound before → Goes before number text
goes_on before number text sound = elim (line_cases text) [
  | inl found ↦ line_goes before number text found.0 sound found.1
  | inr none ↦ inr (Card number, (refl, none))
]

-- sound lines are a deck's, or none says where to start
deck_or_no_start : (text : List ℕ) (lines : List Line) → (IsTooLong text → ⊥) → Say (lines_of text) lines
    → AreSound lines → IsDeck text lines ⊎ LacksStart text
deck_or_no_start text lines short said sound = go (starts lines) refl
  where
    go : (at : List ℕ) → starts lines ≡ at → IsDeck text lines ⊎ LacksStart text
    go [] none = inr (record { lines = lines; said = said; sound = sound; none = none })
    go (n ∷ more) some = inl (record {
      short = short;
      said = said;
      sound = sound;
      one_start =
          omega (arith, ap length some, sound.one_start);
    })

pub deck_or_fault : (text : List ℕ) → ((lines : List Line) × IsDeck text lines)
    ⊎ ((fault : DeckFault) × IsRefused text fault)
deck_or_fault text = elim (longer_or_not 4000 100 text) [
  | inl long ↦ inr (TooLong, long)
  | inr short ↦ elim (all_or_first IsLine AreSound IsFaultOfLine goes_on text [] (lines_of text) [] refl tt
      (record { on_drum = tt; once = tt; one_start = omega arith })) [
        | inr fault ↦ inr (fault.0, first_refused text fault.0 short fault.1)
        | inl all ↦ elim (deck_or_no_start text all.0 short all.1 all.2) [
          | inl deck ↦ inl (all.0, deck)
          | inr lacks ↦ inr (NoStart, (short, lacks))
        ]
      ]
]

-- a text is the deck of one list of lines
pub deck_lines_one : (text : List ℕ) (lines others : List Line) → IsDeck text lines → IsDeck text others
    → lines ≡ others
deck_lines_one text lines others p q = say_one IsLine line_one (lines_of text) lines others p.said q.said
