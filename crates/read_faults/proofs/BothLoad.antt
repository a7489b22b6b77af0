-- The locations that both a deck and inputs load.
use Rattle.std.proofs.Common.{◌≡◌, ℕ, Bool, List, [], ◌∷◌, map, refl, ap, sym, ◌∙◌, inl, inr, cond}
use Rattle.std.proofs.Common.{Result, Ok, Err, IfOk, Vec, Global, false, ◌⊎◌}
use Rattle.std.specs.Prelude.{filter, is_some}
use Rattle.read_decks.specs.declared.deck.Deck.{Deck}
use Rattle.base_words.specs.declared.location.Location.{Location}
use Rattle.base_words.specs.declared.word.Word.{Word}
use Rattle.read_decks.specs.DeckText.{IsDeck, loads_of}
use Rattle.read_decks.specs.DeckText as deck_lines
use Rattle.read_decks.specs.DeckOfLines.{IsDeckOf}
use Rattle.read_decks.specs.InDeck.{loads_in}
use Rattle.read_decks.proofs.InDeckLaws.{held_is_said}
use Rattle.read_replays.specs.declared.inputs.Inputs.{Inputs}
use Rattle.read_replays.specs.Inputs.{AreInputsOf, given_word}
use Rattle.read_replays.specs.InputsText.{AreInputs, given_in}
use Rattle.read_replays.specs.InputsText as input_lines
use Rattle.read_faults.specs.FaultLines.{AreLoadedTwice}

-- tests that agree leave the same
filter_same : (p q : ℕ → Bool) → ((n : ℕ) → p n ≡ q n) → (xs : List ℕ) → filter p xs ≡ filter q xs
filter_same p q same [] = refl
filter_same p q same (x ∷ xs) =
    let here : p x ≡ q x = same x in
    let rest : filter p xs ≡ filter q xs = filter_same p q same xs in
    ap (λ (test : Bool). cond test (x ∷ filter p xs) (filter p xs)) here
    ∙ ap (λ (others : List ℕ). cond (q x) (x ∷ others) others) rest

-- the locations of words, as a setup has them
same_numbers : (given : List (Location × Word))
    → map (λ one. one.0.number) given ≡ map (λ one. one.0) (map given_word given)
same_numbers [] = refl
same_numbers (one ∷ given) = ap (λ (others : List ℕ). one.0.number ∷ others) (same_numbers given)

-- what a deck holds for a location is what its lines load
held_said : (deck : Deck) (cards : List deck_lines.Line) (n : ℕ) → IsDeckOf deck cards
    → is_some (loads_in deck n) ≡ is_some (loads_of cards n)
held_said deck cards n holds =
    ap is_some (held_is_said deck.image.items deck.cards.items _ cards n (sym deck.image.ok.0 ∙ deck.whole) holds)

-- those of the words of sound inputs that a sound deck holds are those that both load
pub both_load : (deck_bytes input_bytes : List ℕ) (deck : Deck) (inputs : Inputs) (locations : List ℕ)
    → (cards : List deck_lines.Line) × IsDeck deck_bytes cards × IsDeckOf deck cards
    → (stated : List input_lines.Line) × AreInputs input_bytes stated × AreInputsOf inputs stated
    → locations ≡ filter (λ n. is_some (loads_in deck n)) (map (λ one. one.0.number) inputs.setup.words.items)
    → AreLoadedTwice deck_bytes input_bytes locations
both_load deck_bytes input_bytes deck inputs locations (cards, is_deck, is_of) (stated, are_inputs, are_of) held =
    let numbers : map (λ one. one.0.number) inputs.setup.words.items ≡ map (λ one. one.0) (given_in stated) =
    same_numbers inputs.setup.words.items ∙ ap (map (λ (one : ℕ × Word). one.0)) are_of.words in
    inl (
      cards,
      is_deck,
      (
        stated,
        are_inputs,
        held
            ∙ ap (filter (λ (n : ℕ). is_some (loads_in deck n))) numbers
            ∙ filter_same (λ n. is_some (loads_in deck n)) (λ n. is_some (loads_of cards n))
            (λ n. held_said deck cards n is_of) (map (λ one. one.0) (given_in stated)),
      ),
    )

-- what a call returns of the locations that both load
pub both_returned : {V E : Type 0} (result : Result V E) (numbers : V → List ℕ) (deck_bytes input_bytes : List ℕ)
    (deck : Deck) (inputs : Inputs) (given : List (Location × Word))
    → (cards : List deck_lines.Line) × IsDeck deck_bytes cards × IsDeckOf deck cards
    → (stated : List input_lines.Line) × AreInputs input_bytes stated × AreInputsOf inputs stated
    → given ≡ inputs.setup.words.items
    → IfOk result (λ loaded. numbers loaded
    ≡ filter (λ n. is_some (loads_in deck n)) (map (λ one. one.0.number) given))
    → IfOk result (λ loaded. AreLoadedTwice deck_bytes input_bytes (numbers loaded))
both_returned (Ok loaded) numbers deck_bytes input_bytes deck inputs given of_deck of_inputs same held =
    both_load deck_bytes input_bytes deck inputs (numbers loaded) of_deck of_inputs
    (held ∙ ap (λ (ws : List (Location × Word)). filter (λ (n : ℕ). is_some (loads_in deck n))
    (map (λ one. one.0.number) ws)) same)
both_returned (Err fault) numbers deck_bytes input_bytes deck inputs given of_deck of_inputs same held = tt

-- where one has a fault, no location is loaded by both
pub none_returned : {E : Type 0} (result : Result (Vec Location Global) E) (wanting : Bool)
    (deck_bytes input_bytes : List ℕ)
    → (wanting ≡ false → (¬ ((cards : List deck_lines.Line) × IsDeck deck_bytes cards))
    ⊎ (¬ ((stated : List input_lines.Line) × AreInputs input_bytes stated)))
    → IfOk result (λ none. (wanting ≡ false) × (none.items ≡ []))
    → IfOk result (λ none. AreLoadedTwice deck_bytes input_bytes (map (λ location. location.number) none.items))
none_returned (Ok none) wanting deck_bytes input_bytes faulty held =
    inr (faulty held.0, ap (map (λ (location : Location). location.number)) held.1)
none_returned (Err fault) wanting deck_bytes input_bytes faulty held = tt
