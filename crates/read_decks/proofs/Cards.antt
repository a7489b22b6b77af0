-- The words of a card, by their places.
use Rattle.std.proofs.Common.{◌≡◌, ℕ, zero, suc, ◌+◌, ◌*◌, ◌<◌, List, [], ◌∷◌, ◌++◌, length, set, take, drop, refl, ap}
use Rattle.std.proofs.Common.{sym, ◌∙◌, arith, length-append}
use Rattle.std.proofs.Math.Seq.{take-append_seam, drop-append-add}
use Rattle.std.proofs.lemmas.Grind.{flat_map-append}
use Rattle.std.proofs.lemmas.List.{take_more_set}
use Rattle.base_words.specs.declared.word.Word.{Word}
use Rattle.read_decks.specs.DeckText.{IsLine, card}
use Rattle.base_words.specs.Numeral.{digits_of}
use Rattle.base_words.specs.Word.{spelling, spaced}
use Rattle.base_devices.proofs.Bytes.{take-add}
use Rattle.read_decks.proofs.DeckLaws.{length-spelling}
use Rattle.base_words.proofs.Numerals.{length-digits_of}

pub length-spaced : (words : List Word) → length (spaced words) ≡ 12 * length words
length-spaced [] = refl
length-spaced (word ∷ words) =
    let here = length-spelling word in
    let rest = length-spaced words in
    let all : length (spaced (word ∷ words)) ≡ length (32 ∷ spelling word) + length (spaced words) =
    length-append (32 ∷ spelling word) (spaced words) in
    omega (arith, here, rest, all)

-- a line that is a card has twelve bytes for each word, and four before them
pub card_length : (text : List ℕ) (n : ℕ) (words : List Word) → IsLine text (card n words)
    → length text ≡ 4 + 12 * length words
card_length text n words is_card =
    let all : length text ≡ length (digits_of 4 n) + length (spaced words) =
    ap length is_card.3 ∙ length-append (digits_of 4 n) (spaced words) in
    omega (arith, all, length-digits_of 4 n, length-spaced words)

pub spaced_at : (words : List Word) (place : ℕ) → place < length words → (word : Word)
    × (take 12 (drop (12 * place) (spaced words)) ≡ 32 ∷ spelling word)
spaced_at [] place h = absurd (omega arith)
spaced_at (word ∷ words) zero h =
    let twelve : length (32 ∷ spelling word) ≡ 12 = ap suc (length-spelling word) in (
      word,
      ap (λ (n : ℕ). take n (spaced (word ∷ words))) (sym twelve)
          ∙ take-append_seam (32 ∷ spelling word) (spaced words),
    )
spaced_at (word ∷ words) (suc place) h =
    let rest = spaced_at words place (omega arith) in
    let twelve : 12 * suc place ≡ length (32 ∷ spelling word) + 12 * place = omega (arith, length-spelling word) in (
      rest.0,
      ap (λ (n : ℕ). take 12 (drop n (spaced (word ∷ words)))) twelve
          ∙ ap (take 12) (drop-append-add (32 ∷ spelling word) (spaced words) (12 * place)) ∙ rest.1,
    )

-- the four digits of a card
pub address_of_card : (text : List ℕ) (n : ℕ) (words : List Word) → IsLine text (card n words)
    → take 4 text ≡ digits_of 4 n
address_of_card text n words is_card =
    ap (take 4) is_card.3 ∙ ap (λ (k : ℕ). take k (digits_of 4 n ++ spaced words)) (sym (length-digits_of 4 n))
    ∙ take-append_seam (digits_of 4 n) (spaced words)

-- one word more
pub words_more : (text : List ℕ) (words : List Word) (place : ℕ) (word : Word) → place < length words
    → take (12 * place) text ≡ spaced (take place words) → take 12 (drop (12 * place) text) ≡ 32 ∷ spelling word
    → take (12 * (place + 1)) text ≡ spaced (take (place + 1) (set words place word))
words_more text words place word within before here =
    let next : 12 * (place + 1) ≡ 12 * place + 12 = omega arith in
    let split : take (12 * (place + 1)) text ≡ take (12 * place) text ++ take 12 (drop (12 * place) text) =
    ap (λ (k : ℕ). take k text) next ∙ take-add (12 * place) 12 text in
    let more : spaced (take (place + 1) (set words place word)) ≡ spaced (take place words) ++ (32 ∷ spelling word) =
    ap spaced (take_more_set words place word within)
    ∙ flat_map-append (λ (w : Word). 32 ∷ spelling w) (take place words) (word ∷ []) in
    split ∙ ap (λ (xs : List ℕ). xs ++ take 12 (drop (12 * place) text)) before
    ∙ ap (λ (xs : List ℕ). spaced (take place words) ++ xs) here ∙ sym more
