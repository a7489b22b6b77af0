-- Words for locations, each given once.
use Rattle.std.proofs.Common.{◌≡◌, ◌≢◌, ℕ, ◌+◌, ◌<◌, List, length, take, get_or, ap, sym, ◌∙◌, arith, below_more}
use Rattle.std.specs.List.{Any, All}
use Rattle.std.proofs.lemmas.List.{get_or_read, get_or-take, length-take-le}
use Rattle.base_words.specs.declared.location.Location.{Location}
use Rattle.base_words.specs.declared.word.Word.{Word}
use Rattle.machine_emulator.specs.Setup.{HaveOwnLocations}

abbrev pub Words : Type 0
Words = List (Location × Word)

abbrev pub number : Location × Word → ℕ
number given = given.0.number

-- the words before a place are each for a location of its own on the drum
pub record OwnBelow (words : Words) (place : ℕ) : Type 0 where
  pub on_drum : (k : ℕ) (d : Location × Word) → k < place → number (get_or words k d) < 2000
  pub once : (j k : ℕ) (d : Location × Word) → j < k → k < place → number (get_or words j d) ≢ number (get_or words k d)

-- a location that was given before isn't one's own
pub given_before : (words : Words) (place : ℕ) (given : Location × Word) → place < length words
    → given ≡ get_or words place given
    → Any (λ other. number other ≡ number given) (take place words) → HaveOwnLocations words → ⊥
given_before words place given inside is any own =
    let short = length-take-le place words (omega arith) in
    let below : any.0 < place = omega arith in
    let same = sym (get_or-take place words any.0 any.1 below) ∙ any.3 in
    let there = get_or_read words place given inside is any.1 in
    own.once any.0 place any.1 below inside (ap number same ∙ any.4 ∙ ap number there)

-- one more word, for a location of its own
pub own_more : (words : Words) (place : ℕ) (given : Location × Word) → place < length words
    → given ≡ get_or words place given
    → number given < 2000 → All (λ other. number other ≢ number given) (take place words) → OwnBelow words place
    → OwnBelow words (place + 1)
own_more words place given inside is drum others own =
    let short = length-take-le place words (omega arith) in
    let there = get_or_read words place given inside is in
    record {
      on_drum =
          λ k d h. below_more (λ m. number (get_or words m d) < 2000) place (λ m b. own.on_drum m d b)
          (omega (arith, ap number (there d))) k h;
      once = λ j k d jk h.
          below_more (λ m. j < m → number (get_or words j d) ≢ number (get_or words m d)) place
          (λ m b jm. own.once j m d jm b)
          (λ jp same. others j d (omega arith)
          (ap number (get_or-take place words j d jp) ∙ same ∙ ap number (sym (there d)))) k h jk;
    }
