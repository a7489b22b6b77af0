use Rattle.std.proofs.Common.{◌≡◌, ℕ, length, drop, ap, sym, ◌∙◌}
use Rattle.base_words.specs.Numeral.{digits_of}
use Rattle.base_words.proofs.Numerals.{length-digits_of}
use Rattle.read_decks.proofs.deck.line.read_start.Goals as goal

pub returns-in_default-clause-none : goal.returns-in_default-clause-none
returns-in_default-clause-none c n is_start =
    let digits : c.split_at.result.1.now ≡ digits_of 4 n = c.split_at.ensures.back ∙ ap (drop 6) is_start.1 in
    let four : length c.split_at.result.1.now ≡ 4 = ap length digits ∙ length-digits_of 4 n in
    c.in_default.ensures.none n (digits ∙ ap (λ (k : ℕ). digits_of k n) (sym four))
