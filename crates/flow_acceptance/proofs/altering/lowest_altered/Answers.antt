-- Of lowest_altered: the words that an instruction writes are a range of numbers, and none before
-- the one at hand is an executed location without a list. So the first that is one is the lowest.
use Rattle.std.proofs.Common.{◌≡◌, ℕ, true, false, Option, Some, None, IfSome, sym, subst, arith}
use Rattle.base_words.specs.declared.location.Location.{Location}
use Rattle.read_decks.specs.InDeck.{loads_in, start_in}
use Rattle.flow_graph.specs.Flow.{deck_of, notes_of}
use Rattle.flow_graph.specs.Accepted.{IsLowestAltered}
use Rattle.flow_acceptance.proofs.Alterations.{lowest_first, none_altered}
use Rattle.flow_acceptance.proofs.altering.lowest_altered.Goals as goal

if_some : (found : Option Location) (n : ℕ) (P : ℕ → Type 0) → IfSome found (λ location. location.number ≡ n) → P n
    → IfSome found (λ location. P location.number)
if_some None n P same holds = tt
if_some (Some location) n P same holds = subst P (sym same) holds

pub returns-then-has-clause-some : goal.returns-then-has-clause-some
returns-then-has-clause-some c =
    let flow = c.args.flow.now in
    let number = c.loop-number.number in
    if_some c.new.result number
    (IsLowestAltered (loads_in (deck_of flow)) (notes_of flow) (start_in (deck_of flow)) c.args.instruction)
    c.new.ensures.value
    (lowest_first (loads_in (deck_of flow)) (notes_of flow) (start_in (deck_of flow)) c.args.instruction
    c.writes-words.result.start c.writes-words.result.end c.writes-words.ensures.all
    number c.loop-number.auto.number c.loop-number-test.true (c.requires.only number (c.has.ensures.0 c.if-has.true))
    c.loop-number.invariant)

pub returns-clause-none : goal.returns-clause-none
returns-clause-none c =
    let flow = c.args.flow.now in
    none_altered (loads_in (deck_of flow)) (notes_of flow) (start_in (deck_of flow)) c.args.instruction
    c.writes-words.result.start c.writes-words.result.end c.writes-words.ensures.all
    (λ k low high. c.loop-number.invariant k low (omega (arith, high, c.loop-number-test.false)))
