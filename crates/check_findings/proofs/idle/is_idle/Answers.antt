-- Of is_idle: the deck loads a word there, which isn't executed; it is idle where it isn't named.
use Rattle.std.proofs.Common.{◌≡◌, ℕ, Bool, true, false, not, Option, refl, ap, sym, ◌∙◌, subst}
use Rattle.std.specs.Prelude.{is_some, ◌&&◌}
use Rattle.base_words.specs.declared.word.Word.{Word}
use Rattle.read_decks.specs.declared.deck.Deck.{Deck}
use Rattle.read_decks.specs.InDeck.{loads_in}
use Rattle.flow_graph.specs.Flow.{executed_in}
use Rattle.flow_graph.specs.Taken.{is_among}
use Rattle.check_findings.specs.Idle.{named}
use Rattle.check_findings.specs.NamedOf.{IsFlagged}
use Rattle.check_findings.proofs.Among.{among_told}
use Rattle.check_findings.proofs.idle.is_idle.Goals.{then-is_some, else-is_some}
use Rattle.check_findings.proofs.idle.is_idle.Goals as goal

all_three : (loaded executed other answer : Bool) → loaded ≡ true → executed ≡ false → answer ≡ other
    → not answer ≡ (loaded && not executed && not other)
all_three true true other answer is none same = cc
all_three true false other answer is none same = ap not same
all_three false executed other answer is none same = cc

of_not : (b : Bool) → not b ≡ true → b ≡ false
of_not true e = cc
of_not false e = refl

pub returns-then-not-is_executed : goal.returns-then-not-is_executed
returns-then-not-is_executed c =
    let flow = c.args.flow.now in
    let place = c.args.location.number in
    let words = named (loads_in flow.deck.now) flow.notes.now (executed_in flow) in
    let held = c.args.named.now in
    elim c.if-is_some.branch [
      | then-is_some w ↦ all_three (is_some (loads_in flow.deck.now place)) (is_among (executed_in flow) place)
          (is_among words place) c.has.result
          (sym (ap (λ (word : Option Word). is_some word)
          (c.word.ensures.held ∙ ap (λ (deck : Deck). loads_in deck place) c.deck.ensures))
          ∙ sym c.is_some.ensures ∙ w.if-is_some.true)
          (sym w.is_executed.ensures ∙ of_not w.is_executed.result (sym w.value-is ∙ c.if-not-is_executed.true))
          (among_told words place c.has.result
          (λ e. (c.requires place).0 (subst (λ (n : ℕ). IsFlagged held n) c.number.ensures (c.has.ensures.0 e)))
          (λ there. c.has.ensures.1 (subst (λ (n : ℕ). IsFlagged held n) (sym c.number.ensures)
          ((c.requires place).1 there))))
      | else-is_some w ↦ (let clash : false ≡ true = sym w.if-is_some.false ∙ sym w.value-is ∙ c.if-not-is_executed.true in
          cc)
    ]
