-- Of known_of: what is held of an edge is so of another one with the same locations.
use Rattle.std.proofs.Common.{◌≡◌, ℕ, sym, ◌∙◌, subst}
use Rattle.std.specs.Prelude.{◌↔◌, All, IsTrue}
use Rattle.std.proofs.lemmas.List.Elements.{All-get_or}
use Rattle.base_notes.specs.EdgeOf.{edge_of}
use Rattle.flow_loops.proofs.Besides.{leads_same}
use Rattle.check_deck.specs.declared.nesting.Known.{Known}
use Rattle.check_deck.specs.FindingsOf.{IsInsideIn}
use Rattle.check_deck.specs.KnownInside.{IsKnown}
use Rattle.check_deck.proofs.nesting.Nesting.known_of.Goals as goal

pub returns-then-leads-2 : goal.returns-then-leads-2
returns-then-leads-2 c =
    let flow = c.args.self.now.flow.now in
    let P : Known → Type 0 = IsKnown flow in
    let one = c.one-item.result in
    let all : All P c.deref-one-items.result.now = subst (All P) (sym c.deref-one-items.ensures.value) c.requires.known in
    let here : P one =
    subst P (sym c.one-item.is)
    (All-get_or P c.deref-one-items.result.now c.loop-one.one-index one c.loop-one-test.true all) in
    let outer : edge_of c.args.outer ≡ edge_of one.outer =
    leads_same c.args.outer.from.number c.args.outer.onto.number (edge_of one.outer)
    (sym c.leads.ensures ∙ c.if-leads.true) in
    let inner : edge_of c.args.inner ≡ edge_of one.inner =
    leads_same c.args.inner.from.number c.args.inner.onto.number (edge_of one.inner)
    (sym c.leads-then-leads.ensures ∙ c.if-leads-2.true) in
    subst (λ (pair : ℕ × ℕ). IsTrue one.stands ↔ IsInsideIn flow pair (edge_of c.args.inner)) (sym outer)
    (subst (λ (pair : ℕ × ℕ). IsTrue one.stands ↔ IsInsideIn flow (edge_of one.outer) pair) (sym inner) here)
