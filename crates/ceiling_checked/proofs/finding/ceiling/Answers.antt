-- Of ceiling: prices and total are those of a certificate, so its law bounds every run and walk by it; where there are none
-- the size is 2^127 or more, and the refusal has the product.
use Rattle.std.proofs.Common.{◌≡◌, ℕ, ◌^◌, ◌≤◌, List, length, Option, Some, None, ap, sym, subst, ◌∙◌, arith}
use Rattle.std.specs.Prelude.{All, Contains, MatchOption}
use Rattle.read_decks.specs.declared.deck.Deck.{Deck}
use Rattle.base_notes.specs.Allowed.{Notes}
use Rattle.base_notes.specs.declared.notes.mark.Mark.{Mark}
use Rattle.base_notes.specs.declared.times.Times.{Times}
use Rattle.machine_steps.specs.Calls.{none_open}
use Rattle.flow_graph.specs.Accepted.{product_of, capped, IsAdmitted}
use Rattle.flow_graph.specs.Hops.{Node}
use Rattle.flow_graph.specs.Flow.{deck_of, nodes_of, notes_of, executed_in}
use Rattle.flow_graph.specs.SettingOf.{setting}
use Rattle.flow_graph.proofs.Orders.{first_reached, order_found}
use Rattle.flow_acceptance.proofs.Acceptances.{moved}
use Rattle.flow_acceptance.proofs.Products.{told_many}
use Rattle.ceiling_checked.specs.declared.prices.Prices.{Prices}
use Rattle.ceiling_checked.specs.CeilingOf.{total_of}
use Rattle.ceiling_checked.specs.Right.{ArePrices, IsCeiling}
use Rattle.ceiling_checked.specs.Size.{IsWithinSize}
use Rattle.ceiling_checked.proofs.CeilingLaws.{admitted_sound, executed_places, is_ceiling, large_product}
use Rattle.ceiling_checked.proofs.finding.ceiling.Goals as goal

-- what was made of a deck, its timing table and its notes
abbrev Made : Deck → Times → Notes → List Node → Option Prices → Type 0
Made deck times notes nodes made =
    let g = setting deck times notes in
    MatchOption made (IsWithinSize g nodes (2 ^ 127))
    (λ one. ArePrices g one.prices.items one.total × IsWithinSize g nodes one.total
    × All (IsWithinSize g nodes) one.prices.items)

pub returns-in-Some-clause-given : goal.returns-in-Some-clause-given
returns-in-Some-clause-given c =
    let accepted = c.in_ok-accepted.accepted in
    let deck = c.args.deck.now in
    let notes = c.args.notes.now in
    let times = c.args.times.now in
    let executed = executed_in accepted.flow in
    let nodes = nodes_of accepted.flow in
    let g = setting deck times notes in
    let made : Made deck times notes nodes c.in_ok-found.field-0 =
    moved (λ d n. Made d times n nodes c.in_ok-found.field-0) (deck_of accepted.flow) deck (notes_of accepted.flow) notes
    c.in_ok-accepted.ensures.deck c.in_ok-accepted.ensures.notes c.in_ok-found.ensures.made in
    let found = c.in-Some.found in
    let right : Made deck times notes nodes (Some found) = subst (Made deck times notes nodes) c.in-Some.is made in
    let is : IsCeiling g found.prices.items found.total =
    is_ceiling deck times notes nodes found.prices.items found.total c.marks-marks.ensures.sound
    c.in_ok-accepted.ensures.nodes
    (subst (IsAdmitted g.loads notes g.start)
    (executed_places g.loads notes g.start executed nodes c.in_ok-accepted.ensures.admitted c.in_ok-accepted.ensures.nodes)
    c.in_ok-accepted.ensures.admitted) right.1 right.2 right.0 in
    subst (λ (prices : List ℕ). IsCeiling g prices (total_of c.new.result)) (sym c.new.ensures.prices)
    (subst (λ (total : ℕ). IsCeiling g found.prices.items total) (sym c.new.ensures.total) is)

pub returns-clause-refused : goal.returns-clause-refused
returns-clause-refused c =
    let accepted = c.in_ok-accepted.accepted in
    let deck = c.args.deck.now in
    let notes = c.args.notes.now in
    let times = c.args.times.now in
    let executed = executed_in accepted.flow in
    let nodes = nodes_of accepted.flow in
    let g = setting deck times notes in
    let admitted = c.in_ok-accepted.ensures.admitted in
    let made : Made deck times notes nodes c.in_ok-found.field-0 =
    moved (λ d n. Made d times n nodes c.in_ok-found.field-0) (deck_of accepted.flow) deck (notes_of accepted.flow) notes
    c.in_ok-accepted.ensures.deck c.in_ok-accepted.ensures.notes c.in_ok-found.ensures.made in
    let large : Made deck times notes nodes None = subst (Made deck times notes nodes) c.in-None.is made in
    let there : Contains executed g.start =
    (order_found g.loads notes g.start executed admitted.order).all g.start
    (none_open notes.calls, first_reached g.loads notes g.start) in
    let some : 1 ≤ length executed = omega (arith, there.1) in
    let product : c.product_of_flow.result ≡ capped (product_of executed notes.marks) =
    c.product_of_flow.ensures ∙ ap (λ (ms : List Mark). capped (product_of executed ms)) c.marks-marks.ensures.all in (
      (
        admitted_sound deck notes executed admitted,
        omega (
          arith,
          product,
          told_many (product_of executed notes.marks) (large_product g nodes executed c.marks-marks.ensures.sound.few_marks c.in_ok-found.ensures.few some large),
        ),
        (executed, admitted.order, product),
      ),
      record { nodes = nodes; reached = c.in_ok-accepted.ensures.nodes; admitted = subst (IsAdmitted g.loads notes g.start) (executed_places g.loads notes g.start executed nodes admitted c.in_ok-accepted.ensures.nodes) admitted; large = large },
    )
