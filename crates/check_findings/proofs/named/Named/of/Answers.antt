-- Of Named::of: one more location's instructions set what they name.
use Rattle.std.proofs.Common.{◌≡◌, ℕ, List, Some, subst, Contains}
use Rattle.std.specs.Prelude.{slice_get, flat_map, ◌↔◌}
use Rattle.read_decks.specs.declared.deck.Deck.{Deck}
use Rattle.read_decks.specs.InDeck.{loads_in}
use Rattle.base_notes.specs.Allowed.{Notes}
use Rattle.base_graphs.proofs.Lists.{contains_none}
use Rattle.flow_graph.specs.Flow.{executed_in}
use Rattle.flow_graph.proofs.Founds.{number_at}
use Rattle.flow_acceptance.proofs.Alterations.{all_taken}
use Rattle.check_findings.specs.Idle.{named_at}
use Rattle.check_findings.specs.NamedOf.{FlagsMore, IsFlagged}
use Rattle.check_findings.proofs.NamedFlags.{place_more}
use Rattle.check_findings.proofs.named.Named.of.Goals as goal

pub loop-location-init : goal.loop-location-init
loop-location-init c word =
    (λ flag. absurd (c.in_ok-named.ensures word flag), λ there. absurd (contains_none word there))

pub loop-location-preserved : goal.loop-location-preserved
loop-location-preserved c =
    let flow = c.args.flow.now in
    let k = c.loop-location.location-index in
    let location = c.location-item.result in
    let here : slice_get (executed_in flow) k ≡ Some location.number =
    number_at c.executed-location-items.result.now (executed_in flow) k location c.executed-location-items.ensures.all
    c.loop-location-test.true c.location-item.is in
    let held = c.loop-location.named in
    let after = c.add_location.new.self in
    place_more (named_at (loads_in flow.deck.now) flow.notes.now) held.flags.items after.flags.items (executed_in flow) k location.number here
    c.loop-location.invariant
    (subst (λ (notes : Notes). FlagsMore (Contains (named_at (loads_in flow.deck.now) notes location.number)) held after)
    c.notes.ensures
    (subst (λ (deck : Deck). FlagsMore (Contains (named_at (loads_in deck) c.notes.result.now location.number)) held after)
    c.deck.ensures c.add_location.ensures))

pub returns : goal.returns
returns c =
    let flow = c.args.flow.now in
    subst (λ (places : List ℕ). (word : ℕ) → IsFlagged c.loop-location.named word
    ↔ Contains (flat_map (named_at (loads_in flow.deck.now) flow.notes.now) places) word)
    (all_taken c.executed-location-items.result.now (executed_in flow) c.loop-location.location-index
    c.executed-location-items.ensures.all c.loop-location-test.false) c.loop-location.invariant
