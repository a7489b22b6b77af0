-- Of check_places: all locations before the one at hand are loaded or listed and in the profile. So the
-- first that isn't is the first of them with something wrong.
use Rattle.std.proofs.Common.{◌≡◌, ℕ, ◌+◌, ◌<◌, ◌≤◌, Some, sym, ap, ◌∙◌, subst, inl, inr}
use Rattle.std.proofs.Common.{arith, refl}
use Rattle.std.specs.Prelude.{slice_get}
use Rattle.std.proofs.lemmas.Bool.{cases_lt}
use Rattle.std.proofs.lemmas.List.{length-map}
use Rattle.std.proofs.lemmas.Option.{same_Some, slice_get_within}
use Rattle.base_words.specs.declared.location.Location.{Location}
use Rattle.read_decks.specs.InDeck.{loads_in}
use Rattle.base_devices.proofs.Handed.{handed}
use Rattle.base_graphs.proofs.Lists.{contains_at}
use Rattle.flow_graph.specs.Accepted.{IsGood}
use Rattle.flow_graph.proofs.Founds.{number_at, numbers}
use Rattle.flow_graph.proofs.discovery.check_places.Goals as goal

pub loop-location-preserved : goal.loop-location-preserved
loop-location-preserved c k place below at =
    let locations = c.args.locations.now in
    let turn = c.loop-location.location-index in
    let location = c.location-item.result in
    let here : slice_get (numbers locations) turn ≡ Some location.number =
    number_at locations (numbers locations) turn location refl c.loop-location-test.true c.location-item.is in
    elim (cases_lt k turn) [
      | inl earlier ↦ c.loop-location.invariant k place earlier at
      | inr last ↦ subst (IsGood (loads_in c.args.deck.now) c.args.notes.now)
          (same_Some location.number place
          (sym here ∙ ap (slice_get (numbers locations)) (same k turn last below) ∙ at)) c.in_ok-check_place.ensures.good
    ]
  where
    same : (k turn : ℕ) → turn ≤ k → k < turn + 1 → turn ≡ k
    same k turn last below = omega (arith, last, below)

pub returns-clause-good : goal.returns-clause-good
returns-clause-good c place there =
    let locations = c.args.locations.now in
    let at : (k : ℕ) × (slice_get (numbers locations) k ≡ Some place) = contains_at (numbers locations) place there in
    c.loop-location.invariant at.0 place (omega (
      arith,
      slice_get_within (numbers locations) at.0 place at.1,
      length-map locations (λ (one : Location). one.number),
      c.loop-location-test.false,
    )) at.1

pub returns-in_err-check_place-clause-refused : goal.returns-in_err-check_place-clause-refused
returns-in_err-check_place-clause-refused c =
    let locations = c.args.locations.now in
    let turn = c.loop-location.location-index in
    let location = c.location-item.result in
    handed c.from_residual.result _ c.in_err-check_place.field-0.0 c.from_residual.ensures.1 (
      turn,
      location.number,
      number_at locations (numbers locations) turn location refl c.loop-location-test.true c.location-item.is,
      c.loop-location.invariant,
      c.in_err-check_place.ensures.wrong,
    )
