use Rattle.std.proofs.Common.{◌≡◌, ℕ, length, sym, subst, arith}
use Rattle.read_decks.specs.InDeck.{loads_in, start_in}
use Rattle.base_graphs.specs.Graph.{AreDifferent}
use Rattle.flow_graph.specs.Accepted.{IsAccepted}
use Rattle.flow_graph.specs.declared.flow_graph.Flow.{Flow}
use Rattle.flow_graph.specs.Flow.{deck_of, notes_of, executed_in}
use Rattle.flow_graph.specs.RunHops.{hops_taken}
use Rattle.flow_graph.specs.SettingOf.{setting}
use Rattle.flow_graph.proofs.KeptWalk.{kept_walk}
use Rattle.flow_graph.proofs.Proper.{is_proper}
use Rattle.flow_acceptance.specs.OrderedFlow.{in_order}
use Rattle.flow_acceptance.specs.Free.{IsFreeOrder}
use Rattle.flow_acceptance.proofs.Acceptances.{moved}
use Rattle.flow_walks.specs.Worst.{IsWorst}
use Rattle.bound_scan.specs.Counted.{HasFound}
use Rattle.bound_scan.specs.FoundOf.{found_bound}
use Rattle.bound_scan.proofs.Ordering.{accepted_keys, as_many}
use Rattle.bound_scan.proofs.bounding.bound_counting.Goals as goal

pub found_of-requires-clause-keys : goal.found_of-requires-clause-keys
found_of-requires-clause-keys g c =
    let ensures = c.in_ok-accepted.ensures in
    accepted_keys c.in_ok-accepted.accepted c.args.deck.now c.args.notes.now ensures.deck ensures.notes
    ensures.accepted ensures.order c.marks-marks.ensures.sound
    (subst (λ (f : Flow). AreDifferent (executed_in f)) c.flow.ensures c.executed-executed.ensures.different)

pub returns-clause-bound : goal.returns-clause-bound
returns-clause-bound g c =
    let accepted = c.in_ok-accepted.accepted in
    let deck = c.args.deck.now in
    let notes = c.args.notes.now in
    let times = c.args.times.now in
    let ensures = c.in_ok-accepted.ensures in
    let worst : IsWorst (setting deck times notes) (found_bound c.in_ok-found.found) =
    moved (λ d n. IsWorst (setting d times n) (found_bound c.in_ok-found.found)) (deck_of accepted.flow) deck
    (notes_of accepted.flow) notes ensures.deck ensures.notes c.in_ok-found.ensures.worst in
    record {
      accepted = (executed_in accepted.flow, ensures.accepted);
      worst = worst;
      bounded = λ s strides first is_run kept.
          let walked = kept_walk (setting deck times notes) (executed_in accepted.flow) s strides
          (is_proper deck times notes c.marks-marks.ensures.sound) ensures.accepted.admitted first is_run kept in
          omega (arith, worst.most s.first_angle (hops_taken strides) walked.0, walked.1);
    }

pub returns-clause-counted : goal.returns-clause-counted
returns-clause-counted g c =
    let accepted = c.in_ok-accepted.accepted in
    let deck = c.args.deck.now in
    let notes = c.args.notes.now in
    let times = c.args.times.now in
    let ensures = c.in_ok-accepted.ensures in
    let same : length (in_order accepted) ≡ length (executed_in accepted.flow) =
    as_many accepted
    (moved (λ d n. IsAccepted (loads_in d) n (start_in d) (executed_in accepted.flow)) deck
    (deck_of accepted.flow) notes (notes_of accepted.flow)
    (sym ensures.deck) (sym ensures.notes) ensures.accepted)
    (moved (λ d n. IsFreeOrder (loads_in d) n (executed_in accepted.flow) (in_order accepted)) deck
    (deck_of accepted.flow) notes
    (notes_of accepted.flow) (sym ensures.deck) (sym ensures.notes) ensures.order)
    (subst (λ (f : Flow). AreDifferent (executed_in f)) c.flow.ensures c.executed-executed.ensures.different) in (
      executed_in accepted.flow,
      ensures.accepted,
      subst (λ (words : ℕ). HasFound (setting deck times notes) words c.in_ok-found.found) same
          (moved (λ d n. HasFound (setting d times n) (length (in_order accepted)) c.in_ok-found.found)
          (deck_of accepted.flow) deck
          (notes_of accepted.flow) notes ensures.deck ensures.notes c.in_ok-found.ensures),
    )
