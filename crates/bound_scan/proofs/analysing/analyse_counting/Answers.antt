-- Of analyse_counting: the accepted flow is of this deck and these notes, so what is right of its
-- walks is right of the deck's. A run that keeps to the notes takes the hops of such a walk; so it
-- passes neither the bound nor an entry.
use Rattle.std.proofs.Common.{◌≡◌, length, sym, ◌∙◌, subst, arith}
use Rattle.read_decks.specs.InDeck.{loads_in, start_in}
use Rattle.base_graphs.specs.Graph.{AreDifferent}
use Rattle.flow_graph.specs.Accepted.{IsAccepted}
use Rattle.flow_graph.specs.declared.flow_graph.Flow.{Flow}
use Rattle.flow_graph.specs.Flow.{deck_of, notes_of, executed_in}
use Rattle.flow_graph.proofs.KeptWalk.{kept_walk}
use Rattle.flow_graph.specs.RunHops.{hops_taken}
use Rattle.flow_graph.specs.SettingOf.{setting}
use Rattle.flow_graph.proofs.Proper.{is_proper}
use Rattle.flow_acceptance.specs.OrderedFlow.{in_order}
use Rattle.flow_acceptance.specs.Free.{IsFreeOrder}
use Rattle.flow_acceptance.proofs.Acceptances.{moved}
use Rattle.bound_scan.specs.AnalysisOf.{IsAnalysis, rows_of}
use Rattle.bound_scan.proofs.Ordering.{accepted_keys, as_many}
use Rattle.bound_scan.proofs.Unders.{arrive_under}
use Rattle.bound_scan.proofs.analysing.analyse_counting.Goals as goal

pub analysis_of-requires-clause-keys : goal.analysis_of-requires-clause-keys
analysis_of-requires-clause-keys g c =
    let ensures = c.in_ok-accepted.ensures in
    accepted_keys c.in_ok-accepted.accepted c.args.deck.now c.args.notes.now ensures.deck ensures.notes
    ensures.accepted ensures.order c.marks-marks.ensures.sound
    (subst (λ (f : Flow). AreDifferent (executed_in f)) c.flow.ensures c.executed-executed.ensures.different)

pub returns-clause-analysed : goal.returns-clause-analysed
returns-clause-analysed g c =
    let accepted = c.in_ok-accepted.accepted in
    let deck = c.args.deck.now in
    let notes = c.args.notes.now in
    let times = c.args.times.now in
    let analysis = c.in_ok-counted.counted.analysis in
    let ensures = c.in_ok-accepted.ensures in
    let same : length (in_order accepted) ≡ length (executed_in accepted.flow) =
    as_many accepted
    (moved (λ d n. IsAccepted (loads_in d) n (start_in d) (executed_in accepted.flow)) deck
    (deck_of accepted.flow) notes (notes_of accepted.flow)
    (sym ensures.deck) (sym ensures.notes) ensures.accepted)
    (moved (λ d n. IsFreeOrder (loads_in d) n (executed_in accepted.flow) (in_order accepted)) deck
    (deck_of accepted.flow) notes
    (notes_of accepted.flow) (sym ensures.deck) (sym ensures.notes) ensures.order)
    (subst (λ (f : Flow). AreDifferent (executed_in f)) c.flow.ensures c.executed-executed.ensures.different) in
    let is : IsAnalysis (setting deck times notes) analysis =
    moved (λ d n. IsAnalysis (setting d times n) analysis) (deck_of accepted.flow) deck (notes_of accepted.flow)
    notes ensures.deck ensures.notes c.in_ok-counted.ensures.is in
    let proper = is_proper deck times notes c.marks-marks.ensures.sound in
    record {
      accepted = (executed_in accepted.flow, ensures.accepted, c.in_ok-counted.ensures.words ∙ same);
      walks = is;
      kept = λ s strides first is_run kept.
          let walked = kept_walk (setting deck times notes) (executed_in accepted.flow) s strides proper
          ensures.accepted.admitted first is_run kept in
          omega (arith, is.worst.most s.first_angle (hops_taken strides) walked.0, walked.1);
      under = λ s strides first is_run kept.
          arrive_under (setting deck times notes) (rows_of analysis) (executed_in accepted.flow) s strides is.table proper
          ensures.accepted first is_run kept;
    }
