-- Where a hop that goes on leads, by its leap and the round of its key.
use Rattle.std.proofs.Common.{◌≡◌, ℕ, ◌+◌, ◌*◌, ◌/◌, ◌<◌, List, Some, None, length, refl, ap, sym, ◌∙◌, subst, arith}
use Rattle.std.proofs.lemmas.Nat.{div-mul-add}
use Rattle.std.proofs.lemmas.Option.{slice_get_within}
use Rattle.base_words.specs.declared.location.Location.{Location}
use Rattle.base_notes.specs.declared.notes.mark.Mark.{Mark}
use Rattle.machine_steps.specs.Counts.{after_pass, AreWithin}
use Rattle.machine_steps.specs.Ways.{to}
use Rattle.machine_steps.specs.WaysLeft.{seen_way}
use Rattle.flow_graph.specs.Hops.{IsEdge}
use Rattle.flow_graph.specs.Seen.{seen_hop}
use Rattle.bound_scan.specs.declared.leap.Leap.{Leap}
use Rattle.bound_scan.specs.declared.round.Counted.{Counted}
use Rattle.bound_scan.specs.declared.round.Round.{Round}
use Rattle.bound_scan.specs.declared.scan.Scan.{Scan}
use Rattle.bound_scan.specs.declared.instruction_search.InstructionSearch.{InstructionSearch}
use Rattle.bound_scan.specs.InCells.{IsOnward}
use Rattle.bound_scan.specs.Keys.{counts_at, keys_of, place_at, IsKey}
use Rattle.bound_scan.specs.RoundOf.{IsCounted, counted_after}
use Rattle.bound_scan.specs.RowOf.{counts_number}
use Rattle.bound_scan.specs.ScanOf.{HasRound, setting_in, order_of, IsReady}
use Rattle.bound_scan.specs.Table.{number_of}
use Rattle.bound_scan.proofs.GoingOn.{edge_of}
use Rattle.bound_scan.proofs.KeyLaws.{counts_within}
use Rattle.bound_scan.proofs.KeysTaken.{hop_among}
use Rattle.bound_scan.proofs.Onward.{leads_on}
use Rattle.bound_scan.proofs.RoundLaws.{IsLed, led_key, mark_inside, round_leads}
use Rattle.bound_scan.proofs.RowsHeld.{cells_size}

module _ {L : Type 0} (scan : Scan L) (round : Round) (search : InstructionSearch) (number : ℕ) (leap : Leap)
    (next : ℕ) (ready : IsReady scan search number leap) (has : HasRound scan search.key round)
    (goes : seen_way leap.hop.way ≡ to next) where
  abbrev marks : List Mark
  marks = (setting_in scan).notes.marks

  abbrev order : List ℕ
  order = order_of scan

  -- the counts that it goes on with
  abbrev passed : List ℕ
  passed = after_pass marks (place_at order search.key) next (counts_at marks order search.key)

  led : IsLed scan.keys.now.accepted.now (search.key / length order) (place_at order search.key) next
      (counted_after round leap.mark)
  led =
      round_leads scan.keys.now.accepted.now (search.key / length order) (place_at order search.key) next round
      leap.mark has
      (counts_within marks order search.key (omega (arith, ready.below, ready.keys.size)))
      (ready.leap.onto next goes).1

  -- The mark of a leap is one of 64.
  pub few_marks : (mark : ℕ) → leap.mark ≡ Some mark → mark < 64
  few_marks mark is =
      omega (
        arith,
        mark_inside marks (place_at order search.key) next mark ((ready.leap.onto next goes).1 ∙ is),
        ready.keys.ordered.0.sound.few_marks,
      )

  -- Where a full mark bars it, it has no counts to go on with.
  pub barred : counted_after round leap.mark ≡ None → ¬ AreWithin marks passed
  barred none =
      subst (IsLed scan.keys.now.accepted.now (search.key / length order) (place_at order search.key) next) none led

  module _ (counted : Counted) (one : counted_after round leap.mark ≡ Some counted) where
    pub led_to : IsCounted scan.keys.now.accepted.now passed counted × AreWithin marks passed
    led_to =
        subst (IsLed scan.keys.now.accepted.now (search.key / length order) (place_at order search.key) next) one led

    -- Else it leads to a key,
    pub onto_key : IsKey marks order (counted.first + leap.index) next passed
    onto_key =
        led_key scan.keys.now.accepted.now passed counted leap.index next led_to.0 led_to.1
        (ready.leap.onto next goes).0

    -- a later one,
    onto_later : search.key < counted.first + leap.index
    onto_later =
        let below : search.key < keys_of marks order = omega (arith, ready.below, ready.keys.size) in
        let edge : IsEdge (setting_in scan).loads (setting_in scan).notes (place_at order search.key) next =
        edge_of (setting_in scan) order ready.keys.ordered.0 search.key below (seen_hop leap.hop) next
        (hop_among scan search.key number (seen_hop leap.hop) ready.hop) goes in
        (leads_on (setting_in scan) order ready.keys.ordered.0 search.key (record { ins = edge.0; way = to next })
        (counted.first + leap.index) next below edge.1 refl onto_key led_to.1).later

    onto_round : (counted.first + leap.index) / scan.cells.words ≡ counted.round
    onto_round =
        let n : ℕ = length order in
        let first : counted.first ≡ counted.round * n = led_to.0.first ∙ ap (λ (r : ℕ). r * n) (sym led_to.0.round) in
        ap (λ (w : ℕ). (counted.first + leap.index) / w) ready.cells.words
        ∙ ap (λ (f : ℕ). (f + leap.index) / n) first
        ∙ div-mul-add counted.round n leap.index (slice_get_within order leap.index next (ready.leap.onto next goes).0)

    pub onward : (location : Location) → IsOnward scan.cells search.key (record {
      key = counted.first + leap.index;
      round = counted.round;
      location = location;
      counts = counted.number;
    })
    onward location = record {
      there = omega (arith, onto_key.below, cells_size (setting_in scan) order scan.cells ready.cells);
      round = onto_round;
      later = onto_later;
    }

    -- which has these counts.
    pub onto_counts : counted.number ≡ counts_number marks order (counted.first + leap.index)
    onto_counts = led_to.0.number ∙ ap (number_of marks) (sym onto_key.passed)
