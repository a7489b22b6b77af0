use Rattle.std.proofs.Common.{◌≡◌, ℕ, ◌+◌, List, [], ◌∷◌, Option, sym, ap, ◌∙◌, subst, arith}
use Rattle.read_decks.specs.InDeck.{loads_in}
use Rattle.base_notes.specs.declared.notes.mark.Mark.{Mark}
use Rattle.base_notes.specs.declared.notes.call.Call.{Call}
use Rattle.base_notes.specs.Entries.{entry_in}
use Rattle.machine_steps.specs.WaysLeft.{seen_way}
use Rattle.flow_graph.specs.Longest.{longest}
use Rattle.flow_graph.specs.SettingOf.{setting}
use Rattle.flow_graph.specs.Walk.{edge_taken}
use Rattle.flow_graph.proofs.Profiles.{hop_may_end}
use Rattle.flow_walks.specs.Pieces.{seen_placed}
use Rattle.ceiling_rows.specs.Marked.{mark_by}
use Rattle.ceiling_rounds.specs.declared.change.Change.{Change}
use Rattle.ceiling_rounds.specs.Opening.{AreRight}
use Rattle.ceiling_rounds.specs.Stretch.{changes_by, next_by, ComeTo}
use Rattle.ceiling_rounds.proofs.Comings.{hop_comes}
use Rattle.ceiling_rounds.proofs.stretch.Stretch.of_hop.Goals as goal

pub longest-end-requires-clause-may_end : goal.longest-end-requires-clause-may_end
longest-end-requires-clause-may_end c =
    let by = c.args.by.now in
    let one = c.args.one in
    hop_may_end (loads_in by.deck.now) by.notes.now one.location.number one.hop.instruction (seen_way one.hop.way)
    (c.has_hop.ensures c.if-not-has_hop.false)

pub returns : goal.returns
returns c =
    let by = c.args.by.now in
    let one = c.args.one in
    let g = setting by.deck.now by.times.now by.notes.now in
    let place = one.location.number in
    let way = seen_way one.hop.way in
    let took = c.from.result in
    let marks : c.marks-marks.result.now ≡ by.notes.now.marks = c.marks-marks.ensures.all in
    let changes : changes_by by.notes.now.marks (mark_by by.notes.now.marks place way) 0 by.notes.now.marks
    ≡ c.in_ok-changes_by.field-0.items =
    sym (
    c.in_ok-changes_by.ensures
    ∙ ap (λ (k : Option ℕ). changes_by c.marks-marks.result.now k 0 c.marks-marks.result.now) c.mark_by-passed.ensures
    ∙ ap (λ (ms : List Mark). changes_by ms (mark_by ms place way) 0 ms) marks
    ) in
    let calls : c.calls.result.now ≡ by.notes.now.calls = c.calls.ensures.all in
    let openings = c.in_ok-of_hop.field-0.items in
    let right : AreRight by.notes.now.calls (edge_taken place way) openings =
    subst (λ (cs : List Call). AreRight cs (edge_taken place way) openings) calls c.in_ok-of_hop.ensures in
    let ends : longest (entry_in by.times.now) place one.hop.instruction way one.angle ≡ one.angle + took =
    omega (arith, c.longest-end.ensures.value, c.longest-end.ensures.later, c.from.ensures) in
    let is =
    hop_comes g place one.angle one.hop.instruction one.on_drum took openings way
    (c.has_hop.ensures c.if-not-has_hop.false) ends right in
    subst (λ (onto : Option ℕ). ComeTo g (seen_placed one ∷ []) (record {
      from = place;
      angle = one.angle;
      onto = onto;
      time = took;
      changes = c.in_ok-changes_by.field-0.items;
      openings = openings;
    })) (sym c.next_by.ensures)
    (subst (λ (cs : List Change). ComeTo g (seen_placed one ∷ []) (record {
      from = place;
      angle = one.angle;
      onto = next_by way;
      time = took;
      changes = cs;
      openings = openings;
    })) changes is)
