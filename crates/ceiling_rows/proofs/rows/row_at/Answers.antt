-- Of row_at: all hops of the location have been looked at, so times and edges are a row of the
-- setting of the flow's deck and notes; and each of them is one of a step that is found there.
use Rattle.std.proofs.Common.{◌≡◌, ℕ, ◌+◌, ◌≤◌, Bool, true, false, List, Option, Some, None, subst, sym, ap, ◌∙◌, refl, arith}
use Rattle.std.specs.Prelude.{Contains, IfSome, is_some, not, slice_get}
use Rattle.std.proofs.lemmas.Option.{get_or_from_slice_get, slice_get_within}
use Rattle.read_decks.specs.declared.deck.Deck.{Deck}
use Rattle.base_words.specs.declared.instruction.Instruction.{Instruction}
use Rattle.base_words.specs.declared.op.Op.{Op}
use Rattle.read_decks.specs.InDeck.{loads_in}
use Rattle.base_notes.specs.Allowed.{Notes, allowed}
use Rattle.base_notes.specs.Entries.{entry_in}
use Rattle.base_notes.specs.declared.entry.Entry.{Entry}
use Rattle.base_notes.specs.declared.notes.mark.Mark.{Mark}
use Rattle.machine_steps.specs.Ways.{ways}
use Rattle.flow_graph.specs.Flow.{deck_of, executed_in, notes_of}
use Rattle.flow_graph.specs.Longest.{longest}
use Rattle.flow_graph.specs.SettingOf.{setting}
use Rattle.ceiling_rows.specs.declared.row.Edge.{Edge}
use Rattle.ceiling_rows.specs.declared.row.Row.{Row}
use Rattle.ceiling_rows.specs.Rows.{HasEdges, IsRow}
use Rattle.ceiling_rows.specs.Slot.{place_of}
use Rattle.ceiling_rows.proofs.RowLaws.{has_hop, hop_by, row_of_raised}
use Rattle.ceiling_rows.proofs.rows.row_at.Goals as goal

-- a location with an index is a member
is_member : (all : List ℕ) (place : ℕ) (index : Option ℕ) → IfSome index (λ k. slice_get all k ≡ Some place)
    → (none : Bool) → is_some index ≡ not none → none ≡ false → Contains all place
is_member all place None at true is other = cc
is_member all place None at false is other = cc
is_member all place (Some k) at none is other =
    (k, slice_get_within all k place at, get_or_from_slice_get all k place place at)

pub returns-clause-row : goal.returns-clause-row
returns-clause-row c =
    let flow = c.args.flow.now in
    let g = setting (deck_of flow) c.args.times.now (notes_of flow) in
    let executed = executed_in flow in
    let from = c.at-from.result in
    let place = from.location.number in
    let raised = c.take_all.new.self in
    let row : Row = record { stop = raised.stop; last = raised.last; most = raised.most; edges = c.in_ok-edges_of.field-0 } in
    let notes : notes_of flow ≡ from.notes.now = sym c.at-from.ensures.notes in
    let times : entry_in c.args.times.now ≡ entry_in from.times.now = ap entry_in (sym c.at-from.ensures.times) in
    let all : allowed (loads_in (deck_of flow)) (notes_of flow) place
    ≡ allowed (loads_in c.deck.result.now) from.notes.now place =
    ap (λ (deck : Deck). allowed (loads_in deck) (notes_of flow) place) (sym c.deck.ensures)
    ∙ ap (λ (n : Notes). allowed (loads_in c.deck.result.now) n place) notes in
    let marks : c.marks.result.now ≡ (notes_of flow).marks =
    c.marks.ensures.all ∙ ap (λ (n : Notes). n.marks) (sym notes) in
    let edges : HasEdges (notes_of flow).marks place raised.onward.items c.in_ok-edges_of.field-0.items =
    subst (λ (ms : List Mark). HasEdges ms place raised.onward.items c.in_ok-edges_of.field-0.items) marks
    c.in_ok-edges_of.ensures in
    let here : Contains executed place =
    is_member executed place c.index_of.result c.index_of.ensures.found c.is_none.result c.is_none.ensures c.if-is_none.false in
    let is : IsRow g place from.angle row =
    row_of_raised g from raised row notes times
    (λ ins there. c.take_all.ensures.taken ins (subst (λ (some : List Instruction). Contains some ins) all there)) refl
    refl edges in
    record {
      is = subst (λ (angle : ℕ). IsRow g (place_of c.args.slot.number) angle row) c.at-from.ensures.angle
          (subst (λ (n : ℕ). IsRow g n from.angle row) c.at-from.ensures.place is);
      low = λ most takes. c.take_all.ensures.no_more most (omega (arith, c.requires.most))
          (λ ins there way by.
          subst (λ (table : Op → Entry). longest table place ins way from.angle + 49 ≤ from.angle + most) times
          (takes.each place from.angle (hop_by ins way) here
          (has_hop (notes_of flow) (allowed (loads_in (deck_of flow)) (notes_of flow) place) ins way
          (subst (λ (some : List Instruction). Contains some ins) (sym all) there)
          (subst (λ (n : Notes). Contains (ways n ins) way) (sym notes) by)) (c.is_there.ensures.0 c.if-not-is_there.false)));
    }

pub forget-requires : goal.forget-requires
forget-requires c slot hop at =
    let so = c.in_ok-edges_of.ensures.each slot hop at in
    (so.0, subst (λ (all : List Edge). Contains all so.0) (sym c.deref.ensures.value) so.1, so.2)
