-- A row has all hops of its location.
use Rattle.std.proofs.Common.{◌≡◌, ℕ, ◌+◌, ◌-◌, ◌*◌, ◌/◌, ◌%◌, ◌<◌, ◌≤◌, List, [], ◌∷◌, map, refl}
use Rattle.std.proofs.Common.{ap, sym, subst, ◌∙◌, inl, inr, arith}
use Rattle.std.specs.Prelude.{Contains, flat_map}
use Rattle.std.proofs.lemmas.Bool.{cases_lt, le-ltb, lt-ltb}
use Rattle.std.proofs.lemmas.List.Elements.{Contains-append_cases, Contains-append_left, Contains-append_right}
use Rattle.base_words.specs.declared.instruction.Instruction.{Instruction}
use Rattle.base_words.specs.Location.{IsLocation}
use Rattle.base_words.specs.declared.op.Op.{Op}
use Rattle.base_notes.specs.Allowed.{Notes, allowed}
use Rattle.base_notes.specs.Entries.{entry_in}
use Rattle.base_notes.specs.Marks.{mark_on}
use Rattle.base_notes.specs.declared.entry.Entry.{Entry}
use Rattle.base_notes.specs.declared.notes.mark.Mark.{Mark}
use Rattle.machine_steps.specs.Timing.{found}
use Rattle.machine_steps.specs.Ways.{Way, ways}
use Rattle.base_graphs.proofs.Lists.{contains_cases, contains_here, contains_none, contains_there}
use Rattle.flow_graph.specs.Longest.{longest}
use Rattle.flow_graph.specs.Hops.{Hop, hops_of}
use Rattle.flow_graph.specs.Walk.{Setting}
use Rattle.ceiling_rows.specs.declared.found.Found.{Found}
use Rattle.ceiling_rows.specs.declared.raised.Onward.{Onward}
use Rattle.ceiling_rows.specs.declared.raised.Raised.{Raised}
use Rattle.ceiling_rows.specs.declared.row.Edge.{Edge}
use Rattle.ceiling_rows.specs.declared.row.Row.{Row}
use Rattle.ceiling_rows.specs.Steps.{arrival}
use Rattle.ceiling_rows.specs.Raised.{latest, HasTaken, IsRaised}
use Rattle.ceiling_rows.specs.Rows.{HasEdge, HasEdges, IsRow}
use Rattle.ceiling_rows.specs.Slot.{place_of, slot_of}

-- a location's number determines the location,
pub slot_place : (place angle : ℕ) → IsLocation place → angle < 50 → place_of (slot_of place angle) ≡ place
slot_place place angle is on_drum = elim (cases_lt place 2000) [
  | inl drum ↦ rw (lt-ltb place 2000 drum, lt-ltb place 2000 drum) refl
  | inr past ↦ (
      let beside : 8000 ≤ place = is.1 past in
      let high : 2000 ≤ 2000 + (place - 8000) * 50 + angle = omega arith in
      let back : 8000 + (2000 + (place - 8000) * 50 + angle - 2000) / 50 ≡ place = omega (arith, beside, on_drum) in
      rw (le-ltb place 2000 past, le-ltb (2000 + (place - 8000) * 50 + angle) 2000 high) back)
]

-- a hop of some instructions is of one of them, by one of its ways
of_ways : (ins : Instruction) (all : List Way) (hop : Hop) → Contains (map (λ w. record { ins = ins; way = w }) all) hop
    → (ins ≡ hop.ins) × Contains all hop.way
of_ways ins [] hop there = absurd (contains_none hop there)
of_ways ins (way ∷ all) hop there =
    elim (contains_cases (record { ins = ins; way = way }) hop (map (λ w. record { ins = ins; way = w }) all) there) [
      | inl same ↦ (
        ap (λ (one : Hop). one.ins) same,
        subst (λ (w : Way). Contains (way ∷ all) w) (ap (λ (one : Hop). one.way) same) (contains_here way all),
      )
      | inr behind ↦ (let so = of_ways ins all hop behind in (so.0, contains_there way hop.way all so.1))
    ]

of_allowed : (notes : Notes) (all : List Instruction) (hop : Hop) → Contains (flat_map (hops_of notes) all) hop
    → Contains all hop.ins × Contains (ways notes hop.ins) hop.way
of_allowed notes [] hop there = absurd (contains_none hop there)
of_allowed notes (ins ∷ all) hop there =
    elim (Contains-append_cases (hops_of notes ins) (flat_map (hops_of notes) all) hop there) [
      | inl here ↦ (let so = of_ways ins (ways notes ins) hop here in (
        subst (λ (one : Instruction). Contains (ins ∷ all) one) so.0 (contains_here ins all),
        subst (λ (one : Instruction). Contains (ways notes one) hop.way) so.0 so.1,
      ))
      | inr behind ↦ (let so = of_allowed notes all hop behind in (contains_there ins hop.ins all so.0, so.1))
    ]

-- the hop of an instruction by a way
abbrev pub hop_by : Instruction → Way → Hop
hop_by ins way = record { ins = ins; way = way }

-- and the other way about
has_way : (ins : Instruction) (all : List Way) (way : Way) → Contains all way
    → Contains (map (hop_by ins) all) (hop_by ins way)
has_way ins [] way there = absurd (contains_none way there)
has_way ins (one ∷ all) way there = elim (contains_cases one way all there) [
  | inl same ↦ subst (λ (w : Way). Contains (map (hop_by ins) (one ∷ all)) (hop_by ins w)) same
      (contains_here (hop_by ins one) (map (hop_by ins) all))
  | inr behind ↦ contains_there (hop_by ins one) (hop_by ins way) (map (hop_by ins) all) (has_way ins all way behind)
]

pub has_hop : (notes : Notes) (all : List Instruction) (ins : Instruction) (way : Way) → Contains all ins
    → Contains (ways notes ins) way → Contains (flat_map (hops_of notes) all) (hop_by ins way)
has_hop notes [] ins way there by = absurd (contains_none ins there)
has_hop notes (one ∷ all) ins way there by = elim (contains_cases one ins all there) [
  | inl same ↦ Contains-append_left (hops_of notes one) (flat_map (hops_of notes) all) (hop_by ins way)
      (subst (λ (i : Instruction). Contains (hops_of notes i) (hop_by ins way)) (sym same)
      (has_way ins (ways notes ins) way by))
  | inr behind ↦ Contains-append_right (hops_of notes one) (flat_map (hops_of notes) all) (hop_by ins way)
      (has_hop notes all ins way behind by)
]

-- An edge stays, where all stay.
pub edge_stays : (marks : List Mark) (from : ℕ) (edges more : List Edge) (slot : ℕ) (hop : Onward)
    → ((edge : Edge) → Contains edges edge → Contains more edge) → HasEdge marks from edges slot hop
    → HasEdge marks from more slot hop
edge_stays marks from edges more slot hop stay has =
    (has.0, stay has.0 has.1, has.2, has.3, has.4, has.5)

-- What was looked at, with its edges, is a row.
pub row_of_raised : (g : Setting) (from : Found) (raised : Raised) (row : Row) → g.notes ≡ from.notes.now
    → g.times ≡ entry_in from.times.now
    → ((ins : Instruction) → Contains (allowed g.loads g.notes from.location.number) ins → HasTaken from raised ins)
    → row.stop ≡ raised.stop → row.most ≡ raised.most
    → HasEdges g.notes.marks from.location.number raised.onward.items row.edges.items
    → IsRow g from.location.number from.angle row
row_of_raised g from raised row notes times taken stop most edges hop there =
    let place = from.location.number in
    let so = of_allowed g.notes (allowed g.loads g.notes place) hop there in
    let is : IsRaised from raised hop.ins hop.way =
    taken hop.ins so.0 hop.way (subst (λ (n : Notes). Contains (ways n hop.ins) hop.way) notes so.1) in
    let ended : ℕ = latest from hop.ins hop.way in
    let long : longest g.times place hop.ins hop.way from.angle ≡ ended =
    ap (λ (table : Op → Entry). longest table place hop.ins hop.way from.angle) times in
    record {
      within = omega (arith, is.within, long, most);
      ends = λ nowhere. omega (arith, is.ends nowhere, long, stop);
      goes_on = λ next on.
          let reached = is.goes_on next on in
          let arrives : arrival g place from.angle hop next ≡ found next ended = ap (found next) long in
          let slot : ℕ = slot_of next (found next ended % 50) in
          let back : place_of slot ≡ next = slot_place next (found next ended % 50) reached.0 (omega arith) in
          let edge = edges.each slot reached.1.0 reached.1.1 in (
            reached.0,
            (
              edge.0,
              edge.1,
              record {
                onto = edge.2 ∙ ap (λ (clock : ℕ). slot_of next (clock % 50)) (sym arrives);
                mark = edge.3 ∙ ap (mark_on g.notes.marks place) back;
                time = omega (arith, arrives, reached.1.2, edge.4);
                stop = omega (arith, long, reached.1.3, edge.5);
              },
            ),
          );
    }
