-- Of unsaid_marks: where the marks have too many edges nothing is told.
use Rattle.std.proofs.Common.{◌<◌, [], map, length, ap, arith}
use Rattle.std.proofs.lemmas.List.{length-map}
use Rattle.read_decks.specs.InDeck.{loads_in, start_in}
use Rattle.base_notes.specs.EdgeOf.{edge_of}
use Rattle.flow_graph.specs.Flow.{nodes_of}
use Rattle.check_findings.specs.FindingOf.{seen}
use Rattle.check_findings.specs.Edges.{marked_edges}
use Rattle.check_deck.specs.Findings.{IsUnsaid, pairs_of}
use Rattle.check_deck.proofs.Unsaids.{those_nothing}
use Rattle.check_deck.proofs.unsaid.unsaid_marks.Goals as goal

pub returns-then-len-gt-MOST_EDGES : goal.returns-then-len-gt-MOST_EDGES
returns-then-len-gt-MOST_EDGES c =
    let flow = c.args.flow.now in
    let notes = flow.notes.now in
    let marked = c.in_ok-marked.marked.items in
    let many : 64 < length (marked_edges notes) =
    omega (
      arith,
      c.if-len-gt-MOST_EDGES.true,
      c.len.ensures,
      c.in_ok-marked.marked.ok.0,
      ap length c.in_ok-marked.ensures,
      length-map marked edge_of,
    ) in (
      [],
      those_nothing (IsUnsaid (loads_in flow.deck.now) notes (start_in flow.deck.now) (nodes_of flow))
          (pairs_of notes.marks) (λ pair is. absurd (omega (arith, many, is.few))),
      ap (map seen) c.new.ensures.items,
    )
