use Rattle.std.proofs.Common.{ℕ, [], length, map, arith}
use Rattle.std.specs.List.{range_with_len}
use Rattle.read_decks.specs.InDeck.{loads_in, start_in}
use Rattle.flow_graph.specs.Flow.{nodes_of}
use Rattle.check_findings.specs.FindingOf.{seen}
use Rattle.check_deck.specs.Findings.{inside_at, IsUnsaid}
use Rattle.check_deck.proofs.Unsaids.{row_in}
use Rattle.check_deck.proofs.unsaid.unsaid_of.Goals as goal

pub loop-inner-preserved : goal.loop-inner-preserved
loop-inner-preserved c =
    let flow = c.args.nesting.now.flow.now in
    let more = c.in_ok-add_unsaid_of.ensures in
    record {
      within = omega (arith, c.loop-inner-test.true);
      so_far =
          row_in (IsUnsaid (loads_in flow.deck.now) flow.notes.now (start_in flow.deck.now) (nodes_of flow))
          (inside_at flow.notes.now.marks)
          (λ inner. map {A = ℕ} {B = ℕ × ℕ} (λ outer. (inner, outer)) (range_with_len 0 (length flow.notes.now.marks)))
          c.loop-inner.inner [] (map seen c.loop-inner.found.items) (map seen c.add_unsaid_of.new.found.items)
          c.loop-inner.invariant.so_far (record { those = more.0; are = more.1; added = more.2 });
    }
