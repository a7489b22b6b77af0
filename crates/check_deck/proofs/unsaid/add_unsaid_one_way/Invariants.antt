use Rattle.std.proofs.Common.{◌≤◌, ℕ, map}
use Rattle.std.specs.List.{range_with_len}
use Rattle.read_decks.specs.InDeck.{loads_in, start_in}
use Rattle.flow_graph.specs.Flow.{nodes_of}
use Rattle.check_findings.specs.FindingOf.{seen}
use Rattle.check_deck.specs.Findings.{inside_at, IsUnsaid}
use Rattle.check_deck.proofs.Unsaids.{AreAdded}
use Rattle.check_deck.proofs.unsaid.add_unsaid_one_way.Given as goal

-- of the marks so far, those inside which the one stands were added
abbrev pub invariant-loop-outer : goal.invariant-loop-outer
invariant-loop-outer l = record {
  within : l.outer ≤ l.outer-end;
  so_far : AreAdded (IsUnsaid (loads_in l.nesting.flow.now.deck.now) l.nesting.flow.now.notes.now (start_in l.nesting.flow.now.deck.now) (nodes_of l.nesting.flow.now))
      (inside_at l.nesting.flow.now.notes.now.marks) (map (λ (outer : ℕ). (l.inner, outer)) (range_with_len 0 l.outer))
      (map seen l.fn.found.items) (map seen l.found.items);
}
