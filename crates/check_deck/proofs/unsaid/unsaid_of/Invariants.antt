use Rattle.std.proofs.Common.{◌≤◌, ℕ, [], length, map}
use Rattle.std.specs.Prelude.{flat_map}
use Rattle.std.specs.List.{range_with_len}
use Rattle.read_decks.specs.InDeck.{loads_in, start_in}
use Rattle.flow_graph.specs.Flow.{nodes_of}
use Rattle.check_findings.specs.FindingOf.{seen}
use Rattle.check_deck.specs.Findings.{inside_at, IsUnsaid}
use Rattle.check_deck.proofs.Unsaids.{AreAdded}
use Rattle.check_deck.proofs.unsaid.unsaid_of.Given as goal

-- the pairs of the marks so far were added
abbrev pub invariant-loop-inner : goal.invariant-loop-inner
invariant-loop-inner l = record {
  within : l.inner ≤ l.inner-end;
  so_far : AreAdded (IsUnsaid (loads_in l.nesting.flow.now.deck.now) l.nesting.flow.now.notes.now (start_in l.nesting.flow.now.deck.now) (nodes_of l.nesting.flow.now))
      (inside_at l.nesting.flow.now.notes.now.marks)
      (flat_map (λ (inner : ℕ). map (λ (outer : ℕ). (inner, outer)) (range_with_len 0 (length l.nesting.flow.now.notes.now.marks)))
      (range_with_len 0 l.inner))
      [] (map seen l.found.items);
}
