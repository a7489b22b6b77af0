-- Of add_unsaid_one_way: what was added are those of the marks so far inside which the one at the place
-- stands without saying so. One more mark is added where it is one of these, and nothing else is.
use Rattle.std.proofs.Common.{◌≡◌, ◌∷◌, [], ◌++◌, ℕ, true, false, map, ap, sym, ◌∙◌, arith}
use Rattle.std.proofs.lemmas.List.{map_push}
use Rattle.read_decks.specs.InDeck.{loads_in, start_in}
use Rattle.base_notes.specs.EdgeOf.{edge_of}
use Rattle.flow_graph.specs.Flow.{nodes_of}
use Rattle.check_findings.specs.Finding.{inside}
use Rattle.check_findings.specs.FindingOf.{seen}
use Rattle.check_deck.specs.Findings.{edge_at, inside_at, IsUnsaid}
use Rattle.check_deck.proofs.Unsaids.{pair_in, pair_out}
use Rattle.check_deck.proofs.unsaid.add_unsaid_one_way.Goals as goal

pub loop-outer-preserved-then-not-branch : goal.loop-outer-preserved-then-not-branch
loop-outer-preserved-then-not-branch c =
    let flow = c.args.nesting.now.flow.now in
    record {
      within = omega (arith, c.loop-outer-test.true);
      so_far =
          pair_out (IsUnsaid (loads_in flow.deck.now) flow.notes.now (start_in flow.deck.now) (nodes_of flow))
          (inside_at flow.notes.now.marks) c.args.inner c.loop-outer.outer (map seen c.args.found.now.items)
          (map seen c.loop-outer.found.items) c.loop-outer.invariant.so_far
          (λ is. let clash : true ≡ false = sym (c.in_ok-is_unsaid.ensures.1 is) ∙ c.if-not-branch.true in cc);
    }

pub loop-outer-preserved : goal.loop-outer-preserved
loop-outer-preserved c =
    let flow = c.args.nesting.now.flow.now in
    let marks = flow.notes.now.marks in
    let before = map seen c.loop-outer.found.items in
    let one = c.marked_edge.result in
    let other = c.marked_edge-in-loop-outer.result in
    let grown : map seen c.push.new.self.items ≡ before ++ inside_at marks (c.args.inner, c.loop-outer.outer) ∷ [] =
    ap (map seen) c.in_ok-push.ensures.items ∙ map_push seen c.loop-outer.found.items _
    ∙ ap (λ (edge : ℕ × ℕ). before ++ inside edge (edge_of other) ∷ []) c.marked_edge.ensures
    ∙ ap (λ (edge : ℕ × ℕ). before ++ inside (edge_at marks c.args.inner) edge ∷ [])
    c.marked_edge-in-loop-outer.ensures in
    record {
      within = omega (arith, c.loop-outer-test.true);
      so_far =
          pair_in (IsUnsaid (loads_in flow.deck.now) flow.notes.now (start_in flow.deck.now) (nodes_of flow))
          (inside_at marks) c.args.inner c.loop-outer.outer (map seen c.args.found.now.items) before
          (map seen c.push.new.self.items) c.loop-outer.invariant.so_far
          (c.in_ok-is_unsaid.ensures.0 c.if-not-branch.false) grown;
    }
