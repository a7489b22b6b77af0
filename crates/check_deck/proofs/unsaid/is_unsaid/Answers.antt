-- Of is_unsaid: the edges are those of the two marks, and all that is asked of them has been looked at.
use Rattle.std.proofs.Common.{◌≡◌, ℕ, List, map, false, ap, sym, ◌∙◌, subst, ◌↔◌, IsTrue}
use Rattle.std.proofs.lemmas.Result.{IfOk-weaker}
use Rattle.read_decks.specs.InDeck.{loads_in, start_in}
use Rattle.base_notes.specs.declared.notes.mark.Mark.{Mark}
use Rattle.base_notes.specs.Allowed.{Notes}
use Rattle.machine_steps.specs.Counts.{is_inside}
use Rattle.flow_graph.specs.Flow.{nodes_of}
use Rattle.base_notes.specs.EdgeOf.{edge_of}
use Rattle.check_deck.specs.Findings.{edges_at, IsUnsaid}
use Rattle.check_deck.specs.FindingsOf.{IsInsideIn}
use Rattle.check_deck.specs.Insides.{HasSeveralWays, IsMarkRound, IsRound}
use Rattle.check_deck.proofs.Marked.{edges_here}
use Rattle.check_deck.proofs.unsaid.is_unsaid.Goals as goal

pub returns : goal.returns
returns c =
    let flow = c.args.nesting.now.flow.now in
    let notes = flow.notes.now in
    let marks = notes.marks in
    let Inside : ℕ × ℕ → ℕ × ℕ → Type 0 = IsInsideIn flow in
    let inner = c.index-marks-inner.result in
    let outer = c.index-marks-outer.result in
    let here : map edge_of c.all-2.result.now ≡ edges_at marks c.args.inner =
    c.all-2.ensures ∙ edges_here c.args.marks.now marks c.args.inner inner c.requires.marks c.requires.inner
    c.index-marks-inner.is in
    let there : map edge_of c.all.result.now ≡ edges_at marks c.args.outer =
    c.all.ensures ∙ edges_here c.args.marks.now marks c.args.outer outer c.requires.marks c.requires.outer
    c.index-marks-outer.is in
    let same : c.marks.result.now ≡ marks = c.marks.ensures.all ∙ ap (λ (ns : Notes). ns.marks) c.notes.ensures in
    let unsaid : is_inside marks c.args.inner c.args.outer ≡ false =
    ap (λ (ms : List Mark). is_inside ms c.args.inner c.args.outer) (sym same)
    ∙ sym c.is_inside.ensures ∙ c.if-is_inside.false in
    IfOk-weaker c.is_mark_round.result
    (λ round. IsTrue round ↔ IsMarkRound Inside (map edge_of c.all-2.result.now) (map edge_of c.all.result.now))
    (λ round. IsTrue round
    ↔ IsUnsaid (loads_in flow.deck.now) notes (start_in flow.deck.now) (nodes_of flow) (c.args.inner, c.args.outer))
    (λ round iff. (
      λ is. record {
        few = c.requires.few;
        different = c.if-inner-outer.false;
        unsaid = unsaid;
        one_way = subst (λ (all : List (List (ℕ × ℕ))). ¬ HasSeveralWays (IsRound Inside (edges_at marks c.args.inner)) all)
            c.requires.marks c.requires.one_way;
        nested = subst (λ (edges : List (ℕ × ℕ)). IsMarkRound Inside edges (edges_at marks c.args.outer)) here
            (subst (IsMarkRound Inside (map edge_of c.all-2.result.now)) there (iff.0 is));
      },
      λ is. iff.1 (subst (IsMarkRound Inside (map edge_of c.all-2.result.now)) (sym there)
          (subst (λ (edges : List (ℕ × ℕ)). IsMarkRound Inside edges (edges_at marks c.args.outer)) (sym here) is.nested)),
    )) c.is_mark_round.ensures
