-- Of add_unsaid_of: where the mark stands inside several ways back nothing is left unsaid of it.
use Rattle.std.proofs.Common.{◌≡◌, ℕ, List, [], map, length, true, false, sym, ◌∙◌, subst}
use Rattle.std.specs.List.{range_with_len}
use Rattle.std.proofs.lemmas.List.{append-nil}
use Rattle.read_decks.specs.InDeck.{loads_in, start_in}
use Rattle.base_notes.specs.EdgeOf.{edge_of}
use Rattle.flow_graph.specs.Flow.{nodes_of}
use Rattle.check_findings.specs.FindingOf.{seen}
use Rattle.check_deck.specs.Findings.{edges_at, IsUnsaid}
use Rattle.check_deck.specs.FindingsOf.{IsInsideIn}
use Rattle.check_deck.specs.Insides.{HasSeveralWays, IsRound}
use Rattle.check_deck.proofs.Marked.{edges_here}
use Rattle.check_deck.proofs.Unsaids.{those_none}
use Rattle.check_deck.proofs.unsaid.add_unsaid_of.Goals as goal

pub returns-then-branch : goal.returns-then-branch
returns-then-branch c =
    let flow = c.args.nesting.now.flow.now in
    let notes = flow.notes.now in
    let Several : List (ℕ × ℕ) → Type 0 = λ edges. HasSeveralWays (IsRound (IsInsideIn flow) edges) c.args.marks.now in
    let here : map edge_of c.all.result.now ≡ edges_at notes.marks c.args.inner =
    c.all.ensures ∙ edges_here c.args.marks.now notes.marks c.args.inner c.index-marks-inner.result c.requires.marks
    c.requires.inner c.index-marks-inner.is in
    let several : Several (edges_at notes.marks c.args.inner) =
    subst Several here (c.in_ok-has_several_ways.ensures.0 c.if-branch.true) in
    let pair : ℕ → ℕ × ℕ = λ outer. (c.args.inner, outer) in (
      [],
      those_none (IsUnsaid (loads_in flow.deck.now) notes (start_in flow.deck.now) (nodes_of flow)) pair
          (range_with_len 0 (length notes.marks))
          (λ outer is. is.one_way
          (subst (HasSeveralWays (IsRound (IsInsideIn flow) (edges_at notes.marks c.args.inner))) c.requires.marks several)),
      sym (append-nil (map seen c.args.found.now.items)),
    )

pub add_unsaid_one_way-requires-clause-one_way : goal.add_unsaid_one_way-requires-clause-one_way
add_unsaid_one_way-requires-clause-one_way c several =
    let flow = c.args.nesting.now.flow.now in
    let Several : List (ℕ × ℕ) → Type 0 = λ edges. HasSeveralWays (IsRound (IsInsideIn flow) edges) c.args.marks.now in
    let here : map edge_of c.all.result.now ≡ edges_at flow.notes.now.marks c.args.inner =
    c.all.ensures ∙ edges_here c.args.marks.now flow.notes.now.marks c.args.inner c.index-marks-inner.result
    c.requires.marks c.requires.inner c.index-marks-inner.is in
    let clash : true ≡ false = sym (c.in_ok-has_several_ways.ensures.1 (subst Several (sym here) several))
    ∙ c.if-branch.false in
    cc
