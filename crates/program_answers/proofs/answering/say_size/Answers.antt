use Rattle.std.proofs.Common.{◌≡◌, ℕ, List, length, ap, ◌∙◌, refl, subst}
use Rattle.read_decks.specs.InDeck.{loads_in}
use Rattle.bound_scan.specs.AnalysisOf.{rows_of}
use Rattle.flow_graph.specs.Accepted.{counts_of}
use Rattle.print_lines.specs.declared.status.Status.TheVariants.{Done}
use Rattle.print_lines.specs.Output.{GetsResult}
use Rattle.print_lines.proofs.NoLine.{no_line}
use Rattle.print_walks.specs.SizeText.{hops_among, size_text}
use Rattle.program_answers.specs.Says.{size_reply}
use Rattle.program_answers.proofs.answering.say_size.Goals as goal

pub returns-clause-does : goal.returns-clause-does
returns-clause-does g c err =
    let documents = c.args.documents.now in
    let is = c.in_ok-analysis.ensures in
    let size = c.in_ok-size.size in
    let right = c.in_ok-size.ensures in
    let rows = rows_of c.in_ok-analysis.analysis in
    let words = length right.executed in
    let hops = hops_among (loads_in documents.deck) documents.notes right.executed in
    let told : c.in_ok-text.text.items ≡ size_text words hops (counts_of documents.notes.marks) (length rows) =
    c.in_ok-text.ensures.text
    ∙ ap (λ (n : ℕ). size_text n size.hops size.counts size.keys) right.words
    ∙ ap (λ (n : ℕ). size_text words n size.counts size.keys) right.hops
    ∙ ap (λ (n : ℕ). size_text words hops n size.keys) (right.counts ∙ is.counts)
    ∙ ap (size_text words hops (counts_of documents.notes.marks)) right.keys in
    let old = g.O.Output.device c.args.out.now in
    let new = g.O.Output.device c.tell_text.new.out in
    let gets =
    subst (λ (said : List ℕ). GetsResult old new said Done c.tell_text.result) (c.deref.ensures.value ∙ told)
    c.tell_text.ensures in (
      size_reply documents right.executed rows,
      (is.accepted, right.executed, right.found, rows, is.table, refl),
      no_line _ _,
      (gets, refl),
    )
