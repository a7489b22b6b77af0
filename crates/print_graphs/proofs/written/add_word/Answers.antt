use Rattle.std.proofs.Common.{◌≡◌, ℕ, true, false, List, [], ◌∷◌, ap, sym, ◌∙◌, subst}
use Rattle.std.specs.Prelude.{filter, not, is_some, OnOk}
use Rattle.flow_graph.specs.Executed.{with_new}
use Rattle.flow_graph.specs.Flow.{executed_in}
use Rattle.flow_graph.specs.Found.{places_of}
use Rattle.flow_graph.specs.Taken.{is_among}
use Rattle.flow_graph.proofs.Among.{among_found}
use Rattle.print_graphs.proofs.Words.{word_dropped, word_kept}
use Rattle.print_graphs.proofs.written.add_word.Goals as goal

pub returns-then-is_none : goal.returns-then-is_none
returns-then-is_none c =
    let executed = executed_in c.args.flow.now in
    let there : is_some c.index_of.result ≡ is_among executed c.in-Some.word.number =
    among_found executed c.in-Some.word.number c.index_of.result c.index_of.ensures.found c.index_of.ensures.none in
    let none : is_some c.index_of.result ≡ false = c.is_none.ensures ∙ ap not c.if-is_none.true in
    word_dropped (is_among executed) (places_of c.args.written.now) c.args.number
    (sym (ap (is_among executed) c.in-Some.ensures.value) ∙ sym there ∙ none)

pub returns : goal.returns
returns c =
    let executed = executed_in c.args.flow.now in
    let places = places_of c.args.written.now in
    let there : is_some c.index_of.result ≡ is_among executed c.in-Some.word.number =
    among_found executed c.in-Some.word.number c.index_of.result c.index_of.ensures.found c.index_of.ensures.none in
    let some : is_some c.index_of.result ≡ true = c.is_none.ensures ∙ ap not c.if-is_none.false in
    let kept : with_new places (c.in-Some.word.number ∷ [])
    ≡ with_new places (filter (is_among executed) (c.args.number ∷ [])) =
    ap (λ (word : ℕ). with_new places (word ∷ [])) c.in-Some.ensures.value
    ∙ word_kept (is_among executed) places c.args.number
    (sym (ap (is_among executed) c.in-Some.ensures.value) ∙ sym there ∙ some) in
    subst (λ (all : List ℕ). OnOk c.add.result (places_of c.add.new.self ≡ all)) kept c.add.ensures
