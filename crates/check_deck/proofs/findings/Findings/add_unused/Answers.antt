use Rattle.std.proofs.Common.{◌≡◌, ◌++◌, ℕ, List, flat_map, ap, sym, ◌∙◌}
use Rattle.std.specs.List.{range_with_len}
use Rattle.std.proofs.lemmas.Grind.{flat_map-append}
use Rattle.std.proofs.lemmas.Result.{err_from_is_err_and, on_ok_weaker}
use Rattle.read_decks.specs.InDeck.{loads_in}
use Rattle.flow_graph.specs.Flow.{executed_in, nodes_of}
use Rattle.check_findings.specs.Finding.{Finding}
use Rattle.check_findings.specs.FoundAt.{all_locations, astray, unused_list_at}
use Rattle.check_findings.proofs.Adding.{added_both}
use Rattle.check_findings.proofs.Whole.{two_parts}
use Rattle.check_deck.specs.FindingsOf.{found_in}
use Rattle.check_deck.proofs.findings.Findings.add_unused.Goals as goal

pub returns-in_err-add_all_astray : goal.returns-in_err-add_all_astray
returns-in_err-add_all_astray c =
    let p = err_from_is_err_and c.from_residual.result c.from_residual.ensures.1 in
    rw p.1 tt

pub returns-in_err-add_all_unused_lists : goal.returns-in_err-add_all_unused_lists
returns-in_err-add_all_unused_lists c =
    let p = err_from_is_err_and c.from_residual-in_err-add_all_unused_lists.result
    c.from_residual-in_err-add_all_unused_lists.ensures.1 in
    rw p.1 tt

pub returns : goal.returns
returns c =
    let flow = c.args.flow.now in
    let f : ℕ → List Finding = unused_list_at flow.notes.now (executed_in flow) in
    let first = range_with_len 0 2000 in
    let last = range_with_len 8000 4 in
    let marks : List Finding = flat_map (astray (loads_in flow.deck.now) flow.notes.now (nodes_of flow)) flow.notes.now.marks in
    let old = found_in c.args.self.now in
    let mid = found_in c.add_all_astray.new.self in
    let more = found_in c.add_all_unused_lists.new.self in
    let all : flat_map f first ++ flat_map f last ≡ flat_map f all_locations =
    sym (ap (flat_map f) two_parts ∙ flat_map-append f first last) in
    on_ok_weaker c.add_all_unused_lists-2.result (λ added.
    added_both old mid (found_in c.add_all_unused_lists-2.new.self) marks (flat_map f all_locations)
    c.in_ok-add_all_astray.ensures
    (added_both mid more (found_in c.add_all_unused_lists-2.new.self) (flat_map f first) (flat_map f last)
    c.in_ok-add_all_unused_lists.ensures added ∙ ap (λ (xs : List Finding). mid ++ xs) all)) c.add_all_unused_lists-2.ensures
