-- Of Lacking::add_word: the places have the words' numbers, each once. A word that is there keeps
-- what both writers leave of it; another stands behind the others.
use Rattle.std.proofs.Common.{◌≡◌, ℕ, List, [], ◌∷◌, ◌++◌, map, Some, ap, sym, ◌∙◌, subst}
use Rattle.std.specs.Prelude.{Contains, slice_get}
use Rattle.std.proofs.Math.Seq.{map-set_same}
use Rattle.std.proofs.lemmas.List.{map-append}
use Rattle.flow_graph.specs.Found.{places_of}
use Rattle.check_findings.specs.declared.lacking.Lack.{Lack}
use Rattle.check_findings.specs.LackingOf.{pair_of}
use Rattle.check_findings.proofs.Lacks.{lack_met, number_of, number_there, same_places}
use Rattle.check_findings.proofs.Words.{new_added, new_more, places}
use Rattle.check_findings.proofs.lacking.Lacking.add_word.Goals as goal

pub returns-in-Some-clause-same : goal.returns-in-Some-clause-same
returns-in-Some-clause-same c =
    let items = c.args.words.now.items in
    let index = c.in-Some.index in
    let was = c.index.result.now in
    let left : Lack = record { word = c.args.word; kept = c.meet-left.result } in
    let at : slice_get (map number_of items) index ≡ Some c.args.word.number =
    sym (ap (λ (ns : List ℕ). slice_get ns index) c.requires.same) ∙ c.in-Some.ensures.found in
    c.requires.same ∙ sym (map-set_same number_of items index left was
    (sym (number_there items index c.args.word.number was at c.index.ensures) ∙ ap number_of c.index.ensures))

pub returns-in-Some-clause-added : goal.returns-in-Some-clause-added
returns-in-Some-clause-added c before writer are =
    let items = c.args.words.now.items in
    let index = c.in-Some.index in
    let at : slice_get (map number_of items) index ≡ Some c.args.word.number =
    sym (ap (λ (ns : List ℕ). slice_get ns index) c.requires.same) ∙ c.in-Some.ensures.found in
    lack_met before writer c.args.word c.args.kept c.meet-left.result items index c.index.result.now at c.index.ensures
    c.meet-left.ensures are

pub returns-clause-same : goal.returns-clause-same
returns-clause-same c =
    let items = c.args.words.now.items in
    let lack : Lack = record { word = c.args.word; kept = c.args.kept } in
    c.in_ok-add.ensures ∙ new_added (places_of c.args.places.now) c.args.word.number c.in_default.ensures.none
    ∙ ap (λ (ns : List ℕ). ns ++ c.args.word.number ∷ []) c.requires.same
    ∙ sym (ap (map number_of) c.in_ok-push.ensures.items ∙ map-append number_of items (lack ∷ []))

pub returns-clause-added : goal.returns-clause-added
returns-clause-added c before writer are =
    let items = c.args.words.now.items in
    let lack : Lack = record { word = c.args.word; kept = c.args.kept } in
    let same : places_of c.args.places.now ≡ places before = c.requires.same ∙ same_places before items are in
    ap (map pair_of) c.in_ok-push.ensures.items ∙ map-append pair_of items (lack ∷ [])
    ∙ new_more before writer c.args.word.number c.args.kept (map pair_of items) are
    (subst (λ (ns : List ℕ). ¬ Contains ns c.args.word.number) same c.in_default.ensures.none)
