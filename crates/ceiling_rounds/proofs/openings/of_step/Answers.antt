use Rattle.std.proofs.Common.{◌≡◌, ◌+◌, suc, ◌++◌, [], ◌∷◌, List, ℕ, Some, get_or, length, map, take, sym, subst, ap}
use Rattle.std.proofs.Common.{◌∙◌, arith}
use Rattle.std.specs.Prelude.{slice_get}
use Rattle.std.proofs.lemmas.List.{take_all}
use Rattle.std.proofs.lemmas.Option.{slice_get-get_or}
use Rattle.base_notes.specs.declared.notes.call.Call.{Call}
use Rattle.machine_steps.specs.Calls.{none_open, opened}
use Rattle.machine_steps.specs.OpenIn.{between, number_of}
use Rattle.ceiling_rounds.specs.declared.opening.Opening.{Opening}
use Rattle.ceiling_rounds.specs.Opening.{IsOfStep}
use Rattle.ceiling_rounds.proofs.OpeningLaws.{opened_at, step_more, step_right, AreOfStep}
use Rattle.ceiling_rounds.proofs.openings.of_step.Goals as goal

pub loop-index-preserved : goal.loop-index-preserved
loop-index-preserved c =
    let calls = c.args.calls.now in
    let edge = between c.args.from c.args.onto in
    let k = c.loop-index.index in
    let call = c.index-calls-index.result in
    let held = c.after-opened.result.ways in
    let way = get_or held k c.index-opened-index.result in
    let later : suc k ≡ k + 1 = omega arith in
    let at : slice_get calls k ≡ Some call =
    slice_get-get_or calls k call c.loop-index-test.true ∙ ap Some (sym {A = Call} c.index-calls-index.is) in
    let has : slice_get held k ≡ Some way =
    slice_get-get_or held k c.index-opened-index.result (omega (arith, c.loop-index-test.true, c.requires.few)) in
    let all : map number_of (take (length calls) held) ≡ opened calls edge calls (none_open calls) =
    c.after-opened.ensures ∙ ap (opened calls edge calls) (c.none.ensures calls c.requires.few) in
    let is : IsOfStep calls edge call.exit.number c.of_step.result =
    c.of_step.ensures calls (opened_at calls edge calls held k call way all at has) in
    subst (AreOfStep calls edge (take (k + 1) calls)) (sym {A = List Opening} c.in_ok-push.ensures.items)
    (subst (λ (n : ℕ). AreOfStep calls edge (take n calls) (c.loop-index.openings.items ++ c.of_step.result ∷ [])) later
    (step_more calls edge calls c.loop-index.openings.items k call c.of_step.result at c.loop-index.invariant is))

pub returns : goal.returns
returns c =
    let calls = c.args.calls.now in
    let edge = between c.args.from c.args.onto in
    step_right calls edge c.loop-index.openings.items
    (subst (λ (cs : List Call). AreOfStep calls edge cs c.loop-index.openings.items)
    (take_all c.loop-index.index calls c.loop-index-test.false) c.loop-index.invariant)
