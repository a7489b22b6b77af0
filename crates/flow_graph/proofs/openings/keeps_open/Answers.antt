use Rattle.std.proofs.Common.{◌≡◌, ◌+◌, List, [], ◌∷◌, ◌++◌, take, Some, ap, sym, ◌∙◌}
use Rattle.std.proofs.Common.{inl, inr, arith}
use Rattle.std.specs.Prelude.{slice_get}
use Rattle.std.proofs.lemmas.Bool.{cases_lt}
use Rattle.std.proofs.lemmas.List.{take_all, take_more}
use Rattle.std.proofs.lemmas.Option.{same_Some, slice_get-get_or, slice_get_within}
use Rattle.base_notes.specs.declared.notes.call.Call.{Call}
use Rattle.machine_steps.specs.Calls.{opened_by}
use Rattle.machine_steps.specs.OpenIn.{between}
use Rattle.flow_graph.proofs.KeptOpen.{none_opened, stays_open}
use Rattle.flow_graph.proofs.openings.keeps_open.Goals as goal

pub loop-call-preserved : goal.loop-call-preserved
loop-call-preserved c =
    let calls = c.args.calls.now in
    let k = c.loop-call.call-index in
    let call = c.call-item.result in
    let edge = between c.args.from c.args.onto in
    let more : take (k + 1) calls ≡ take k calls ++ call ∷ [] =
    take_more calls k call c.loop-call-test.true
    ∙ ap (λ (one : Call). take k calls ++ one ∷ []) (sym c.call-item.is) in
    record {
      none = λ exit. ap (λ (cs : List Call). opened_by cs edge exit) more
          ∙ none_opened (take k calls) call edge exit (c.loop-call.invariant.none exit)
          (sym c.leads.ensures ∙ c.if-leads.false);
      others = λ j one below at same. elim (cases_lt j k) [
        | inl earlier ↦ c.loop-call.invariant.others j one earlier at same
        | inr last ↦ (let here : j ≡ k = omega (arith, below, last) in
            let equal : one ≡ call = same_Some one call
            (sym at ∙ ap (slice_get calls) here ∙ slice_get-get_or calls k call c.loop-call-test.true
            ∙ ap Some (sym c.call-item.is)) in
            c.if-call-from.false (sym (ap (λ (x : Call). x.exit.number) equal) ∙ same))
      ];
    }

pub returns : goal.returns
returns c = λ so ways long.
    let calls = c.args.calls.now in
    let edge = between c.args.from c.args.onto in
    stays_open calls calls edge ways
    (λ exit. sym (ap (λ (cs : List Call). opened_by cs edge exit)
    (take_all c.loop-call.call-index calls c.loop-call-test.false)) ∙ c.loop-call.invariant.none exit)
    (λ k call at same. c.loop-call.invariant.others k call
    (omega (arith, slice_get_within calls k call at, c.loop-call-test.false)) at same) long
