use Rattle.std.proofs.Common.{◌≡◌, ℕ, ◌≤◌, List, Option, length, sym, ap, subst, arith}
use Rattle.std.specs.Prelude.{MatchBool}
use Rattle.base_notes.specs.declared.notes.call.Call.{Call}
use Rattle.base_notes.specs.declared.notes.mark.Mark.{Mark}
use Rattle.machine_steps.specs.Calls.{none_open, MayGo}
use Rattle.machine_steps.specs.Counts.{after_pass, no_counts, AreWithin}
use Rattle.machine_steps.specs.CountsIn.{counts_in}
use Rattle.machine_steps.specs.OpenIn.{open_in}
use Rattle.machine_steps.specs.WaysLeft.{seen_way}
use Rattle.flow_graph.specs.Hops.{edge_between}
use Rattle.flow_graph.specs.SettingOf.{setting}
use Rattle.flow_graph.proofs.PassLaws.{no_counts_within}
use Rattle.ceiling_rounds.proofs.OneHops.{may_by, within_behind}
use Rattle.ceiling_rounds.proofs.one_hop.may_begin.Goals as goal

pub returns-then-is_some : goal.returns-then-is_some
returns-then-is_some c =
    let own = c.args.by.now in
    let g = setting own.deck.now own.times.now own.notes.now in
    let marks = c.marks.result.now in
    let calls = c.calls.result.now in
    let start = c.start-start.result.number in
    let next = c.in-To.next.number in
    let goes = c.may_go.result in
    let few : length marks ≤ 64 = omega (arith, c.marks.ensures.sound.few_marks, ap length c.marks.ensures.all) in
    let few_calls : length calls ≤ 64 = omega (arith, c.calls.ensures.sound.few_calls, ap length c.calls.ensures.all) in
    let none : counts_in c.none.result marks ≡ no_counts marks = c.none.ensures marks few in
    let closed : open_in c.none-then-is_some.result calls ≡ none_open calls =
    c.none-then-is_some.ensures calls few_calls in
    let within : AreWithin marks (after_pass marks start next (counts_in c.none.result marks)) =
    within_behind marks (after_pass marks start next (counts_in c.none.result marks)) c.passed-counts.result
    c.if-is_some.ensures
    (c.passed-counts.ensures.within (subst (AreWithin marks) (sym none) (no_counts_within marks)))
    c.passed-counts.ensures.counted in
    may_by g next (seen_way c.args.way) goes (ap seen_way c.in-To.is)
    (subst (λ (ms : List Mark). AreWithin ms (after_pass ms g.start next (no_counts ms))) c.marks.ensures.all
    (subst (λ (from : ℕ). AreWithin marks (after_pass marks from next (no_counts marks))) c.start-start.ensures.held
    (subst (λ (counts : List ℕ). AreWithin marks (after_pass marks start next counts)) none within)))
    (subst (λ (cs : List Call). let may = MayGo cs (none_open cs) (edge_between g.start next) in MatchBool goes may (¬ may))
    c.calls.ensures.all
    (subst (λ (from : ℕ). let may = MayGo calls (none_open calls) (edge_between from next) in MatchBool goes may (¬ may))
    c.start-start.ensures.held
    (subst (λ (ways : List (Option ℕ)). let may = MayGo calls ways (edge_between start next) in MatchBool goes may (¬ may))
    closed c.may_go.ensures)))
