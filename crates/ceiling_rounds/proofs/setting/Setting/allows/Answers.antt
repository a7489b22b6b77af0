use Rattle.std.proofs.Common.{List, sym, subst}
use Rattle.std.specs.Prelude.{flat_map, Contains}
use Rattle.std.proofs.lemmas.List.Elements.{Contains-append_left, Contains-append_right}
use Rattle.base_notes.specs.Allowed.{matching}
use Rattle.base_notes.specs.declared.notes.pattern.Pattern.{Pattern}
use Rattle.base_notes.proofs.Matching.{matching_has}
use Rattle.flow_graph.specs.Patterns.{patterns_left}
use Rattle.ceiling_rounds.proofs.setting.Setting.allows.Goals as goal

pub loop-pattern-preserved : goal.loop-pattern-preserved
loop-pattern-preserved c = λ ins there.
    c.loop-pattern.invariant ins
    (subst (λ (some : List Pattern). Contains (flat_map matching some) ins) (sym c.in-Some.ensures.steps)
    (Contains-append_right (matching c.in-Some.pattern) (flat_map matching (patterns_left c.next.new.self)) ins there))

pub returns-then-matches : goal.returns-then-matches
returns-then-matches c = λ yes.
    let ins = c.args.instruction in
    c.loop-pattern.invariant ins
    (subst (λ (some : List Pattern). Contains (flat_map matching some) ins) (sym c.in-Some.ensures.steps)
    (Contains-append_left (matching c.in-Some.pattern) (flat_map matching (patterns_left c.next.new.self)) ins
    (matching_has c.in-Some.pattern ins (c.matches.ensures.0 c.if-matches.true))))
