use Rattle.std.proofs.Common.{arith, subst}
use Rattle.base_notes.specs.declared.notes.pattern.Pattern.{Pattern}
use Rattle.base_notes.specs.Allowed.{Matches}
use Rattle.machine_emulator.proofs.Allowing.{allowed_by_one, allowed_by_none}
use Rattle.machine_emulator.proofs.monitor.allowed.has_match.Goals as goal

pub returns-then-matches : goal.returns-then-matches
returns-then-matches c =
    let item = c.pattern-item.result in
    let matches : Matches item c.args.instruction = c.matches.ensures.0 c.if-matches.true in
    allowed_by_one c.args.patterns.now c.loop-pattern.pattern-index item c.args.instruction (omega arith)
    (subst (λ (p : Pattern). Matches p c.args.instruction) c.pattern-item.is matches)

pub returns : goal.returns
returns c =
    allowed_by_none c.args.patterns.now c.args.instruction (λ k d inside. c.loop-pattern.invariant k d (omega arith))
