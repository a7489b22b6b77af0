-- Of Named::add_pattern: what the next instructions name is set, and what those behind them name is
-- left.
use Rattle.std.proofs.Common.{◌≤◌, suc, Contains, arith}
use Rattle.std.specs.Prelude.{flat_map}
use Rattle.base_notes.specs.Allowed.{matching}
use Rattle.check_findings.specs.Idle.{names}
use Rattle.check_findings.specs.NamedOf.{IsBetween, IsNamedIn}
use Rattle.check_findings.proofs.NamedFlags.{left_first, left_more, left_none, other_part}
use Rattle.check_findings.proofs.Namings.{all_named, named_split}
use Rattle.check_findings.proofs.named.Named.add_pattern.Goals as goal

pub loop-d-init : goal.loop-d-init
loop-d-init c =
    let pattern = c.args.pattern in
    left_first (Contains (flat_map names (matching pattern))) c.args.self.now.flags.items
    (IsNamedIn pattern pattern.d_from (suc pattern.d_to)) (all_named pattern)

pub loop-d-preserved : goal.loop-d-preserved
loop-d-preserved c =
    let pattern = c.args.pattern in
    let d = c.loop-d.d in
    let stretch = c.names_from-stretch.result in
    let further : d ≤ stretch.end = omega (arith, c.names_from-stretch.ensures.past) in
    left_more (Contains (flat_map names (matching pattern))) c.args.self.now.flags.items (IsNamedIn pattern d (suc pattern.d_to))
    (IsBetween stretch.from stretch.below) (IsNamedIn pattern stretch.end (suc pattern.d_to)) c.loop-d.self.flags.items
    c.add.new.self.flags.items c.loop-d.invariant c.add.ensures
    (λ word. other_part (IsNamedIn pattern d (suc pattern.d_to) word) (IsNamedIn pattern d stretch.end word)
    (IsBetween stretch.from stretch.below word) (IsNamedIn pattern stretch.end (suc pattern.d_to) word)
    (named_split pattern d stretch.end word further) (c.names_from-stretch.ensures.named word))

pub returns : goal.returns
returns c =
    let pattern = c.args.pattern in
    left_none (Contains (flat_map names (matching pattern))) c.args.self.now.flags.items
    (IsNamedIn pattern c.loop-d.d (suc pattern.d_to)) c.loop-d.self.flags.items c.loop-d.invariant
    (λ word named. omega (arith, named.1, named.3, c.loop-d-test.false))
