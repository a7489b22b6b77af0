-- Of Named::add: one word more sets its flag.
use Rattle.std.proofs.Common.{◌≡◌, ◌+◌, ◌<◌, true, length, set, arith}
use Rattle.check_findings.specs.NamedOf.{IsBetween}
use Rattle.check_findings.proofs.NamedFlags.{between_first, set_one, left_first, left_more, left_none}
use Rattle.check_findings.proofs.named.Named.add.Goals as goal

pub loop-word-init : goal.loop-word-init
loop-word-init c =
    left_first (IsBetween c.args.from c.args.below) c.args.self.now.flags.items (IsBetween c.args.from c.args.below)
    (λ word. (λ x. x, λ x. x))

pub loop-word-preserved : goal.loop-word-preserved
loop-word-preserved c =
    let word = c.loop-word.word in
    let flags = c.loop-word.self.flags in
    let inside : word < length flags.items =
    omega (arith, c.loop-word-test.true, c.requires, c.loop-word.self.all, flags.ok.0) in
    left_more (IsBetween c.args.from c.args.below) c.args.self.now.flags.items (IsBetween word c.args.below)
    (λ one. one ≡ word) (IsBetween (word + 1) c.args.below) flags.items (set flags.items word true)
    c.loop-word.invariant (set_one flags.items word inside)
    (λ one. between_first word c.args.below one c.loop-word-test.true)

pub returns : goal.returns
returns c =
    left_none (IsBetween c.args.from c.args.below) c.args.self.now.flags.items (IsBetween c.loop-word.word c.args.below)
    c.loop-word.self.flags.items c.loop-word.invariant
    (λ word between. omega (arith, between.0, between.1, c.loop-word-test.false))
