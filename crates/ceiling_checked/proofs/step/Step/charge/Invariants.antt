use Rattle.std.proofs.Common.{◌≡◌, ◌+◌, drop}
use Rattle.ceiling_checked.specs.Charge.{charge_from}
use Rattle.ceiling_checked.specs.AtSite.{is_in}
use Rattle.ceiling_checked.proofs.step.Step.charge.Given as goal

-- the charge so far, and that of the marks that are left
abbrev pub invariant-loop-index : goal.invariant-loop-index
invariant-loop-index l =
    l.charge + charge_from l.self.marks.now (is_in l.self.here) (is_in l.self.there) l.self.passed l.index
    (drop l.index l.self.marks.now) (drop l.index l.prices)
    ≡ charge_from l.self.marks.now (is_in l.self.here) (is_in l.self.there) l.self.passed 0 l.self.marks.now l.prices
