-- Of Settings::take: a setting that no line so far states fills its slot, and no other.
use Rattle.std.proofs.Common.{sym, subst, Some, ℤ, to_z, of_z}
use Rattle.std.specs.Int.{w128}
use Rattle.read_replays.specs.InputsOfLines.{CanBeStated}
use Rattle.read_replays.specs.InputsText.{accumulator}
use Rattle.read_replays.specs.Said.{stated}
use Rattle.read_replays.specs.declared.setting.Setting.{Setting}
use Rattle.read_replays.proofs.Takes.{HasAdded, same_signed, small_accumulator, with_angle, with_switches, with_distributor}
use Rattle.read_replays.proofs.Takes.{with_accumulator, with_latch, with_programmed, with_on_overflow}
use Rattle.read_replays.proofs.settings.Settings.take.Goals as goal

pub returns-in-Angle : goal.returns-in-Angle
returns-in-Angle c lines =
    let can = subst CanBeStated c.in-Angle.is c.requires in
    subst (λ (setting : Setting). HasAdded c.args.self.now (record c.args.self.now { angle = Some c.in-Angle.angle })
    (stated setting) lines) (sym c.in-Angle.is) (with_angle c.args.self.now c.in-Angle.angle lines can.1.0)

pub returns-in-Switches : goal.returns-in-Switches
returns-in-Switches c lines =
    subst (λ (setting : Setting). HasAdded c.args.self.now (record c.args.self.now { switches = Some c.in-Switches.word }) (stated setting)
    lines) (sym c.in-Switches.is) (with_switches c.args.self.now c.in-Switches.word lines)

pub returns-in-Distributor : goal.returns-in-Distributor
returns-in-Distributor c lines =
    subst (λ (setting : Setting). HasAdded c.args.self.now (record c.args.self.now { distributor = Some c.in-Distributor.word }) (stated setting)
    lines) (sym c.in-Distributor.is) (with_distributor c.args.self.now c.in-Distributor.word lines)

pub returns-in-Accumulator : goal.returns-in-Accumulator
returns-in-Accumulator c lines =
    let number = c.in-Accumulator.number in
    let can = subst CanBeStated c.in-Accumulator.is c.requires in
    let small = small_accumulator can.0 number can.1 in
    subst (λ (setting : Setting). HasAdded c.args.self.now
    (record c.args.self.now { accumulator = Some (to_z w128 (of_z w128 number)) }) (stated setting) lines)
    (sym c.in-Accumulator.is)
    (subst (λ (a : ℤ). HasAdded c.args.self.now (record c.args.self.now { accumulator = Some a }) (accumulator number) lines)
    (sym (same_signed number small)) (with_accumulator c.args.self.now number lines small))

pub returns-in-Latch : goal.returns-in-Latch
returns-in-Latch c lines =
    subst (λ (setting : Setting). HasAdded c.args.self.now (record c.args.self.now { latch = Some c.in-Latch.is_on }) (stated setting)
    lines) (sym c.in-Latch.is) (with_latch c.args.self.now c.in-Latch.is_on lines)

pub returns-in-Programmed : goal.returns-in-Programmed
returns-in-Programmed c lines =
    subst (λ (setting : Setting). HasAdded c.args.self.now (record c.args.self.now { programmed = Some c.in-Programmed.stops }) (stated setting)
    lines) (sym c.in-Programmed.is) (with_programmed c.args.self.now c.in-Programmed.stops lines)

pub returns-in-OnOverflow : goal.returns-in-OnOverflow
returns-in-OnOverflow c lines =
    subst (λ (setting : Setting). HasAdded c.args.self.now (record c.args.self.now { on_overflow = Some c.in-OnOverflow.stops }) (stated setting)
    lines) (sym c.in-OnOverflow.is) (with_on_overflow c.args.self.now c.in-OnOverflow.stops lines)
