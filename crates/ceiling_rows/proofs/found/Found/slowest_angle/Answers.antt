use Rattle.std.proofs.Common.{◌≡◌, ap, ◌∙◌, arith}
use Rattle.base_notes.specs.declared.entry.Entry.{Entry}
use Rattle.machine_steps.specs.Timing.{ready}
use Rattle.ceiling_rows.specs.Slowest.{is_ready}
use Rattle.ceiling_rows.proofs.LastEnds.{last_reached, units_same}
use Rattle.ceiling_rows.proofs.found.Found.slowest_angle.Goals as goal

pub returns-in_default : goal.returns-in_default
returns-in_default c =
    let from = c.args.self.now in
    let op = c.args.op in
    let is : c.go.result ≡ is_ready from op =
    c.go.ensures.moment ∙ c.to_ready.ensures.moment from.angle
    ∙ ap (λ (entry : Entry). ready entry from.location.number from.angle) c.entry.ensures in
    record {
      on_drum = omega arith;
      slowest = record {
        units = λ d other at. units_same op c.in_default.not-Shift d other;
        reached = λ d other at on_drum. last_reached op d other (is_ready from op) on_drum (omega (arith, at, is));
      };
    }
