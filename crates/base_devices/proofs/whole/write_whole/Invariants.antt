use Rattle.std.proofs.Common.{◌≡◌, ◌-◌, ◌≤◌, length, take}
use Rattle.std.specs.Io.KnownBytes.{Appends}
use Rattle.base_devices.proofs.whole.write_whole.Given as goal

-- the bytes so far have gone out, each call took some, and none failed
abbrev pub invariant-loop-sent : goal.invariant-loop-sent
invariant-loop-sent g l = record {
  within : l.sent ≤ length l.bytes;
  prefix : Appends (g.O.Output.device l.fn.output).written (g.O.Output.device l.output).written (take l.sent l.bytes);
  failed : (g.O.Output.device l.output).failures ≡ (g.O.Output.device l.fn.output).failures;
}

abbrev pub decreases-loop-sent : goal.decreases-loop-sent
decreases-loop-sent g l = length l.bytes - l.sent
