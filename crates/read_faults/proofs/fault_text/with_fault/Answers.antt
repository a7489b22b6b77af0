-- Of with_fault: where no write fails, the whole line has gone into the text.
use Rattle.std.proofs.Common.{◌≡◌, ℕ, List, ◌++◌, Some, arith, inl, inr}
use Rattle.base_devices.specs.Device.{device, one_more}
use Rattle.print_lines.specs.FaultText.{fault_text}
use Rattle.print_lines.specs.Output.{GetsComplaint}
use Rattle.read_faults.proofs.fault_text.with_fault.Goals as goal

all_there : (old new text : List ℕ) (before after : ℕ) → before ≡ 0 → after ≡ 0
    → GetsComplaint (device (Some old) before) (device (Some new) after) text → new ≡ old ++ text
unfolding one_more
all_there old new text before after none still (inl all) = all.0
all_there old new text before after none still (inr part) = absurd (omega (arith, none, still, part.3))

pub returns : goal.returns
returns c =
    rw c.new-writing.ensures.writer at
    (all_there c.new-writing.result.writer.items c.tell_fault.new.err.writer.items (fault_text c.args.fault.now)
    c.new-writing.result.failures c.tell_fault.new.err.failures c.new-writing.ensures.failures
    (omega (arith, c.failures.ensures, c.if-failures-gt0.false)) c.tell_fault.ensures.line)
