-- What a function does that writes a reply, or gives back a fault. (That nothing has gone out then
-- is said by its clause `spared`.)
use Rattle.std.specs.Prelude.{None, Result, Ok, Err}
use Rattle.print_lines.specs.declared.fault.Fault.{Fault}
use Rattle.print_lines.specs.declared.status.Status.{Status}
use Rattle.base_devices.specs.Device.{Device}
use Rattle.print_lines.specs.Output.{Tells}
use Rattle.print_lines.specs.Reply.{IsLineOfFault, Reply}

-- A reply of this kind, which is no fault's line, has gone out, and the program ends with this
-- status; or there is a fault of this kind.
abbrev pub Does : (Reply → Type 0) → (Fault → Type 0) → Device → Device → Device → Device
    → Result Status Fault → Type 0
Does Says Refuses out out' err err' (Ok status) =
    (reply : Reply) × Says reply × IsLineOfFault None reply × Tells reply out out' err err' status
Does Says Refuses out out' err err' (Err fault) = Refuses fault
