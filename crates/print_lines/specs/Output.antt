-- What standard output and standard error get of a reply, and how the program ends.
use Rattle.std.specs.Prelude.{◌≡◌, ℕ, List, ◌⊎◌}
use Rattle.base_devices.specs.Device.{Device}
use Rattle.print_lines.specs.Gets.{GetsAll, GetsPrefix}
use Rattle.print_lines.specs.declared.status.Status.{Status}
use Rattle.print_lines.specs.declared.status.Status.TheVariants.{Failed, Refused}
use Rattle.print_lines.specs.Reply.{Reply, says, complains, lists, breaks_off}

-- of a complaint it gets all, or a prefix
abbrev pub GetsComplaint : Device → Device → List ℕ → Type 0
GetsComplaint before after text = GetsAll before after text ⊎ GetsPrefix before after text

-- of a result it gets all, and the program ends as the result says; or a prefix, and the program
-- has failed
abbrev pub GetsResult : Device → Device → List ℕ → Status → Status → Type 0
GetsResult before after text done status =
    (GetsAll before after text × (status ≡ done))
    ⊎ (GetsPrefix before after text × (status ≡ Failed))

-- A result goes to standard output. A complaint or a list of faults goes to standard error, and the
-- status is the same if it can't be written there. Of a text that is given up standard output gets
-- a prefix. The other device gets nothing.
abbrev pub Tells : Reply → Device → Device → Device → Device → Status → Type 0
Tells (says text done) out out' err err' status =
    GetsResult out out' text done status × (err' ≡ err)
Tells (complains text after) out out' err err' status =
    (out' ≡ out) × GetsComplaint err err' text × (status ≡ after)
Tells (lists text) out out' err err' status =
    (out' ≡ out) × GetsComplaint err err' text × (status ≡ Refused)
Tells (breaks_off text) out out' err err' status =
    GetsPrefix out out' text × (status ≡ Failed) × (err' ≡ err)
