-- What a device gets of a text.
use Rattle.std.specs.Prelude.{◌≡◌, ℕ, ◌<◌, List, length, take, Result, Ok, Err}
use Rattle.std.specs.Io.KnownBytes.{Appends}
use Rattle.base_devices.specs.Device.{Device, one_more}

-- it gets the whole text, and no write fails
abbrev pub GetsAll : Device → Device → List ℕ → Type 0
GetsAll before after text =
    Appends before.written after.written text × (after.failures ≡ before.failures)

-- a write fails, and it has got a prefix of the text
abbrev pub GetsPrefix : Device → Device → List ℕ → Type 0
GetsPrefix before after text =
    (count : ℕ) × (count < length text) × Appends before.written after.written (take count text)
    × (after.failures ≡ one_more before.failures)

-- it gets all exactly where that is said
abbrev pub Gets : {A E : Type 0} → Device → Device → Result A E → List ℕ → Type 0
Gets before after (Ok done) text = GetsAll before after text
Gets before after (Err error) text = GetsPrefix before after text
