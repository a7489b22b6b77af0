-- How a text stands that goes out through a sheet.
use Rattle.std.specs.Prelude.{◌≡◌, ℕ, ◌-◌, ◌^◌, ◌<◌, List, [], ◌++◌, length, take, min, Bool, true}
use Rattle.std.specs.Prelude.{false, Result, Ok, Err}
use Rattle.std.specs.Io.KnownBytes.{Appends}
use Rattle.base_devices.specs.declared.whole.Unsent.{Unsent}
use Rattle.base_devices.specs.Device.{Device, one_more}
use Rattle.print_lines.specs.Gets.{GetsAll}
use Rattle.print_lines.specs.declared.sheet.Sheet.{Sheet}

-- the bytes that a sheet holds back
abbrev pub held_by : Sheet → List ℕ
held_by sheet = take sheet.held sheet.bytes

-- as many, or the most that can be counted
abbrev pub counted : ℕ → ℕ
counted count = min count (2 ^ 64 - 1)

-- how many bytes went out of so many that were written
abbrev pub gone_of : {A : Type 0} → ℕ → Result A Unsent → ℕ
gone_of bytes (Ok done) = bytes
gone_of bytes (Err error) = error.sent

-- all has gone out but what the sheet holds back
abbrev pub IsUnderWay : Device → Device → Sheet → List ℕ → Type 0
IsUnderWay begun now sheet text =
    (gone : List ℕ) × GetsAll begun now gone × (gone ++ held_by sheet ≡ text)
    × (sheet.sent ≡ counted (length gone))

-- a write has failed, and a prefix has gone out
abbrev pub IsCut : Device → Device → Sheet → List ℕ → Type 0
IsCut begun now sheet text =
    (count : ℕ) × (count < length text) × Appends begun.written now.written (take count text)
    × (now.failures ≡ one_more begun.failures) × (sheet.sent ≡ counted count)

abbrev pub stands : Bool → Device → Device → Sheet → List ℕ → Type 0
stands true = IsCut
stands false = IsUnderWay

-- of a text that began to go out, this has been put on the sheet so far
abbrev pub Stands : Device → Device → Sheet → List ℕ → Type 0
Stands begun now sheet text = stands sheet.is_lost begun now sheet text

-- nothing was put on it yet
abbrev pub IsBlank : Sheet → Type 0
IsBlank sheet = (now : Device) → Stands now now sheet []

-- Behind all that was put on a sheet this was put: where the one text stood before, the other
-- stands after.
pub record Passes (before : Device) (sheet : Sheet) (after : Device) (sheet' : Sheet)
    (more : List ℕ) : Type 0 where
  pub stands : (begun : Device) (text : List ℕ) → Stands begun before sheet text
      → Stands begun after sheet' (text ++ more)
