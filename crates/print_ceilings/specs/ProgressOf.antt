-- How far a walk is told, as the code has it.
use Rattle.std.specs.Prelude.{◌≡◌, ℕ, ◌^◌, ◌<◌, List, length, get_or, None}
use Rattle.base_devices.specs.Device.{Device}
use Rattle.print_lines.specs.declared.sheet.Sheet.{Sheet}
use Rattle.print_lines.specs.Stands.{Passes}
use Rattle.print_ceilings.specs.declared.progress.Progress.{Progress}
use Rattle.print_ceilings.specs.RoundsText.{joined, PartsSoFar}

abbrev pub told_of : Progress → PartsSoFar
told_of progress = record {
  begun = progress.begun;
  part = λ number. get_or progress.parts.items number None;
  time = progress.time;
}

-- There is a place for each of so many pieces, and no moment is too late.
pub record MayTell (count : ℕ) (progress : Progress) (told : List (List ℕ) × PartsSoFar)
    : Type 0 where
  pub parts : length progress.parts.items ≡ count
  pub fits : told.1.time < 2 ^ 127

-- It was told: its lines were put on a sheet, and the walk is told so far.
pub record HasTold (before : Device) (sheet : Sheet) (old : Progress) (after : Device)
    (sheet' : Sheet) (new : Progress) (told : List (List ℕ) × PartsSoFar) : Type 0 where
  pub lines : Passes before sheet after sheet' (joined told.0)
  pub now : told_of new ≡ told.1
  pub parts : length new.parts.items ≡ length old.parts.items
