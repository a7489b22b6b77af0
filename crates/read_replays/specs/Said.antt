-- What a line that was read says, of the text of inputs.
use Rattle.std.specs.Prelude.{take}
use Rattle.read_replays.specs.declared.line.Line as read
use Rattle.read_replays.specs.declared.line.Line.TheVariants as lines
use Rattle.read_replays.specs.declared.setting.Setting.{Setting}
use Rattle.read_replays.specs.declared.setting.Setting.TheVariants as settings
use Rattle.read_replays.specs.InputsText.{Line, comment, angle, switches, distributor, accumulator}
use Rattle.read_replays.specs.InputsText.{latch, programmed, on_overflow, words, card, wait}

abbrev pub stated : Setting → Line
stated (settings.Angle n) = angle n
stated (settings.Switches w) = switches w
stated (settings.Distributor w) = distributor w
stated (settings.Accumulator a) = accumulator a
stated (settings.Latch is_on) = latch is_on
stated (settings.Programmed stops) = programmed stops
stated (settings.OnOverflow stops) = on_overflow stops

abbrev pub said : read.Line → Line
said lines.Comment = comment
said (lines.Setting setting) = stated setting
said (lines.Words c) = words c.address (take c.len c.words)
said (lines.Card c) = card c.load c.words
said (lines.Wait n) = wait n
