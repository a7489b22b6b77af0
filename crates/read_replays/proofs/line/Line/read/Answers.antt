use Rattle.read_replays.specs.InputsText.{comment, angle, switches, distributor, accumulator, latch, programmed}
use Rattle.read_replays.specs.InputsText.{on_overflow, words, card, wait}
use Rattle.read_replays.specs.declared.setting.Setting.TheVariants as settings
use Rattle.read_replays.proofs.line.Line.read.Goals as goal

pub returns-in-None-clause-none : goal.returns-in-None-clause-none
returns-in-None-clause-none c comment is_line = cc (c.is_comment.ensures.1 is_line)
returns-in-None-clause-none c (angle n) is_line = c.in_default.ensures.none (settings.Angle n) is_line
returns-in-None-clause-none c (switches word) is_line = c.in_default.ensures.none (settings.Switches word) is_line
returns-in-None-clause-none c (distributor word) is_line = c.in_default.ensures.none (settings.Distributor word) is_line
returns-in-None-clause-none c (accumulator a) is_line = c.in_default.ensures.none (settings.Accumulator a) is_line
returns-in-None-clause-none c (latch is_on) is_line = c.in_default.ensures.none (settings.Latch is_on) is_line
returns-in-None-clause-none c (programmed stops) is_line = c.in_default.ensures.none (settings.Programmed stops) is_line
returns-in-None-clause-none c (on_overflow stops) is_line =
    c.in_default.ensures.none (settings.OnOverflow stops) is_line
returns-in-None-clause-none c (words n ws) is_line = c.in_default-read.ensures.none n ws is_line
returns-in-None-clause-none c (card load ws) is_line = c.in_default-read_card.ensures.none load ws is_line
returns-in-None-clause-none c (wait n) is_line = c.in-None.ensures.none n is_line
