use Rattle.std.proofs.Common.{true, false}
use Rattle.read_replays.specs.declared.setting.Setting.TheVariants.{Angle, Switches, Distributor, Accumulator, Latch}
use Rattle.read_replays.specs.declared.setting.Setting.TheVariants.{Programmed, OnOverflow}
use Rattle.read_replays.proofs.setting.Setting.read.Goals as goal

pub returns-in-None-clause-none : goal.returns-in-None-clause-none
returns-in-None-clause-none c (Angle n) is_line = c.in_default.ensures.none n is_line
returns-in-None-clause-none c (Switches word) is_line = c.in_default-read_word.ensures.none word is_line
returns-in-None-clause-none c (Distributor word) is_line = c.in_default-read_word-2.ensures.none word is_line
returns-in-None-clause-none c (Accumulator a) is_line = c.in_default-read_accumulator.ensures.none a is_line
returns-in-None-clause-none c (Latch true) is_line = c.in_default-read_choice.ensures.first is_line
returns-in-None-clause-none c (Latch false) is_line = c.in_default-read_choice.ensures.second is_line
returns-in-None-clause-none c (Programmed true) is_line = c.in_default-read_choice-2.ensures.first is_line
returns-in-None-clause-none c (Programmed false) is_line = c.in_default-read_choice-2.ensures.second is_line
returns-in-None-clause-none c (OnOverflow true) is_line = c.in-None.ensures.first is_line
returns-in-None-clause-none c (OnOverflow false) is_line = c.in-None.ensures.second is_line
