use Rattle.std.proofs.Common.{true, false}
use Rattle.read_replays.proofs.line.read_card.Goals as goal

pub returns-in-None-clause-none : goal.returns-in-None-clause-none
returns-in-None-clause-none c false words is_line = c.in_default.ensures.none words is_line.0 is_line.1
returns-in-None-clause-none c true words is_line = c.in-None.ensures.none words is_line.0 is_line.1
