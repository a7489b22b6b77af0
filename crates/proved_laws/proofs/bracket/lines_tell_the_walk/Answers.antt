use Rattle.proved_laws.proofs.LinesTold.{lines_told}
use Rattle.proved_laws.proofs.bracket.lines_tell_the_walk.Goals as goal

pub returns : goal.returns
returns c = λ g walk visits line. lines_told g walk visits line
