use Rattle.base_notes.proofs.Matching.{how_many}
use Rattle.base_notes.proofs.notes.pattern.Pattern.len.Goals as goal

pub returns : goal.returns
returns c = how_many c.args.self
