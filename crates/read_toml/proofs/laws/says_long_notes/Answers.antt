use Rattle.read_toml.proofs.NotesThere.{notes_there}
use Rattle.read_toml.proofs.laws.says_long_notes.Goals as goal

pub returns-clause-right : goal.returns-clause-right
returns-clause-right c = λ document notes is. is.faultless

pub returns-clause-said : goal.returns-clause-said
returns-clause-said c = notes_there
