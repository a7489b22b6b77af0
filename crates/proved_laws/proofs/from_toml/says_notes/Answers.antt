use Rattle.read_toml.proofs.NotesThere.{notes_there, short_too}
use Rattle.read_toml.proofs.ShortMeaning.{short_says}
use Rattle.proved_laws.proofs.from_toml.says_notes.Goals as goal

pub returns-clause-right : goal.returns-clause-right
returns-clause-right c = λ document notes is. is.faultless

pub returns-clause-said : goal.returns-clause-said
returns-clause-said c = λ document none.
    let there = notes_there document (short_too document none) in
    (there.0, short_says document there.0 none there.1)
