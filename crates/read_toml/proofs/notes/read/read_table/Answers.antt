use Rattle.toml.specs.View.{table_view}
use Rattle.read_toml.proofs.Adding.{none_added}
use Rattle.read_toml.proofs.NotesThere.{long_too}
use Rattle.read_toml.proofs.ShortMeaning.{says_of}
use Rattle.read_toml.proofs.notes.read.read_table.Goals as goal

pub notes_in-requires : goal.notes_in-requires
notes_in-requires c =
    long_too c.args.read (table_view c.args.table.now)
    (none_added _ _ _ c.new-faults.ensures c.in_ok-refuse.ensures.none c.in_ok-notes.ensures)

pub returns-clause-said : goal.returns-clause-said
returns-clause-said c =
    says_of c.args.read (table_view c.args.table.now) _
    (none_added _ _ _ c.new-faults.ensures c.in_ok-refuse.ensures.none c.in_ok-notes.ensures) c.in_ok-notes_in.ensures
