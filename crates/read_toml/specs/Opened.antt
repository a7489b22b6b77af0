-- What the code means by what a call opens.
use Rattle.base_notes.specs.EdgeOf.{edge_of}
use Rattle.read_toml.specs.declared.notes.opened.Opened.{Opened}
use Rattle.read_toml.specs.Calls.{Opening}

abbrev pub opening : Opened → Opening
opening opened = record { edge = edge_of opened.edge; exit = opened.exit.number }
