-- A mark whose table holds one: on its edges, of which there is a first.
use Rattle.read_toml.proofs.notes.read_mark.MarkElement.read.Goals as goal

pub read_edges-requires : goal.read_edges-requires
read_edges-requires c = c.requires.ends

pub read_name-requires : goal.read_name-requires
read_name-requires c = c.requires.name

pub read_outer-requires : goal.read_outer-requires
read_outer-requires c = (c.requires.mark.inside, c.requires.says.inside)
