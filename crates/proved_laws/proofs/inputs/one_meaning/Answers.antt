use Rattle.read_decks.specs.Lines.{lines_of}
use Rattle.read_decks.proofs.FirstFaults.{say_one}
use Rattle.read_replays.proofs.OneLine.{line_one}
use Rattle.read_replays.specs.InputsText.{IsLine}
use Rattle.proved_laws.proofs.inputs.one_meaning.Goals as goal

pub returns-clause-line : goal.returns-clause-line
returns-clause-line c = line_one

pub returns-clause-text : goal.returns-clause-text
returns-clause-text c text lines others p q = say_one IsLine line_one (lines_of text) lines others p.said q.said
