use Rattle.read_toml.proofs.ShortMeaning.{long_says}
use Rattle.proved_laws.proofs.from_toml.short_notes_are_long.Goals as goal

pub returns : goal.returns
returns c = long_says
