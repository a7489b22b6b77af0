use Rattle.read_toml.specs.TimesDocument.{times_faults}
use Rattle.read_toml.proofs.AllFaultsLaws.{first_told, nothing_told}
use Rattle.read_toml.proofs.TimesEntries.{times_there}
use Rattle.read_toml.proofs.laws.tells_times.Goals as goal

pub returns-clause-first : goal.returns-clause-first
returns-clause-first c = λ bytes fault others all. first_told times_faults bytes fault others all

pub returns-clause-none : goal.returns-clause-none
returns-clause-none c = λ bytes all.
    let none = nothing_told times_faults bytes all in
    (none.0, none.1, times_there none.0 none.2)
