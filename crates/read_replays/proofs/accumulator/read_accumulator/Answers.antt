use Rattle.std.proofs.Common.{◌∷◌, if◌then◌else◌, arith}
use Rattle.std.proofs.lemmas.Grind.{common_steps}
use Rattle.base_words.specs.Numeral.{digits_of}
use Rattle.read_replays.proofs.accumulator.read_accumulator.Goals as goal

pub returns-in_default-clause-none : goal.returns-in_default-clause-none
returns-in_default-clause-none c a is_line =
    c.in_default.ensures ((if is_line.0 then 45 else 43) ∷ digits_of 20 is_line.1) is_line.4

pub returns-in-43-clause-found : goal.returns-in-43-clause-found
returns-in-43-clause-found c = grind (arith, common_steps)

pub returns-in-45-clause-found : goal.returns-in-45-clause-found
returns-in-45-clause-found c = grind (arith, common_steps)
