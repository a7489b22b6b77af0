-- The words that lack a list, as they are held.
use Rattle.std.specs.Prelude.{ℕ, List, map}
use Rattle.check_findings.specs.declared.unchanged_parts.UnchangedParts.{UnchangedParts}
use Rattle.check_findings.specs.declared.lacking.Lack.{Lack}
use Rattle.check_findings.specs.declared.lacking.Lacking.{Lacking}

-- a word by its number, with what is kept of it
abbrev pub pair_of : Lack → ℕ × UnchangedParts
pair_of lack = (lack.word.number, lack.kept)

abbrev pub words_in : Lacking → List (ℕ × UnchangedParts)
words_in lacking = map pair_of lacking.words.items
