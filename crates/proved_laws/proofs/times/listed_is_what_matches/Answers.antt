use Rattle.base_notes.specs.Allowed.{patterns_of}
use Rattle.base_notes.proofs.Matching.{matching_has, has_matching, matching_rises, allowed_is}
use Rattle.proved_laws.proofs.times.listed_is_what_matches.Goals as goal

pub returns-clause-listed : goal.returns-clause-listed
returns-clause-listed c pattern ins = (has_matching pattern ins, matching_has pattern ins)

pub returns-clause-once : goal.returns-clause-once
returns-clause-once c = matching_rises

pub returns-clause-allowed : goal.returns-clause-allowed
returns-clause-allowed c loads notes location ins = allowed_is (loads location) (patterns_of notes location) ins
