use Rattle.std.proofs.Common.{◌≡◌, refl, codes, [], ◌∷◌}
use Rattle.clap.proofs.OnLiterals.{clap_on_literals}
use Rattle.clap.specs.Words.{Text, fault_of}
use Rattle.clap.specs.declared.error.kind.ErrorKind.TheVariants.{DisplayHelp}
use Rattle.program_command.specs.Line.{Verb, drum650}
use Rattle.program_command.proofs.Verbs.{all_verbs}
use Rattle.program_command.proofs.laws.help_is_shown.Goals as goal

abbrev ShowsHelp : Text → Verb → Type 0
ShowsHelp word verb = fault_of drum650 (verb.name ∷ word ∷ []) ≡ DisplayHelp ∷ []

pub returns-clause-whole : goal.returns-clause-whole
unfolding clap_on_literals
returns-clause-whole c = refl

pub returns-clause-short : goal.returns-clause-short
unfolding clap_on_literals
returns-clause-short c = refl

pub returns-clause-each : goal.returns-clause-each
unfolding clap_on_literals
returns-clause-each c = all_verbs (ShowsHelp (codes "--help")) refl refl refl refl refl refl refl refl refl refl refl refl refl

pub returns-clause-each_short : goal.returns-clause-each_short
unfolding clap_on_literals
returns-clause-each_short c = all_verbs (ShowsHelp (codes "-h")) refl refl refl refl refl refl refl refl refl refl refl refl refl
