use Rattle.std.proofs.Common.{◌∙◌, rules}
use Rattle.program_replay.proofs.Flags.{none_set}
use Rattle.program_replay.proofs.met.Met.none.Goals as goal

pub returns : goal.returns
returns c = c.in_ok-flags.ensures.items_if_clones_equal (λ y h. search rules) ∙ none_set c.args.patterns.now
