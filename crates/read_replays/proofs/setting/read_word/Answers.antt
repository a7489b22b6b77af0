use Rattle.std.proofs.Common.{sym, ◌∙◌}
use Rattle.base_words.specs.Word.{spelling}
use Rattle.read_replays.proofs.Prefixes.{same_behind, none_too}
use Rattle.read_replays.proofs.setting.read_word.Goals as goal

pub returns-clause-none : goal.returns-clause-none
returns-clause-none c =
    none_too c.read.result (λ other word spelled. other word
    (same_behind c.args.key.now c.in-Some.word.now (spelling word) (sym c.in-Some.ensures ∙ spelled)))
    c.read.ensures.none
