use Rattle.std.proofs.Common.{sym, subst, take, [], ◌∷◌, ◌↔◌}
use Rattle.std.specs.Prelude.{IsTrue}
use Rattle.read_replays.specs.InputsText.{Repeats}
use Rattle.read_replays.specs.Said.{said}
use Rattle.read_replays.specs.declared.line.Line as read
use Rattle.read_replays.specs.declared.line.Line.TheVariants.{Words}
use Rattle.read_replays.proofs.Common.{words_repeat}
use Rattle.read_replays.proofs.line.Line.repeats.Goals as goal

pub returns-in-Words-Words : goal.returns-in-Words-Words
returns-in-Words-Words c =
    let card = c.in-Words-Words.card in
    let other = c.in-Words-Words.other in
    let common = c.have_common.ensures in
    let both = words_repeat card.address (take card.len card.words) other.address (take other.len other.words) in
    let of_words : IsTrue c.have_common.result ↔ Repeats (said (Words other) ∷ []) (said (Words card)) =
    (λ test. both.0 (common.0 test), λ again. common.1 (both.1 again)) in
    subst (λ (line : read.Line). IsTrue c.have_common.result ↔ Repeats (said c.args.earlier.now ∷ []) (said line))
    (sym c.in-Words-Words.is-0)
    (subst (λ (line : read.Line). IsTrue c.have_common.result ↔ Repeats (said line ∷ []) (said (Words card)))
    (sym c.in-Words-Words.is-1) of_words)
