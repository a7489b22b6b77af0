use Rattle.std.proofs.Common.{map, set, ℕ, true, ap, ◌∙◌, arith}
use Rattle.std.proofs.lemmas.List.{map-append}
use Rattle.read_replays.specs.Inputs.{given_word}
use Rattle.read_replays.proofs.Marks.{push_holds}
use Rattle.read_replays.proofs.drum_words.DrumWords.push.Goals as goal

pub returns : goal.returns
returns c given holds =
    push_holds c.args.self.now _ given c.args.number c.args.word
    (omega (arith, c.args.self.now.marks.ok.0, c.args.self.now.whole))
    (ap (map given_word) c.in_ok-push.ensures.items ∙ map-append given_word c.args.self.now.words.items _)
    (ap (λ (k : ℕ). set c.args.self.now.marks.items k true) c.from.ensures) holds
