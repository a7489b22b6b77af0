use Rattle.std.proofs.Common.{◌≡◌, sym, ◌∙◌}
use Rattle.base_words.specs.declared.location.Kind.TheVariants.{Drum}
use Rattle.base_words.specs.Kind.{kind_of}
use Rattle.read_decks.proofs.InDeckLaws.{none_found_off, none_seen_off}
use Rattle.read_decks.proofs.deck.Deck.given.Goals as goal

pub returns-in_default : goal.returns-in_default
returns-in_default c =
    let off : ¬ (kind_of c.args.location.number ≡ Drum) = λ is_drum. c.in_default.not-Drum (c.kind.ensures ∙ is_drum) in
    record {
      held = none_found_off _ c.args.location.number (sym c.args.self.now.image.ok.0 ∙ c.args.self.now.whole) off;
      told = λ lines held. none_seen_off lines c.args.location.number held.sound off;
    }
