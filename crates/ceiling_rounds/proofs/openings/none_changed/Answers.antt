use Rattle.std.proofs.Common.{rules}
use Rattle.ceiling_rounds.proofs.OpeningLaws.{kept_right}
use Rattle.ceiling_rounds.proofs.openings.none_changed.Goals as goal

pub returns : goal.returns
returns c =
    kept_right c.args.calls.now c.in_ok-kept.kept.items
    (c.in_ok-kept.ensures.items_if_clones_equal (λ y h. search rules))
