use Rattle.std.proofs.Common.{ap, sym, ◌∙◌}
use Rattle.base_words.specs.declared.op.Op.{Op}
use Rattle.base_notes.specs.declared.entry.Entry.{Entry}
use Rattle.flow_walks.specs.Pieces.{spelled}
use Rattle.ceiling_rounds.specs.InRounds.{angle_of, often_of, pieces_of}
use Rattle.print_hops.specs.KindsOf.{waited_of}
use Rattle.print_ceilings.specs.RoundsWaitsOf.{waited_over}
use Rattle.print_ceilings.proofs.Laid.{are_laid}
use Rattle.print_ceilings.proofs.WholeWaits.{waited_all}
use Rattle.print_ceilings.proofs.waits.all_waits_in_rounds.Goals as goal

pub returns : goal.returns
returns c = λ g visits same out.
    let walk = c.args.walk.now in
    let pieces = pieces_of walk in
    let often = often_of walk in
    c.waited.ensures ∙ ap (λ (t : Op → Entry). waited_over t pieces often) (sym same)
    ∙ waited_all g.times (angle_of walk) visits (spelled pieces) pieces often c.requires.right.1.1.1.adds
    (are_laid g walk visits out)
    ∙ ap (λ (t : Op → Entry). waited_of t (angle_of walk) visits) same
