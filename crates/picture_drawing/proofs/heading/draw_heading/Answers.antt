use Rattle.std.proofs.Common.{ap, sym}
use Rattle.picture_scene.specs.declared.walk.Kind.{Kind}
use Rattle.picture_drawing.specs.Heading.{heading, page}
use Rattle.picture_drawing.proofs.Appending.{◌⊳◌, draws_as}
use Rattle.picture_drawing.proofs.heading.draw_heading.Goals as goal

pub returns-in-Worst : goal.returns-in-Worst
returns-in-Worst c =
    draws_as (ap (λ (kind : Kind). heading kind c.args.walk.time (page c.args.layout.width c.args.layout.height))
    (sym c.in-Worst.is))
    (c.draw_title.ensures ⊳ c.draw_page.ensures ⊳ c.draw_large.ensures)

pub returns-in-InRounds : goal.returns-in-InRounds
returns-in-InRounds c =
    draws_as (ap (λ (kind : Kind). heading kind c.args.walk.time (page c.args.layout.width c.args.layout.height))
    (sym c.in-InRounds.is))
    (c.draw_title-in-InRounds.ensures ⊳ c.draw_page-in-InRounds.ensures ⊳ c.draw_large-in-InRounds.ensures
    ⊳ c.draw_ceiling.ensures)

pub returns-in-Run : goal.returns-in-Run
returns-in-Run c =
    draws_as (ap (λ (kind : Kind). heading kind c.args.walk.time (page c.args.layout.width c.args.layout.height))
    (sym c.in-Run.is))
    (c.draw_title-in-Run.ensures ⊳ c.draw_page-in-Run.ensures ⊳ c.draw_large-in-Run.ensures)
