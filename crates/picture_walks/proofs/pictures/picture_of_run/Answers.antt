use Rattle.picture_walks.proofs.Pictured.{pictured_as}
use Rattle.picture_walks.proofs.pictures.picture_of_run.Goals as goal

pub returns : goal.returns
returns c =
    pictured_as c.draw.result c.in_ok-of_run.ensures.kind c.in_ok-of_run.ensures.time c.in_ok-of_run.ensures.shares
    c.draw.ensures
