use Rattle.picture_walks.proofs.Pictured.{pictured_as}
use Rattle.picture_walks.proofs.pictures.picture.Goals as goal

pub returns : goal.returns
returns c =
    pictured_as c.draw.result c.in_ok-of_analysis.ensures.kind c.in_ok-of_analysis.ensures.time c.in_ok-of_analysis.ensures.shares
    c.draw.ensures
