use Rattle.picture_walks.proofs.Pictured.{pictured_as}
use Rattle.picture_walks.proofs.pictures.picture_in_rounds.Goals as goal

pub returns : goal.returns
returns c =
    pictured_as c.draw.result c.in_ok-scene.ensures.kind c.in_ok-scene.ensures.time c.in_ok-scene.ensures.shares
    c.draw.ensures
