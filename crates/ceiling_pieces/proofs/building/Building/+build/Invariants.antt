use Rattle.ceiling_pieces.proofs.building.Building.+build.Given as goal

-- the walks that one begins with have lower numbers
abbrev pub decreases-build : goal.decreases-build
decreases-build l = l.walk
