use Rattle.bound_scan.proofs.bounding.bound.Given as goal

abbrev pub ghosts-bound_from : goal.ghosts-bound_from
ghosts-bound_from a = record { name = a.blank.name; parts = a.blank.parts }
