use Rattle.bound_scan.proofs.analysing.analyse.Given as goal

abbrev pub ghosts-analyse_from : goal.ghosts-analyse_from
ghosts-analyse_from a = record { name = a.blank.name; parts = a.blank.parts }
