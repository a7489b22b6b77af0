use Rattle.bound_scan.proofs.cells.entries.Entries.keep.Goals as goal

pub returns-in-Some-clause-keeps : goal.returns-in-Some-clause-keeps
returns-in-Some-clause-keeps c = c.raise.ensures.keeps c.args.location c.args.counts
