use Rattle.std.proofs.Common.{length}
use Rattle.flow_acceptance.proofs.Products.{told_of_few}
use Rattle.proved_laws.proofs.acceptance.few_marks_are_told.Goals as goal

pub returns : goal.returns
returns c executed marks = told_of_few (length executed) marks
