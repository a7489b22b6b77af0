use Rattle.std.proofs.Common.{refl, inl, inr}
use Rattle.read_documents.specs.Joined.{Gives, GivesNone}
use Rattle.program_run.proofs.BoundsOfFiles.{reply_of_bound}
use Rattle.program_run.proofs.laws.bound_is_of_the_input.Goals as goal

pub returns : goal.returns
returns c bytes files failures reply answers =
    elim (reply_of_bound (Gives bytes) (GivesNone bytes) failures reply (answers bytes refl)) [
      | inl (documents, joins, bound, is, so) ↦
          inl (bound, record { documents = documents; joins = joins.1; is_bound = is }, so)
      | inr line ↦ inr line
    ]
