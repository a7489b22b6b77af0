-- What is asked of a source where a fault is told, or none.
use Rattle.std.proofs.Common.{◌≡◌, List, Option, None, Some, Result, Ok, Err, IfErr, refl, inl, inr}
use Rattle.print_lines.specs.declared.fault.Fault.{Fault}
use Rattle.read_documents.specs.Asked.{AreLookedAt, AreLookedAtUpTo, Asked, AsksFor, Looks, NamedFile}
use Rattle.read_documents.specs.Asked.{fault_in, part_of}
use Rattle.read_documents.proofs.Asking.{asks_as}
use Rattle.print_lines.specs.Reply.{IsLineOfFault, Reply, fault_reply}
use Rattle.program_run.specs.Words.{LooksAsTold}

module _ (files : List NamedFile) (before after : Option (List Asked)) where
  -- a fault of a file, or one of none
  pub of_file : (told : Fault) → AsksFor before after (AreLookedAtUpTo files told)
      → AsksFor before after (Looks files (Some told))
  of_file told asks = asks_as before after _ _ (λ asked are. inl are) asks

  pub of_none : (told : Fault) → part_of told ≡ None → AsksFor before after (AreLookedAt files)
      → AsksFor before after (Looks files (Some told))
  of_none told none asks = asks_as before after _ _ (λ asked are. inr (none, are)) asks

  pub of_result : {A : Type 0} (result : Result A Fault) → IfErr result (λ told. part_of told ≡ None)
      → AsksFor before after (AreLookedAt files) → AsksFor before after (Looks files (fault_in result))
  of_result (Ok found) none asks = asks
  of_result (Err told) none asks = of_none told none asks

  -- a result, or the line of a fault
  pub told_well : (reply : Reply) → IsLineOfFault None reply → AsksFor before after (AreLookedAt files)
      → AsksFor before after (LooksAsTold files reply)
  told_well reply none asks = asks_as before after _ _ (λ asked are. (None, none, are)) asks

  pub told_fault : (told : Fault) → AsksFor before after (Looks files (Some told))
      → AsksFor before after (LooksAsTold files (fault_reply told))
  told_fault told asks = asks_as before after _ _ (λ asked are. (Some told, refl, are)) asks
