-- What an input gives, and how many reads failed of it.
use Rattle.std.proofs.Common.{◌≡◌, ℕ, ◌≤◌, List, Option, Some, None, IfSome}
use Rattle.std.proofs.Common.{length, subst}
use Rattle.read_documents.specs.declared.documents.Documents.{Documents}
use Rattle.print_lines.specs.declared.fault.Fault.{Fault}
use Rattle.print_lines.specs.declared.fault.Fault.TheVariants.{NoPart, Part, Memory, Deck, Times, Notes, Inputs, Refused}
use Rattle.print_lines.specs.declared.fault.Fault.TheVariants.{Loaded}
use Rattle.read_documents.specs.Joined.{Gives, GivesNone, Joins, JoinsNone}

given_none : (bytes : List ℕ) (fault : Fault) → length bytes ≤ 16777216 → JoinsNone bytes fault → GivesNone bytes fault
given_none bytes NoPart short is = (short, is)
given_none bytes (Part part what) short is = absurd is.2
given_none bytes Memory short is = tt
given_none bytes (Deck fault) short is = (short, is)
given_none bytes (Times fault) short is = (short, is)
given_none bytes (Notes fault) short is = (short, is)
given_none bytes (Inputs fault) short is = (short, is)
given_none bytes (Refused fault) short is = (short, is)
given_none bytes (Loaded location) short is = (short, is)

-- all bytes of an input join no documents, where these are known
pub known_none : (left : Option (List ℕ)) (text : List ℕ) (fault : Fault) → IfSome left (λ bytes. text ≡ bytes)
    → length text ≤ 16777216
    → JoinsNone text fault → IfSome left (λ bytes. GivesNone bytes fault)
known_none None text fault all short is = tt
known_none (Some bytes) text fault all short is =
    subst (λ (t : List ℕ). GivesNone t fault) all (given_none text fault short is)

-- and join documents
pub known_documents : (left : Option (List ℕ)) (text : List ℕ) (documents : Documents)
    → IfSome left (λ bytes. text ≡ bytes) → length text ≤ 16777216
    → Joins text documents → IfSome left (λ bytes. Gives bytes documents)
known_documents None text documents all short is = tt
known_documents (Some bytes) text documents all short is = subst (λ (t : List ℕ). Gives t documents) all (short, is)
