-- All faults of a document, where Refused has its first.
use Rattle.std.specs.Prelude.{◌≡◌, ℕ, ◌⊎◌, List, [], ◌∷◌, ◌++◌, string_bytes}
use Rattle.base_notes.specs.declared.fault.NoteFault.{NoteFault}
use Rattle.base_notes.specs.declared.fault.NoteFault.TheVariants.{Toml, Memory, Missing, Unknown}
use Rattle.base_notes.specs.declared.fault.NoteFault.TheVariants.{Range, Kind, TwoMarks, TwoLists}
use Rattle.read_toml.specs.Document.{Fault, missing, unknown, range, kind, two_marks, two_lists}
use Rattle.read_toml.specs.Refused.{IsDocument}
use Rattle.toml.specs.Data.{Members}

-- The fault that the code states is this one of a table. (Toml and Memory are none of a table.)
abbrev pub Tells : NoteFault → Fault → Type 0
Tells Toml fault = ⊥
Tells Memory fault = ⊥
Tells (Missing path) fault = fault ≡ missing (string_bytes path.text)
Tells (Unknown path) fault = fault ≡ unknown (string_bytes path.text)
Tells (Range path) fault = fault ≡ range (string_bytes path.text)
Tells (Kind path) fault = fault ≡ kind (string_bytes path.text)
Tells (TwoMarks from onto) fault = fault ≡ two_marks from.number onto.number
Tells (TwoLists location) fault = fault ≡ two_lists location.number

-- each states its fault, in order
abbrev pub TellEach : List NoteFault → List Fault → Type 0
TellEach [] [] = Unit {0}
TellEach (told ∷ others) (fault ∷ faults) = Tells told fault × TellEach others faults
TellEach [] (fault ∷ faults) = ⊥
TellEach (told ∷ others) [] = ⊥

-- All faults of bytes, where `faults_of` gives those of a document: if the bytes are no TOML
-- document, that alone; else the document's.
abbrev pub AreAllFaults : (Members → List Fault) → List ℕ → List NoteFault → Type 0
AreAllFaults faults_of bytes faults =
    (((document : Members) → ¬ IsDocument bytes document) × (faults ≡ Toml ∷ []))
    ⊎ ((document : Members) × IsDocument bytes document × TellEach faults (faults_of document))

-- behind the faults that were there, these are added
pub record Adds (old new : List NoteFault) (faults : List Fault) : Type 0 where
  pub told : List NoteFault
  pub is : new ≡ old ++ told
  pub tell : TellEach told faults
