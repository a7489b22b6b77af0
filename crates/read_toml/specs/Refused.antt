-- Which documents bytes are, and for which fault a document is refused.
use Rattle.std.specs.Prelude.{◌≡◌, ℕ, List, ◌∷◌, Some, string_bytes, IsUtf8}
use Rattle.base_notes.specs.declared.fault.NoteFault.{NoteFault}
use Rattle.base_notes.specs.declared.fault.NoteFault.TheVariants.{Toml, Memory, Missing, Unknown}
use Rattle.base_notes.specs.declared.fault.NoteFault.TheVariants.{Range, Kind, TwoMarks, TwoLists}
use Rattle.read_toml.specs.Document.{Fault, missing, unknown, range, kind, two_marks, two_lists}
use Rattle.toml.specs.Data.{Members}
use Rattle.toml.specs.Parse.{parse_document}

-- the bytes are UTF-8, and the document of this table
abbrev pub IsDocument : List ℕ → Members → Type 0
IsDocument bytes document = IsUtf8 bytes × (parse_document bytes ≡ Some document)

-- The bytes are no document. (Or there is no memory to find out; there is no other fault here.)
abbrev pub IsUnread : List ℕ → NoteFault → Type 0
IsUnread bytes Memory = Unit {0}
IsUnread bytes Toml = (document : Members) → ¬ IsDocument bytes document
IsUnread bytes fault = ⊥

-- the faults begin with this one
abbrev pub Begin : List Fault → Fault → Type 0
Begin faults fault = (others : List Fault) × (faults ≡ fault ∷ others)

-- This is the first of a table's faults. (Lack of memory may come before any, and Toml is no fault
-- of a table.)
abbrev pub IsFirst : List Fault → NoteFault → Type 0
IsFirst faults Toml = ⊥
IsFirst faults Memory = Unit {0}
IsFirst faults (Missing path) = Begin faults (missing (string_bytes path.text))
IsFirst faults (Unknown path) = Begin faults (unknown (string_bytes path.text))
IsFirst faults (Range path) = Begin faults (range (string_bytes path.text))
IsFirst faults (Kind path) = Begin faults (kind (string_bytes path.text))
IsFirst faults (TwoMarks from onto) = Begin faults (two_marks from.number onto.number)
IsFirst faults (TwoLists location) = Begin faults (two_lists location.number)

-- Why bytes are refused, where `faults_of` gives the faults of a document: they are no document, or
-- they are one, and this is its first fault. (Or there is no memory, whatever the bytes are.)
abbrev pub IsRefused : (Members → List Fault) → List ℕ → NoteFault → Type 0
IsRefused faults_of bytes Memory = Unit {0}
IsRefused faults_of bytes Toml = (document : Members) → ¬ IsDocument bytes document
IsRefused faults_of bytes fault = (document : Members) × IsDocument bytes document
    × IsFirst (faults_of document) fault
