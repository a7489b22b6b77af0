-- What values are.
use Rattle.std.specs.Prelude.{◌≡◌, ℕ, List, Contains}
use Rattle.read_toml.specs.declared.document.value.ValueFault.{ValueFault}
use Rattle.read_toml.specs.declared.document.value.ValueFault.TheVariants.{Kind, Range}
use Rattle.read_toml.specs.Document.{Fault, kind, range}
use Rattle.toml.specs.Data.{Data, string}

-- the fault of a value at a path
abbrev pub fault_of : ValueFault → List ℕ → Fault
fault_of Kind path = kind path
fault_of Range path = range path

-- the value is one of these texts, and it stands for this
abbrev pub StandsFor : {T : Type 0} → List (List ℕ × T) → Data → T → Type 0
StandsFor {T} choices value chosen = (text : List ℕ) × (value ≡ string text)
    × Contains {X = List ℕ × T} choices (text, chosen)
