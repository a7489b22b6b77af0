-- The first of all faults is that for which bytes are refused; where there are none, they are read.
use Rattle.std.proofs.Common.{◌≡◌, ℕ, List, [], ◌∷◌, refl, subst, inl, inr}
use Rattle.base_notes.specs.declared.fault.NoteFault.{NoteFault}
use Rattle.base_notes.specs.declared.fault.NoteFault.TheVariants.{Toml, Memory, Missing, Unknown, Range, Kind, TwoMarks}
use Rattle.base_notes.specs.declared.fault.NoteFault.TheVariants.{TwoLists}
use Rattle.read_toml.specs.AllFaults.{Tells, TellEach, AreAllFaults}
use Rattle.read_toml.specs.Document.{Fault}
use Rattle.read_toml.specs.Refused.{Begin, IsDocument, IsRefused}
use Rattle.read_toml.proofs.Adding.{none_of}
use Rattle.toml.specs.Data.{Members}

-- what is stated first is the first fault
begin_told : (fault : NoteFault) (others : List NoteFault) (faults : List Fault) → TellEach (fault ∷ others) faults
    → (one : Fault) × Begin faults one × Tells fault one
begin_told fault others [] each = absurd each
begin_told fault others (one ∷ faults) each = (one, (faults, refl), each.0)

refused_by : (mine : Members → List Fault) (bytes : List ℕ) (D : Members) (fault : NoteFault) (one : Fault)
    → IsDocument bytes D → Begin (mine D) one → Tells fault one → IsRefused mine bytes fault
refused_by mine bytes D Toml one is begin tells = absurd tells
refused_by mine bytes D Memory one is begin tells = tt
refused_by mine bytes D (Missing path) one is begin tells = (D, is, subst (Begin (mine D)) tells begin)
refused_by mine bytes D (Unknown path) one is begin tells = (D, is, subst (Begin (mine D)) tells begin)
refused_by mine bytes D (Range path) one is begin tells = (D, is, subst (Begin (mine D)) tells begin)
refused_by mine bytes D (Kind path) one is begin tells = (D, is, subst (Begin (mine D)) tells begin)
refused_by mine bytes D (TwoMarks from onto) one is begin tells = (D, is, subst (Begin (mine D)) tells begin)
refused_by mine bytes D (TwoLists location) one is begin tells = (D, is, subst (Begin (mine D)) tells begin)

-- the first that is stated of all is why it is refused
pub first_told : (faults_of : Members → List Fault) (bytes : List ℕ) (fault : NoteFault) (others : List NoteFault)
    → AreAllFaults faults_of bytes (fault ∷ others) → IsRefused faults_of bytes fault
first_told faults_of bytes fault others all = elim all [
  | inl none ↦ let is : Toml ≡ fault = cc (none.1) in subst (IsRefused faults_of bytes) is none.0
  | inr each ↦
      let begin = begin_told fault others (faults_of each.0) each.2 in
      refused_by faults_of bytes each.0 fault begin.0 each.1 begin.1 begin.2
]

-- where nothing is stated, there is no fault
pub nothing_told : (whole : Members → List Fault) (bytes : List ℕ) → AreAllFaults whole bytes [] → (D : Members)
    × IsDocument bytes D × (whole D ≡ [])
nothing_told whole bytes all = elim all [
  | inl none ↦ cc (none.1)
  | inr each ↦ (each.0, each.1, none_of (whole each.0) each.2)
]
