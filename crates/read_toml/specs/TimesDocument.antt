-- The timing table as a document: its faults in their order, and what one without faults says.
use Rattle.std.specs.Prelude.{◌≡◌, ℕ, List, [], ◌∷◌, ◌++◌, map, flat_map, codes, Some, None}
use Rattle.base_words.specs.declared.op.Op.{Op}
use Rattle.base_words.specs.declared.op.Op.TheVariants.{Divide, DivideReset, Multiply, Shift, Read}
use Rattle.base_words.specs.declared.op.Op.TheVariants.{Punch}
use Rattle.base_words.specs.declared.parity.Parity.{Parity}
use Rattle.base_words.specs.declared.parity.Parity.TheVariants.{Any, Even, Odd}
use Rattle.base_words.specs.Numeral.{digits_of}
use Rattle.base_words.specs.Op.{number_of, ops}
use Rattle.base_notes.specs.declared.entry.Entry.{Entry}
use Rattle.read_toml.specs.declared.times.read_entry.Form.{Form}
use Rattle.read_toml.specs.declared.times.read_entry.Form.TheVariants.{Plain, Units, Waits}
use Rattle.read_toml.specs.Document.{Fault, kind, missing, unknown_in, missing_in, whole, text}
use Rattle.read_toml.specs.Document.{number_at, table_at}
use Rattle.toml.specs.Data.{Data, string, table, Members, get_member}

-- the two digits of an operation
abbrev pub key_of : Op → List ℕ
key_of op = digits_of 2 (number_of op)

-- what an entry has beside `before`, `after` and `parity`, by its operation
abbrev pub form_of : Op → Form
form_of Divide = Units
form_of DivideReset = Units
form_of Multiply = Units
form_of (Shift s) = Units
form_of Read = Waits
form_of Punch = Waits
form_of _ = Plain

-- the keys of an entry, all required
abbrev pub keys_of : Form → List (List ℕ)
keys_of Plain = codes "before" ∷ codes "after" ∷ codes "parity" ∷ []
keys_of Units = codes "before" ∷ codes "after" ∷ codes "parity" ∷ codes "per" ∷ []
keys_of Waits =
    codes "before" ∷ codes "after" ∷ codes "parity" ∷ codes "wait_min" ∷ codes "wait_max" ∷ []

abbrev pub text_of : Parity → List ℕ
text_of Any = codes "any"
text_of Even = codes "even"
text_of Odd = codes "odd"

-- the largest number in an entry
abbrev pub longest : ℕ
longest = 1000000

-- the faults of the values that each entry has
abbrev pub plain_faults : List ℕ → Members → List Fault
plain_faults at fields =
    whole 1 longest at (codes "before") fields ++ whole 0 longest at (codes "after") fields
    ++ text (map text_of (Any ∷ Even ∷ Odd ∷ [])) at (codes "parity") fields

-- the faults of the values of an entry that not every operation has
abbrev pub rest_faults : Form → List ℕ → Members → List Fault
rest_faults Plain at fields = []
rest_faults Units at fields = whole 0 longest at (codes "per") fields
rest_faults Waits at fields =
    whole 0 longest at (codes "wait_min") fields
    ++ whole (number_at (codes "wait_min") fields) longest at (codes "wait_max") fields

-- The faults of an entry: unknown keys, missing keys, and then the values, each in the order of the
-- keys.
abbrev pub entry_faults : Op → List ℕ → Members → List Fault
entry_faults op at fields =
    unknown_in at (keys_of (form_of op)) fields ++ missing_in at (keys_of (form_of op)) fields
    ++ plain_faults at fields ++ rest_faults (form_of op) at fields

-- the faults of what stands for an operation
abbrev pub operation_faults : Members → Op → List Fault
operation_faults operations op =
    let path = codes "op." ++ key_of op in
    elim (get_member (key_of op) operations) [
      | None ↦ missing path ∷ []
      | Some value ↦ (elim value [
        | table fields ↦ entry_faults op (path ++ codes ".") fields
        | _ ↦ kind path ∷ []
      ])
    ]

-- the faults of the table of operations: unknown keys, and then each operation in ascending order
abbrev pub operations_faults : Data → List Fault
operations_faults (table operations) =
    unknown_in (codes "op.") (map key_of ops) operations
    ++ flat_map (operation_faults operations) ops
operations_faults _ = kind (codes "op") ∷ []

-- The faults of a document, in their order. The first is why it is refused, and a check reports
-- them all.
abbrev pub times_faults : Members → List Fault
times_faults document =
    unknown_in [] (codes "op" ∷ []) document
    ++ (elim (get_member (codes "op") document) [
      | None ↦ missing (codes "op") ∷ []
      | Some value ↦ operations_faults value
    ])

-- the table of an operation
abbrev pub entry_fields : Members → Op → Members
entry_fields document op = table_at (key_of op) (table_at (codes "op") document)

-- The table says this entry: at the keys stand its numbers, and the text of its parity. (At a key
-- that isn't there stands 0: so `per` and the waits are 0 where an operation has none.)
pub record IsEntry (fields : Members) (entry : Entry) : Type 0 where
  pub before : entry.before ≡ number_at (codes "before") fields
  pub after : entry.after ≡ number_at (codes "after") fields
  pub parity : get_member (codes "parity") fields ≡ Some (string (text_of entry.parity))
  pub per : entry.per ≡ number_at (codes "per") fields
  pub wait_min : entry.wait_min ≡ number_at (codes "wait_min") fields
  pub wait_max : entry.wait_max ≡ number_at (codes "wait_max") fields

-- The document is a timing table, which says these entries, one for each operation.
pub record IsTimes (document : Members) (times : Op → Entry) : Type 0 where
  pub faultless : times_faults document ≡ []
  pub each : (op : Op) → IsEntry (entry_fields document op) (times op)
