-- The faults that are added of a value at a key.
use Rattle.std.proofs.Common.{◌≡◌, ℕ, Bool, true, false, cond, List, ◌∷◌, ◌++◌, []}
use Rattle.std.proofs.Common.{Option, Some, None, refl, ap, sym, ◌∙◌, subst}
use Rattle.std.specs.Prelude.{codes, pos, negsuc}
use Rattle.base_words.specs.declared.op.Op.{Op}
use Rattle.base_words.specs.Location.{is_location}
use Rattle.read_toml.specs.declared.document.value.ValueFault.{ValueFault}
use Rattle.base_notes.specs.declared.fault.NoteFault.{NoteFault}
use Rattle.read_toml.specs.declared.times.read_entry.Form.{Form}
use Rattle.read_toml.specs.AllFaults.{Adds}
use Rattle.read_toml.specs.Document.{location_of, location_in, locations_at}
use Rattle.read_toml.specs.Document.{Fault, kind, missing, range, unknown_in, missing_in, at_key}
use Rattle.read_toml.specs.Document.{number_faults}
use Rattle.read_toml.specs.TimesDocument.{keys_of, form_of, entry_faults, plain_faults, rest_faults}
use Rattle.read_toml.specs.TimesDocument.{operations_faults, times_faults}
use Rattle.read_toml.specs.Value.{fault_of}
use Rattle.read_toml.proofs.Adding.{adds_more}
use Rattle.toml.specs.Data.{Data, string, integer, float, boolean, datetime, array, table, as_table}
use Rattle.toml.specs.Data.{Members, get_member}

-- and of its value with it
pub key_some : (check : List ℕ → Data → List Fault) (at key : List ℕ) (fields : Members) (d : Data)
    → Some d ≡ get_member key fields → at_key check at key fields ≡ check (at ++ key) d
key_some check at key fields d has =
    ap (λ (found : Option Data). elim found [ None ↦ [] | Some value ↦ check (at ++ key) value ]) (sym has)

pub table_from : (d : Data) (fields : Members) → Some fields ≡ as_table d → d ≡ table fields
table_from (string s) fields e = cc
table_from (integer z) fields e = cc
table_from (float x) fields e = cc
table_from (boolean b) fields e = cc
table_from (datetime dt) fields e = cc
table_from (array items) fields e = cc
table_from (table ms) fields e = ap table (go e)
  where
    go : Some fields ≡ Some ms → ms ≡ fields
    go h = cc

-- of the table of operations
abbrev found_operations : Option Data → List Fault
found_operations found = elim found [ None ↦ missing (codes "op") ∷ [] | Some value ↦ operations_faults value ]

abbrev top_unknown : Members → List Fault
top_unknown D = unknown_in [] (codes "op" ∷ []) D

pub lacks_operations : (D : Members) → None ≡ get_member (codes "op") D
    → top_unknown D ++ missing (codes "op") ∷ [] ≡ times_faults D
lacks_operations D lacks = ap (λ (found : Option Data). top_unknown D ++ found_operations found) lacks

no_operations : (d : Data) → None ≡ as_table d → kind (codes "op") ∷ [] ≡ operations_faults d
no_operations (string s) is = refl
no_operations (integer z) is = refl
no_operations (float x) is = refl
no_operations (boolean b) is = refl
no_operations (datetime dt) is = refl
no_operations (array items) is = refl
no_operations (table fields) is = cc

pub wrong_operations : (D : Members) (d : Data) → Some d ≡ get_member (codes "op") D → None ≡ as_table d
    → top_unknown D ++ kind (codes "op") ∷ [] ≡ times_faults D
wrong_operations D d has no_table =
    ap (λ (xs : List Fault). top_unknown D ++ xs) (no_operations d no_table)
    ∙ ap (λ (found : Option Data). top_unknown D ++ found_operations found) has

pub all_operations : (D T : Members) (d : Data) → Some d ≡ get_member (codes "op") D → Some T ≡ as_table d
    → top_unknown D ++ operations_faults (table T) ≡ times_faults D
all_operations D T d has is_table =
    ap (λ (value : Data). top_unknown D ++ operations_faults value) (sym (table_from d T is_table))
    ∙ ap (λ (found : Option Data). top_unknown D ++ found_operations found) has

-- the faults of an entry, check by check
pub adds_entry : (op : Op) (at : List ℕ) (fields : Members) (keys : List (List ℕ)) (form : Form)
    (old one two three new : List NoteFault) → keys ≡ keys_of form → form ≡ form_of op
    → Adds old one (unknown_in at keys fields) → Adds one two (missing_in at keys fields)
    → Adds two three (plain_faults at fields) → Adds three new (rest_faults form at fields)
    → Adds old new (entry_faults op at fields)
adds_entry op at fields keys form old one two three new are is unknown lacks plain others =
    let same : keys ≡ keys_of (form_of op) = are ∙ ap keys_of is in
    adds_more old three new _ (rest_faults (form_of op) at fields)
    (adds_more old two three _ (plain_faults at fields)
    (adds_more old one two (unknown_in at (keys_of (form_of op)) fields) (missing_in at (keys_of (form_of op)) fields)
    (subst (λ (ks : List (List ℕ)). Adds old one (unknown_in at ks fields)) same unknown)
    (subst (λ (ks : List (List ℕ)). Adds one two (missing_in at ks fields)) same lacks))
    plain)
    (subst (λ (f : Form). Adds three new (rest_faults f at fields)) is others)

-- a value that is no location's number
no_location : (d : Data) (wrong : ValueFault)
    → ((path : List ℕ) → number_faults path is_location d ≡ fault_of wrong path ∷ []) → location_of d ≡ []
no_location (integer (pos n)) wrong faults = go (is_location n) (faults [])
  where
    go : (b : Bool) → cond b [] (range [] ∷ []) ≡ fault_of wrong [] ∷ [] → cond b (n ∷ []) [] ≡ []
    go true e = cc
    go false e = refl
no_location (integer (negsuc n)) wrong faults = refl
no_location (string s) wrong faults = refl
no_location (float x) wrong faults = refl
no_location (boolean b) wrong faults = refl
no_location (datetime dt) wrong faults = refl
no_location (array items) wrong faults = refl
no_location (table fields) wrong faults = refl

pub wrong_location : (fields : Members) (key : List ℕ) (d : Data) (wrong : ValueFault) → Some d ≡ get_member key fields
    → ((path : List ℕ) → number_faults path is_location d ≡ fault_of wrong path ∷ []) → locations_at key fields ≡ []
wrong_location fields key d wrong has faults = ap location_in (sym has) ∙ no_location d wrong faults
