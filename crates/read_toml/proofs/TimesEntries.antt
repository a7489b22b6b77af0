-- A timing table without a fault: what stands at its keys is an entry of each operation.
use Rattle.std.proofs.Common.{◌≡◌, ◌≢◌, true, ℕ, zero, suc, ◌+◌, ◌≤◌, ◌<◌, List, [], ◌∷◌, ◌++◌, map, length, get_or, set, Option}
use Rattle.std.proofs.Common.{Some, None, Bor, refl, ap, sym, ◌∙◌, subst, inl, inr, ◌⊎◌, arith, get_or-set_same}
use Rattle.std.proofs.Common.{get_or-set_other}
use Rattle.std.proofs.lemmas.Bool.{cases_lt}
use Rattle.std.proofs.lemmas.List.{get_or-map, length-map}
use Rattle.std.proofs.lemmas.Option.{get_or_from_slice_get}
use Rattle.std.specs.Prelude.{codes, flat_map, slice_get}
use Rattle.base_words.specs.declared.op.Op.{Op}
use Rattle.base_words.specs.declared.parity.Parity.{Parity}
use Rattle.base_words.specs.declared.parity.Parity.TheVariants.{Any, Even, Odd}
use Rattle.base_words.specs.Op.{number_of, ops}
use Rattle.base_words.proofs.OpLaws.{same_op, number_below, place_of}
use Rattle.base_notes.specs.declared.entry.Entry.{Entry}
use Rattle.base_notes.specs.Entries.{blank}
use Rattle.read_toml.specs.declared.times.read_entry.Form.{Form}
use Rattle.read_toml.specs.declared.times.read_entry.Form.TheVariants.{Plain, Units, Waits}
use Rattle.read_toml.specs.Document.{Fault, missing, kind, unknown_in, missing_in, whole, text, number_at, table_at, is_one_of}
use Rattle.read_toml.specs.TimesDocument.{IsEntry, IsTimes, keys_of, form_of, key_of, longest, text_of, plain_faults}
use Rattle.read_toml.specs.TimesDocument.{rest_faults, entry_faults, entry_fields, operation_faults, operations_faults}
use Rattle.read_toml.specs.TimesDocument.{times_faults}
use Rattle.read_toml.specs.Value.{StandsFor}
use Rattle.read_toml.proofs.Faultless.{value_there, text_there, number_within, number_lacking, table_at_is}
use Rattle.read_toml.proofs.Sequences.{none_before, none_behind}
use Rattle.toml.specs.Data.{Data, string, integer, float, boolean, datetime, array, table, Members, get_member}

-- the numbers that not every operation has are in their ranges
record InRange (fields : Members) : Type 0 where
  per : number_at (codes "per") fields ≤ longest
  waits : number_at (codes "wait_min") fields ≤ number_at (codes "wait_max") fields
  wait : number_at (codes "wait_max") fields ≤ longest

rest_in_range : (form : Form) (at : List ℕ) (fields : Members) → unknown_in at (keys_of form) fields ≡ []
    → missing_in at (keys_of form) fields ≡ [] → rest_faults form at fields ≡ [] → InRange fields
rest_in_range Plain at fields known there none =
    let per = number_lacking at (keys_of Plain) (codes "per") fields refl known in
    let wait_min = number_lacking at (keys_of Plain) (codes "wait_min") fields refl known in
    let wait_max = number_lacking at (keys_of Plain) (codes "wait_max") fields refl known in
    record { per = omega (arith, per); waits = omega (arith, wait_min, wait_max); wait = omega (arith, wait_max) }
rest_in_range Units at fields known there none =
    let wait_min = number_lacking at (keys_of Units) (codes "wait_min") fields refl known in
    let wait_max = number_lacking at (keys_of Units) (codes "wait_max") fields refl known in
    let per = number_within 0 longest at (keys_of Units) (codes "per") fields there refl none in
    record { per = per.1; waits = omega (arith, wait_min, wait_max); wait = omega (arith, wait_max) }
rest_in_range Waits at fields known there none =
    let per = number_lacking at (keys_of Waits) (codes "per") fields refl known in
    let shortest : List Fault = whole 0 longest at (codes "wait_min") fields in
    let max = number_within (number_at (codes "wait_min") fields) longest at (keys_of Waits) (codes "wait_max") fields
    there refl (none_behind shortest _ none) in
    record { per = omega (arith, per); waits = max.0; wait = max.1 }

-- each form has the keys of every entry
before_among : (form : Form) → is_one_of (codes "before") (keys_of form) ≡ true
before_among Plain = refl
before_among Units = refl
before_among Waits = refl

after_among : (form : Form) → is_one_of (codes "after") (keys_of form) ≡ true
after_among Plain = refl
after_among Units = refl
after_among Waits = refl

parity_among : (form : Form) → is_one_of (codes "parity") (keys_of form) ≡ true
parity_among Plain = refl
parity_among Units = refl
parity_among Waits = refl

-- what is so of a table that is an entry without a fault
record IsFine (form : Form) (at : List ℕ) (fields : Members) : Type 0 where
  there : missing_in at (keys_of form) fields ≡ []
  before : whole 1 longest at (codes "before") fields ≡ []
  after : whole 0 longest at (codes "after") fields ≡ []
  parity : text (map text_of (Any ∷ Even ∷ Odd ∷ [])) at (codes "parity") fields ≡ []
  rest : InRange fields

entry_is_fine : (op : Op) (at : List ℕ) (fields : Members) → entry_faults op at fields ≡ []
    → IsFine (form_of op) at fields
entry_is_fine op at fields none =
    let unknown : List Fault = unknown_in at (keys_of (form_of op)) fields in
    let lacking : List Fault = missing_in at (keys_of (form_of op)) fields in
    let before : List Fault = whole 1 longest at (codes "before") fields in
    let after : List Fault = whole 0 longest at (codes "after") fields in
    let parity : List Fault = text (map text_of (Any ∷ Even ∷ Odd ∷ [])) at (codes "parity") fields in
    let but_rest = none_before (unknown ++ lacking ++ plain_faults at fields) (rest_faults (form_of op) at fields) none in
    let no_key = none_before (unknown ++ lacking) (plain_faults at fields) but_rest in
    let values = none_behind (unknown ++ lacking) (plain_faults at fields) but_rest in
    let numbers = none_before (before ++ after) parity values in
    let there = none_behind unknown lacking no_key in
    record {
      there = there;
      before = none_before before after numbers;
      after = none_behind before after numbers;
      parity = none_behind (before ++ after) parity values;
      rest = rest_in_range (form_of op) at fields (none_before unknown lacking no_key) there
          (none_behind (unknown ++ lacking ++ plain_faults at fields) (rest_faults (form_of op) at fields) none);
    }

-- what stands at its keys is an entry
pub entry_there : (op : Op) (at : List ℕ) (fields : Members) → entry_faults op at fields ≡ [] → (entry : Entry)
    × IsEntry fields entry
entry_there op at fields none =
    let form : Form = form_of op in
    let fine = entry_is_fine op at fields none in
    let before = number_within 1 longest at (keys_of form) (codes "before") fields fine.there (before_among form)
    fine.before in
    let after = number_within 0 longest at (keys_of form) (codes "after") fields fine.there (after_among form)
    fine.after in
    let has = value_there at (keys_of form) fields (codes "parity") fine.there (parity_among form) in
    let parity = text_there text_of (Any ∷ Even ∷ Odd ∷ []) at (codes "parity") fields has.0 has.1 fine.parity in (
      record {
        before = number_at (codes "before") fields;
        after = number_at (codes "after") fields;
        parity = parity.0;
        per = number_at (codes "per") fields;
        wait_min = number_at (codes "wait_min") fields;
        wait_max = number_at (codes "wait_max") fields;
        some_before = before.0;
        short_before = before.1;
        short_after = after.1;
        short_per = fine.rest.per;
        waits = fine.rest.waits;
        short_wait = fine.rest.wait;
      },
      record { before = refl; after = refl; parity = parity.1; per = refl; wait_min = refl; wait_max = refl },
    )

-- two tables at a key are the same
pub same_table : (key : List ℕ) (fields one other : Members) → get_member key fields ≡ Some (table one)
    → get_member key fields ≡ Some (table other) → one ≡ other
same_table key fields one other has too = sym (table_at_is key fields one has) ∙ table_at_is key fields other too

abbrev faults_of_operation : Op → Option Data → List Fault
faults_of_operation op None = missing (codes "op." ++ key_of op) ∷ []
faults_of_operation op (Some value) = elim value [
  | table fields ↦ entry_faults op
      (codes "op." ++ key_of op ++ codes ".") fields
  | _ ↦ kind (codes "op." ++ key_of op) ∷ []
]

-- the table that an operation without a fault has, which has none either
pub record OperationTable (T : Members) (op : Op) : Type 0 where
  pub fields : Members
  pub has : get_member (key_of op) T ≡ Some (table fields)
  pub at : List ℕ
  pub fine : entry_faults op at fields ≡ []

pub operation_there : (T : Members) (op : Op) → operation_faults T op ≡ [] → OperationTable T op
operation_there T op = go (get_member (key_of op) T) refl
  where
    go : (found : Option Data) → get_member (key_of op) T ≡ found → faults_of_operation op found ≡ []
        → OperationTable T op
    go None e none = cc
    go (Some (table fields)) e none =
        record { fields = fields; has = e; at = codes "op." ++ key_of op ++ codes "."; fine = none }
    go (Some (string s)) e none = cc
    go (Some (integer z)) e none = cc
    go (Some (float x)) e none = cc
    go (Some (boolean b)) e none = cc
    go (Some (datetime d)) e none = cc
    go (Some (array items)) e none = cc

-- where none of some operations has a fault, none at a place has
none_at : (T : Members) (listed : List Op) (k : ℕ) (op : Op) → flat_map (operation_faults T) listed ≡ []
    → slice_get listed k ≡ Some op → operation_faults T op ≡ []
none_at T [] k op none at = cc
none_at T (first ∷ listed) zero op none at =
    let same : first ≡ op = cc in
    subst (λ (one : Op). operation_faults T one ≡ []) same
    (none_before (operation_faults T first) (flat_map (operation_faults T) listed) none)
none_at T (first ∷ listed) (suc k) op none at = none_at T listed k op
    (none_behind (operation_faults T first) (flat_map (operation_faults T) listed) none) at

abbrev faults_found : Option Data → List Fault
faults_found None = missing (codes "op") ∷ []
faults_found (Some value) = operations_faults value

-- a timing table without a fault has a table of operations, none of which has one
pub operations_there : (D : Members) → times_faults D ≡ [] → (T : Members)
    × (get_member (codes "op") D ≡ Some (table T)) × ((op : Op) → operation_faults T op ≡ [])
operations_there D none = go (get_member (codes "op") D) refl
    (none_behind (unknown_in [] (codes "op" ∷ []) D) (faults_found (get_member (codes "op") D)) none)
  where
    go : (found : Option Data) → get_member (codes "op") D ≡ found → faults_found found ≡ [] → (T : Members)
        × (get_member (codes "op") D ≡ Some (table T)) × ((op : Op) → operation_faults T op ≡ [])
    go None e fine = cc
    go (Some (table T)) e fine = (
      T,
      e,
      λ op. none_at T ops (place_of op).0 op
          (none_behind (unknown_in (codes "op.") (map key_of ops) T) (flat_map (operation_faults T) ops) fine)
          (place_of op).1,
    )
    go (Some (string s)) e fine = cc
    go (Some (integer z)) e fine = cc
    go (Some (float x)) e fine = cc
    go (Some (boolean b)) e fine = cc
    go (Some (datetime d)) e fine = cc
    go (Some (array items)) e fine = cc

-- so a document without a fault says a timing table
pub times_there : (D : Members) → times_faults D ≡ [] → (times : Op → Entry) × IsTimes D times
times_there D none =
    let T = operations_there D none in
    let each : (op : Op) → (entry : Entry) × IsEntry (entry_fields D op) entry = λ op.
    let one = operation_there T.0 op (T.2 op) in
    let said = entry_there op one.at one.fields one.fine in
    let is : entry_fields D op ≡ one.fields =
    ap (table_at (key_of op)) (table_at_is (codes "op") D T.0 T.1) ∙ table_at_is (key_of op) T.0 one.fields one.has in
    (said.0, subst (λ (fields : Members). IsEntry fields said.0) (sym is) said.1) in
    (λ op. (each op).0, record { faultless = none; each = λ op. (each op).1 })

-- each key is that of the operation at its place
pub keyed_at : (keys : List (Bor (List ℕ))) (listed : List Op) (i : ℕ) (d : Bor (List ℕ)) (e : Op)
    → map (λ key. key.now) keys ≡ map key_of listed → i < length listed
    → (get_or keys i d).now ≡ key_of (get_or listed i e)
keyed_at keys listed i d e same within =
    let many : length keys ≡ length listed =
    sym (length-map keys (λ (key : Bor (List ℕ)). key.now)) ∙ ap length same ∙ length-map listed key_of in
    sym (get_or-map (λ (key : Bor (List ℕ)). key.now) keys i d [] (omega (arith, many, within)))
    ∙ ap (λ (xs : List (List ℕ)). get_or xs i []) same ∙ get_or-map key_of listed i e [] within

-- the entries so far have a property, and so has one more
pub one_more : (P : Op → Entry → Type 0) (listed : List Op) (entries : List Entry) (i : ℕ) (e : Op) (n : ℕ)
    (entry : Entry) → length entries ≡ 100 → i < length listed → n ≡ number_of (get_or listed i e)
    → P (get_or listed i e) entry
    → ((k : ℕ) (op : Op) → k < i → slice_get listed k ≡ Some op → P op (get_or entries (number_of op) blank))
    → (k : ℕ) (op : Op) → k < i + 1 → slice_get listed k ≡ Some op
    → P op (get_or (set entries n entry) (number_of op) blank)
one_more P listed entries i e n entry all within number says said k op below at =
    elim (same_number (number_of op) n) [
      | inl same ↦
          let is : get_or listed i e ≡ op = same_op (get_or listed i e) op (sym number ∙ sym same) in
          let room : n < length entries = omega (arith, all, number, number_below (get_or listed i e)) in
          subst (λ (m : ℕ). P op (get_or (set entries n entry) m blank)) (sym same)
          (subst (P op) (sym (get_or-set_same entries n entry blank room))
          (subst (λ (o : Op). P o entry) is says))
      | inr other ↦
          let earlier : k ≢ i =
          λ e'. other (ap number_of (sym (get_or_from_slice_get listed k op e at))
          ∙ ap (λ (m : ℕ). number_of (get_or listed m e)) e' ∙ sym number) in
          subst (P op) (sym (get_or-set_other entries n (number_of op) entry blank other))
          (said k op (omega (arith, below, earlier)) at)
    ]
  where
    same_number : (a b : ℕ) → (a ≡ b) ⊎ (a ≢ b)
    same_number a b = elim (cases_lt a b) [
      | inl less ↦ inr (λ e. omega (arith, e, less))
      | inr from ↦ elim (cases_lt b a)
          [ inl more ↦ inr (λ e. omega (arith, e, more)) | inr upto ↦ inl (omega (arith, from, upto)) ]
    ]

-- the text of a parity stands for it
pub parity_stands : (parity : Parity)
    → StandsFor ((codes "any", Any) ∷ (codes "even", Even) ∷ (codes "odd", Odd) ∷ []) (string (text_of parity)) parity
parity_stands Any = (codes "any", refl, (0, omega arith, refl))
parity_stands Even = (codes "even", refl, (1, omega arith, refl))
parity_stands Odd = (codes "odd", refl, (2, omega arith, refl))
