-- What both documents are made of: TOML tables, whose keys are looked at one after the other. Here
-- are the faults of a table, in their order; a document without a fault has none.
use Rattle.std.specs.Prelude.{ℕ, suc, ◌+◌, ◌&&◌, Bool, if◌then◌else◌, nat_le, List, [], ◌∷◌, ◌++◌}
use Rattle.std.specs.Prelude.{flat_map, codes, decimal, pos, negsuc, Option, Some, None, is_some}
use Rattle.std.specs.List.{list_any}
use Rattle.base_words.specs.declared.location.Location.{Location}
use Rattle.base_words.specs.Location.{is_location}
use Rattle.toml.specs.Data.{Data, string, integer, array, table, Items, no_items, item, Members}
use Rattle.toml.specs.Data.{no_members, member, get_member, same_key}

-- why a document is refused: at a key, by its path, or for two of a kind
pub data Fault : Type 0 where
  missing : List ℕ → Fault
  unknown : List ℕ → Fault
  range : List ℕ → Fault
  kind : List ℕ → Fault
  two_marks : ℕ → ℕ → Fault
  two_lists : ℕ → Fault

-- the faults of checks that are made one after the other
abbrev pub in_turn : List (List Fault) → List Fault
in_turn [] = []
in_turn (faults ∷ checks) = faults ++ in_turn checks

-- the key is among these
abbrev pub is_one_of : List ℕ → List (List ℕ) → Bool
is_one_of key keys = list_any (λ one. same_key one key) keys

-- A fault for each key of the table, in byte order, that isn't among these. `at` is the path of the
-- table: nothing, or it ends in a dot. (A table's fields are in byte order of their keys.)
abbrev pub unknown_in : List ℕ → List (List ℕ) → Members → List Fault
unknown_in at keys no_members = []
unknown_in at keys (member key value fields) =
    (if is_one_of key keys then [] else unknown (at ++ key) ∷ []) ++ unknown_in at keys fields

-- a fault for each of these keys that the table lacks
abbrev pub missing_in : List ℕ → List (List ℕ) → Members → List Fault
missing_in at keys fields =
    flat_map (λ key. if is_some (get_member key fields) then [] else missing (at ++ key) ∷ []) keys

-- the fault of a value that is to be a whole number with a property
abbrev pub number_faults : List ℕ → (ℕ → Bool) → Data → List Fault
number_faults path holds (integer (pos n)) = if holds n then [] else range path ∷ []
number_faults path holds (integer (negsuc n)) = range path ∷ []
number_faults path holds _ = kind path ∷ []

-- the fault of a value that is to be one of these texts
abbrev pub text_faults : List ℕ → List (List ℕ) → Data → List Fault
text_faults path texts (string text) = if is_one_of text texts then [] else range path ∷ []
text_faults path texts _ = kind path ∷ []

-- what a check says of the value at a key, if there is one
abbrev pub at_key : (List ℕ → Data → List Fault) → List ℕ → List ℕ → Members → List Fault
at_key check at key fields = elim (get_member key fields) [
  | None ↦ []
  | Some value ↦ check (at ++ key) value
]

-- a whole number from low to high; a location; one of some texts
abbrev pub whole : ℕ → ℕ → List ℕ → List ℕ → Members → List Fault
whole low high at key fields =
    at_key (λ path value. number_faults path (λ n. nat_le low n && nat_le n high) value)
    at key fields

abbrev pub location : List ℕ → List ℕ → Members → List Fault
location at key fields = at_key (λ path value. number_faults path is_location value) at key fields

abbrev pub text : List (List ℕ) → List ℕ → List ℕ → Members → List Fault
text texts at key fields = at_key (λ path value. text_faults path texts value) at key fields

-- the number that a value is, and the one at a key; 0 where there is none, or a negative one
abbrev pub number_in : Data → ℕ
number_in (integer (pos n)) = n
number_in _ = 0

abbrev pub number_at : List ℕ → Members → ℕ
number_at key fields = elim (get_member key fields) [ None ↦ 0 | Some value ↦ number_in value ]

-- the table that a value is, and the one at a key; an empty one where there is none
abbrev pub table_in : Data → Members
table_in (table fields) = fields
table_in _ = no_members

abbrev pub table_at : List ℕ → Members → Members
table_at key fields =
    elim (get_member key fields) [ None ↦ no_members | Some value ↦ table_in value ]

-- the elements of the array that a value is, and of the one at a key; none where there is none
abbrev pub items_in : Data → Items
items_in (array items) = items
items_in _ = no_items

abbrev pub items_at : List ℕ → Members → Items
items_at key fields =
    elim (get_member key fields) [ None ↦ no_items | Some value ↦ items_in value ]

-- the location that a value is, and the one at a key, if there is one
abbrev pub location_of : Data → List ℕ
location_of (integer (pos n)) = if is_location n then n ∷ [] else []
location_of _ = []

abbrev pub location_in : Option Data → List ℕ
location_in None = []
location_in (Some value) = location_of value

abbrev pub locations_at : List ℕ → Members → List ℕ
locations_at key fields = location_in (get_member key fields)

-- the number of a location that there may be
abbrev pub numbers_of : Option Location → List ℕ
numbers_of None = []
numbers_of (Some location) = location.number ∷ []

abbrev pub count_of : Items → ℕ
count_of no_items = 0
count_of (item value items) = suc (count_of items)

-- the faults of an element that is to be a table, at its path
abbrev pub element_faults : (ℕ → List ℕ → Members → List Fault) → ℕ → List ℕ → Data → List Fault
element_faults check number path (table fields) = check number (path ++ codes ".") fields
element_faults check number path _ = kind path ∷ []

-- the faults of elements, the first of which has this number: one element whole before the next
abbrev pub elements_faults : (ℕ → List ℕ → Members → List Fault) → List ℕ → ℕ → Items → List Fault
elements_faults check path number no_items = []
elements_faults check path number (item value items) =
    element_faults check number (path ++ codes "." ++ decimal number) value
    ++ elements_faults check path (number + 1) items

-- it is a number from low up to high, if there is a high
abbrev pub is_count : ℕ → Option ℕ → ℕ → Bool
is_count low None n = nat_le low n
is_count low (Some high) n = nat_le low n && nat_le n high

-- the faults of a value that is to be an array of tables, from low up to high of them, if there is
-- a high
abbrev pub array_faults : ℕ → Option ℕ → (ℕ → List ℕ → Members → List Fault) → List ℕ → Data
    → List Fault
array_faults low high check path (array items) =
    if is_count low high (count_of items) then elements_faults check path 1 items
    else range path ∷ []
array_faults low high check path _ = kind path ∷ []

-- an array of tables at a key; its elements are numbered from 1
abbrev pub tables : ℕ → Option ℕ → (ℕ → List ℕ → Members → List Fault) → List ℕ → List ℕ → Members
    → List Fault
tables low high check at key fields = at_key (array_faults low high check) at key fields
