-- The calls of long notes as a document says them, and their faults in their order.
use Rattle.std.specs.Prelude.{◌≡◌, ℕ, ◌-◌, ◌&&◌, ◌==◌, not, Bool, false, List, [], ◌∷◌, take, codes}
use Rattle.std.specs.Prelude.{Option, Some, None}
use Rattle.std.specs.List.{list_any}
use Rattle.base_words.specs.Location.{is_location}
use Rattle.base_notes.specs.declared.notes.call.Call.{Call}
use Rattle.base_notes.specs.Edges.{leads}
use Rattle.read_toml.specs.Document.{Fault, in_turn, unknown_in, missing_in, location, locations_at}
use Rattle.read_toml.specs.Document.{at_key, items_at, number_at, number_faults}
use Rattle.toml.specs.Data.{Data, Items, no_items, item, Members, as_table}

abbrev pub call_keys : List (List ℕ)
call_keys = codes "from" ∷ codes "to" ∷ codes "exit" ∷ codes "back" ∷ []

-- what a call does where its edge is passed: it opens this exit
pub record Opening : Type 0 where
  pub edge : ℕ × ℕ
  pub exit : ℕ

-- the opening that a table says: none where one of its three locations isn't there
abbrev pub opening_from : List ℕ → List ℕ → List ℕ → Option Opening
opening_from (from ∷ _) (onto ∷ _) (exit ∷ _) = Some (record { edge = (from, onto); exit = exit })
opening_from _ _ _ = None

abbrev pub opening_in : Members → Option Opening
opening_in fields =
    opening_from (locations_at (codes "from") fields) (locations_at (codes "to") fields)
    (locations_at (codes "exit") fields)

-- the one that an element of the array of calls says, if it says one
abbrev pub opening_found : Option Members → Option Opening
opening_found None = None
opening_found (Some fields) = opening_in fields

abbrev pub opening_said : Data → Option Opening
opening_said value = opening_found (as_table value)

-- those that all of them say, in order
abbrev pub openings_said : Items → List (Option Opening)
openings_said no_items = []
openings_said (item value items) = opening_said value ∷ openings_said items

abbrev pub openings_in : Members → List (Option Opening)
openings_in document = openings_said (items_at (codes "call") document)

-- whether two openings are the same, and whether what an element says is this opening
abbrev pub is_same_opening : Opening → Opening → Bool
is_same_opening one other = one.exit == other.exit && leads one.edge.0 one.edge.1 other.edge

abbrev pub is_opening : Opening → Option Opening → Bool
is_opening opening None = false
is_opening opening (Some one) = is_same_opening one opening

-- whether an opening, if there is one, is among these
abbrev pub is_opened : List (Option Opening) → Option Opening → Bool
is_opened openings None = false
is_opened openings (Some opening) = list_any (is_opening opening) openings

-- whether a number is the exit of a table that doesn't repeat one of these openings
abbrev pub is_new_exit : List (Option Opening) → Members → ℕ → Bool
is_new_exit earlier fields exit = is_location exit && not (is_opened earlier (opening_in fields))

-- the fault of an exit, where earlier calls have these openings
abbrev pub exit_faults : List (Option Opening) → List ℕ → List ℕ → Members → List Fault
exit_faults earlier at key fields =
    at_key (λ path value. number_faults path (is_new_exit earlier fields) value) at key fields

-- the faults that each check of a call of this number, from 1, finds: unknown keys, missing keys,
-- and then the values
abbrev pub call_checks : Members → ℕ → List ℕ → Members → List (List Fault)
call_checks document number at fields =
    unknown_in at call_keys fields ∷ missing_in at call_keys fields
    ∷ location at (codes "from") fields ∷ location at (codes "to") fields
    ∷ exit_faults (take (number - 1) (openings_in document)) at (codes "exit") fields
    ∷ location at (codes "back") fields ∷ []

abbrev pub call_faults : Members → ℕ → List ℕ → Members → List Fault
call_faults document number at fields = in_turn (call_checks document number at fields)

-- The table says this call: at the keys stand its locations.
pub record IsCall (fields : Members) (call : Call) : Type 0 where
  pub from : call.edge.from.number ≡ number_at (codes "from") fields
  pub onto : call.edge.onto.number ≡ number_at (codes "to") fields
  pub exit : call.exit.number ≡ number_at (codes "exit") fields
  pub back : call.back.number ≡ number_at (codes "back") fields
