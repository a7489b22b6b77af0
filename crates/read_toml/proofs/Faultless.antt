-- What checks that find no fault have found.
use Rattle.std.proofs.Common.{◌≡◌, ℕ, ◌≤◌, ◌<◌, subst, Bool, true, false, ◌||◌, cond, List, [], ◌∷◌, ◌++◌, map, Option, Some, None}
use Rattle.std.proofs.Common.{refl, ap, sym, ◌∙◌, arith, Ordering, Less, Equal, Greater, is_eq, nat_cmp}
use Rattle.std.specs.Cmp.Lexicographic.{slice_cmp}
use Rattle.std.specs.Ordering.{match_ordering}
use Rattle.std.proofs.lemmas.Bool.{and_parts, leb-true, ltb-true}
use Rattle.std.proofs.lemmas.Map.Text.{is_eq-slice_cmp}
use Rattle.std.proofs.lemmas.Slice.Eq.{bytes_eq-Decides}
use Rattle.std.specs.List.{AllByRecursion}
use Rattle.std.specs.Prelude.{◌&&◌, nat_le, nat_lt, pos, negsuc, is_some}
use Rattle.base_words.specs.Location.{IsLocation, is_location}
use Rattle.read_toml.specs.Document.{Fault, in_turn, missing, range, missing_in, is_one_of, whole, location, text}
use Rattle.read_toml.specs.Document.{number_faults, text_faults, number_at, number_in, table_at, table_in}
use Rattle.read_toml.specs.Document.{unknown, unknown_in, location_in, locations_at}
use Rattle.read_toml.proofs.Sequences.{no_faults, none_before, none_behind, not_missing}
use Rattle.toml.specs.Data.{Data, string, integer, float, boolean, datetime, array, table, Members, get_member}
use Rattle.toml.specs.Data.{no_members, member, same_key}

-- the table has this whole number at a key
abbrev pub HasNumber : Members → List ℕ → ℕ → Type 0
HasNumber fields key n = get_member key fields ≡ Some (integer (pos n))

-- a key that isn't missing has a value
pub value_there : (at : List ℕ) (keys : List (List ℕ)) (fields : Members) (key : List ℕ)
    → missing_in at keys fields ≡ [] → is_one_of key keys ≡ true → (value : Data) × (get_member key fields ≡ Some value)
value_there at keys fields key none among = go (get_member key fields) refl (not_missing at keys fields key none among)
  where
    go : (found : Option Data) → get_member key fields ≡ found
        → cond (is_some found) [] (missing (at ++ key) ∷ []) ++ [] ≡ [] → (value : Data)
        × (get_member key fields ≡ Some value)
    go None e lacks = cc
    go (Some value) e lacks = (value, e)

-- a value without a fault is a number with the property
pub number_said : (path : List ℕ) (holds : ℕ → Bool) (value : Data) → number_faults path holds value ≡ [] → (n : ℕ)
    × (value ≡ integer (pos n)) × (holds n ≡ true)
number_said path holds (integer (pos n)) none = (n, refl, go (holds n) none)
  where
    go : (b : Bool) → cond b [] (range path ∷ []) ≡ [] → b ≡ true
    go true e = refl
    go false e = cc
number_said path holds (integer (negsuc n)) none = cc
number_said path holds (string s) none = cc
number_said path holds (float x) none = cc
number_said path holds (boolean b) none = cc
number_said path holds (datetime d) none = cc
number_said path holds (array items) none = cc
number_said path holds (table fields) none = cc

-- or one of the texts
text_said : (path : List ℕ) (texts : List (List ℕ)) (value : Data) → text_faults path texts value ≡ [] → (one : List ℕ)
    × (value ≡ string one) × (is_one_of one texts ≡ true)
text_said path texts (string s) none = (s, refl, go (is_one_of s texts) none)
  where
    go : (b : Bool) → cond b [] (range path ∷ []) ≡ [] → b ≡ true
    go true e = refl
    go false e = cc
text_said path texts (integer z) none = cc
text_said path texts (float x) none = cc
text_said path texts (boolean b) none = cc
text_said path texts (datetime d) none = cc
text_said path texts (array items) none = cc
text_said path texts (table fields) none = cc

-- what a check says of a value, if there is one
abbrev pub said_of : (Data → List Fault) → Option Data → List Fault
said_of check None = []
said_of check (Some value) = check value

-- of the value that is there, a check that finds none says nothing
none_said : (check : Data → List Fault) (found : Option Data) (value : Data) → found ≡ Some value
    → said_of check found ≡ [] → check value ≡ []
none_said check found value is none = ap (said_of check) (sym is) ∙ none

pub number_there : (at key : List ℕ) (fields : Members) (holds : ℕ → Bool) (value : Data)
    → get_member key fields ≡ Some value → said_of (number_faults (at ++ key) holds) (get_member key fields) ≡ []
    → (n : ℕ) × HasNumber fields key n × (holds n ≡ true)
number_there at key fields holds value has none =
    let said = number_said (at ++ key) holds value (none_said (number_faults (at ++ key) holds)
    (get_member key fields) value has none) in
    (said.0, has ∙ ap Some said.1, said.2)

pub whole_there : (low high : ℕ) (at key : List ℕ) (fields : Members) (value : Data)
    → get_member key fields ≡ Some value → whole low high at key fields ≡ []
    → (n : ℕ) × HasNumber fields key n × (low ≤ n) × (n ≤ high)
whole_there low high at key fields value has none =
    let said = number_there at key fields (λ n. nat_le low n && nat_le n high) value has none in
    let both = and_parts (nat_le low said.0) (nat_le said.0 high) said.2 in
    (said.0, said.1, leb-true low said.0 both.0, leb-true said.0 high both.1)

pub location_there : (at key : List ℕ) (fields : Members) (value : Data) → get_member key fields ≡ Some value
    → location at key fields ≡ [] → (n : ℕ) × HasNumber fields key n × (is_location n ≡ true)
location_there at key fields value has none = number_there at key fields is_location value has none

-- a text among those of some choices is one's
choice_of : {T : Type 0} (text_of : T → List ℕ) (choices : List T) (one : List ℕ)
    → is_one_of one (map text_of choices) ≡ true → (chosen : T) × (one ≡ text_of chosen)
choice_of text_of [] one among = cc
choice_of {T} text_of (first ∷ choices) one among = go (same_key (text_of first) one) refl among
    (choice_of text_of choices one)
  where
    go : (same : Bool) → same_key (text_of first) one ≡ same → (same || is_one_of one (map text_of choices)) ≡ true
        → (is_one_of one (map text_of choices) ≡ true → (chosen : T) × (one ≡ text_of chosen))
        → (chosen : T) × (one ≡ text_of chosen)
    go true test h further = (
      first,
      sym ((bytes_eq-Decides (text_of first) one).0
          (sym (is_eq-slice_cmp (text_of first) one) ∙ test)),
    )
    go false test h further = further h

pub text_there : {T : Type 0} (text_of : T → List ℕ) (choices : List T) (at key : List ℕ) (fields : Members)
    (value : Data) → get_member key fields ≡ Some value → text (map text_of choices) at key fields ≡ []
    → (chosen : T) × (get_member key fields ≡ Some (string (text_of chosen)))
text_there text_of choices at key fields value has none =
    let said = text_said (at ++ key) (map text_of choices) value
    (none_said (text_faults (at ++ key) (map text_of choices)) (get_member key fields) value has none) in
    let chosen = choice_of text_of choices said.0 said.2 in
    (chosen.0, has ∙ ap Some (said.1 ∙ ap string chosen.1))

-- checks in turn that find none find none each
pub each_none : (checks : List (List Fault)) → in_turn checks ≡ [] → AllByRecursion (λ faults. faults ≡ []) checks
each_none [] none = tt
each_none (faults ∷ checks) none = (
  none_before faults (in_turn checks) none,
  each_none checks (none_behind faults (in_turn checks) none),
)

-- the number at a key is the one that the table has there
pub number_at_is : (key : List ℕ) (fields : Members) (n : ℕ) → HasNumber fields key n → number_at key fields ≡ n
number_at_is key fields n has = ap (λ (found : Option Data). elim found [ None ↦ 0 | Some value ↦ number_in value ]) has

-- and so is the table
pub table_at_is : (key : List ℕ) (fields found : Members) → get_member key fields ≡ Some (table found)
    → table_at key fields ≡ found
table_at_is key fields found has =
    ap (λ (o : Option Data). elim o [ None ↦ no_members | Some value ↦ table_in value ]) has

-- the number at a key that isn't missing, with which nothing is wrong, is in its range
pub number_within : (low high : ℕ) (at : List ℕ) (keys : List (List ℕ)) (key : List ℕ) (fields : Members)
    → missing_in at keys fields ≡ [] → is_one_of key keys ≡ true → whole low high at key fields ≡ []
    → (low ≤ number_at key fields) × (number_at key fields ≤ high)
number_within low high at keys key fields there among none =
    let has = value_there at keys fields key there among in
    let said = whole_there low high at key fields has.0 has.1 none in
    let is = number_at_is key fields said.0 said.1 in
    (omega (arith, is, said.2), omega (arith, is, said.3))

-- at a key that isn't known stands nothing, where none is unknown
pub nothing_at : (at : List ℕ) (keys : List (List ℕ)) (key : List ℕ) (fields : Members) → is_one_of key keys ≡ false
    → unknown_in at keys fields ≡ [] → get_member key fields ≡ None
nothing_at at keys key no_members other known = refl
nothing_at at keys key (member one value fields) other known =
    go (slice_cmp nat_cmp key one) refl
    (nothing_at at keys key fields other (none_behind (cond (is_one_of one keys) [] (unknown (at ++ one) ∷ []))
    (unknown_in at keys fields) known))
  where
    here : key ≡ one → ⊥
    here is =
        let unknown_one : cond false [] (unknown (at ++ one) ∷ []) ++ unknown_in at keys fields ≡ [] =
        ap (λ (b : Bool). cond b [] (unknown (at ++ one) ∷ []) ++ unknown_in at keys fields)
        (sym (ap (λ (k : List ℕ). is_one_of k keys) (sym is) ∙ other)) ∙ known in
        cc

    go : (order : Ordering) → slice_cmp nat_cmp key one ≡ order → get_member key fields ≡ None
        → match_ordering order (get_member key fields) (Some value) (get_member key fields) ≡ None
    go Less is rest = rest
    go Equal is rest =
        absurd (here ((bytes_eq-Decides key one).0 (sym (is_eq-slice_cmp key one) ∙ ap is_eq is)))
    go Greater is rest = rest

pub number_lacking : (at : List ℕ) (keys : List (List ℕ)) (key : List ℕ) (fields : Members) → is_one_of key keys ≡ false
    → unknown_in at keys fields ≡ [] → number_at key fields ≡ 0
number_lacking at keys key fields other known =
    ap (λ (found : Option Data). elim found [ None ↦ 0 | Some value ↦ number_in value ])
    (nothing_at at keys key fields other known)

-- a number that passes the test is a location's
pub is_location_of : (n : ℕ) → is_location n ≡ true → IsLocation n
is_location_of n is = go (nat_lt n 2000) (nat_le 8000 n) (nat_lt n 8004) refl refl refl is
  where
    go : (low from below : Bool) → nat_lt n 2000 ≡ low → nat_le 8000 n ≡ from → nat_lt n 8004 ≡ below
        → (low || (from && below)) ≡ true → IsLocation n
    go true from below is_low is_from is_below test = let low : n < 2000 = ltb-true n 2000 is_low in
        (omega arith, λ high. omega arith)
    go false true true is_low is_from is_below test = (ltb-true n 8004 is_below, λ _. leb-true 8000 n is_from)
    go false true false is_low is_from is_below test = cc
    go false false below is_low is_from is_below test = cc

-- the location at a key that isn't missing, with which nothing is wrong, is the number there
pub record LocationAt (key : List ℕ) (fields : Members) : Type 0 where
  pub exists : IsLocation (number_at key fields)
  pub alone : locations_at key fields ≡ number_at key fields ∷ []

location_held : (key : List ℕ) (fields : Members) (n : ℕ) → HasNumber fields key n → is_location n ≡ true
    → LocationAt key fields
location_held key fields n has is =
    let at = number_at_is key fields n has in record {
      exists = subst IsLocation (sym at) (is_location_of n is);
      alone = ap location_in has ∙ ap (λ (b : Bool). cond b (n ∷ []) []) is
          ∙ ap (λ (m : ℕ). let ms : List ℕ = m ∷ [] in ms) (sym at);
    }

pub location_within : (at : List ℕ) (keys : List (List ℕ)) (key : List ℕ) (fields : Members)
    → missing_in at keys fields ≡ [] → is_one_of key keys ≡ true → location at key fields ≡ [] → LocationAt key fields
location_within at keys key fields there among none =
    let has = value_there at keys fields key there among in
    let said = location_there at key fields has.0 has.1 none in
    location_held key fields said.0 said.1 said.2

-- a number with more than that of a location
pub location_also : (holds : ℕ → Bool) (at : List ℕ) (keys : List (List ℕ)) (key : List ℕ) (fields : Members)
    → missing_in at keys fields ≡ [] → is_one_of key keys ≡ true
    → said_of (number_faults (at ++ key) (λ n. is_location n && holds n)) (get_member key fields) ≡ []
    → LocationAt key fields × (holds (number_at key fields) ≡ true)
location_also holds at keys key fields there among none =
    let has = value_there at keys fields key there among in
    let said = number_there at key fields (λ n. is_location n && holds n) has.0 has.1 none in
    let both = and_parts (is_location said.0) (holds said.0) said.2 in
    (location_held key fields said.0 said.1 both.0, ap holds (number_at_is key fields said.0 said.1) ∙ both.1)

pub none_in : (checks : List (List Fault)) → AllByRecursion (λ faults. faults ≡ []) checks → in_turn checks ≡ []
none_in [] none = refl
none_in (one ∷ checks) none = no_faults one (in_turn checks) none.0 (none_in checks none.1)
