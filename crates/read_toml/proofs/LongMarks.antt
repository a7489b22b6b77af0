-- What is wrong with the outer mark and the name of a mark of long notes.
use Rattle.std.proofs.Common.{◌≡◌, ℕ, zero, suc, ◌+◌, ◌-◌, ◌<◌, ◌≤◌, Bool, true, false, ◌||◌, ◌&&◌, cond, List, [], ◌∷◌}
use Rattle.std.proofs.Common.{Option, Some, None, refl, ap, sym, ◌∙◌, subst, take, inl, inr, arith}
use Rattle.std.proofs.lemmas.Map.Text.{is_eq-slice_cmp}
use Rattle.std.proofs.lemmas.Slice.Eq.{bytes_eq-Decides}
use Rattle.std.specs.Prelude.{codes, not, pos, slice_get, IfNone, IfSome, SomeIff}
use Rattle.base_notes.specs.Names.{is_name}
use Rattle.read_toml.specs.Document.{number_in, range}
use Rattle.read_toml.specs.LongMarks.{StandsIn, is_name_of, is_named, name_faults, outer_faults}
use Rattle.toml.specs.Data.{Data, string, integer, float, boolean, datetime, array, table, as_str, Members, get_member}

-- a value that has a text is that text
pub text_from : (d : Data) (text : List ℕ) → Some text ≡ as_str d → d ≡ string text
text_from (string s) text is = ap string (go is)
  where
    go : Some text ≡ Some s → s ≡ text
    go e = cc
text_from (integer z) text is = cc
text_from (float x) text is = cc
text_from (boolean b) text is = cc
text_from (datetime dt) text is = cc
text_from (array items) text is = cc
text_from (table fields) text is = cc

-- a text names an earlier mark, or none
pub outer_text : (names : List (Option (List ℕ))) (earlier : ℕ) (path : List ℕ) (d : Data) (text : List ℕ)
    (named : Bool) → Some text ≡ as_str d → is_named (take earlier names) text ≡ named
    → outer_faults names earlier path d ≡ cond named [] (range path ∷ [])
outer_text names earlier path d text named is same =
    ap (outer_faults names earlier path) (text_from d text is)
    ∙ ap (λ (b : Bool). cond b [] (range path ∷ [])) same

-- a text is a name that no earlier mark has, or it isn't
pub name_text : (names : List (Option (List ℕ))) (earlier : ℕ) (path : List ℕ) (d : Data) (text : List ℕ)
    (proper named : Bool) → Some text ≡ as_str d → is_name text ≡ proper → is_named (take earlier names) text ≡ named
    → name_faults names earlier path d ≡ cond (proper && not named) [] (range path ∷ [])
name_text names earlier path d text proper named is right same =
    ap (name_faults names earlier path) (text_from d text is)
    ∙ ap (λ (b : Bool). cond (b && not (is_named (take earlier names) text)) [] (range path ∷ [])) right
    ∙ ap (λ (b : Bool). cond (proper && not b) [] (range path ∷ [])) same

-- a name among the first ones stands at its place among all
taken_at : (names : List (Option (List ℕ))) (count at : ℕ) (one : Option (List ℕ))
    → slice_get (take count names) at ≡ Some one → (at < count) × (slice_get names at ≡ Some one)
taken_at names zero at one is = cc
taken_at [] (suc count) at one is = cc
taken_at (name ∷ names) (suc count) zero one is = (omega arith, is)
taken_at (name ∷ names) (suc count) (suc at) one is =
    let further = taken_at names count at one is in (omega (arith, further.0), further.1)

-- a name that stands among the first ones is one of them
named_true : (names : List (Option (List ℕ))) (count place : ℕ) (name : List ℕ) → place < count
    → slice_get names place ≡ Some (Some name) → is_named (take count names) name ≡ true
named_true names zero place name below at = absurd (omega (arith, below))
named_true [] (suc count) place name below at = cc
named_true (one ∷ names) (suc count) zero name below at =
    let is : one ≡ Some name = cc in
    ap (λ (said : Option (List ℕ)). is_name_of name said || is_named (take count names) name) is
    ∙ ap (λ (b : Bool). b || is_named (take count names) name)
    (is_eq-slice_cmp name name ∙ (bytes_eq-Decides name name).1 refl)
named_true (one ∷ names) (suc count) (suc place) name below at =
    ap (λ (b : Bool). is_name_of name one || b) (named_true names count place name (omega (arith, below)) at)
    ∙ either (is_name_of name one)
  where
    either : (b : Bool) → (b || true) ≡ true
    either true = refl
    either false = refl

-- so where there is an outer mark that a text names, the first mark that has the name is one
pub outer_found : (names all : List (Option (List ℕ))) (earlier many : ℕ) (fields : Members) (d : Data)
    (text : List ℕ) (found : Option ℕ) → all ≡ take earlier names → Some d ≡ get_member (codes "inside") fields
    → Some text ≡ as_str d → (outer : Option ℕ) × StandsIn names earlier fields outer
    → IfNone found (is_named all text ≡ false)
    → IfSome found (λ (place : ℕ). (place < many) × (slice_get all place ≡ Some (Some text)))
    → StandsIn names earlier fields found
outer_found names all earlier many fields d text (Some place) same has is stands none some =
    let there = taken_at names earlier place (Some text)
    (subst (λ (them : List (Option (List ℕ))). slice_get them place ≡ Some (Some text)) same some.1) in
    (d, sym has, inr (text, text_from d text is, there.1), there.0)
outer_found names all earlier many fields d text None same has is (None, lacks) none some =
    let no : Some d ≡ None = has ∙ lacks in cc
outer_found names all earlier many fields d text None same has is (Some outer, (value, at, outer_is, below)) none some =
    let here : Some d ≡ Some value = has ∙ at in
    let value_is : value ≡ string text = sym (go here) ∙ text_from d text is in
    elim outer_is [
      | inl number ↦ let no : string text ≡ integer (pos (outer + 1)) = sym value_is ∙ number in cc
      | inr (name, named, stands) ↦
          let same_text : string name ≡ string text = sym named ∙ value_is in
          let alike : name ≡ text = cc in
          let yes : is_named all text ≡ true =
          ap (λ (them : List (Option (List ℕ))). is_named them text) same
          ∙ named_true names earlier outer text below (subst (λ (t : List ℕ). slice_get names outer ≡ Some (Some t)) alike stands) in
          let no : true ≡ false = sym yes ∙ none in
          cc
    ]
  where
    go : {a b : Data} → Some a ≡ Some b → a ≡ b
    go e = cc

-- and where it is named by its number, that is the one
pub outer_number : (names : List (Option (List ℕ))) (earlier : ℕ) (fields : Members) (d : Data) (n : ℕ) (found : Option ℕ)
    → Some d ≡ get_member (codes "inside") fields → None ≡ as_str d → n ≡ number_in d → SomeIff found (1 ≤ n) (n - 1)
    → (outer : Option ℕ) × StandsIn names earlier fields outer → StandsIn names earlier fields found
outer_number names earlier fields d n found has no_text is subtracted (None, lacks) =
    let no : Some d ≡ None = has ∙ lacks in cc
outer_number names earlier fields d n found has no_text is subtracted (Some outer, (value, at, outer_is, below)) =
    let here : Some d ≡ Some value = has ∙ at in
    let same : d ≡ value = cc in
    elim outer_is [
      | inl number ↦
          let whole : n ≡ outer + 1 = is ∙ ap number_in (same ∙ number) in
          by found subtracted whole (d, sym has, inl (same ∙ number), below)
      | inr (name, named, stands) ↦
          let no : None ≡ Some name = no_text ∙ ap as_str (same ∙ named) in cc
    ]
  where
    by : (found : Option ℕ) → SomeIff found (1 ≤ n) (n - 1) → n ≡ outer + 1 → StandsIn names earlier fields (Some outer)
        → StandsIn names earlier fields found
    by None lacks whole stands = absurd (lacks (omega (arith, whole)))
    by (Some k) (some, at) whole stands =
        subst (λ (m : ℕ). StandsIn names earlier fields (Some m)) (omega (arith, at, whole)) stands
