-- What a text among some stands for.
use Rattle.std.proofs.Common.{◌≡◌, ℕ, zero, suc, ◌<◌, Bool, true, false, ◌||◌, cond, List, [], ◌∷◌, map, length, get_or}
use Rattle.std.proofs.Common.{Some, Bor, ap, sym, ◌∙◌, arith, subst, refl}
use Rattle.std.proofs.lemmas.List.{length-map}
use Rattle.std.proofs.lemmas.Map.Text.{is_eq-slice_cmp}
use Rattle.std.proofs.lemmas.Slice.Eq.{bytes_eq-Decides}
use Rattle.std.specs.List.{AllByRecursion}
use Rattle.std.specs.Prelude.{Contains}
use Rattle.read_toml.specs.Document.{is_one_of, range, text_faults}
use Rattle.read_toml.specs.Value.{StandsFor}
use Rattle.toml.specs.Data.{Data, string, integer, float, boolean, datetime, array, table, as_str, Members, get_member}
use Rattle.toml.specs.Data.{same_key}

pub string_from : (d : Data) (text : List ℕ) → as_str d ≡ Some text → d ≡ string text
string_from (string s) text e = ap string (go e)
  where
    go : Some s ≡ Some text → s ≡ text
    go h = cc
string_from (integer z) text e = cc
string_from (float x) text e = cc
string_from (boolean b) text e = cc
string_from (datetime dt) text e = cc
string_from (array ds) text e = cc
string_from (table ms) text e = cc

among_choices : {T : Type 0} (choices : List (Bor (List ℕ) × T)) (k : ℕ) (item : Bor (List ℕ) × T) → k < length choices
    → item ≡ get_or choices k item
    → Contains {X = List ℕ × T} (map (λ choice. (choice.0.now, choice.1)) choices) (item.0.now, item.1)
among_choices [] k item within is = absurd (omega arith)
among_choices {T} (choice ∷ choices) zero item within is =
    (0, omega arith, ap (λ (one : Bor (List ℕ) × T). (one.0.now, one.1)) (sym is))
among_choices (choice ∷ choices) (suc k) item within is =
    let rest = among_choices choices k item (omega arith) is in (suc rest.0, omega (arith, rest.1), rest.2)

pub stands_for : {T : Type 0} (choices : List (Bor (List ℕ) × T)) (k : ℕ) (item : Bor (List ℕ) × T) (d : Data)
    (text : List ℕ) → k < length choices → item ≡ get_or choices k item
    → as_str d ≡ Some text → item.0.now ≡ text → StandsFor (map (λ choice. (choice.0.now, choice.1)) choices) d item.1
stands_for choices k item d text within is said same =
    (item.0.now, string_from d text said ∙ ap string (sym same), among_choices choices k item within is)

-- what all have, one among them has
among_all : {A : Type 0} (P : A → Type 0) (choices : List A) (k : ℕ) (d : A) → AllByRecursion P choices
    → k < length choices → get_or choices k d ≡ d → P d
among_all P [] k d all within is = absurd (omega (arith, within))
among_all P (first ∷ choices) zero d all within is = subst P is all.0
among_all P (first ∷ choices) (suc k) d all within is = among_all P choices k d all.1 (omega (arith, within)) is

-- where each text is that of what it stands for, that of what was chosen stands at the key
pub chosen_text : {T : Type 0} (text_of : T → List ℕ) (choices : List (List ℕ × T)) (key : List ℕ) (fields : Members)
    (chosen : T) → AllByRecursion (λ choice. choice.0 ≡ text_of choice.1) choices
    → (value : Data) × (get_member key fields ≡ Some value) × StandsFor choices value chosen
    → get_member key fields ≡ Some (string (text_of chosen))
chosen_text {T} text_of choices key fields chosen each (value, has, (one, is, (k, within, at))) =
    let text : one ≡ text_of chosen =
    among_all (λ (choice : List ℕ × T). choice.0 ≡ text_of choice.1) choices k (one, chosen) each within at in
    has ∙ ap Some (is ∙ ap string text)

-- a text for which one of some choices stands is among theirs
among_of : {T : Type 0} (choices : List (Bor (List ℕ) × T)) (one : List ℕ) (chosen : T) (k : ℕ)
    → k < length choices
    → ◌≡◌ {A = List ℕ × T} (get_or (map (λ choice. (choice.0.now, choice.1)) choices) k (one, chosen)) (one, chosen)
    → is_one_of one (map (λ choice. choice.0.now) choices) ≡ true
among_of [] one chosen k within is = absurd (omega (arith, within))
among_of {T} (choice ∷ choices) one chosen zero within is =
    let same : choice.0.now ≡ one = ap (λ (pair : List ℕ × T). pair.0) is in
    ap (λ (b : Bool). b || is_one_of one (map (λ other. other.0.now) choices))
    (is_eq-slice_cmp choice.0.now one ∙ (bytes_eq-Decides choice.0.now one).1 same)
among_of {T} (choice ∷ choices) one chosen (suc k) within is =
    ap (λ (b : Bool). same_key choice.0.now one || b) (among_of choices one chosen k (omega (arith, within)) is)
    ∙ either (same_key choice.0.now one)
  where
    either : (b : Bool) → (b || true) ≡ true
    either true = refl
    either false = refl

-- and has no fault
pub choice_is_right : {T : Type 0} (choices : List (Bor (List ℕ) × T)) (path : List ℕ) (value : Data) (one : T)
    → StandsFor (map (λ choice. (choice.0.now, choice.1)) choices) value one
    → text_faults path (map (λ choice. choice.0.now) choices) value ≡ []
choice_is_right {T} choices path value one (text, is, (k, within, at)) =
    ap (text_faults path (map (λ choice. choice.0.now) choices)) is
    ∙ ap (λ (b : Bool). cond b [] (range path ∷ [])) (among_of choices text one k
    (omega (arith, within, length-map {B = List ℕ × T} choices (λ (choice : Bor (List ℕ) × T). (choice.0.now, choice.1)))) at)
