-- Words for drum locations, and their marks.
use Rattle.std.proofs.Common.{◌≡◌, ◌≢◌, ℕ, zero, suc, ◌+◌, ◌-◌, ◌<◌, ◌≤◌, ◌↔◌, ◌⊎◌, inl, inr, Bool, true, false, List}
use Rattle.std.proofs.Common.{[], ◌∷◌, ◌++◌, length, get_or, set, take, drop, map, refl, ap, sym, ◌∙◌, subst, arith}
use Rattle.std.proofs.lemmas.Bool.{cases_lt}
use Rattle.std.proofs.lemmas.List.{get_or-set_same, get_or-set_other, get_or_default, get_or-take, get_or-drop}
use Rattle.std.proofs.lemmas.List.{length-take, length-drop}
use Rattle.std.specs.Prelude.{Any, Contains, slice_index_or, slice_range}
use Rattle.base_words.specs.declared.word.Word.{Word}
use Rattle.read_replays.specs.declared.drum_words.DrumWords.{DrumWords}
use Rattle.read_replays.specs.InputsOfLines.{HoldWords}
use Rattle.read_replays.specs.Inputs.{given_word}
use Rattle.read_replays.specs.InputsText.{placed}

-- a word is given for this location
abbrev pub Given : List (ℕ × Word) → ℕ → Type 0
Given given n = Any (λ one. one.0 ≡ n) given

pub given_in_front : (prefix others : List (ℕ × Word)) (n : ℕ) → Given prefix n → Given (prefix ++ others) n
given_in_front [] others n (k, one, within, here, at) = absurd (omega arith)
given_in_front (first ∷ prefix) others n (zero, one, within, here, at) = (0, one, omega arith, here, at)
given_in_front (first ∷ prefix) others n (suc k, one, within, here, at) =
    let rest = given_in_front prefix others n (k, one, omega arith, here, at) in
    (suc rest.0, rest.1, omega (arith, rest.2), rest.3, rest.4)

pub given_behind : (prefix others : List (ℕ × Word)) (n : ℕ) → Given others n → Given (prefix ++ others) n
given_behind [] others n given = given
given_behind (first ∷ prefix) others n given =
    let rest = given_behind prefix others n given in
    (suc rest.0, rest.1, omega (arith, rest.2), rest.3, rest.4)

pub given_by_either : (xs ys : List (ℕ × Word)) (n : ℕ) → Given (xs ++ ys) n → Given xs n ⊎ Given ys n
given_by_either [] ys n given = inr given
given_by_either (x ∷ xs) ys n (zero, one, within, here, at) = inl (0, one, omega arith, here, at)
given_by_either (x ∷ xs) ys n (suc k, one, within, here, at) =
    elim (given_by_either xs ys n (k, one, omega arith, here, at)) [
      | inl first ↦ inl (suc first.0, first.1, omega (arith, first.2), first.3, first.4)
      | inr second ↦ inr second
    ]

pub given_last : (given : List (ℕ × Word)) (n : ℕ) (word : Word) → Given (given ++ (n, word) ∷ []) n
given_last given n word = given_behind given ((n, word) ∷ []) n (0, (n, word), omega arith, refl, refl)

given_alone : (number : ℕ) (word : Word) (n : ℕ) → Given ((number, word) ∷ []) n → number ≡ n
given_alone number word n (zero, one, within, here, at) = ap (λ (g : ℕ × Word). g.0) here ∙ at
given_alone number word n (suc k, one, within, here, at) = absurd (omega arith)

-- a word more
pub push_holds : (old new : DrumWords) (given : List (ℕ × Word)) (number : ℕ) (word : Word)
    → number < length old.marks.items
    → map given_word new.words.items ≡ map given_word old.words.items ++ (number, word) ∷ []
    → new.marks.items ≡ set old.marks.items number true
    → HoldWords old given → HoldWords new (given ++ (number, word) ∷ [])
push_holds old new given number word within words marks holds = record {
  words = words ∙ ap (λ (xs : List (ℕ × Word)). xs ++ (number, word) ∷ []) holds.words;
  marks = λ n below.
      let Marked : List Bool → Type 0 =
      λ xs. (slice_index_or xs n false ≡ true) ↔ Given (given ++ (number, word) ∷ []) n in
      subst Marked (sym marks) (at n below);
}
  where
    other : (n : ℕ) → n < 2000 → n ≢ number
        → (slice_index_or (set old.marks.items number true) n false ≡ true) ↔ Given (given ++ (number, word) ∷ []) n
    other n below differs =
        let same : get_or (set old.marks.items number true) n false ≡ get_or old.marks.items n false =
        get_or-set_other old.marks.items number n true false differs in (
          λ marked. given_in_front given ((number, word) ∷ []) n ((holds.marks n below).0 (sym same ∙ marked)),
          λ is_given. elim (given_by_either given ((number, word) ∷ []) n is_given) [
            | inl before ↦ same ∙ (holds.marks n below).1 before
            | inr last ↦ absurd (differs (sym (given_alone number word n last)))
          ],
        )

    at : (n : ℕ) → n < 2000 → (slice_index_or (set old.marks.items number true) n false ≡ true) ↔ Given
        (given ++ (number, word) ∷ []) n
    at n below =
        elim (cases_lt n number) [
          | inl less ↦ other n below (λ e. omega (arith, e))
          | inr upto ↦ elim (cases_lt number n) [
            | inl more ↦ other n below (λ e. omega (arith, e))
            | inr upto' ↦
                let same : number ≡ n = omega arith in (
                  λ marked. subst (Given (given ++ (number, word) ∷ [])) same (given_last given number word),
                  λ is_given. subst (λ (k : ℕ). slice_index_or (set old.marks.items number true) k false ≡ true) same
                      (get_or-set_same old.marks.items number true false within),
                )
          ]
        ]

-- the words so far, and one more
pub placed_more : (first place : ℕ) (words : List Word) (word : Word) → place < length words
    → get_or words place word ≡ word
    → placed first (take (place + 1) words) ≡ placed first (take place words) ++ (first + place, word) ∷ []
placed_more first place [] word within here = absurd (omega arith)
placed_more first zero (w ∷ words) word within here =
    let at : first ≡ first + 0 = omega arith in
    let this : w ≡ word = here in
    ap (λ (n : ℕ). (n, w) ∷ []) at ∙ ap (λ (v : Word). (first + 0, v) ∷ []) this
placed_more first (suc place) (w ∷ words) word within here =
    let at : first + 1 + place ≡ first + suc place = omega arith in
    let next : suc place + 1 ≡ suc (place + 1) = omega arith in
    ap (λ (k : ℕ). placed first (take k (w ∷ words))) next
    ∙ ap (λ (xs : List (ℕ × Word)). (first, w) ∷ xs)
    (placed_more (first + 1) place words word (omega arith) here
    ∙ ap (λ (n : ℕ). placed (first + 1) (take place words) ++ (n, word) ∷ []) at)

-- a mark among the `count` from `first` on is that of a location that is given a word
pub marked_given : (drum : DrumWords) (given : List (ℕ × Word)) (first count : ℕ) → first + count ≤ 2000
    → HoldWords drum given
    → Contains (slice_range drum.marks.items first (first + count)) true → (location : ℕ) × (first ≤ location)
    × (location < first + count) × Given given location
marked_given drum given first count fits holds (k, within, here) =
    let marks = drum.marks.items in
    let few : k < count = omega (arith, within, length-take (first + count - first) (drop first marks)) in
    let below : k < first + count - first = omega (arith, few) in
    let read : get_or (slice_range marks first (first + count)) k false ≡ true =
    get_or_default (slice_range marks first (first + count)) k false true within ∙ here in
    let marked : get_or marks (first + k) false ≡ true =
    sym (get_or-drop first marks k false)
    ∙ sym (get_or-take (first + count - first) (drop first marks) k false below) ∙ read in
    (first + k, omega arith, omega (arith, few), (holds.marks (first + k) (omega (arith, few))).0 marked)

-- and such a location is marked
pub given_marked : (drum : DrumWords) (given : List (ℕ × Word)) (first count location : ℕ)
    → first + count ≤ length drum.marks.items → length drum.marks.items ≡ 2000 → HoldWords drum given
    → first ≤ location → location < first + count → Given given location
    → Contains (slice_range drum.marks.items first (first + count)) true
given_marked drum given first count location fits long holds low high is_given =
    let marks = drum.marks.items in
    let k : ℕ = location - first in
    let at : first + k ≡ location = omega arith in
    let below : k < first + count - first = omega arith in
    let within : k < length (slice_range marks first (first + count)) =
    omega (arith, length-take (first + count - first) (drop first marks), length-drop first marks) in
    let marked : get_or marks location false ≡ true = (holds.marks location (omega (arith, long))).1 is_given in
    let read : get_or (slice_range marks first (first + count)) k false ≡ true =
    get_or-take (first + count - first) (drop first marks) k false below ∙ get_or-drop first marks k false
    ∙ ap (λ (n : ℕ). get_or marks n false) at ∙ marked in
    (k, within, get_or_default (slice_range marks first (first + count)) k true false within ∙ read)
