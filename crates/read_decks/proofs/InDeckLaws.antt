-- What one line more gives.
use Rattle.std.proofs.Common.{◌≡◌, ℕ, zero, suc, ◌+◌, ◌-◌, ◌<◌, ◌≤◌, Bool, true, false, cond, List, [], ◌∷◌, ◌++◌}
use Rattle.std.proofs.Common.{length, refl, ap, sym, ◌∙◌, subst, arith, inl, inr, ◌⊎◌, Option, Some, None}
use Rattle.std.proofs.lemmas.Bool.{cases_lt, eq-eqb, lt-ltb}
use Rattle.std.proofs.lemmas.List.{append-nil}
use Rattle.std.proofs.lemmas.Option.{slice_get_past, slice_get_within}
use Rattle.std.specs.List.{AllByRecursion}
use Rattle.std.specs.Option.{is_some, option_map}
use Rattle.std.specs.Prelude.{slice_get, ◌==◌}
use borrow.Author.Tests.{ne_eqb, eqb-true}
use Rattle.read_decks.specs.declared.deck.Given as held
use Rattle.base_words.specs.declared.location.Location.{Location}
use Rattle.base_words.specs.declared.word.Word.{Word}
use Rattle.base_words.specs.Kind.{kind_of}
use Rattle.base_words.specs.declared.location.Kind.TheVariants.{Drum}
use Rattle.read_decks.specs.DeckText.{Line, IsLine, IsFaultOfLine, comment, start, card, Given, given_by_card, given_by}
use Rattle.read_decks.specs.DeckText.{given_from, given_at, loads_of, cards_from, starts, IsPastDrum, IsGiven}
use Rattle.read_decks.specs.DeckText.{AreDistinct, AreSound}
use Rattle.read_decks.specs.declared.deck.fault.DeckFault.TheVariants.{Twice}
use Rattle.read_decks.specs.FirstLoaded.{IsFirstLoaded}
use Rattle.read_decks.specs.ImageOfLines.{seen, started, Holds}
use Rattle.read_decks.specs.InDeck.{found_in}
use Rattle.read_decks.proofs.FaultLaws.{starts-append, given_from-append}

-- what the first has, or else the second
abbrev pub or_else : Option Given → Option Given → Option Given
or_else None other = other
or_else (Some one) other = Some one

pub given_at-append : (xs ys : List Given) (n : ℕ) → given_at (xs ++ ys) n ≡ or_else (given_at xs n) (given_at ys n)
given_at-append [] ys n = refl
given_at-append (x ∷ xs) ys n = go (x.location == n) (given_at-append xs ys n)
  where
    go : (here : Bool) → given_at (xs ++ ys) n ≡ or_else (given_at xs n) (given_at ys n)
        → cond here (Some x) (given_at (xs ++ ys) n) ≡ or_else (cond here (Some x) (given_at xs n)) (given_at ys n)
    go true rest = refl
    go false rest = rest

-- a card gives nothing before its first location and behind its last
pub given_at_card_out : (number first : ℕ) (words : List Word) (n : ℕ) → (n < first) ⊎ (first + length words ≤ n)
    → given_at (given_by_card number first words) n ≡ None
given_at_card_out number first [] n out = refl
given_at_card_out number first (word ∷ words) n out =
    let other : first ≡ n → ⊥ = λ e. elim out [ inl low ↦ omega (arith, e, low) | inr high ↦ omega (arith, e, high) ] in
    let rest : (n < first + 1) ⊎ (first + 1 + length words ≤ n) =
    elim out [ inl low ↦ inl (omega (arith, low)) | inr high ↦ inr (omega (arith, high)) ] in
    rw (ne_eqb first n other) (given_at_card_out number (first + 1) words n rest)

-- and its words to those between
given_at_card_in : (number first : ℕ) (words : List Word) (k : ℕ) (word : Word) → slice_get words k ≡ Some word
    → seen (given_at (given_by_card number first words) (first + k)) ≡ Some (record { word = word; line = number })
given_at_card_in number first [] k word is_word = cc
given_at_card_in number first (other ∷ words) zero word is_word =
    let here : first ≡ first + 0 = omega arith in
    let same : other ≡ word = cc in
    rw (eq-eqb first (first + 0) here) (ap (λ (w : Word). Some (record { word = w; line = number })) same)
given_at_card_in number first (other ∷ words) (suc k) word is_word =
    let past : first ≡ first + suc k → ⊥ = λ e. omega (arith, e) in
    let moved : first + suc k ≡ first + 1 + k = omega arith in
    rw (ne_eqb first (first + suc k) past)
    (ap (λ (n : ℕ). seen (given_at (given_by_card number (first + 1) words) n)) moved
    ∙ given_at_card_in number (first + 1) words k word is_word)

-- what isn't found isn't given
not_behind_none : (found : Bool) (x : Given) (rest : Option Given) → cond found (Some x) rest ≡ None → rest ≡ None
not_behind_none true x rest h = cc
not_behind_none false x rest h = h

pub not_given : (xs : List Given) (n : ℕ) → given_at xs n ≡ None → IsGiven xs n → ⊥
not_given [] n e (k, one, within, here, at) = omega arith
not_given (x ∷ xs) n e (zero, one, within, here, at) =
    let same : x.location ≡ n = ap (λ (g : Given). g.location) here ∙ at in
    let hit : Some x ≡ None =
    subst (λ (b : Bool). cond b (Some x) (given_at xs n) ≡ None) (eq-eqb x.location n same) e in
    cc
not_given (x ∷ xs) n e (suc k, one, within, here, at) =
    not_given xs n (not_behind_none (x.location == n) x (given_at xs n) e) (k, one, omega arith, here, at)

-- what two lists give is given by one of them
given_by_either : (xs ys : List Given) (n : ℕ) → IsGiven (xs ++ ys) n → IsGiven xs n ⊎ IsGiven ys n
given_by_either [] ys n given = inr given
given_by_either (x ∷ xs) ys n (zero, one, within, here, at) = inl (0, one, omega arith, here, at)
given_by_either (x ∷ xs) ys n (suc k, one, within, here, at) =
    elim (given_by_either xs ys n (k, one, omega arith, here, at)) [
      | inl first ↦ inl (suc first.0, first.1, omega (arith, first.2), first.3, first.4)
      | inr second ↦ inr second
    ]

distinct-append : (xs ys : List Given) → AreDistinct xs → AreDistinct ys → ((n : ℕ) → IsGiven xs n → IsGiven ys n → ⊥)
    → AreDistinct (xs ++ ys)
distinct-append [] ys p q apart = q
distinct-append (x ∷ xs) ys p q apart = (
  λ given. elim (given_by_either xs ys x.location given)
      [ inl first ↦ p.0 first | inr second ↦ apart x.location (0, x, omega arith, refl, refl) second ],
  distinct-append xs ys p.1 q
      (λ n first second. apart n (suc first.0, first.1, omega (arith, first.2), first.3, first.4) second),
)

card_distinct : (number first : ℕ) (words : List Word) → AreDistinct (given_by_card number first words)
card_distinct number first [] = tt
card_distinct number first (word ∷ words) = (
  not_given (given_by_card number (first + 1) words) first
      (given_at_card_out number (first + 1) words first (inl (omega arith))),
  card_distinct number (first + 1) words,
)

-- what a card gives lies between its first location and its last
card_range : (number first : ℕ) (words : List Word) (n : ℕ) → IsGiven (given_by_card number first words) n → (first ≤ n)
    × (n < first + length words)
card_range number first words n given =
    elim (cases_lt n first) [
      | inl low ↦ absurd (not_given (given_by_card number first words) n
          (given_at_card_out number first words n (inl low)) given)
      | inr from ↦ elim (cases_lt n (first + length words)) [
        | inl below ↦ (from, below)
        | inr high ↦ absurd (not_given (given_by_card number first words) n
            (given_at_card_out number first words n (inr high)) given)
      ]
    ]

all-push : (P : Line → Type 0) (lines : List Line) (line : Line) → AllByRecursion P lines → P line
    → AllByRecursion P (lines ++ line ∷ [])
all-push P [] line all here = (here, tt)
all-push P (first ∷ lines) line all here = (all.0, all-push P lines line all.1 here)

cards_from-push : (number : ℕ) (lines : List Line) (line : Line)
    → cards_from number (lines ++ line ∷ []) ≡ cards_from number lines ++ cards_from (number + length lines) (line ∷ [])
cards_from-push number [] line =
    let same : number ≡ number + 0 = omega arith in
    ap (λ (n : ℕ). cards_from n (line ∷ [])) same
cards_from-push number (comment ∷ lines) line =
    let same : number + 1 + length lines ≡ number + suc (length lines) = omega arith in
    cards_from-push (number + 1) lines line
    ∙ ap (λ (n : ℕ). cards_from (number + 1) lines ++ cards_from n (line ∷ [])) same
cards_from-push number (start n ∷ lines) line =
    let same : number + 1 + length lines ≡ number + suc (length lines) = omega arith in
    cards_from-push (number + 1) lines line
    ∙ ap (λ (n : ℕ). cards_from (number + 1) lines ++ cards_from n (line ∷ [])) same
cards_from-push number (card n words ∷ lines) line =
    let same : number + 1 + length lines ≡ number + suc (length lines) = omega arith in
    ap (λ (xs : List ℕ). number ∷ xs)
    (cards_from-push (number + 1) lines line
    ∙ ap (λ (n : ℕ). cards_from (number + 1) lines ++ cards_from n (line ∷ [])) same)

-- what lines and one more give
pub given_from-push : (lines : List Line) (line : Line)
    → given_from 1 (lines ++ line ∷ []) ≡ given_from 1 lines ++ given_by (1 + length lines) line
given_from-push lines line =
    given_from-append 1 lines (line ∷ [])
    ∙ ap (λ (xs : List Given). given_from 1 lines ++ xs) (append-nil (given_by (1 + length lines) line))

-- a line that gives no word leaves lines sound
pub sound_more : (lines : List Line) (line : Line) → AreSound lines → given_by (1 + length lines) line ≡ []
    → ¬ IsPastDrum line → length (starts (lines ++ line ∷ [])) ≤ 1
    → AreSound (lines ++ line ∷ [])
sound_more lines line sound gives on_drum one = record {
  on_drum = all-push (λ (l : Line). ¬ IsPastDrum l) lines line sound.on_drum on_drum;
  once =
      subst AreDistinct (sym (given_from-push lines line ∙ ap (λ (xs : List Given). given_from 1 lines ++ xs) gives
      ∙ append-nil (given_from 1 lines))) sound.once;
  one_start = one;
}

-- and so does a card whose locations have no word yet
pub sound_card : (lines : List Line) (first : ℕ) (words : List Word) → AreSound lines → first + length words ≤ 2000
    → ((n : ℕ) → first ≤ n → n < first + length words → ¬ IsGiven (given_from 1 lines) n)
    → AreSound (lines ++ card first words ∷ [])
sound_card lines first words sound within free = record {
  on_drum =
      all-push (λ (l : Line). ¬ IsPastDrum l) lines (card first words) sound.on_drum (λ past. omega (arith, past));
  once = subst AreDistinct (sym (given_from-push lines (card first words)))
      (distinct-append (given_from 1 lines) (given_by_card (1 + length lines) first words) sound.once
      (card_distinct (1 + length lines) first words)
      (λ n given given_too. let range =
      card_range (1 + length lines) first words n given_too in free n range.0 range.1 given));
  one_start =
      omega (
        arith,
        ap length (starts-append lines (card first words ∷ []) ∙ append-nil (starts lines)),
        sound.one_start,
      );
}

-- a line that gives no word
holds_more : (image : List (Option held.Given)) (cards : List ℕ) (begun begun' : Option Location) (lines : List Line)
    (line : Line) → Holds image cards begun lines
    → given_by (1 + length lines) line ≡ [] → cards_from (1 + length lines) (line ∷ []) ≡ [] → ¬ IsPastDrum line
    → starts lines ++ starts (line ∷ []) ≡ started begun' → length (started begun') ≤ 1
    → Holds image cards begun' (lines ++ line ∷ [])
holds_more image cards begun begun' lines line holds gives no_card on_drum begins one =
    let same : given_from 1 (lines ++ line ∷ []) ≡ given_from 1 lines =
    given_from-push lines line ∙ ap (λ (xs : List Given). given_from 1 lines ++ xs) gives
    ∙ append-nil (given_from 1 lines) in
    let all : starts (lines ++ line ∷ []) ≡ started begun' = starts-append lines (line ∷ []) ∙ begins in
    record {
      words = λ n below. holds.words n below ∙ ap (λ (xs : List Given). Some (seen (given_at xs n))) (sym same);
      numbers =
          holds.numbers ∙ sym (cards_from-push 1 lines line ∙ ap (λ (xs : List ℕ). cards_from 1 lines ++ xs) no_card
          ∙ append-nil (cards_from 1 lines));
      begins = all;
      sound = sound_more lines line holds.sound gives on_drum (omega (arith, ap length all, one));
    }

pub holds_comment : (image : List (Option held.Given)) (cards : List ℕ) (begun : Option Location) (lines : List Line)
    → Holds image cards begun lines → Holds image cards begun (lines ++ comment ∷ [])
holds_comment image cards begun lines holds =
    holds_more image cards begun begun lines comment holds refl refl (λ h. h) (append-nil (starts lines) ∙ holds.begins)
    (omega (arith, ap length holds.begins, holds.sound.one_start))

pub holds_start : (image : List (Option held.Given)) (cards : List ℕ) (lines : List Line) {location : Location}
    → location.number < 2000 → Holds image cards None lines
    → Holds image cards (Some location) (lines ++ start location.number ∷ [])
holds_start image cards lines {location} on_drum holds =
    holds_more image cards None (Some location) lines (start location.number) holds refl refl
    (λ past. omega (arith, past)) (ap (λ (xs : List ℕ). xs ++ location.number ∷ []) holds.begins) (omega arith)

pub or_else_none : (one : Option Given) → or_else one None ≡ one
or_else_none None = refl
or_else_none (Some one) = refl

-- where an image holds nothing, nothing is given
unseen : (one : Option Given) → Some (seen one) ≡ Some None → one ≡ None
unseen None e = refl
unseen (Some one) e = cc

none_given : (image : List (Option held.Given)) (cards : List ℕ) (begun : Option Location) (lines : List Line) (n : ℕ)
    → Holds image cards begun lines → n < 2000
    → slice_get image n ≡ Some None → given_at (given_from 1 lines) n ≡ None
none_given image cards begun lines n holds below free =
    unseen (given_at (given_from 1 lines) n) (sym (holds.words n below) ∙ free)

-- what is found is given
pub found_is_given : (xs : List Given) (n : ℕ) (one : Given) → given_at xs n ≡ Some one → IsGiven xs n
found_is_given [] n one e = cc
found_is_given (x ∷ xs) n one e = go (x.location == n) refl e (found_is_given xs n one)
  where
    go : (found : Bool) → (x.location == n) ≡ found → cond found (Some x) (given_at xs n) ≡ Some one
        → (given_at xs n ≡ Some one → IsGiven xs n) → IsGiven (x ∷ xs) n
    go true test h further = (0, x, omega arith, refl, eqb-true x.location n test)
    go false test h further = let rest = further h in (suc rest.0, rest.1, omega (arith, rest.2), rest.3, rest.4)

-- where an image holds something, something is given
seen_is_given : (xs : List Given) (n : ℕ) (one : held.Given) (found : Option Given) → given_at xs n ≡ found
    → Some (seen found) ≡ Some (Some one) → IsGiven xs n
seen_is_given xs n one None e h = cc
seen_is_given xs n one (Some it) e h = found_is_given xs n it e

-- a card whose words go into locations that have none
pub holds_card : (image image' : List (Option held.Given)) (cards : List ℕ) (begun : Option Location)
    (lines : List Line) (first : ℕ) (words : List Word) → Holds image cards begun lines
    → first + length words ≤ 2000
    → ((k : ℕ) → k < length words → slice_get image (first + k) ≡ Some None)
    → ((k : ℕ) (word : Word) → slice_get words k ≡ Some word
    → slice_get image' (first + k) ≡ Some (Some (record { word = word; line = 1 + length lines })))
    → ((n : ℕ) → (n < first) ⊎ (first + length words ≤ n) → slice_get image' n ≡ slice_get image n)
    → Holds image' (cards ++ (1 + length lines) ∷ []) begun (lines ++ card first words ∷ [])
holds_card image image' cards begun lines first words holds within free put others =
    let before : List Given = given_from 1 lines in
    let of_card : List Given = given_by_card (1 + length lines) first words in
    let all : given_from 1 (lines ++ card first words ∷ []) ≡ before ++ of_card =
    given_from-push lines (card first words) in
    let At : ℕ → Type 0 =
    λ n. slice_get image' n ≡ Some (seen (given_at (given_from 1 (lines ++ card first words ∷ [])) n)) in
    let shape : (n : ℕ) → given_at (given_from 1 (lines ++ card first words ∷ [])) n
    ≡ or_else (given_at before n) (given_at of_card n) =
    λ n. ap (λ (xs : List Given). given_at xs n) all ∙ given_at-append before of_card n in
    let outside : (n : ℕ) → n < 2000 → (n < first) ⊎ (first + length words ≤ n) → At n = λ n below out.
    others n out ∙ holds.words n below
    ∙ ap (λ (one : Option Given). Some (seen one))
    (sym (or_else_none (given_at before n))
    ∙ ap (or_else (given_at before n)) (sym (given_at_card_out (1 + length lines) first words n out))
    ∙ sym (shape n)) in
    let inside : (k : ℕ) → k < length words → At (first + k) = λ k less.
    let word = element words k less in
    let nothing : given_at before (first + k) ≡ None =
    none_given image cards begun lines (first + k) holds (omega arith) (free k less) in
    put k word.0 word.1 ∙ ap Some
    (sym (given_at_card_in (1 + length lines) first words k word.0 word.1)
    ∙ ap seen (ap (λ (one : Option Given). or_else one (given_at of_card (first + k))) (sym nothing)
    ∙ sym (shape (first + k)))) in
    record {
      words = λ n below. elim (cases_lt n first) [
        | inl low ↦ outside n below (inl low)
        | inr from ↦ elim (cases_lt n (first + length words)) [
          | inl less ↦
              let at : first + (n - first) ≡ n = omega arith in
              subst At at (inside (n - first) (omega arith))
          | inr high ↦ outside n below (inr high)
        ]
      ];
      numbers =
          ap (λ (xs : List ℕ). xs ++ (1 + length lines) ∷ []) holds.numbers
          ∙ sym (cards_from-push 1 lines (card first words));
      begins = starts-append lines (card first words ∷ []) ∙ append-nil (starts lines) ∙ holds.begins;
      sound = sound_card lines first words holds.sound within (λ n low high given.
          let at : first + (n - first) ≡ n = omega arith in
          let empty : slice_get image n ≡ Some None =
          subst (λ (m : ℕ). slice_get image m ≡ Some None) at (free (n - first) (omega arith)) in
          not_given before n (none_given image cards begun lines n holds (omega arith) empty) given);
    }
  where
    element : (xs : List Word) (k : ℕ) → k < length xs → (x : Word) × (slice_get xs k ≡ Some x)
    element [] k less = absurd (omega arith)
    element (x ∷ xs) zero less = (x, refl)
    element (x ∷ xs) (suc k) less = element xs k (omega arith)

-- a card that gives a word to a location that has one
pub twice_fault : (image : List (Option held.Given)) (cards : List ℕ) (begun : Option Location) (lines : List Line)
    (number : ℕ) (text : List ℕ) (first : ℕ) (words : List Word) (location : Location)
    → Holds image cards begun lines → IsLine text (card first words) → first + length words ≤ 2000
    → IsFirstLoaded image first (length words) location.number
    → IsFaultOfLine lines number text (Twice location)
twice_fault image cards begun lines number text first words location holds is_card within taken = (
  first,
  words,
  is_card,
  within,
  taken.low,
  taken.high,
  seen_is_given (given_from 1 lines) location.number taken.has.0 (given_at (given_from 1 lines) location.number) refl
      (sym (holds.words location.number (omega (arith, taken.high))) ∙ taken.has.1),
  λ other low high given.
      not_given (given_from 1 lines) other
      (none_given image cards begun lines other holds (omega (arith, taken.high)) (taken.free other low high))
      given,
)

pub none_is : {A : Type 0} (one : Option A) → false ≡ is_some one → one ≡ None
none_is None e = refl
none_is (Some x) e = cc

-- off the drum nothing is given
none_given_off : (number : ℕ) (lines : List Line) (n : ℕ) → AllByRecursion (λ line. ¬ IsPastDrum line) lines → 2000 ≤ n
    → given_at (given_from number lines) n ≡ None
none_given_off number [] n on_drum off = refl
none_given_off number (comment ∷ lines) n on_drum off = none_given_off (number + 1) lines n on_drum.1 off
none_given_off number (start at ∷ lines) n on_drum off = none_given_off (number + 1) lines n on_drum.1 off
none_given_off number (card first words ∷ lines) n on_drum off =
    let within : first + length words ≤ 2000 =
    elim (cases_lt 2000 (first + length words)) [ inl past ↦ absurd (on_drum.0 past) | inr within ↦ within ] in
    let here : given_at (given_by_card number first words) n ≡ None =
    given_at_card_out number first words n (inr (omega (arith, within, off))) in
    given_at-append (given_by_card number first words) (given_from (number + 1) lines) n
    ∙ ap (λ (one : Option Given). or_else one (given_at (given_from (number + 1) lines) n)) here
    ∙ none_given_off (number + 1) lines n on_drum.1 off

off_drum : (n : ℕ) → (kind_of n ≡ Drum → ⊥) → 2000 ≤ n
off_drum n not_drum =
    elim (cases_lt n 2000) [ inl below ↦ absurd (not_drum (rw (lt-ltb n 2000 below) refl)) | inr off ↦ off ]

pub none_seen_off : (lines : List Line) (n : ℕ) → AreSound lines → (kind_of n ≡ Drum → ⊥)
    → None ≡ seen (given_at (given_from 1 lines) n)
none_seen_off lines n sound not_drum = ap seen (sym (none_given_off 1 lines n sound.on_drum (off_drum n not_drum)))

-- and an image has no place for it
pub none_found_off : (image : List (Option held.Given)) (n : ℕ) → length image ≡ 2000 → (kind_of n ≡ Drum → ⊥)
    → None ≡ found_in (slice_get image n)
none_found_off image n whole not_drum =
    ap found_in (sym (slice_get_past image n (omega (arith, whole, off_drum n not_drum))))

-- the word of what an image holds, and of what lines give
abbrev pub word_in : Option held.Given → Option Word
word_in one = option_map (λ (one : held.Given). one.word) one

word_seen : (one : Option Given) → word_in (seen one) ≡ option_map (λ (one : Given). one.word) one
word_seen None = refl
word_seen (Some one) = refl

-- what an image holds of lines is what they load
pub held_is_said : (image : List (Option held.Given)) (cards : List ℕ) (begun : Option Location) (lines : List Line)
    (n : ℕ) → length image ≡ 2000 → Holds image cards begun lines
    → word_in (found_in (slice_get image n)) ≡ loads_of lines n
held_is_said image cards begun lines n whole holds =
    elim (cases_lt n 2000) [
      | inl below ↦ ap (λ (one : Option (Option held.Given)). word_in (found_in one)) (holds.words n below)
          ∙ word_seen (given_at (given_from 1 lines) n)
      | inr off ↦
          ap (λ (one : Option (Option held.Given)). word_in (found_in one))
          (slice_get_past image n (omega (arith, whole, off)))
          ∙ ap (option_map (λ (one : Given). one.word)) (sym (none_given_off 1 lines n holds.sound.on_drum off))
    ]

-- what an image holds is held within it
pub held_within : (image : List (Option held.Given)) (n : ℕ) (word : Word)
    → word_in (found_in (slice_get image n)) ≡ Some word → n < length image
held_within image n word = go (slice_get image n) refl
  where
    go : (found : Option (Option held.Given)) → slice_get image n ≡ found → word_in (found_in found) ≡ Some word
        → n < length image
    go None e h = cc
    go (Some one) e h = slice_get_within image n one e
