-- What hops that follow one another in time spend, in all and at each card.
use Rattle.std.proofs.Common.{◌≡◌, ℕ, zero, suc, ◌+◌, ◌-◌, ◌<◌, Bool, true, false, List, [], ◌∷◌, length, get_or}
use Rattle.std.proofs.Common.{refl, ap, sym, ◌∙◌, subst, arith, cond, Option, Some, None}
use Rattle.std.proofs.Math.Logic.{∥∥₁_elim}
use Rattle.std.proofs.Props.{props}
use Rattle.std.proofs.lemmas.Bool.{eq-eqb}
use Rattle.std.proofs.lemmas.List.{get_or_default}
use Rattle.std.proofs.lemmas.List.Sums.{sum_by-cons}
use Rattle.std.specs.List.{Contains}
use Rattle.std.specs.Prelude.{◌==◌, sum_by}
use borrow.Author.Tests.{ne_eqb}
use Rattle.read_decks.specs.declared.deck.Deck.{Deck}
use Rattle.read_decks.specs.InDeck.{card_in, cards_in}
use Rattle.read_decks.proofs.CardLines.{deck_cards_rise, deck_card_among}
use Rattle.flow_walks.specs.Visited.{Visited, AreInTime}
use Rattle.print_walks.specs.Report.{is_of_card, is_of_none, time_in, used_after, visits_at}

-- they end when the last does
ends_at : (visits : List Visited) (time used : ℕ) → AreInTime time visits used → used_after time visits ≡ used
ends_at [] time used in_time = in_time
ends_at (visit ∷ visits) time used in_time = ends_at visits visit.ended used in_time.2

-- and take all the time from the first to the last
spent_all : (visits : List Visited) (time used : ℕ) → AreInTime time visits used → time + time_in visits ≡ used
spent_all [] time used in_time = omega (arith, in_time)
spent_all (visit ∷ visits) time used in_time =
    omega (
      arith,
      in_time.0,
      in_time.1,
      sum_by-cons (λ (v : Visited). v.ended - v.begun) visit visits,
      spent_all visits
          visit.ended used in_time.2,
    )

-- the same where it is only known that they do
pub ends : (visits : List Visited) (used : ℕ) → ∥ AreInTime 0 visits used ∥₁ → used_after 0 visits ≡ used
ends visits used in_time = ∥∥₁_elim in_time (hlevel props) (ends_at visits 0 used)

pub spends : (visits : List Visited) (used : ℕ) → ∥ AreInTime 0 visits used ∥₁ → time_in visits ≡ used
spends visits used in_time =
    ∥∥₁_elim in_time (hlevel props) (λ (one : AreInTime 0 visits used). omega (arith, spent_all visits 0 used one))

-- numbers, each below the next
abbrev Rise : List ℕ → Type 0
Rise xs = (k : ℕ) → suc k < length xs → get_or xs k 0 < get_or xs (suc k) 0

-- the first is below all others
above : (x : ℕ) (xs : List ℕ) → Rise (x ∷ xs) → (k : ℕ) → k < length xs → x < get_or xs k 0
above x xs rise zero within = rise 0 (omega (arith, within))
above x xs rise (suc k) within =
    omega (arith, above x xs rise k (omega (arith, within)), rise (suc k) (omega (arith, within)))

-- what one of some numbers has, summed over them
abbrev shares : ℕ → ℕ → List ℕ → ℕ
shares giver time xs = sum_by (λ x. cond (giver == x) time 0) xs

share_cons : (giver time x : ℕ) (xs : List ℕ)
    → shares giver time (x ∷ xs) ≡ cond (giver == x) time 0 + shares giver time xs
share_cons giver time x xs = sum_by-cons (λ (one : ℕ). cond (giver == one) time 0) x xs

no_share : (giver time : ℕ) (xs : List ℕ) → ((k : ℕ) → k < length xs → giver < get_or xs k 0) → shares giver time xs ≡ 0
no_share giver time [] past = refl
no_share giver time (x ∷ xs) past =
    let differ : giver ≡ x → ⊥ = λ same. omega (arith, past 0 (omega arith), same) in
    let here : cond (giver == x) time 0 ≡ 0 = ap (λ (b : Bool). cond b time 0) (ne_eqb giver x differ) in
    omega (
      arith,
      share_cons giver time x xs,
      here,
      no_share giver time xs
          (λ k within. past (suc k) (omega (arith, within))),
    )

one_share : (giver time : ℕ) (xs : List ℕ) → Rise xs → (k : ℕ) → k < length xs → get_or xs k giver ≡ giver
    → shares giver time xs ≡ time
one_share giver time [] rise k within at = absurd (omega (arith, within))
one_share giver time (x ∷ xs) rise zero within at =
    let here : cond (giver == x) time 0 ≡ time = ap (λ (b : Bool). cond b time 0) (eq-eqb giver x (sym at)) in
    let none : shares giver time xs ≡ 0 =
    no_share giver time xs (λ k below. omega (arith, above x xs rise k below, at)) in
    omega (arith, share_cons giver time x xs, here, none)
one_share giver time (x ∷ xs) rise (suc k) within at =
    let below : k < length xs = omega (arith, within) in
    let same : get_or xs k 0 ≡ get_or xs k giver = get_or_default xs k 0 giver below in
    let differ : giver ≡ x → ⊥ = λ equal. omega (arith, above x xs rise k below, same, at, equal) in
    let here : cond (giver == x) time 0 ≡ 0 = ap (λ (b : Bool). cond b time 0) (ne_eqb giver x differ) in
    omega (
      arith,
      share_cons giver time x xs,
      here,
      one_share giver time xs
          (λ j more. rise (suc j) (omega (arith, more))) k below at,
    )

-- the time at such locations, with a hop more in front
time_cons : (here : ℕ → Bool) (visit : Visited) (walk : List Visited)
    → time_in (visits_at here (visit ∷ walk)) ≡ cond (here visit.place) (visit.ended - visit.begun) 0
    + time_in (visits_at here walk)
time_cons here visit walk = go (here visit.place)
  where
    go : (b : Bool) → time_in (cond b (visit ∷ visits_at here walk) (visits_at here walk))
        ≡ cond b (visit.ended - visit.begun) 0 + time_in (visits_at here walk)
    go true = sum_by-cons (λ (v : Visited). v.ended - v.begun) visit (visits_at here walk)
    go false = omega arith

-- the sum over some lines of the times at their cards
abbrev at_cards : Deck → List ℕ → List Visited → ℕ
at_cards deck lines walk = sum_by (λ line. time_in (visits_at (is_of_card deck line) walk)) lines

cards_cons : (deck : Deck) (lines : List ℕ) (visit : Visited) (walk : List Visited)
    → at_cards deck lines (visit ∷ walk)
    ≡ sum_by (λ line. cond (is_of_card deck line visit.place) (visit.ended - visit.begun) 0) lines
    + at_cards deck lines walk
cards_cons deck [] visit walk = refl
cards_cons deck (line ∷ lines) visit walk =
    omega (
      arith,
      cards_cons deck lines visit walk,
      time_cons (is_of_card deck line) visit walk,
      sum_by-cons (λ (one : ℕ). time_in (visits_at (is_of_card deck one) (visit ∷ walk))) line lines,
      sum_by-cons (λ (one : ℕ). time_in (visits_at (is_of_card deck one) walk)) line lines,
      sum_by-cons (λ (one : ℕ). cond (is_of_card deck one visit.place) (visit.ended - visit.begun) 0) line lines,
    )

same_sums : (f g : ℕ → ℕ) (xs : List ℕ) → ((x : ℕ) → f x ≡ g x) → sum_by f xs ≡ sum_by g xs
same_sums f g [] same = refl
same_sums f g (x ∷ xs) same = omega (arith, sum_by-cons f x xs, sum_by-cons g x xs, same x, same_sums f g xs same)

no_time : (lines : List ℕ) → sum_by (λ (line : ℕ). 0) lines ≡ 0
no_time [] = refl
no_time (line ∷ lines) = omega (arith, sum_by-cons (λ (one : ℕ). 0) line lines, no_time lines)

-- a hop's time is that of one card, or of none
one_card : (deck : Deck) (lines : List ℕ) (place time : ℕ) → Rise lines → (found : Option ℕ)
    → card_in deck place ≡ found
    → ((line : ℕ) → found ≡ Some line → Contains lines line)
    → sum_by (λ line. cond (is_of_card deck line place) time 0) lines + cond (is_of_none deck place) time 0 ≡ time
one_card deck lines place time rise None of among =
    let none : (line : ℕ) → is_of_card deck line place ≡ false =
    λ line. ap (λ (one : Option ℕ). elim one as (λ _. Bool) [ Some g ↦ g == line | None ↦ false ]) of in
    let other : is_of_none deck place ≡ true =
    ap (λ (one : Option ℕ). elim one as (λ _. Bool) [ Some g ↦ false | None ↦ true ]) of in
    let all : sum_by (λ line. cond (is_of_card deck line place) time 0) lines ≡ 0 =
    same_sums (λ line. cond (is_of_card deck line place) time 0) (λ line. 0) lines
    (λ line. ap (λ (b : Bool). cond b time 0) (none line)) ∙ no_time lines in
    omega (arith, all, ap (λ (b : Bool). cond b time 0) other)
one_card deck lines place time rise (Some giver) of among =
    let one : (line : ℕ) → is_of_card deck line place ≡ (giver == line) =
    λ line. ap (λ (some : Option ℕ). elim some as (λ _. Bool) [ Some g ↦ g == line | None ↦ false ]) of in
    let other : is_of_none deck place ≡ false =
    ap (λ (some : Option ℕ). elim some as (λ _. Bool) [ Some g ↦ false | None ↦ true ]) of in
    let at = among giver refl in
    let all : sum_by (λ line. cond (is_of_card deck line place) time 0) lines ≡ time =
    same_sums (λ line. cond (is_of_card deck line place) time 0) (λ line. cond (giver == line) time 0) lines
    (λ line. ap (λ (b : Bool). cond b time 0) (one line)) ∙ one_share giver time lines rise at.0 at.1 at.2 in
    omega (arith, all, ap (λ (b : Bool). cond b time 0) other)

adds_up : (deck : Deck) (walk : List Visited) → Rise (cards_in deck)
    → at_cards deck (cards_in deck) walk + time_in (visits_at (is_of_none deck) walk) ≡ time_in walk
adds_up deck [] rise = omega (arith, no_time (cards_in deck))
adds_up deck (visit ∷ walk) rise =
    omega (
      arith,
      adds_up deck walk rise,
      cards_cons deck (cards_in deck) visit walk,
      time_cons (is_of_none deck) visit walk,
      sum_by-cons (λ (v : Visited). v.ended - v.begun) visit walk,
      one_card deck (cards_in deck) visit.place (visit.ended - visit.begun) rise (card_in deck visit.place) refl
          (λ line is. deck_card_among deck visit.place line is),
    )

-- The times at the cards and the time elsewhere add up to all that is used.
pub times_add_up : (deck : Deck) (visits : List Visited) (used : ℕ) → ∥ AreInTime 0 visits used ∥₁
    → sum_by (λ line. time_in (visits_at (is_of_card deck line) visits)) (cards_in deck)
    + time_in (visits_at (is_of_none deck) visits) ≡ used
times_add_up deck visits used in_time =
    let rise : Rise (cards_in deck) = λ k within.
    let one_more : k + 1 ≡ suc k = omega arith in
    subst (λ (n : ℕ). get_or (cards_in deck) k 0 < get_or (cards_in deck) n 0) one_more
    (deck_cards_rise deck k (omega (arith, within))) in
    adds_up deck visits rise ∙ spends visits used in_time
