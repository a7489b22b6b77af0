-- Tallies with a hop more.
use Rattle.std.proofs.Common.{◌≡◌, ℕ, suc, ◌+◌, ◌-◌, ◌^◌, ◌<◌, ◌≤◌, Bool, true, false, List, [], ◌∷◌, ◌++◌, length}
use Rattle.std.proofs.Common.{get_or, set, take, map, ap, sym, ◌∙◌, subst, arith, length-append, cond, inl, inr, Option}
use Rattle.std.proofs.Common.{Some, None}
use Rattle.std.proofs.lemmas.Bool.{cases_eq, eq-eqb}
use Rattle.std.proofs.lemmas.Option.{get_or_from_slice_get}
use Rattle.std.proofs.lemmas.List.{length-map, length-take-le, map-append, take_more}
use Rattle.std.proofs.lemmas.List.Sums.{sum_by-cons, sum_by-take-le, sum_by_push}
use Rattle.std.specs.List.{take-map}
use Rattle.std.specs.Prelude.{◌==◌, slice_get, slice_index}
use borrow.Author.Tests.{ne_eqb}
use Rattle.read_decks.specs.declared.deck.Deck.{Deck}
use Rattle.read_decks.specs.InDeck.{card_in}
use Rattle.read_decks.proofs.Puts.{slice_get-set_same, slice_get-set_other}
use Rattle.base_notes.specs.declared.notes.mark.Mark.{Mark}
use Rattle.machine_steps.specs.WaysLeft.{seen_way}
use Rattle.flow_graph.specs.Walk.{passes_by}
use Rattle.flow_walks.specs.declared.visit.Visit.{Visit}
use Rattle.flow_walks.specs.Visited.{Visited, seen_visit, passes_in}
use Rattle.print_walks.specs.declared.reporting.tally.Tally.{Tally}
use Rattle.print_walks.specs.Report.{is_of_card, is_of_none, time_in, visits_at}
use Rattle.print_walks.specs.TalliesOf.{AreByLine, ArePasses, tally_of}

-- one visit more
pub seen_more : (walk : List Visit) (i : ℕ) (d : Visit) → i < length walk
    → map seen_visit (take (i + 1) walk) ≡ map seen_visit (take i walk) ++ seen_visit (get_or walk i d) ∷ []
seen_more walk i d within =
    ap (map seen_visit) (take_more walk i d within) ∙ map-append seen_visit (take i walk) (get_or walk i d ∷ [])

-- a hop more at such a location, and elsewhere
visits_more : (here : ℕ → Bool) (walk : List Visited) (visit : Visited) → here visit.place ≡ true
    → visits_at here (walk ++ visit ∷ []) ≡ visits_at here walk ++ visit ∷ []
visits_more here [] visit is = ap (λ (b : Bool). cond b (visit ∷ []) []) is
visits_more here (one ∷ walk) visit is = go (here one.place) (visits_more here walk visit is)
  where
    go : (b : Bool) → visits_at here (walk ++ visit ∷ []) ≡ visits_at here walk ++ visit ∷ []
        → cond b (one ∷ visits_at here (walk ++ visit ∷ [])) (visits_at here (walk ++ visit ∷ []))
        ≡ cond b (one ∷ visits_at here walk) (visits_at here walk) ++ visit ∷ []
    go true rest = ap (λ (visits : List Visited). one ∷ visits) rest
    go false rest = rest

visits_same : (here : ℕ → Bool) (walk : List Visited) (visit : Visited) → here visit.place ≡ false
    → visits_at here (walk ++ visit ∷ []) ≡ visits_at here walk
visits_same here [] visit is = ap (λ (b : Bool). cond b (visit ∷ []) []) is
visits_same here (one ∷ walk) visit is = go (here one.place) (visits_same here walk visit is)
  where
    go : (b : Bool) → visits_at here (walk ++ visit ∷ []) ≡ visits_at here walk
        → cond b (one ∷ visits_at here (walk ++ visit ∷ [])) (visits_at here (walk ++ visit ∷ []))
        ≡ cond b (one ∷ visits_at here walk) (visits_at here walk)
    go true rest = ap (λ (visits : List Visited). one ∷ visits) rest
    go false rest = rest

same_tally : (a b : Tally) → a.visits ≡ b.visits → a.time ≡ b.time → a ≡ b
same_tally a b p q =
    ap (λ (n : ℕ). let t : Tally = record { visits = n; time = a.time } in t) p
    ∙ ap (λ (n : ℕ). let t : Tally = record { visits = b.visits; time = n } in t) q

-- so the tally has a hop more, or is the same
pub tally_more : (here : ℕ → Bool) (walk : List Visited) (visit : Visited) → here visit.place ≡ true → (tally : Tally)
    → tally.visits ≡ (tally_of (visits_at here walk)).visits + 1
    → tally.time ≡ (tally_of (visits_at here walk)).time + (visit.ended - visit.begun)
    → tally ≡ tally_of (visits_at here (walk ++ visit ∷ []))
tally_more here walk visit is tally visits time =
    let more = visits_more here walk visit is in
    let count : tally.visits ≡ (tally_of (visits_at here (walk ++ visit ∷ []))).visits =
    omega (arith, visits, ap length more, length-append (visits_at here walk) (visit ∷ [])) in
    let spent : tally.time ≡ time_in (visits_at here (walk ++ visit ∷ [])) =
    time ∙ sym (ap time_in more ∙ sum_by_push (λ (v : Visited). v.ended - v.begun) (visits_at here walk) visit) in
    same_tally tally (tally_of (visits_at here (walk ++ visit ∷ []))) count spent

pub tally_same : (here : ℕ → Bool) (walk : List Visited) (visit : Visited) → here visit.place ≡ false
    → tally_of (visits_at here walk) ≡ tally_of (visits_at here (walk ++ visit ∷ []))
tally_same here walk visit is = ap tally_of (sym (visits_same here walk visit is))

-- some hops take no longer than all, and are no more
pub time_part : (here : ℕ → Bool) (walk : List Visited) → time_in (visits_at here walk) ≤ time_in walk
time_part here [] = omega arith
time_part here (one ∷ walk) = go (here one.place) (time_part here walk)
  where
    spent : Visited → ℕ
    spent v = v.ended - v.begun

    go : (b : Bool) → time_in (visits_at here walk) ≤ time_in walk
        → time_in (cond b (one ∷ visits_at here walk) (visits_at here walk)) ≤ time_in (one ∷ walk)
    go true rest =
        omega (
          arith,
          rest,
          sum_by-cons (λ (v : Visited). v.ended - v.begun) one (visits_at here walk),
          sum_by-cons
              (λ (v : Visited). v.ended - v.begun) one walk,
        )
    go false rest = omega (arith, rest, sum_by-cons (λ (v : Visited). v.ended - v.begun) one walk)

pub count_part : (here : ℕ → Bool) (walk : List Visited) → length (visits_at here walk) ≤ length walk
count_part here [] = omega arith
count_part here (one ∷ walk) = go (here one.place) (count_part here walk)
  where
    go : (b : Bool) → length (visits_at here walk) ≤ length walk
        → length (cond b (one ∷ visits_at here walk) (visits_at here walk)) ≤ suc (length walk)
    go true rest = omega (arith, rest)
    go false rest = omega (arith, rest)

-- the number of hops so far fits, and their time with that of the hop at hand
pub visits_fit : (here : ℕ → Bool) (walk : List Visit) (i : ℕ) → i ≤ length walk → length walk < 2 ^ 62
    → (tally_of (visits_at here (map seen_visit (take i walk)))).visits < 2 ^ 62
visits_fit here walk i within few =
    omega (
      arith,
      count_part here (map seen_visit (take i walk)),
      length-map (take i walk) seen_visit,
      length-take-le i
          walk within,
    )

-- what a visit takes
spends : (visit : Visit) → (seen_visit visit).ended - visit.begun ≡ visit.took
spends visit = omega arith

time_seen : (old new : Tally) (visit : Visit) → new.time ≡ old.time + visit.took
    → new.time ≡ old.time + ((seen_visit visit).ended - visit.begun)
time_seen old new visit time = omega (arith, time, spends visit)

pub times_fit : (here : ℕ → Bool) (walk : List Visit) (i : ℕ) (visit : Visit) → i < length walk
    → visit ≡ get_or walk i visit → time_in (map seen_visit walk) < 2 ^ 62
    → (tally_of (visits_at here (map seen_visit (take i walk)))).time + visit.took < 2 ^ 62
times_fit here walk i visit within is short =
    let spent : Visited → ℕ = λ v. v.ended - v.begun in
    let more : time_in (map seen_visit (take (i + 1) walk)) ≡ time_in (map seen_visit (take i walk))
    + spent (seen_visit visit) =
    ap time_in (seen_more walk i visit within)
    ∙ sum_by_push spent (map seen_visit (take i walk)) (seen_visit (get_or walk i visit))
    ∙ ap (λ (v : Visit). time_in (map seen_visit (take i walk)) + spent (seen_visit v)) (sym is) in
    let part : time_in (map seen_visit (take (i + 1) walk)) ≤ time_in (map seen_visit walk) =
    subst (λ (visits : List Visited). time_in visits ≤ time_in (map seen_visit walk)) (take-map seen_visit (i + 1) walk)
    (sum_by-take-le spent (map seen_visit walk) (i + 1)) in
    omega (arith, time_part here (map seen_visit (take i walk)), more, spends visit, part, short)

-- The tallies by line with a hop more: at a location of a card, and elsewhere.
pub by_line_some : (deck : Deck) (walk : List Visit) (i : ℕ) (visit : Visit) (cards : List Tally) (line : ℕ)
    (tally past : Tally)
    → i < length walk → visit ≡ get_or walk i visit → card_in deck visit.place.number ≡ Some line → line ≤ 4000
    → length cards ≡ 4001
    → tally.visits ≡ (get_or cards line past).visits + 1
    → tally.time ≡ (get_or cards line past).time + visit.took
    → AreByLine deck (map seen_visit (take i walk)) cards
    → AreByLine deck (map seen_visit (take (i + 1) walk)) (set cards line tally)
by_line_some deck walk i visit cards line tally past within is of within_lines places visits time by_line other low =
    let before : List Visited = map seen_visit (take i walk) in
    let after : map seen_visit (take (i + 1) walk) ≡ before ++ seen_visit visit ∷ [] =
    seen_more walk i visit within ∙ ap (λ (v : Visit). before ++ seen_visit v ∷ []) (sym is) in
    let giver : is_of_card deck other visit.place.number ≡ (line == other) =
    ap (λ (found : Option ℕ). elim found as (λ _. Bool) [ Some g ↦ g == other | None ↦ false ]) of in
    subst (λ (visits : List Visited). slice_get (set cards line tally) other
    ≡ Some (tally_of (visits_at (is_of_card deck other) visits))) (sym after)
    (elim (cases_eq line other) [
      | inl same ↦
          let here : is_of_card deck other visit.place.number ≡ true = giver ∙ eq-eqb line other same in
          let old : get_or cards line past ≡ tally_of (visits_at (is_of_card deck other) before) =
          ap (λ (n : ℕ). get_or cards n past) same ∙ get_or_from_slice_get cards other _ past (by_line other low) in
          let put : slice_get (set cards line tally) other ≡ Some tally =
          ap (slice_get (set cards line tally)) (sym same)
          ∙ slice_get-set_same cards line tally (omega (arith, within_lines, places)) in
          put ∙ ap Some (tally_more (is_of_card deck other) before (seen_visit visit) here tally
          (visits ∙ ap (λ (t : Tally). t.visits + 1) old)
          (time_seen (get_or cards line past) tally visit time
          ∙ ap (λ (t : Tally). t.time + ((seen_visit visit).ended - visit.begun)) old))
      | inr differ ↦
          let here : is_of_card deck other visit.place.number ≡ false = giver ∙ ne_eqb line other differ in
          slice_get-set_other cards line other tally differ ∙ by_line other low
          ∙ ap Some (tally_same (is_of_card deck other) before (seen_visit visit) here)
    ])

pub by_line_none : (deck : Deck) (walk : List Visit) (i : ℕ) (visit : Visit) (cards : List Tally)
    → i < length walk → visit ≡ get_or walk i visit → card_in deck visit.place.number ≡ None
    → AreByLine deck (map seen_visit (take i walk)) cards → AreByLine deck (map seen_visit (take (i + 1) walk)) cards
by_line_none deck walk i visit cards within is of by_line other low =
    let before : List Visited = map seen_visit (take i walk) in
    let after : map seen_visit (take (i + 1) walk) ≡ before ++ seen_visit visit ∷ [] =
    seen_more walk i visit within ∙ ap (λ (v : Visit). before ++ seen_visit v ∷ []) (sym is) in
    let here : is_of_card deck other visit.place.number ≡ false =
    ap (λ (found : Option ℕ). elim found as (λ _. Bool) [ Some g ↦ g == other | None ↦ false ]) of in
    by_line other low ∙ ap Some
    (tally_same (is_of_card deck other) before (seen_visit visit) here
    ∙ ap (λ (visits : List Visited). tally_of (visits_at (is_of_card deck other) visits)) (sym after))

pub other_some : (deck : Deck) (walk : List Visit) (i : ℕ) (visit : Visit) (other : Tally) (line : ℕ)
    → i < length walk → visit ≡ get_or walk i visit → card_in deck visit.place.number ≡ Some line
    → other ≡ tally_of (visits_at (is_of_none deck) (map seen_visit (take i walk)))
    → other ≡ tally_of (visits_at (is_of_none deck) (map seen_visit (take (i + 1) walk)))
other_some deck walk i visit other line within is of so_far =
    let before : List Visited = map seen_visit (take i walk) in
    let after : map seen_visit (take (i + 1) walk) ≡ before ++ seen_visit visit ∷ [] =
    seen_more walk i visit within ∙ ap (λ (v : Visit). before ++ seen_visit v ∷ []) (sym is) in
    let here : is_of_none deck visit.place.number ≡ false =
    ap (λ (found : Option ℕ). elim found as (λ _. Bool) [ Some g ↦ false | None ↦ true ]) of in
    so_far ∙ tally_same (is_of_none deck) before (seen_visit visit) here
    ∙ ap (λ (visits : List Visited). tally_of (visits_at (is_of_none deck) visits)) (sym after)

pub other_none : (deck : Deck) (walk : List Visit) (i : ℕ) (visit : Visit) (other tally : Tally)
    → i < length walk → visit ≡ get_or walk i visit → card_in deck visit.place.number ≡ None
    → tally.visits ≡ other.visits + 1 → tally.time ≡ other.time + visit.took
    → other ≡ tally_of (visits_at (is_of_none deck) (map seen_visit (take i walk)))
    → tally ≡ tally_of (visits_at (is_of_none deck) (map seen_visit (take (i + 1) walk)))
other_none deck walk i visit other tally within is of visits time so_far =
    let before : List Visited = map seen_visit (take i walk) in
    let after : map seen_visit (take (i + 1) walk) ≡ before ++ seen_visit visit ∷ [] =
    seen_more walk i visit within ∙ ap (λ (v : Visit). before ++ seen_visit v ∷ []) (sym is) in
    let here : is_of_none deck visit.place.number ≡ true =
    ap (λ (found : Option ℕ). elim found as (λ _. Bool) [ Some g ↦ false | None ↦ true ]) of in
    tally_more (is_of_none deck) before (seen_visit visit) here tally
    (visits ∙ ap (λ (t : Tally). t.visits + 1) so_far)
    (time_seen other tally visit time ∙ ap (λ (t : Tally). t.time + ((seen_visit visit).ended - visit.begun)) so_far)
    ∙ ap (λ (walked : List Visited). tally_of (visits_at (is_of_none deck) walked)) (sym after)

-- the passes of a mark with a hop more
passes_push : (mark : Mark) (walk : List Visited) (visit : Visited)
    → passes_in mark (walk ++ visit ∷ []) ≡ passes_in mark walk + passes_by mark visit.place visit.way
passes_push mark [] visit = omega arith
passes_push mark (one ∷ walk) visit = omega (arith, passes_push mark walk visit)

pub passes_more : (marks : List Mark) (walk : List Visit) (i : ℕ) (visit : Visit) (old new : List ℕ) → i < length walk
    → visit ≡ get_or walk i visit
    → ((k : ℕ) (mark : Mark) → slice_get marks k ≡ Some mark
    → slice_index new k ≡ slice_index old k + passes_by mark visit.place.number (seen_way visit.way))
    → ArePasses marks (map seen_visit (take i walk)) old → ArePasses marks (map seen_visit (take (i + 1) walk)) new
passes_more marks walk i visit old new within is counted so_far k mark at =
    let before : List Visited = map seen_visit (take i walk) in
    let after : map seen_visit (take (i + 1) walk) ≡ before ++ seen_visit visit ∷ [] =
    seen_more walk i visit within ∙ ap (λ (v : Visit). before ++ seen_visit v ∷ []) (sym is) in
    omega (
      arith,
      counted k mark at,
      so_far k mark at,
      ap (passes_in mark) after,
      passes_push mark before
          (seen_visit visit),
    )
