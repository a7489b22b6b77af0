-- What the hops of a walk take that are of one kind, by the pieces that spell them out.
use Rattle.std.proofs.Common.{◌≡◌, ℕ, ◌+◌, ◌-◌, ◌%◌, ◌≤◌, inl, inr, Bool, true, false, cond, List, ◌∷◌, []}
use Rattle.std.proofs.Common.{filter, length, refl, ap, sym, ◌∙◌, subst, arith}
use Rattle.std.specs.Prelude.{if◌then◌else◌, sum_by, Contains}
use Rattle.std.proofs.lemmas.List.Sums.{sum_by-cons}
use Rattle.base_words.specs.declared.op.Op.{Op}
use Rattle.base_words.specs.Op.{op_of}
use Rattle.base_notes.specs.declared.entry.Entry.{Entry}
use Rattle.base_graphs.proofs.Lists.{contains_cases, contains_here, contains_none, contains_there}
use Rattle.flow_graph.specs.Longest.{wait_by}
use Rattle.flow_walks.specs.Visited.{Visited}
use Rattle.flow_walks.specs.Pieces.{PlacedHop}
use Rattle.ceiling_rounds.specs.InRounds.{takes}
use Rattle.print_hops.specs.Moments.{is_early}
use Rattle.print_hops.specs.Waits.{for_cards, for_data, for_instruction, is_alike, time_of}
use Rattle.print_hops.proofs.LaterMoments.{at_once, data_once, instruction_once}
use Rattle.print_hops.proofs.WholeFits.{hop_whole}
use Rattle.print_ceilings.specs.RoundsText.{from_to}
use Rattle.print_ceilings.specs.RoundsWaitsOf.{alone, of_those, waits_cards, waits_data}
use Rattle.print_ceilings.specs.RoundsWaitsOf.{waits_instruction}
use Rattle.print_ceilings.proofs.Laid.{AreLaid, IsLaid}

-- ---- what a visit takes is what its hop takes

module _ (times : Op → Entry) (angle time : ℕ) (visit : Visited) (one : PlacedHop)
    (laid : IsLaid times angle time visit one) where
  took : visit.ended - visit.begun ≡ takes times one
  took = omega (arith, laid.begun, laid.ended)

  -- the visit, begun at time 0, is the hop alone
  pub once_alone : at_once visit ≡ alone times one
  once_alone = λ j. record {
    place = laid.place j;
    ins = laid.ins j;
    way = laid.way j;
    begun = 0;
    ended = took j;
  }

  pub at_angle : one.angle ≡ (angle + visit.begun) % 50
  at_angle = laid.at ∙ ap (λ (n : ℕ). (angle + n) % 50) (sym laid.begun)

  pub same_time : time_of visit ≡ takes times one
  same_time = took

  pub same_instruction : for_instruction times angle visit ≡ waits_instruction times one
  same_instruction =
      instruction_once times angle one.angle visit at_angle
      ∙ ap (for_instruction times one.angle) once_alone

  pub same_data : for_data times angle visit ≡ waits_data times one
  same_data =
      data_once times angle one.angle visit at_angle ∙ ap (for_data times one.angle) once_alone

  pub same_cards : for_cards times visit ≡ waits_cards times one
  same_cards = λ j. if is_early (laid.way j) then 0 else wait_by times (op_of (laid.ins j).op)

  -- it is of the kinds that the hop is of
  pub same_kinds : (seen : Visited) → is_alike seen visit ≡ is_alike seen (from_to 0 0 one)
  same_kinds seen = λ j. is_alike seen (record {
    place = laid.place j;
    ins = laid.ins j;
    way = laid.way j;
    begun = 0;
    ended = 0;
  })

  -- what it waits, for the card machine too, is part of what it takes
  pub waits_whole : waits_instruction times one + waits_data times one + waits_cards times one ≤ takes times one
  waits_whole =
      omega (
        arith,
        hop_whole times angle visit laid.op laid.known laid.longest laid.fits,
        same_time,
        same_instruction,
        same_data,
        same_cards,
      )

-- ---- hops that are laid

module _ (times : Op → Entry) (angle : ℕ) where
  -- each hop is some visit's
  pub laid_hop : (time : ℕ) (visits : List Visited) (hops : List PlacedHop) → AreLaid times angle time visits hops
      → (one : PlacedHop) → Contains hops one
      → (visit : Visited) × Contains visits visit × ((at : ℕ) × IsLaid times angle at visit one)
  unfolding AreLaid
  laid_hop time [] [] laid one has = absurd (contains_none one has)
  laid_hop time [] (hop ∷ hops) laid one has = absurd laid
  laid_hop time (visit ∷ visits) [] laid one has = absurd laid
  laid_hop time (visit ∷ visits) (hop ∷ hops) laid one has = elim (contains_cases hop one hops has) [
    | inl same ↦
        (visit, contains_here visit visits, (time, subst (IsLaid times angle time visit) same laid.0))
    | inr behind ↦
        let rest = laid_hop visit.ended visits hops laid.1 one behind in
        (rest.0, contains_there visit rest.0 visits rest.1, rest.2)
  ]

  -- and each visit is of some hop
  pub laid_visit : (time : ℕ) (visits : List Visited) (hops : List PlacedHop) → AreLaid times angle time visits hops
      → (visit : Visited) → Contains visits visit
      → (one : PlacedHop) × Contains hops one × ((at : ℕ) × IsLaid times angle at visit one)
  unfolding AreLaid
  laid_visit time [] [] laid visit has = absurd (contains_none visit has)
  laid_visit time [] (hop ∷ hops) laid visit has = absurd laid
  laid_visit time (first ∷ visits) [] laid visit has = absurd laid
  laid_visit time (first ∷ visits) (hop ∷ hops) laid visit has = elim (contains_cases first visit visits has) [
    | inl same ↦
        (hop, contains_here hop hops, (time, subst (λ (v : Visited). IsLaid times angle time v hop) same laid.0))
    | inr behind ↦
        let rest = laid_visit first.ended visits hops laid.1 visit behind in
        (rest.0, contains_there hop rest.0 hops rest.1, rest.2)
  ]

  -- What is added up over the visits that pass a test is what is added up over their hops.
  pub sum_laid : (seen : Visited → Bool) (is : PlacedHop → Bool) (f : Visited → ℕ) (what : PlacedHop → ℕ)
      → ((at : ℕ) (visit : Visited) (one : PlacedHop) → IsLaid times angle at visit one → seen visit ≡ is one)
      → ((at : ℕ) (visit : Visited) (one : PlacedHop) → IsLaid times angle at visit one → f visit ≡ what one)
      → (time : ℕ) (visits : List Visited) (hops : List PlacedHop) → AreLaid times angle time visits hops
      → sum_by f (filter seen visits) ≡ sum_by (of_those is what) hops
  unfolding AreLaid
  sum_laid seen is f what tests sums time [] [] laid = refl
  sum_laid seen is f what tests sums time [] (hop ∷ hops) laid = absurd laid
  sum_laid seen is f what tests sums time (visit ∷ visits) [] laid = absurd laid
  sum_laid seen is f what tests sums time (visit ∷ visits) (hop ∷ hops) laid =
      go (seen visit) (is hop) (tests time visit hop laid.0)
      (sum_laid seen is f what tests sums visit.ended visits hops laid.1)
      ∙ sym (sum_by-cons (of_those is what) hop hops)
    where
      go : (b c : Bool) → b ≡ c → sum_by f (filter seen visits) ≡ sum_by (of_those is what) hops
          → sum_by f (cond b (visit ∷ filter seen visits) (filter seen visits))
          ≡ (if c then what hop else 0) + sum_by (of_those is what) hops
      go true true same rest =
          omega (arith, rest, sums time visit hop laid.0, sum_by-cons f visit (filter seen visits))
      go false false same rest = omega (arith, rest)
      go true false same rest = absurd (cc)
      go false true same rest = absurd (cc)

  -- so it is over all of them
  pub all_laid : (f : Visited → ℕ) (what : PlacedHop → ℕ)
      → ((at : ℕ) (visit : Visited) (one : PlacedHop) → IsLaid times angle at visit one → f visit ≡ what one)
      → (time : ℕ) (visits : List Visited) (hops : List PlacedHop) → AreLaid times angle time visits hops
      → sum_by f visits ≡ sum_by what hops
  unfolding AreLaid
  all_laid f what sums time [] [] laid = refl
  all_laid f what sums time [] (hop ∷ hops) laid = absurd laid
  all_laid f what sums time (visit ∷ visits) [] laid = absurd laid
  all_laid f what sums time (visit ∷ visits) (hop ∷ hops) laid =
      omega (
        arith,
        sums time visit hop laid.0,
        all_laid f what sums visit.ended visits hops laid.1,
        sum_by-cons f visit visits,
        sum_by-cons what hop hops,
      )

-- ---- sums over some hops

-- they are no more than those over all
pub those_at_most : (is : PlacedHop → Bool) (what : PlacedHop → ℕ) (hops : List PlacedHop)
    → sum_by (of_those is what) hops ≤ sum_by what hops
those_at_most is what [] = omega arith
those_at_most is what (hop ∷ hops) =
    omega (
      arith,
      those_at_most is what hops,
      sum_by-cons (of_those is what) hop hops,
      sum_by-cons what hop hops,
      go (is hop),
    )
  where
    go : (b : Bool) → (if b then what hop else 0) ≤ what hop
    go true = omega arith
    go false = omega arith

-- sums over hops each of which has no more
pub sum_at_most : (one other : PlacedHop → ℕ) (hops : List PlacedHop)
    → ((hop : PlacedHop) → Contains hops hop → one hop ≤ other hop) → sum_by one hops ≤ sum_by other hops
sum_at_most one other [] less = omega arith
sum_at_most one other (hop ∷ hops) less =
    omega (
      arith,
      sum_at_most one other hops (λ h has. less h (contains_there hop h hops has)),
      less hop (contains_here hop hops),
      sum_by-cons one hop hops,
      sum_by-cons other hop hops,
    )

pub all_count : (visits : List Visited) → sum_by (λ _. 1) visits ≡ length visits
all_count [] = refl
all_count (visit ∷ visits) = omega (arith, sum_by-cons (λ _. 1) visit visits, all_count visits)
