-- Which hops of a walk in rounds come before which.
use Rattle.std.proofs.Common.{◌≡◌, ℕ, zero, suc, ◌+◌, ◌-◌, ◌<◌, ◌≤◌, Bool, true, false, List, [], ◌∷◌, ◌++◌}
use Rattle.std.proofs.Common.{length, refl, ap, sym, ◌∙◌, subst, arith, Option, Some, None, inl, inr}
use Rattle.std.specs.Prelude.{flat_map, slice_get, unwrap_or, ◌==◌, if◌then◌else◌, Contains}
use Rattle.std.proofs.lemmas.Bool.{cases_lt, cases_order, eqb-true, le-ltb, lt-ltb, true≢false}
use Rattle.std.proofs.lemmas.List.{append_assoc, append-nil, length-append}
use Rattle.std.proofs.lemmas.List.Elements.{Contains-append_left, Contains-append_cases, Contains-push}
use Rattle.std.proofs.lemmas.Option.{cond_some, none-some, same_Some, slice_get_within}
use Rattle.base_graphs.proofs.Lists.{contains_cases, contains_here, contains_none, contains_there}
use Rattle.flow_walks.specs.declared.piece.Piece.{Piece}
use Rattle.flow_walks.specs.declared.piece.Placed.{Placed}
use Rattle.flow_walks.specs.declared.piece.Piece.TheVariants as piece
use Rattle.flow_walks.specs.Pieces.{repeated, seen_placed, spelled, spelled_at, spelled_behind, spelled_by}
use Rattle.flow_walks.specs.Pieces.{PlacedHop}
use Rattle.ceiling_rounds.specs.Order.{closing, never, on_from, through_at, through_behind, through_by, through_row}
use Rattle.ceiling_rounds.specs.Order.{AreInOrder, Through}
use Rattle.print_ceilings.proofs.Lists.{at_before, at_last, at_none}

-- ---- hops behind others

-- each of the first so many pieces that is a hop is among these
abbrev AreSeen : List Piece → ℕ → List PlacedHop → Type 0
AreSeen pieces ended seen =
    (k : ℕ) (one : Placed) → k < ended → slice_get pieces k ≡ Some (piece.Hop one) → Contains seen (seen_placed one)

-- a hop is one of the first so many pieces
abbrev IsOf : List Piece → ℕ → PlacedHop → Type 0
IsOf pieces limit hop =
    (k : ℕ) × (one : Placed) × (k < limit) × (slice_get pieces k ≡ Some (piece.Hop one)) × (seen_placed one ≡ hop)

-- so is each of these
abbrev AreOf : List Piece → ℕ → List PlacedHop → Type 0
AreOf pieces limit hops = (hop : PlacedHop) → Contains hops hop → IsOf pieces limit hop

-- Hops that come behind those seen: each is the piece with some number or one below it, and all
-- hops among the pieces below that number come before it.
abbrev Follow : List Piece → List PlacedHop → List PlacedHop → Type 0
Follow pieces seen [] = Unit {0}
Follow pieces seen (hop ∷ hops) =
    ((m : ℕ) × AreSeen pieces m seen × IsOf pieces (suc m) hop) × Follow pieces (seen ++ hop ∷ []) hops

-- hops that lead from the end of so many pieces to that of so many
record Lead (pieces : List Piece) (ended : ℕ) (hops : List PlacedHop) (next : ℕ) : Type 0 where
  all : (seen : List PlacedHop) → AreSeen pieces ended seen → AreSeen pieces next (seen ++ hops)
  each : (seen : List PlacedHop) → AreSeen pieces ended seen → Follow pieces seen hops

of_more : (pieces : List Piece) (low high : ℕ) (hops : List PlacedHop) → low ≤ high → AreOf pieces low hops
    → AreOf pieces high hops
of_more pieces low high hops up are hop there =
    let is = are hop there in
    (is.0, is.1, omega (arith, up, is.2), is.3, is.4)

of_none : (pieces : List Piece) (limit : ℕ) → AreOf pieces limit []
of_none pieces limit hop there = absurd (contains_none hop there)

of_both : (pieces : List Piece) (limit : ℕ) (xs ys : List PlacedHop) → AreOf pieces limit xs
    → AreOf pieces limit ys → AreOf pieces limit (xs ++ ys)
of_both pieces limit xs ys first second hop there = elim (Contains-append_cases xs ys hop there) [
  | inl left ↦ first hop left
  | inr right ↦ second hop right
]

of_repeated : (pieces : List Piece) (limit times : ℕ) (hops : List PlacedHop) → AreOf pieces limit hops
    → AreOf pieces limit (repeated times hops)
of_repeated pieces limit zero hops are = of_none pieces limit
of_repeated pieces limit (suc times) hops are =
    of_both pieces limit hops (repeated times hops) are (of_repeated pieces limit times hops are)

of_flat : (pieces : List Piece) (limit : ℕ) (spells : ℕ → List PlacedHop) (numbers : List ℕ)
    → ((k : ℕ) → AreOf pieces limit (spells k)) → AreOf pieces limit (flat_map spells numbers)
of_flat pieces limit spells [] are = of_none pieces limit
of_flat pieces limit spells (number ∷ numbers) are =
    of_both pieces limit (spells number) (flat_map spells numbers) (are number)
    (of_flat pieces limit spells numbers are)

seen_more : (pieces : List Piece) (ended : ℕ) (seen hops : List PlacedHop) → AreSeen pieces ended seen
    → AreSeen pieces ended (seen ++ hops)
seen_more pieces ended seen hops are k one less at =
    Contains-append_left seen hops (seen_placed one) (are k one less at)

follow_old : (pieces : List Piece) (ended : ℕ) (seen hops : List PlacedHop) → AreSeen pieces ended seen
    → AreOf pieces ended hops → Follow pieces seen hops
follow_old pieces ended seen [] before are = tt
follow_old pieces ended seen (hop ∷ hops) before are = (
  (ended, before, of_more pieces ended (suc ended) (hop ∷ hops) (omega arith) are hop (contains_here hop hops)),
  follow_old pieces ended (seen ++ hop ∷ []) hops (seen_more pieces ended seen (hop ∷ []) before)
      (λ other there. are other (contains_there hop other hops there)),
)

follow_both : (pieces : List Piece) (seen xs ys : List PlacedHop) → Follow pieces seen xs
    → Follow pieces (seen ++ xs) ys → Follow pieces seen (xs ++ ys)
follow_both pieces seen [] ys first second =
    subst (λ (hops : List PlacedHop). Follow pieces hops ys) (append-nil seen) second
follow_both pieces seen (x ∷ xs) ys first second =
    let same : seen ++ x ∷ xs ≡ seen ++ x ∷ [] ++ xs = sym (append_assoc seen (x ∷ []) xs) in (
      first.0,
      follow_both pieces (seen ++ x ∷ []) xs ys first.1
          (subst (λ (hops : List PlacedHop). Follow pieces hops ys) same second),
    )

-- one of the hops that follow
follow_at : (pieces : List Piece) (seen before : List PlacedHop) (hop : PlacedHop) (after : List PlacedHop)
    → Follow pieces seen (before ++ hop ∷ after)
    → (m : ℕ) × AreSeen pieces m (seen ++ before) × IsOf pieces (suc m) hop
follow_at pieces seen [] hop after follow =
    let here = follow.0 in
    (here.0, subst (AreSeen pieces here.0) (sym (append-nil seen)) here.1, here.2)
follow_at pieces seen (x ∷ before) hop after follow =
    let here = follow_at pieces (seen ++ x ∷ []) before hop after follow.1 in
    (here.0, subst (AreSeen pieces here.0) (append_assoc seen (x ∷ []) before) here.1, here.2)

-- ---- hops that lead on

lead_old : (pieces : List Piece) (ended : ℕ) (hops : List PlacedHop) → AreOf pieces ended hops
    → Lead pieces ended hops ended
lead_old pieces ended hops are = record {
  all = λ seen before. seen_more pieces ended seen hops before;
  each = λ seen before. follow_old pieces ended seen hops before are;
}

lead_both : (pieces : List Piece) (ended between next : ℕ) (xs ys : List PlacedHop)
    → Lead pieces ended xs between → Lead pieces between ys next → Lead pieces ended (xs ++ ys) next
lead_both pieces ended between next xs ys first second = record {
  all = λ seen before. subst (AreSeen pieces next) (append_assoc seen xs ys)
      (second.all (seen ++ xs) (first.all seen before));
  each = λ seen before. follow_both pieces seen xs ys (first.each seen before)
      (second.each (seen ++ xs) (first.all seen before));
}

lead_repeated : (pieces : List Piece) (ended next times : ℕ) (hops : List PlacedHop) → 0 < times
    → Lead pieces ended hops next → AreOf pieces next hops → Lead pieces ended (repeated times hops) next
lead_repeated pieces ended next zero hops some lead are = absurd (omega (arith, some))
lead_repeated pieces ended next (suc times) hops some lead are =
    lead_both pieces ended next next hops (repeated times hops) lead
    (lead_old pieces next (repeated times hops) (of_repeated pieces next times hops are))

seen_last : (pieces : List Piece) (n : ℕ) (seen : List PlacedHop) → AreSeen pieces n seen
    → ((one : Placed) → slice_get pieces n ≡ Some (piece.Hop one) → Contains seen (seen_placed one))
    → AreSeen pieces (suc n) seen
seen_last pieces n seen before last k one less at = elim (cases_lt k n) [
  | inl low ↦ before k one low at
  | inr high ↦ (
      let here : k ≡ n = omega (arith, less, high) in
      last one (ap (slice_get pieces) (sym here) ∙ at))
]

-- the end of a piece that is no hop
lead_end : (pieces : List Piece) (ended n : ℕ) (hops : List PlacedHop)
    → ((one : Placed) → ¬ (slice_get pieces n ≡ Some (piece.Hop one))) → Lead pieces ended hops n
    → Lead pieces ended hops (suc n)
lead_end pieces ended n hops none lead = record {
  all = λ seen before. seen_last pieces n (seen ++ hops) (lead.all seen before) (λ one at. absurd (none one at));
  each = lead.each;
}

-- a piece that is a hop
lead_hop : (pieces : List Piece) (n : ℕ) (one : Placed) → slice_get pieces n ≡ Some (piece.Hop one)
    → Lead pieces n (seen_placed one ∷ []) (suc n)
lead_hop pieces n one at = record {
  all = λ seen before. seen_last pieces n (seen ++ seen_placed one ∷ [])
      (seen_more pieces n seen (seen_placed one ∷ []) before)
      (λ other its.
      let same : one ≡ other = same_hop (sym at ∙ its) in
      subst (λ (p : Placed). Contains (seen ++ seen_placed one ∷ []) (seen_placed p)) same
      (Contains-push seen (seen_placed one)));
  each = λ seen before. ((n, before, (n, one, omega arith, at, refl)), tt);
}
  where
    same_hop : {x y : Placed} → Some (piece.Hop x) ≡ Some (piece.Hop y) → x ≡ y
    same_hop e = cc

-- ---- lists with one more

look_before : {X : Type 0} (xs : List X) (y none : X) (k : ℕ) → k < length xs
    → unwrap_or (slice_get (xs ++ y ∷ []) k) none ≡ unwrap_or (slice_get xs k) none
look_before {X} xs y none k less = ap (λ (o : Option X). unwrap_or o none) (at_before xs y k less)

look_last : {X : Type 0} (xs : List X) (y none : X) → unwrap_or (slice_get (xs ++ y ∷ []) (length xs)) none ≡ y
look_last {X} xs y none = ap (λ (o : Option X). unwrap_or o none) (at_last xs y)

look_past : {X : Type 0} (xs : List X) (y none : X) (k : ℕ) → length xs < k
    → unwrap_or (slice_get (xs ++ y ∷ []) k) none ≡ none
look_past {X} xs y none k less =
    ap (λ (o : Option X). unwrap_or o none)
    (at_none (xs ++ y ∷ []) k (omega (arith, less, length-append xs (y ∷ []))))

-- ---- ways through

from_parts : (o : Option ℕ) (rest : Through) (last : ℕ) → on_from o rest ≡ Some last
    → (between : ℕ) × (o ≡ Some between) × (rest between ≡ Some last)
from_parts None rest last e = absurd (none-some last e)
from_parts (Some between) rest last e = (between, refl, e)

closing_parts : (number ended next : ℕ) → closing number ended ≡ Some next → (ended ≡ number) × (suc ended ≡ next)
closing_parts number ended next e =
    let parts = cond_some (ended == number) (suc ended) next e in
    (eqb-true ended number parts.0, parts.1)

-- the way through a piece, by those before it
abbrev way : List Through → Piece → Through
way ways one = λ ended. on_from (through_by ways one ended) (closing (length ways))

-- The ways through so many pieces, and what these spell out: the hops of each are pieces up to
-- itself, and lead past its own end.
record Fit (pieces : List Piece) (limit : ℕ) (ways : List Through) (spells : List (List PlacedHop)) : Type 0 where
  ways_long : length ways ≡ limit
  spells_long : length spells ≡ limit
  below : (k : ℕ) → AreOf pieces (suc k) (spelled_at spells k)
  lead : (k ended next : ℕ) → unwrap_or (slice_get ways k) never ended ≡ Some next
      → Lead pieces ended (spelled_at spells k) next × (k < next)

module _ (pieces : List Piece) (limit : ℕ) (ways : List Through) (spells : List (List PlacedHop))
    (fit : Fit pieces limit ways spells) where
  -- none of them is of later pieces, nor is what spells out nothing
  below_all : (k : ℕ) → AreOf pieces limit (spelled_at spells k)
  below_all k = elim (cases_lt k limit) [
    | inl low ↦ of_more pieces (suc k) limit (spelled_at spells k) low (fit.below k)
    | inr high ↦ (
        let past : spelled_at spells k ≡ [] =
        ap (λ (o : Option (List PlacedHop)). unwrap_or o []) (at_none spells k (omega (arith, high, fit.spells_long))) in
        subst (AreOf pieces limit) (sym past) (of_none pieces limit))
  ]

  -- through a piece, for the first time or again
  lead_at : (k ended next : ℕ) → through_at ways k ended ≡ Some next
      → Lead pieces ended (spelled_at spells k) next × (k < next)
  lead_at k ended next e = elim (cases_lt k ended) [
    | inl low ↦ (
        let same : ended ≡ next = same_Some ended next
        (sym (ap (λ (b : Bool). if b then Some ended else unwrap_or (slice_get ways k) never ended) (lt-ltb k ended low)) ∙ e) in
        let old = lead_old pieces ended (spelled_at spells k)
        (of_more pieces (suc k) ended (spelled_at spells k) low (fit.below k)) in
        (subst (Lead pieces ended (spelled_at spells k)) same old, omega (arith, low, same)))
    | inr high ↦ fit.lead k ended next
        (sym (ap (λ (b : Bool). if b then Some ended else unwrap_or (slice_get ways k) never ended) (le-ltb k ended high)) ∙ e)
  ]

  lead_row : (numbers : List ℕ) (ended next : ℕ) → through_row ways numbers ended ≡ Some next
      → Lead pieces ended (flat_map (spelled_at spells) numbers) next
  lead_row [] ended next e =
      subst (Lead pieces ended []) (same_Some ended next e) (lead_old pieces ended [] (of_none pieces ended))
  lead_row (number ∷ numbers) ended next e =
      let parts = from_parts (through_at ways number ended) (through_row ways numbers) next e in
      lead_both pieces ended parts.0 next (spelled_at spells number) (flat_map (spelled_at spells) numbers)
      (lead_at number ended parts.0 parts.1).0 (lead_row numbers parts.0 next parts.2)

  module _ (one : Piece) (at : slice_get pieces limit ≡ Some one) where
    below_by : AreOf pieces (suc limit) (spelled_by spells one)
    below_by = by one at
      where
        by : (p : Piece) → slice_get pieces limit ≡ Some p → AreOf pieces (suc limit) (spelled_by spells p)
        by (piece.Hop placed) is = λ hop there. elim (contains_cases (seen_placed placed) hop [] there) [
          | inl same ↦ (limit, placed, omega arith, is, same)
          | inr none ↦ absurd (contains_none hop none)
        ]
        by (piece.Row names) is = of_more pieces limit (suc limit) (flat_map (spelled_at spells) names.items)
            (omega arith) (of_flat pieces limit (spelled_at spells) names.items below_all)
        by (piece.Rounds rounds) is =
            of_more pieces limit (suc limit) (repeated rounds.times (spelled_at spells rounds.piece)) (omega arith)
            (of_repeated pieces limit rounds.times (spelled_at spells rounds.piece) (below_all rounds.piece))

    lead_by : (ended : ℕ) → through_by ways one ended ≡ Some limit → Lead pieces ended (spelled_by spells one) (suc limit)
    lead_by ended e = by one at e
      where
        by : (p : Piece) → slice_get pieces limit ≡ Some p → through_by ways p ended ≡ Some limit
            → Lead pieces ended (spelled_by spells p) (suc limit)
        by (piece.Hop placed) is through =
            let here : ended ≡ limit = same_Some ended limit through in
            subst (λ (n : ℕ). Lead pieces n (seen_placed placed ∷ []) (suc limit)) (sym here)
            (lead_hop pieces limit placed is)
        by (piece.Row names) is through =
            lead_end pieces ended limit (flat_map (spelled_at spells) names.items)
            (λ placed its. no_row (sym is ∙ its))
            (lead_row names.items ended limit through)
          where
            no_row : {placed : Placed} → Some (piece.Row names) ≡ Some (piece.Hop placed) → ⊥
            no_row e = cc
        by (piece.Rounds rounds) is through =
            let its_lead = lead_at rounds.piece ended limit through in
            let old = of_more pieces (suc rounds.piece) limit (spelled_at spells rounds.piece) its_lead.1
            (fit.below rounds.piece) in
            lead_end pieces ended limit (repeated rounds.times (spelled_at spells rounds.piece))
            (λ placed its. no_rounds (sym is ∙ its))
            (lead_repeated pieces ended limit rounds.times (spelled_at spells rounds.piece) rounds.some
            its_lead.0 old)
          where
            no_rounds : {placed : Placed} → Some (piece.Rounds rounds) ≡ Some (piece.Hop placed) → ⊥
            no_rounds e = cc

    lead_way : (ended next : ℕ) → way ways one ended ≡ Some next
        → Lead pieces ended (spelled_by spells one) next × (limit < next)
    lead_way ended next e =
        let parts = from_parts (through_by ways one ended) (closing (length ways)) next e in
        let close = closing_parts (length ways) parts.0 next parts.2 in
        let here : parts.0 ≡ limit = close.0 ∙ fit.ways_long in
        let up : suc limit ≡ next = ap suc (sym here) ∙ close.1 in (
          subst (Lead pieces ended (spelled_by spells one)) up (lead_by ended (parts.1 ∙ ap Some here)),
          omega (arith, up),
        )

    fit_more : Fit pieces (suc limit)
        (ways ++ way ways one ∷ [])
        (spells ++ spelled_by spells one ∷ [])
    fit_more = record {
      ways_long = omega (arith, fit.ways_long, length-append ways (way ways one ∷ []));
      spells_long = omega (arith, fit.spells_long, length-append spells (its ∷ []));
      below = λ k. elim (cases_order k limit) [
        | inl here ↦ subst (λ (n : ℕ). AreOf pieces (suc n) (spelled_at (spells ++ its ∷ []) n)) (sym here)
            (subst (AreOf pieces (suc limit)) (sym spelled_here) below_by)
        | inr (inl low) ↦ subst (AreOf pieces (suc k)) (sym (spelled_low k low)) (fit.below k)
        | inr (inr high) ↦ subst (AreOf pieces (suc k)) (sym (spelled_past k high)) (of_none pieces (suc k))
      ];
      lead = λ k ended next e. elim (cases_order k limit) [
        | inl here ↦ subst (λ (n : ℕ). Lead pieces ended (spelled_at (spells ++ its ∷ []) n) next × (n < next)) (sym here)
            (subst (λ (hops : List PlacedHop). Lead pieces ended hops next × (limit < next)) (sym spelled_here)
            (lead_way ended next (sym (way_here k here ended) ∙ e)))
        | inr (inl low) ↦ subst (λ (hops : List PlacedHop). Lead pieces ended hops next × (k < next))
            (sym (spelled_low k low)) (fit.lead k ended next (sym (way_low k low ended) ∙ e))
        | inr (inr high) ↦ absurd (none-some next (sym (way_past k high ended) ∙ e))
      ];
    }
      where
        its : List PlacedHop
        its = spelled_by spells one

        spelled_here : spelled_at (spells ++ its ∷ []) limit ≡ its
        spelled_here = ap (spelled_at (spells ++ its ∷ [])) (sym fit.spells_long) ∙ look_last spells its []

        spelled_low : (k : ℕ) → k < limit → spelled_at (spells ++ its ∷ []) k ≡ spelled_at spells k
        spelled_low k low = look_before spells its [] k (omega (arith, low, fit.spells_long))

        spelled_past : (k : ℕ) → limit < k → spelled_at (spells ++ its ∷ []) k ≡ []
        spelled_past k high = look_past spells its [] k (omega (arith, high, fit.spells_long))

        way_here : (k : ℕ) → k ≡ limit → (ended : ℕ) → unwrap_or (slice_get (ways ++ way ways one ∷ []) k) never ended ≡ way ways one ended
        way_here k here ended =
            ap (λ (n : ℕ). unwrap_or (slice_get (ways ++ way ways one ∷ []) n) never ended) (here ∙ sym fit.ways_long)
            ∙ ap (λ (t : Through). t ended) (look_last ways (way ways one) never)

        way_low : (k : ℕ) → k < limit → (ended : ℕ)
            → unwrap_or (slice_get (ways ++ way ways one ∷ []) k) never ended ≡ unwrap_or (slice_get ways k) never ended
        way_low k low ended =
            ap (λ (t : Through). t ended) (look_before ways (way ways one) never k (omega (arith, low, fit.ways_long)))

        way_past : (k : ℕ) → limit < k → (ended : ℕ) → unwrap_or (slice_get (ways ++ way ways one ∷ []) k) never ended ≡ None
        way_past k high ended =
            ap (λ (t : Through). t ended) (look_past ways (way ways one) never k (omega (arith, high, fit.ways_long)))

-- ---- all pieces

fit_none : (pieces : List Piece) → Fit pieces 0 [] []
fit_none pieces = record {
  ways_long = refl;
  spells_long = refl;
  below = λ k. of_none pieces (suc k);
  lead = λ k ended next e. absurd (none-some next e);
}

-- ways that fit, with those through the pieces that are left behind them
fit_rest : (pieces rest : List Piece) (limit : ℕ) (ways : List Through) (spells : List (List PlacedHop))
    → Fit pieces limit ways spells
    → ((k : ℕ) (one : Piece) → slice_get rest k ≡ Some one → slice_get pieces (limit + k) ≡ Some one)
    → (all : ℕ) × Fit pieces all (through_behind ways rest) (spelled_behind spells rest)
fit_rest pieces [] limit ways spells fit at = (limit, fit)
fit_rest pieces (one ∷ rest) limit ways spells fit at =
    let none : limit + 0 ≡ limit = omega arith in
    let here : slice_get pieces limit ≡ Some one = ap (slice_get pieces) (sym none) ∙ at 0 one refl in
    fit_rest pieces rest (suc limit)
    (ways ++ way ways one ∷ [])
    (spells ++ spelled_by spells one ∷ [])
    (fit_more pieces limit ways spells fit one here)
    (λ k other is.
    let more : suc limit + k ≡ limit + suc k = omega arith in
    ap (slice_get pieces) more ∙ at (suc k) other is)

lead_all : (pieces : List Piece) → AreInOrder pieces
    → Lead pieces 0 (spelled pieces) (length pieces) × AreOf pieces (length pieces) (spelled pieces)
lead_all pieces order =
    let fit = fit_rest pieces pieces 0 [] [] (fit_none pieces)
    (λ k one is. let same : k ≡ 0 + k = omega arith in ap (slice_get pieces) (sym same) ∙ is) in
    let last = length pieces - 1 in
    let lead =
    lead_at pieces fit.0 (through_behind [] pieces) (spelled_behind [] pieces) fit.1 last 0 (length pieces) order in (
      lead.0,
      of_more pieces (suc last) (length pieces) (spelled pieces) (omega (arith, lead.1)) (fit.1.below last),
    )

none_seen : (pieces : List Piece) → AreSeen pieces 0 []
none_seen pieces k one less at = absurd (omega (arith, less))

-- each hop that is a piece comes
pub comes : (pieces : List Piece) → AreInOrder pieces → (n : ℕ) (one : Placed)
    → slice_get pieces n ≡ Some (piece.Hop one) → Contains (spelled pieces) (seen_placed one)
comes pieces order n one at =
    (lead_all pieces order).0.all [] (none_seen pieces) n one (slice_get_within pieces n (piece.Hop one) at) at

-- A hop that no piece up to this one is comes only behind it.
pub comes_before : (pieces : List Piece) → AreInOrder pieces → (n : ℕ) (one : Placed)
    → slice_get pieces n ≡ Some (piece.Hop one) → (is : PlacedHop → Bool)
    → ((k : ℕ) (other : Placed) → k ≤ n → slice_get pieces k ≡ Some (piece.Hop other)
    → is (seen_placed other) ≡ false)
    → (before : List PlacedHop) (hop : PlacedHop) (after : List PlacedHop)
    → spelled pieces ≡ before ++ hop ∷ after → is hop ≡ true → Contains before (seen_placed one)
comes_before pieces order n one at is none before hop after split yes_it =
    let follow = subst (Follow pieces []) split ((lead_all pieces order).0.each [] (none_seen pieces)) in
    let here = follow_at pieces [] before hop after follow in
    let its = here.2 in
    elim (cases_lt n here.0) [
      | inl low ↦ here.1 n one low at
      | inr high ↦ absurd (true≢false
          (sym yes_it ∙ ap is (sym its.4) ∙ none its.0 its.1 (omega (arith, its.2, high)) its.3))
    ]

-- each hop that comes is a piece
pub of_piece : (pieces : List Piece) → AreInOrder pieces → (hop : PlacedHop) → Contains (spelled pieces) hop
    → (n : ℕ) × (one : Placed) × (slice_get pieces n ≡ Some (piece.Hop one)) × (seen_placed one ≡ hop)
of_piece pieces order hop has =
    let is = (lead_all pieces order).1 hop has in
    (is.0, is.1, is.3, is.4)
