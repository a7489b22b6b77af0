-- Walks of one hop: which hops of the start are such, and that none takes longer than from the angle behind the start's.
use Rattle.std.proofs.Common.{◌≡◌, ℕ, zero, suc, ◌+◌, ◌-◌, ◌%◌, ◌<◌, ◌≤◌, List, [], ◌∷◌, ◌++◌, map}
use Rattle.std.proofs.Common.{refl, ap, sym, ◌∙◌, subst, arith, Bool, true, false, Option, Some, None, ◌⊎◌, inl, inr}
use Rattle.std.specs.Prelude.{slice_index, sum_by, is_some, Contains, IfSome, MatchBool, MatchOption}
use Rattle.std.proofs.lemmas.List.{length-map}
use Rattle.base_notes.specs.declared.notes.mark.Mark.{Mark}
use Rattle.machine_steps.specs.declared.counts.Counts.{Counts}
use Rattle.machine_steps.specs.Calls.{none_open, GoBack, MayGo}
use Rattle.machine_steps.specs.Counts.{after_pass, no_counts, AreWithin}
use Rattle.machine_steps.specs.CountsIn.{counts_in}
use Rattle.machine_steps.specs.Since.{passes_of}
use Rattle.machine_steps.specs.Timing.{found}
use Rattle.machine_steps.specs.Ways.{Way, early, to, late}
use Rattle.machine_steps.specs.WaysLeft.{seen_way}
use Rattle.base_graphs.proofs.Lists.{contains_cases, contains_none, contains_there}
use Rattle.flow_graph.specs.Hops.{edge_between, hops, Hop}
use Rattle.flow_graph.specs.Longest.{longest}
use Rattle.flow_graph.specs.Profile.{MayEnd}
use Rattle.flow_graph.specs.Walk.{edge_taken, FollowHop, IsWalk, IsWalkFrom, Setting, Taken}
use Rattle.flow_graph.proofs.FromAngles.{found_angle, leap_time}
use Rattle.flow_graph.proofs.LongestLaws.{first_fetch, first_fetch_behind, longest_from_found, no_later}
use Rattle.flow_graph.proofs.Profiles.{hop_may_end}
use Rattle.flow_walks.specs.declared.piece.Piece.{Piece}
use Rattle.flow_walks.specs.declared.piece.Piece.TheVariants as piece
use Rattle.flow_walks.specs.declared.piece.Placed.{Placed}
use Rattle.flow_walks.specs.Pieces.{seen_placed, spelled_of, PlacedHop}
use Rattle.ceiling_rows.specs.Marked.{mark_by}
use Rattle.ceiling_rounds.specs.Change.{passes_by}
use Rattle.ceiling_rounds.specs.InRounds.{takes, AreTold, SpellOut}
use Rattle.ceiling_rounds.specs.FirstHop.{first_placed, AreNoLonger, IsFirst, MayBegin}
use Rattle.ceiling_rounds.specs.OneHop.{NoWalkOfOneHopTakesLonger}
use Rattle.ceiling_rounds.specs.Stretch.{changes_by, edges_placed, laid, laid_one}
use Rattle.ceiling_rounds.proofs.Comings.{hop_passes, timed}
use Rattle.ceiling_rounds.proofs.CountLaws.{long_by}
use Rattle.ceiling_rounds.proofs.LaidLaws.{edges_laid, longest_laid}
use Rattle.ceiling_rounds.proofs.Wholes.{told_at}

-- a hop of the start with which a walk may begin is one
module _ (g : Setting) (hop : Hop) (there : Contains (hops g.loads g.notes g.start) hop) (may : MayBegin g hop.way)
  where
    abbrev behind : ℕ
    behind = (g.start + 1) % 50

    abbrev its : Taken
    its = laid_one g behind 0 (first_placed g hop)

    follows : (way : Way) → MayBegin g way → FollowHop way (λ next.
        let passed = after_pass g.notes.marks g.start next (no_counts g.notes.marks) in
        AreWithin g.notes.marks passed × IsWalkFrom g behind next its.ended passed []) []
    follows early begins = refl
    follows (to next) begins = (begins.1, tt)
    follows late begins = refl

    back : (way : Way) → MayBegin g way
        → GoBack g.notes.calls (none_open g.notes.calls) (edge_taken g.start way ++ [])
    back early begins = tt
    back (to next) begins = (begins.0, tt)
    back late begins = tt

    first_walk : IsWalk g behind (its ∷ [])
    first_walk = record {
      on_drum = omega arith;
      from_start = (
        record {
          here = refl;
          allowed = there;
          begins = refl;
          timed = timed g g.start behind hop.ins (omega arith) 0 [] hop.way there behind 0;
        },
        follows hop.way may,
      );
      back = back hop.way may;
    }

-- so it is spelled out by itself alone
module _ (g : Setting) (one : Placed) (first : IsFirst g (seen_placed one)) where
  abbrev seen : PlacedHop
  seen = seen_placed one

  abbrev its_passes : List ℕ
  its_passes = map passes_by (changes_by g.notes.marks (mark_by g.notes.marks seen.place seen.hop.way) 0 g.notes.marks)

  at_angle : seen.angle + 0 ≡ seen.angle
  at_angle = omega arith

  on_its_angle : (seen.angle + 0) % 50 ≡ seen.angle
  on_its_angle = omega (arith, one.on_drum)

  pub one_spells : SpellOut g one.angle (piece.Hop one ∷ []) its_passes (takes g.times seen)
  one_spells = record {
    order = refl;
    hops = laid g one.angle 0 (seen ∷ []);
    same =
        ap (λ (a : ℕ). record { place = seen.place; angle = a; hop = seen.hop } ∷ []) on_its_angle;
    walk =
        subst (λ (o : PlacedHop). IsWalk g o.angle (laid_one g o.angle 0 o ∷ [])) first.placed
        (first_walk g seen.hop first.there first.may);
    longest = longest_laid g one.angle 0 (seen ∷ []);
    time = ap (λ (c : ℕ). longest g.times seen.place seen.hop.ins seen.hop.way c - seen.angle) at_angle;
    each = length-map _ passes_by ∙ long_by g.notes.marks (mark_by g.notes.marks seen.place seen.hop.way) 0 g.notes.marks;
    passed = λ index less.
        told_at passes_by (changes_by g.notes.marks (mark_by g.notes.marks seen.place seen.hop.way) 0 g.notes.marks)
        (λ k. passes_of g.notes.marks k (edges_placed (seen ∷ []))) 0
        (λ k change there.
        let same : k ≡ 0 + k = omega arith in
        hop_passes g seen.place seen.angle seen.hop.ins one.on_drum 0 [] seen.hop.way k change there
        ∙ ap (λ (n : ℕ). passes_of g.notes.marks n (edges_placed (seen ∷ []))) same)
        index
        (omega (arith, less, long_by g.notes.marks (mark_by g.notes.marks seen.place seen.hop.way) 0 g.notes.marks))
        ∙ ap (λ (n : ℕ). passes_of g.notes.marks n (edges_placed (seen ∷ []))) (zero_first index)
        ∙ ap (passes_of g.notes.marks index) (sym (edges_laid g one.angle 0 (seen ∷ [])));
  }
    where
      zero_first : (n : ℕ) → 0 + n ≡ n
      zero_first n = omega arith

  pub one_told : AreTold g.times (piece.Hop one ∷ []) (takes g.times seen ∷ []) (1 ∷ [])
  one_told = record {
    each = (refl, refl);
    lasts = lasts;
    adds = λ what. omega arith;
    finite = omega arith;
    few = omega arith;
  }
    where
      lasts : (number : ℕ) → number < 1
          → slice_index (takes g.times seen ∷ []) number ≡ sum_by (takes g.times) (spelled_of (piece.Hop one ∷ []) number)
      lasts zero less = omega arith
      lasts (suc number) less = absurd (omega (arith, less))

-- what is made of these is such a walk
pub alone_right : (g : Setting) (one : Placed) → IsFirst g (seen_placed one)
    → (pieces : List Piece) (passes : List ℕ) (total : ℕ) (lasting often : List ℕ) → pieces ≡ piece.Hop one ∷ []
    → passes ≡ map passes_by (changes_by g.notes.marks
    (mark_by g.notes.marks one.location.number (seen_way one.hop.way)) 0 g.notes.marks)
    → total ≡ takes g.times (seen_placed one) → lasting ≡ total ∷ [] → often ≡ 1 ∷ []
    → SpellOut g one.angle pieces passes total × AreTold g.times pieces lasting often
alone_right g one first pieces passes total lasting often is passed took lasts comes = (
  subst (SpellOut g one.angle pieces passes) (sym took)
      (subst (λ (ps : List ℕ). SpellOut g one.angle pieces ps (takes g.times (seen_placed one))) (sym passed)
      (subst (λ (ps : List Piece). SpellOut g one.angle ps (its_passes g one first) (takes g.times (seen_placed one)))
      (sym is) (one_spells g one first))),
  subst (AreTold g.times pieces lasting) (sym comes)
      (subst (λ (ts : List ℕ). AreTold g.times pieces ts (1 ∷ []))
      (ap (λ (t : ℕ). t ∷ []) (sym took) ∙ sym lasts)
      (subst (λ (ps : List Piece). AreTold g.times ps (takes g.times (seen_placed one) ∷ []) (1 ∷ [])) (sym is)
      (one_told g one first))),
)

-- how long the hop of a location takes, as it is worked out
pub takes_so_long : (g : Setting) (one : Placed) (hop : Hop) (time : ℕ) → seen_placed one ≡ first_placed g hop
    → Contains (hops g.loads g.notes g.start) hop
    → (MayEnd one.hop.instruction (seen_way one.hop.way) → one.angle + time
    ≡ longest g.times one.location.number one.hop.instruction (seen_way one.hop.way) one.angle)
    → takes g.times (seen_placed one) ≡ time
takes_so_long g one hop time is there value =
    let may : MayEnd one.hop.instruction (seen_way one.hop.way) =
    subst (λ (placed : PlacedHop). MayEnd placed.hop.ins placed.hop.way) (sym is)
    (hop_may_end g.loads g.notes g.start hop.ins hop.way there) in
    omega (arith, value may)

-- a walk of one hop is such a hop
one_begins : (g : Setting) (angle : ℕ) (hop : Taken) → IsWalk g angle (hop ∷ []) → MayBegin g hop.way
one_begins g angle hop walk =
    go hop.way walk.from_start.1
    (subst (λ (place : ℕ). GoBack g.notes.calls (none_open g.notes.calls) (edge_taken place hop.way ++ []))
    walk.from_start.0.here walk.back)
  where
    go : (way : Way) → FollowHop way (λ next.
        let passed = after_pass g.notes.marks g.start next (no_counts g.notes.marks) in
        AreWithin g.notes.marks passed × IsWalkFrom g angle next hop.ended passed []) []
        → GoBack g.notes.calls (none_open g.notes.calls) (edge_taken g.start way ++ []) → MayBegin g way
    go early follows back = tt
    go (to next) follows back = (back.0, follows.0)
    go late follows back = tt

-- and takes no longer than from the angle behind the start's
one_time : (g : Setting) (angle : ℕ) (hop : Taken) → g.start < 2000 → IsWalk g angle (hop ∷ [])
    → hop.ended ≤ takes g.times (first_placed g (record { ins = hop.ins; way = hop.way }))
one_time g angle hop starts walk =
    let here = walk.from_start.0 in
    let ends = longest g.times g.start hop.ins hop.way in
    let may = hop_may_end g.loads g.notes g.start hop.ins hop.way here.allowed in
    let behind = (g.start + 1) % 50 in
    let fetched = found g.start in
    let earlier = first_fetch g.start angle starts walk.on_drum in
    let at : fetched angle % 50 ≡ g.start % 50 = found_angle g.start angle starts in
    let last_at : fetched behind % 50 ≡ g.start % 50 = found_angle g.start behind starts in
    let own : ends (fetched angle) ≡ ends angle = longest_from_found g.times g.start hop.ins hop.way angle may.0 may.1 in
    let last : ends (fetched behind) ≡ ends behind =
    longest_from_found g.times g.start hop.ins hop.way behind may.0 may.1 in
    let took : ends (fetched angle) ≡ fetched angle + (ends (g.start % 50) - g.start % 50) =
    leap_time g.times g.start hop.ins hop.way (g.start % 50) (fetched angle) (omega arith) at in
    let longest_took : ends (fetched behind) ≡ fetched behind + (ends (g.start % 50) - g.start % 50) =
    leap_time g.times g.start hop.ins hop.way (g.start % 50) (fetched behind) (omega arith) last_at in
    let late : angle + hop.ended ≤ ends angle =
    subst (λ (c : ℕ). angle + hop.ended ≤ ends c) begun
    (subst (λ (place : ℕ). angle + hop.ended ≤ longest g.times place hop.ins hop.way (angle + hop.begun)) here.here
    (no_later g.times angle hop here.timed)) in
    omega (arith, late, own, last, took, longest_took, earlier.2, first_fetch_behind g.start starts)
  where
    begun : angle + hop.begun ≡ angle
    begun = omega (arith, walk.from_start.0.begins)

-- So no walk of one hop takes longer than the longest of those.
pub none_longer : (g : Setting) (most : ℕ) → g.start < 2000 → AreNoLonger g (hops g.loads g.notes g.start) most
    → NoWalkOfOneHopTakesLonger g most
none_longer g most starts are = λ angle hop walk.
    omega (
      arith,
      one_time g angle hop starts walk,
      are (record { ins = hop.ins; way = hop.way }) walk.from_start.0.allowed (one_begins g angle hop walk),
    )

-- What is known while hops are gone through: each that is left is one of the start, and each other
-- was looked at.
pub record AreLookedAt (g : Setting) (left : List Hop) (most : ℕ) : Type 0 where
  pub still : (hop : Hop) → Contains left hop → Contains (hops g.loads g.notes g.start) hop
  pub each : (hop : Hop) → Contains (hops g.loads g.notes g.start) hop
      → Contains left hop ⊎ (MayBegin g hop.way → takes g.times (first_placed g hop) ≤ most)

pub none_looked_at : (g : Setting) (left : List Hop) → left ≡ hops g.loads g.notes g.start → AreLookedAt g left 0
none_looked_at g left is = record {
  still = λ hop there. subst (λ (all : List Hop). Contains all hop) is there;
  each = λ hop there. inl (subst (λ (all : List Hop). Contains all hop) (sym is) there);
}

pub one_looked_at : (g : Setting) (left rest : List Hop) (hop : Hop) (most next : ℕ) → left ≡ hop ∷ rest
    → AreLookedAt g left most → most ≤ next → (MayBegin g hop.way → takes g.times (first_placed g hop) ≤ next)
    → AreLookedAt g rest next
one_looked_at g left rest hop most next is looked more its =
    record {
      still = λ other there.
          looked.still other
          (subst (λ (all : List Hop). Contains all other) (sym is) (contains_there hop other rest there));
      each = λ other there.
          elim (looked.each other there) [
            | inl here ↦ among other (subst (λ (all : List Hop). Contains all other) is here)
            | inr low ↦ inr (λ may. omega (arith, low may, more))
          ];
    }
  where
    among : (other : Hop) → Contains (hop ∷ rest) other
        → Contains rest other ⊎ (MayBegin g other.way → takes g.times (first_placed g other) ≤ next)
    among other there =
        elim (contains_cases hop other rest there) [
          | inl same ↦ inr
              (subst (λ (one : Hop). MayBegin g one.way → takes g.times (first_placed g one) ≤ next) same its)
          | inr behind ↦ inl behind
        ]

pub all_looked_at : (g : Setting) (left : List Hop) (most : ℕ) → left ≡ [] → AreLookedAt g left most
    → AreNoLonger g (hops g.loads g.notes g.start) most
all_looked_at g left most none looked = λ hop there may.
    elim (looked.each hop there) [
      | inl here ↦ absurd (contains_none hop (subst (λ (all : List Hop). Contains all hop) none here))
      | inr low ↦ low may
    ]

-- what it means that there are counts behind a pass
pub within_behind : (marks : List Mark) (after : List ℕ) (made : Option Counts) → true ≡ is_some made
    → IfSome made (λ counts. AreWithin marks (counts_in counts marks))
    → MatchOption made (¬ AreWithin marks after) (λ counts. counts_in counts marks ≡ after) → AreWithin marks after
within_behind marks after None some within are = cc
within_behind marks after (Some counts) some within are = subst (AreWithin marks) are within

-- whether a walk may begin with a hop that goes on, by whether a step may go there
pub may_by : (g : Setting) (next : ℕ) (way : Way) (goes : Bool) → way ≡ to next
    → AreWithin g.notes.marks (after_pass g.notes.marks g.start next (no_counts g.notes.marks))
    → (let may = MayGo g.notes.calls (none_open g.notes.calls) (edge_between g.start next) in MatchBool goes may (¬ may))
    → MatchBool goes (MayBegin g way) (¬ MayBegin g way)
may_by g next way true is within go = subst (MayBegin g) (sym is) (go, within)
may_by g next way false is within go =
    λ may.
    let both = subst (MayBegin g) is may in go both.0
