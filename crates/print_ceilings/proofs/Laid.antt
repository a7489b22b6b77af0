-- The hops of a walk beside those that its pieces spell out.
use Rattle.std.proofs.Common.{◌≡◌, ℕ, ◌+◌, ◌%◌, ◌≤◌, List, [], ◌∷◌, map, refl, ap, sym, ◌∙◌, subst, Some}
use Rattle.base_words.specs.declared.op.Op.{Op}
use Rattle.base_words.specs.Op.{op_of}
use Rattle.base_notes.specs.declared.entry.Entry.{Entry}
use Rattle.machine_steps.specs.Counts.{after_pass, no_counts, AreWithin}
use Rattle.flow_graph.specs.Walk.{IsWalkFrom, Setting, Taken}
use Rattle.flow_graph.specs.Longest.{longest}
use Rattle.flow_walks.specs.Visited.{visited, AreLongest, Visited}
use Rattle.flow_walks.specs.Pieces.{placed, spelled, PlacedHop}
use Rattle.ceiling_rounds.specs.declared.in_rounds.InRounds.{InRounds}
use Rattle.ceiling_rounds.specs.InRounds.{angle_of, pieces_of, takes}
use Rattle.print_hops.specs.Waits.{for_data, for_instruction, time_of}
use Rattle.print_hops.proofs.AddingUp.{follow, hop_fits}
use Rattle.print_hops.proofs.WholeFits.{known_op}
use Rattle.print_ceilings.specs.SpelledOut.{placed_visit, AreSpelledOut}
use Rattle.print_ceilings.proofs.Totals.{hop_takes}

-- A visit is this hop, begun at a time on a drum with this angle at time 0, as long as it can be.
pub record IsLaid (times : Op → Entry) (angle time : ℕ) (visit : Visited) (one : PlacedHop) : Type 0 where
  pub place : visit.place ≡ one.place
  pub ins : visit.ins ≡ one.hop.ins
  pub way : visit.way ≡ one.hop.way
  pub begun : visit.begun ≡ time
  pub at : one.angle ≡ (angle + time) % 50
  pub ended : time + takes times one ≡ visit.ended
  -- its operation is known, it takes as long as it can, and what it waits is part of that
  pub op : Op
  pub known : op_of visit.ins.op ≡ Some op
  pub longest : angle + visit.ended ≡ longest times visit.place visit.ins visit.way (angle + visit.begun)
  pub fits : for_instruction times angle visit + for_data times angle visit ≤ time_of visit

-- So are visits, one after the other.
unfoldable pub AreLaid : (Op → Entry) → ℕ → ℕ → List Visited → List PlacedHop → Type 0
AreLaid times angle time [] [] = Unit {0}
AreLaid times angle time (visit ∷ visits) (one ∷ hops) =
    IsLaid times angle time visit one × AreLaid times angle visit.ended visits hops
AreLaid times angle time [] (one ∷ hops) = ⊥
AreLaid times angle time (visit ∷ visits) [] = ⊥

from_walk : (g : Setting) (angle place time : ℕ) (counts : List ℕ) (hops : List Taken)
    → IsWalkFrom g angle place time counts hops → AreLongest g angle (map visited hops)
    → AreLaid g.times angle time (map visited hops) (map (placed_visit angle) (map visited hops))
unfolding AreLaid
from_walk g angle place time counts [] walk longest = tt
from_walk g angle place time counts (hop ∷ hops) walk longest = (
  record {
    place = refl;
    ins = refl;
    way = refl;
    begun = walk.0.begins;
    at = ap (λ (n : ℕ). (angle + n) % 50) walk.0.begins;
    ended =
        subst (λ (n : ℕ). n + takes g.times (placed angle hop) ≡ hop.ended) walk.0.begins
        (hop_takes g.times angle hop longest.0);
    op = (known_op g.times angle hop (op_of hop.ins.op) walk.0.timed).0;
    known = (known_op g.times angle hop (op_of hop.ins.op) walk.0.timed).1;
    longest = longest.0;
    fits = hop_fits g.times angle hop walk.0.timed;
  },
  follow hop.way
      (λ next. AreWithin g.notes.marks (after_pass g.notes.marks place next counts)
      × IsWalkFrom g angle next hop.ended (after_pass g.notes.marks place next counts) hops)
      (λ rest. AreLaid g.times angle hop.ended (map visited rest) (map (placed_visit angle) (map visited rest))) hops walk.1 tt
      (λ next right. from_walk g angle next hop.ended (after_pass g.notes.marks place next counts) hops right.1 longest.1),
)

-- the visits of a walk in rounds are the hops that its pieces spell out
pub are_laid : (g : Setting) (walk : InRounds) (visits : List Visited) → AreSpelledOut g walk visits
    → AreLaid g.times (angle_of walk) 0 visits (spelled (pieces_of walk))
are_laid g walk visits out =
    let angle = angle_of walk in
    subst (λ (hops : List PlacedHop). AreLaid g.times angle 0 visits hops) out.pieces
    (subst (λ (vs : List Visited). AreLaid g.times angle 0 vs (map (placed_visit angle) vs)) out.walk_of.same
    (from_walk g angle g.start 0 (no_counts g.notes.marks) out.walk_of.hops out.walk_of.walk.from_start
    (subst (AreLongest g angle) (sym out.walk_of.same) out.longest)))

-- and there are no others
one_laid : (times : Op → Entry) (angle time : ℕ) (visits others : List Visited) (hops : List PlacedHop)
    → AreLaid times angle time visits hops → AreLaid times angle time others hops → visits ≡ others
unfolding AreLaid
one_laid times angle time [] [] [] p q = refl
one_laid times angle time [] (other ∷ others) [] p q = absurd q
one_laid times angle time (visit ∷ visits) others [] p q = absurd p
one_laid times angle time [] others (hop ∷ hops) p q = absurd p
one_laid times angle time (visit ∷ visits) [] (hop ∷ hops) p q = absurd q
one_laid times angle time (visit ∷ visits) (other ∷ others) (hop ∷ hops) p q =
    let same : visit ≡ other =
    λ j. record {
      place = (p.0.place ∙ sym q.0.place) j;
      ins = (p.0.ins ∙ sym q.0.ins) j;
      way = (p.0.way ∙ sym q.0.way) j;
      begun = (p.0.begun ∙ sym q.0.begun) j;
      ended = (sym p.0.ended ∙ q.0.ended) j;
    } in
    λ j. same j ∷ one_laid times angle visit.ended visits others hops p.1
    (subst (λ (n : ℕ). AreLaid times angle n others hops) (sym (ap (λ (v : Visited). v.ended) same)) q.1) j

pub one_walk : (g : Setting) (walk : InRounds) (visits others : List Visited) → AreSpelledOut g walk visits
    → AreSpelledOut g walk others → visits ≡ others
one_walk g walk visits others p q =
    one_laid g.times (angle_of walk) 0 visits others (spelled (pieces_of walk)) (are_laid g walk visits p)
    (are_laid g walk others q)
