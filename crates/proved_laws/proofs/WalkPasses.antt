-- No walk passes a mark more often than the most.
use Rattle.std.proofs.Common.{◌≡◌, ℕ, ◌+◌, ◌<◌, ◌≤◌, Bool, true, false, cond, List, [], ◌∷◌, ◌++◌, length, Option, Some, None}
use Rattle.std.proofs.Common.{refl, ap, sym, ◌∙◌, subst, arith}
use Rattle.std.specs.Prelude.{nat_eq}
use Rattle.std.specs.Option.{option_eq}
use Rattle.std.proofs.lemmas.Bool.{eqb-true, false≢true, eq-eqb}
use Rattle.std.proofs.lemmas.List.Sums.{sum_by-cons}
use Rattle.base_notes.specs.declared.notes.mark.Mark.{Mark}
use Rattle.base_notes.specs.Allowed.{StandInEarlier}
use Rattle.base_notes.specs.Marks.{mark_on}
use Rattle.machine_steps.specs.Counts.{after_pass, AreWithin, is_inside, no_counts, passed_from}
use Rattle.machine_steps.specs.Since.{Edge, passes_of}
use Rattle.machine_steps.specs.Ways.{Way, early, to, late}
use Rattle.flow_graph.specs.MostPasses.{most_passes}
use Rattle.flow_graph.specs.Walk.{edge_taken, edges_taken}
use Rattle.flow_graph.specs.Walk.{FollowHop, IsWalk, IsWalkFrom, Setting, Taken}
use Rattle.flow_graph.proofs.PassLaws.{no_counts_within, told, told_most, other_pass, outer_pass, own_pass}

module _ (marks : List Mark) (nested : StandInEarlier 0 marks) (k : ℕ) (below : k < length marks) where
  -- a step that passes the mark raises the number that counts stand for, and no step lowers it
  step_told : (counts : List ℕ) (from onto : ℕ) → AreWithin marks counts
      → told marks nested k 0 marks counts
      + cond (option_eq nat_eq (mark_on marks from onto) (Some k)) 1 0
      ≤ told marks nested k 0 marks (after_pass marks from onto counts)
  step_told counts from onto within = go (mark_on marks from onto)
    where
      passed : (m : ℕ) → (own : Bool) → nat_eq m k ≡ own → (inside : Bool) → is_inside marks k m ≡ inside
          → told marks nested k 0 marks counts + cond own 1 0
          ≤ told marks nested k 0 marks (passed_from marks m 0 counts)
      passed m true is inside in_it =
          subst (λ (n : ℕ). told marks nested k 0 marks counts + 1 ≤ told marks nested k 0 marks (passed_from marks n 0 counts))
          (sym (eqb-true m k is)) (own_pass marks nested k 0 marks counts within (omega arith) (omega (arith, below)))
      passed m false is true in_it =
          omega (arith, outer_pass marks nested k m in_it 0 marks counts within (omega arith))
      passed m false is false in_it =
          omega (
            arith,
            other_pass marks nested k m (λ same. false≢true (sym is ∙ eq-eqb m k same)) in_it 0 marks counts,
          )

      go : (found : Option ℕ)
          → told marks nested k 0 marks counts + cond (option_eq nat_eq found (Some k)) 1 0
          ≤ told marks nested k 0 marks
          (elim found [ None ↦ counts | Some m ↦ passed_from marks m 0 counts ])
      go None = omega arith
      go (Some m) = passed m (nat_eq m k) refl (is_inside marks k m) refl

-- from counts on, a walk passes the mark no more often than they leave
walk_told : (g : Setting) (nested : StandInEarlier 0 g.notes.marks) (k : ℕ) → k < length g.notes.marks
    → (angle place time : ℕ) (counts : List ℕ) (hops : List Taken) → AreWithin g.notes.marks counts
    → IsWalkFrom g angle place time counts hops
    → told g.notes.marks nested k 0 g.notes.marks counts + passes_of g.notes.marks k (edges_taken hops)
    ≤ most_passes g.notes.marks k
walk_told g nested k below angle place time counts [] within walk =
    omega (arith, told_most g.notes.marks nested k 0 g.notes.marks counts within)
walk_told g nested k below angle place time counts (hop ∷ hops) within walk =
    by (λ at from so_far. walk_told g nested k below angle at from so_far hops) hop.way refl walk.1
  where
    marks : List Mark
    marks = g.notes.marks

    Right : ℕ → Type 0
    Right next = AreWithin marks (after_pass marks place next counts)
        × IsWalkFrom g angle next hop.ended (after_pass marks place next counts) hops

    stops : (way : Way) → hop.way ≡ way → edge_taken hop.place way ≡ [] → hops ≡ []
        → told marks nested k 0 marks counts + passes_of marks k (edges_taken (hop ∷ hops)) ≤ most_passes marks k
    stops way is none last =
        let edges : edges_taken (hop ∷ hops) ≡ [] =
        ap (λ (w : Way). edge_taken hop.place w ++ edges_taken hops) is
        ∙ ap (λ (some : List Edge). some ++ edges_taken hops) none ∙ ap (λ (more : List Taken). edges_taken more) last in
        omega (arith, told_most marks nested k 0 marks counts within, ap (passes_of marks k) edges)

    Bounded : ℕ → ℕ → List ℕ → Type 0
    Bounded at from so_far = AreWithin marks so_far → IsWalkFrom g angle at from so_far hops
        → told marks nested k 0 marks so_far + passes_of marks k (edges_taken hops) ≤ most_passes marks k

    by : ((at from : ℕ) (so_far : List ℕ) → Bounded at from so_far) → (way : Way) → hop.way ≡ way → FollowHop way Right hops
        → told marks nested k 0 marks counts + passes_of marks k (edges_taken (hop ∷ hops)) ≤ most_passes marks k
    by further early is last = stops early is refl last
    by further (to next) is rest =
        let edge : Edge = record { from = hop.place; onto = next } in
        let edges : edges_taken (hop ∷ hops) ≡ edge ∷ edges_taken hops =
        ap (λ (w : Way). edge_taken hop.place w ++ edges_taken hops) is in
        let more : passes_of marks k (edge ∷ edges_taken hops)
        ≡ cond (option_eq nat_eq (mark_on marks hop.place next) (Some k)) 1 0
        + passes_of marks k (edges_taken hops) =
        sum_by-cons (λ (e : Edge). cond (option_eq nat_eq (mark_on marks e.from e.onto) (Some k)) 1 0) edge
        (edges_taken hops) in
        let step : told marks nested k 0 marks counts
        + cond (option_eq nat_eq (mark_on marks hop.place next) (Some k)) 1 0
        ≤ told marks nested k 0 marks (after_pass marks place next counts) =
        subst (λ (n : ℕ). told marks nested k 0 marks counts
        + cond (option_eq nat_eq (mark_on marks n next) (Some k)) 1 0
        ≤ told marks nested k 0 marks (after_pass marks place next counts)) (sym walk.0.here)
        (step_told marks nested k below counts place next within) in
        omega (
          arith,
          step,
          ap (passes_of marks k) edges ∙ more,
          further next hop.ended (after_pass marks place next counts) rest.0 rest.1,
        )
    by further late is last = stops late is refl last

-- A walk passes the mark no more often than the most.
pub walk_passes : (g : Setting) (angle k : ℕ) (hops : List Taken) → StandInEarlier 0 g.notes.marks
    → k < length g.notes.marks → IsWalk g angle hops
    → passes_of g.notes.marks k (edges_taken hops) ≤ most_passes g.notes.marks k
walk_passes g angle k hops nested below walk =
    omega (
      arith,
      walk_told g nested k below angle g.start 0 (no_counts g.notes.marks) hops (no_counts_within g.notes.marks)
          walk.from_start,
    )
