-- A law of walks: their start angle, hops, units and waits determine their times.
use Rattle.std.proofs.Common.{◌≡◌, ℕ, ◌+◌, List, [], ◌∷◌, Option, Some, None, refl, ap, sym, ◌∙◌}
use Rattle.std.proofs.Common.{subst, arith}
use Rattle.base_words.specs.declared.instruction.Instruction.{Instruction}
use Rattle.base_words.specs.declared.op.Op.{Op}
use Rattle.base_words.specs.Op.{op_of}
use Rattle.machine_steps.specs.Counts.{after_pass, AreWithin}
use Rattle.machine_steps.specs.Ways.{Way, early, to, late}
use Rattle.flow_graph.specs.Walk.{Setting, Taken, IsTimed, IsWalkFrom, IsWalk, FollowHop, end_by}
use Rattle.flow_graph.specs.Walk.{time_from, time_of}

-- two hops are alike but for their times
pub record Alike (a b : Taken) : Type 0 where
  pub place : a.place ≡ b.place
  pub ins : a.ins ≡ b.ins
  pub way : a.way ≡ b.way
  pub units : a.units ≡ b.units
  pub wait : a.wait ≡ b.wait

abbrev pub AreAlike : List Taken → List Taken → Type 0
AreAlike [] [] = Unit {0}
AreAlike (a ∷ more) (b ∷ others) = Alike a b × AreAlike more others
AreAlike [] (b ∷ others) = ⊥
AreAlike (a ∷ more) [] = ⊥

-- hops that are alike and begin alike end alike
ended_alike : (g : Setting) (angle : ℕ) (a b : Taken) → Alike a b → a.begun ≡ b.begun
    → (op : Option Op) → IsTimed g.times angle a op → IsTimed g.times angle b op → a.ended ≡ b.ended
ended_alike g angle a b alike begun None p q = absurd p
ended_alike g angle a b alike begun (Some op) p q =
    let same : end_by a.way (g.times op) op a.ins.d a.place a.units a.wait (angle + a.begun)
    ≡ end_by b.way (g.times op) op b.ins.d b.place b.units b.wait (angle + b.begun) =
    rw (alike.way, alike.ins, alike.place, alike.units, alike.wait, begun) refl in
    omega (arith, p.2, q.2, same)

-- and so do the hops that follow them
follow_alike : (way : Way) (ended ended' : ℕ) (Right Right' : ℕ → Type 0) (more others : List Taken)
    → ended ≡ ended'
    → ((next : ℕ) → Right next → Right' next → time_from ended more ≡ time_from ended' others)
    → FollowHop way Right more → FollowHop way Right' others
    → time_from ended more ≡ time_from ended' others
follow_alike early ended ended' Right Right' more others same next p q = ap (time_from ended) p
    ∙ same ∙ sym (ap (time_from ended') q)
follow_alike (to target) ended ended' Right Right' more others same next p q = next target p q
follow_alike late ended ended' Right Right' more others same next p q = ap (time_from ended) p
    ∙ same ∙ sym (ap (time_from ended') q)

pub time_alike : (g : Setting) (angle place time : ℕ) (counts : List ℕ) (hops others : List Taken)
    → AreAlike hops others
    → IsWalkFrom g angle place time counts hops → IsWalkFrom g angle place time counts others
    → time_from time hops ≡ time_from time others
time_alike g angle place time counts [] [] alike p q = refl
time_alike g angle place time counts [] (b ∷ others) alike p q = absurd alike
time_alike g angle place time counts (a ∷ more) [] alike p q = absurd alike
time_alike g angle place time counts (a ∷ more) (b ∷ others) alike p q =
    let timed : IsTimed g.times angle b (op_of a.ins.op) =
    subst (λ (i : Instruction). IsTimed g.times angle b (op_of i.op))
    (sym alike.0.ins) q.0.timed in
    let same : a.ended ≡ b.ended = ended_alike g angle a b alike.0 (p.0.begins
    ∙ sym q.0.begins) (op_of a.ins.op) p.0.timed timed in
    let RightOf : Taken → List Taken → ℕ → Type 0 = λ hop hops next.
    AreWithin g.notes.marks (after_pass g.notes.marks place next counts)
    × IsWalkFrom g angle next hop.ended (after_pass g.notes.marks place next counts) hops in
    follow_alike b.way a.ended b.ended (RightOf a more) (RightOf b others) more others same
    (λ next pa pb.
    let moved : IsWalkFrom g angle next a.ended
    (after_pass g.notes.marks place next counts) others =
    subst (λ (t : ℕ). IsWalkFrom g angle next t
    (after_pass g.notes.marks place next counts) others) (sym same) pb.1 in
    time_alike g angle next a.ended (after_pass g.notes.marks place next counts) more others alike.1
    pa.1 moved ∙ ap (λ (t : ℕ). time_from t others) same)
    (subst (λ (w : Way). FollowHop w (RightOf a more) more) alike.0.way p.1) q.1

-- the time of a walk follows from its hops, its units and its waits
pub time_of_alike : (g : Setting) (angle : ℕ) (hops others : List Taken) → AreAlike hops others
    → IsWalk g angle hops → IsWalk g angle others → time_of hops ≡ time_of others
time_of_alike g angle hops others alike p q =
    time_alike g angle g.start 0 _ hops others alike p.from_start q.from_start
