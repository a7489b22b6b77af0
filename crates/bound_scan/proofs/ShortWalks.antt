-- No walk has more hops than there are keys.
use Rattle.std.proofs.Common.{◌≡◌, ℕ, ◌+◌, ◌*◌, ◌<◌, ◌≤◌, List, [], ◌∷◌, length, refl, ap, sym, subst, arith}
use Rattle.std.specs.Prelude.{Contains}
use Rattle.base_notes.specs.declared.notes.mark.Mark.{Mark}
use Rattle.machine_steps.specs.Counts.{after_pass, no_counts, AreWithin}
use Rattle.machine_steps.specs.Ways.{Way, early, to, late}
use Rattle.base_graphs.proofs.Lists.{contains_at}
use Rattle.flow_graph.specs.Hops.{hops, IsEdge}
use Rattle.flow_graph.specs.Passes.{leading}
use Rattle.flow_graph.specs.Walk.{Setting, Taken, FollowHop, IsWalkFrom, IsWalk}
use Rattle.flow_graph.proofs.PassLaws.{no_counts_within}
use Rattle.bound_scan.proofs.KeyLaws.{place_there}
use Rattle.bound_scan.specs.Keys.{keys_of, place_at, counts_at, IsKey, IsOrdered}
use Rattle.bound_scan.proofs.Onward.{leads_on}
use Rattle.bound_scan.proofs.Nodes.{key_of_place}
use Rattle.bound_scan.proofs.Unpassed.{hop_of}

-- a location of the order and counts within what the marks allow have a key
key_there : (marks : List Mark) (order : List ℕ) (place : ℕ) (counts : List ℕ) → Contains order place
    → AreWithin marks counts
    → (key : ℕ) × IsKey marks order key place counts
key_there marks order place counts has within =
    let at = contains_at order place has in
    (leading marks counts * length order + at.0, key_of_place marks order counts at.0 place within at.1)

module _ (g : Setting) (order : List ℕ) (ordered : IsOrdered g.loads g.notes g.start order) where
  -- hops from a key on are no more than the keys from it on
  abbrev AreShortFrom : ℕ → ℕ → List Taken → Type 0
  AreShortFrom angle time more =
      (key : ℕ) → key < keys_of g.notes.marks order
      → IsWalkFrom g angle (place_at order key) time (counts_at g.notes.marks order key) more
      → key + length more ≤ keys_of g.notes.marks order

  -- a hop leads to a later key or stops, so there is one key more for it
  short_on : (angle time : ℕ) (hop : Taken) (more : List Taken) → AreShortFrom angle hop.ended more
      → AreShortFrom angle time (hop ∷ more)
  short_on angle time hop more further key below walk = go hop.way refl walk.1
    where
      passed : ℕ → List ℕ
      passed next = after_pass g.notes.marks (place_at order key) next (counts_at g.notes.marks order key)

      go : (way : Way) → hop.way ≡ way
          → FollowHop way (λ next. AreWithin g.notes.marks (passed next)
          × IsWalkFrom g angle next hop.ended (passed next) more) more
          → key + length (hop ∷ more) ≤ keys_of g.notes.marks order
      go early way none = omega (arith, below, ap length none)
      go (to next) way on =
          let edge : IsEdge g.loads g.notes (place_at order key) next = (
            hop.ins,
            subst (λ (w : Way).
                Contains (hops g.loads g.notes (place_at order key)) (record { ins = hop.ins; way = w })) way
                walk.0.allowed,
          ) in
          let there : Contains order next =
          ordered.closed (place_at order key) next (place_there g.notes.marks order key below) edge in
          let onto = key_there g.notes.marks order next (passed next) there on.0 in
          let leads = leads_on g order ordered key (hop_of hop) onto.0 next below walk.0.allowed way onto.1 on.0 in
          let at_place : IsWalkFrom g angle (place_at order onto.0) hop.ended (passed next) more =
          subst (λ (place : ℕ). IsWalkFrom g angle place hop.ended (passed next) more) (sym onto.1.at) on.1 in
          let at_key : IsWalkFrom g angle (place_at order onto.0) hop.ended (counts_at g.notes.marks order onto.0) more
          =
          subst (λ (counts : List ℕ). IsWalkFrom g angle (place_at order onto.0) hop.ended counts more)
          (sym onto.1.passed) at_place in
          omega (arith, leads.later, further onto.0 onto.1.below at_key)
      go late way none = omega (arith, below, ap length none)

  -- so all hops from a key on are that short
  short_from : (angle time : ℕ) (more : List Taken) → AreShortFrom angle time more
  short_from angle time [] key below walk = omega (arith, below)
  short_from angle time (hop ∷ more) key below walk =
      short_on angle time hop more (short_from angle hop.ended more) key below walk

  -- No walk, from whatever angle, has more hops than there are keys.
  pub short_walk : (angle : ℕ) (hops : List Taken) → IsWalk g angle hops → length hops ≤ keys_of g.notes.marks order
  short_walk angle hops walk =
      let none : List ℕ = no_counts g.notes.marks in
      let first = key_there g.notes.marks order g.start none ordered.starts (no_counts_within g.notes.marks) in
      let at_place : IsWalkFrom g angle (place_at order first.0) 0 none hops =
      subst (λ (place : ℕ). IsWalkFrom g angle place 0 none hops) (sym first.1.at) walk.from_start in
      let at_key : IsWalkFrom g angle (place_at order first.0) 0 (counts_at g.notes.marks order first.0) hops =
      subst (λ (counts : List ℕ). IsWalkFrom g angle (place_at order first.0) 0 counts hops) (sym first.1.passed)
      at_place in
      omega (arith, short_from angle 0 hops first.0 first.1.below at_key)
