-- Each hop that goes on leads to a later key.
use Rattle.std.proofs.Common.{◌≡◌, ℕ, zero, suc, ◌*◌, ◌/◌, ◌%◌, ◌<◌, ◌≤◌, List, [], ◌∷◌, length, get_or, refl, ap, sym}
use Rattle.std.proofs.Common.{◌∙◌, subst, Option, Some, None, arith}
use Rattle.std.specs.Prelude.{IsNone, Contains}
use Rattle.std.proofs.Math.Nat.{mul-le-mul_left, div-add-mod, mod-lt}
use Rattle.base_notes.specs.Marks.{mark_on}
use Rattle.machine_steps.specs.Counts.{after_pass, AreWithin}
use Rattle.machine_steps.specs.Ways.{Way, to}
use Rattle.base_graphs.specs.Graph.{AreDifferent, GoOn}
use Rattle.base_graphs.proofs.Lists.{contains_there}
use Rattle.flow_graph.specs.Accepted.{IsFree}
use Rattle.flow_graph.specs.Hops.{Hop, hops, IsEdge}
use Rattle.flow_graph.specs.Passes.{leading, pass_raises}
use Rattle.flow_graph.specs.Walk.{Setting}
use Rattle.bound_scan.specs.Keys.{keys_of, place_at, counts_at, IsKey, IsOrdered}
use Rattle.bound_scan.proofs.KeyLaws.{some_places, counts_within, leading_at}
use Rattle.bound_scan.specs.Scanned.{LeadsOn}

-- a list in which edges go on has what an edge of its leads to
goes_within : (Edge : ℕ → ℕ → Type 0) (order : List ℕ) (k next : ℕ) → GoOn Edge order → k < length order
    → Edge (get_or order k 0) next → Contains order next
goes_within Edge [] k next on inside edge = absurd (omega (arith, inside))
goes_within Edge (place ∷ order) zero next on inside edge = contains_there place next order (on.0 next edge)
goes_within Edge (place ∷ order) (suc k) next on inside edge =
    contains_there place next order (goes_within Edge order k next on.1 (omega (arith, inside)) edge)

-- and it has it later
pub goes_later : (Edge : ℕ → ℕ → Type 0) (order : List ℕ) (k next : ℕ) → GoOn Edge order → AreDifferent order
    → k < length order → next < length order
    → Edge (get_or order k 0) (get_or order next 0) → k < next
goes_later Edge [] k next on different inside there edge = absurd (omega (arith, inside))
goes_later Edge (place ∷ order) zero zero on different inside there edge = absurd (different.0 (on.0 place edge))
goes_later Edge (place ∷ order) zero (suc next) on different inside there edge = omega arith
goes_later Edge (place ∷ order) (suc k) zero on different inside there edge =
    absurd (different.0 (goes_within Edge order k place on.1 (omega (arith, inside)) edge))
goes_later Edge (place ∷ order) (suc k) (suc next) on different inside there edge =
    omega (arith, goes_later Edge order k next on.1 different.1 (omega (arith, inside)) (omega (arith, there)) edge)

-- numbers by their whole parts and rests
whole_less : (a b w : ℕ) → 0 < w → a / w < b / w → a < b
whole_less a b w some less =
    let rest : a % w < w = mod-lt a some in
    let up : w * suc (a / w) ≤ w * (b / w) = mul-le-mul_left w less in
    omega (arith, div-add-mod a w, div-add-mod b w, rest, up)

rest_less : (a b w : ℕ) → a / w ≡ b / w → a % w < b % w → a < b
rest_less a b w same less =
    let parts : w * (a / w) ≡ w * (b / w) = ap (λ (n : ℕ). w * n) same in
    omega (arith, div-add-mod a w, div-add-mod b w, less, parts)

module _ (g : Setting) (order : List ℕ) (ordered : IsOrdered g.loads g.notes g.start order) where
  -- A hop of a key, to a location and counts that are within what the marks allow, leads on to the key of these.
  pub leads_on : (from : ℕ) (hop : Hop) (key next : ℕ) → from < keys_of g.notes.marks order
      → Contains (hops g.loads g.notes (place_at order from)) hop → hop.way ≡ to next
      → IsKey g.notes.marks order key next
      (after_pass g.notes.marks (place_at order from) next (counts_at g.notes.marks order from))
      → AreWithin g.notes.marks
      (after_pass g.notes.marks (place_at order from) next (counts_at g.notes.marks order from))
      → LeadsOn g order from hop key
  leads_on from hop key next below has goes is within = record {
    onto = goes ∙ ap to (sym is.at);
    within = subst (AreWithin g.notes.marks) (sym is.passed) within;
    passed = is.passed ∙ ap
        (λ (p : ℕ). after_pass g.notes.marks (place_at order from) p (counts_at g.notes.marks order from)) (sym is.at);
    below = is.below;
    later = go (mark_on g.notes.marks (place_at order from) next) refl;
  }
    where
      some : 0 < length order
      some = some_places g.notes.marks order from below

      edge : IsEdge g.loads g.notes (place_at order from) next
      edge = (
        hop.ins,
        subst
            (λ (w : Way). Contains (hops g.loads g.notes (place_at order from)) (record { ins = hop.ins; way = w }))
            goes
            has,
      )

      go : (mark : Option ℕ) → mark_on g.notes.marks (place_at order from) next ≡ mark → from < key
      go None none =
          let free : IsFree g.loads g.notes (place_at order from) next = (edge, none_is none) in
          let free_at : IsFree g.loads g.notes (place_at order from) (place_at order key) =
          subst (λ (p : ℕ). IsFree g.loads g.notes (place_at order from) p) (sym is.at) free in
          let later : from % length order < key % length order =
          goes_later (IsFree g.loads g.notes) order (from % length order) (key % length order) ordered.onward
          ordered.different (mod-lt from some) (mod-lt key some) free_at in
          let stays : counts_at g.notes.marks order key ≡ counts_at g.notes.marks order from =
          is.passed ∙ unmarked (place_at order from) next (counts_at g.notes.marks order from) none in
          let same : from / length order ≡ key / length order =
          sym (leading_at g.notes.marks order from below) ∙ ap (leading g.notes.marks) (sym stays)
          ∙ leading_at g.notes.marks order key is.below in
          rest_less from key (length order) same later
        where
          none_is : mark_on g.notes.marks (place_at order from) next ≡ None
              → IsNone (mark_on g.notes.marks (place_at order from) next)
          none_is e = subst (λ (m : Option ℕ). IsNone m) (sym e) refl

          unmarked : (a b : ℕ) (counts : List ℕ) → mark_on g.notes.marks a b ≡ None
              → after_pass g.notes.marks a b counts ≡ counts
          unmarked a b counts e = rw (e, after_pass) refl
      go (Some mark) found =
          let raised : leading g.notes.marks (counts_at g.notes.marks order from)
          < leading g.notes.marks
          (after_pass g.notes.marks (place_at order from) next (counts_at g.notes.marks order from)) =
          pass_raises g.notes.marks (counts_at g.notes.marks order from) (place_at order from) next mark
          ordered.sound.nested (counts_within g.notes.marks order from below) found in
          let number : leading g.notes.marks
          (after_pass g.notes.marks (place_at order from) next (counts_at g.notes.marks order from))
          ≡ key / length order =
          ap (leading g.notes.marks) (sym is.passed) ∙ leading_at g.notes.marks order key is.below in
          whole_less from key (length order) some
          (omega (arith, raised, number, leading_at g.notes.marks order from below))
