-- What the pieces come to, one after the other, and the last as a walk.
use Rattle.std.proofs.Common.{◌≡◌, ℕ, zero, suc, ◌+◌, ◌-◌, ◌<◌, ◌≤◌, ◌%◌, List, ◌∷◌, ◌++◌, length, take, map, get_or, []}
use Rattle.std.proofs.Common.{refl, ap, sym, ◌∙◌, subst, arith, Option, Some, None, inl, inr}
use Rattle.std.specs.Prelude.{slice_get, slice_index, sum_by}
use Rattle.std.proofs.lemmas.Bool.{cases_lt}
use Rattle.std.proofs.lemmas.List.{append-nil, length-append, length-map, take_more}
use Rattle.base_notes.specs.declared.notes.call.Call.{Call}
use Rattle.machine_steps.specs.Calls.{none_open, GoBack}
use Rattle.machine_steps.specs.Counts.{no_counts}
use Rattle.machine_steps.specs.Since.{passes_of}
use Rattle.flow_graph.specs.Walk.{IsWalkFrom, Setting}
use Rattle.flow_walks.specs.declared.piece.Piece.{Piece}
use Rattle.flow_walks.specs.Pieces.{spelled, spelled_at, spelled_behind, spelled_by, spelled_of, PlacedHop}
use Rattle.ceiling_rounds.specs.declared.stretch.Stretch.{Stretch}
use Rattle.ceiling_rounds.specs.Change.{counts_after, passes_by}
use Rattle.ceiling_rounds.specs.InRounds.{takes, SpellOut}
use Rattle.ceiling_rounds.specs.Order.{AreInOrder}
use Rattle.ceiling_rounds.specs.Stretch.{edges_placed, laid, span_of, AreStretches, ComeTo, GoOn, IsFromStart}
use Rattle.ceiling_rounds.proofs.LaidLaws.{edges_laid, longest_laid}
use Rattle.ceiling_rounds.proofs.SpelledLaws.{behind_more, long_behind, spelled_before, spelled_last}

-- what stands in a list with one more at its end
at_push : {X : Type 0} (xs : List X) (y x : X) (k : ℕ) → slice_get (xs ++ y ∷ []) k ≡ Some x
    → (k < length xs → slice_get xs k ≡ Some x) × (length xs ≤ k → (k ≡ length xs) × (y ≡ x))
at_push [] y x zero at = (λ less. absurd (omega (arith, less)), λ low. (refl, cc))
at_push [] y x (suc k) at = cc
at_push (z ∷ xs) y x zero at = (λ less. at, λ low. absurd (omega (arith, low)))
at_push {X = X} (z ∷ xs) y x (suc k) at =
    let so = at_push xs y x k at in (
      λ less. so.0 (omega (arith, less)),
      λ low.
          let then = so.1 (omega (arith, low)) in (ap suc then.0, then.1),
    )

push_stretch : (g : Setting) (before : List (List PlacedHop)) (stretches : List Stretch) (hops : List PlacedHop)
    (stretch : Stretch) → AreStretches g before stretches → ComeTo g hops (span_of stretch)
    → AreStretches g (before ++ hops ∷ []) (stretches ++ stretch ∷ [])
push_stretch g before stretches hops stretch are come = record {
  each = omega (arith, are.each, length-append before (hops ∷ []), length-append stretches (stretch ∷ []));
  come = λ number one at.
      let so = at_push stretches stretch one number at in
      elim (cases_lt number (length stretches)) [
        | inl less ↦ (
            subst (λ (hs : List PlacedHop). ComeTo g hs (span_of one))
            (sym (spelled_before before hops number (omega (arith, less, are.each))))
            (are.come number one (so.0 less)))
        | inr low ↦ (
            let last = so.1 low in
            let here : number ≡ length before = last.0 ∙ are.each in
            subst (λ (s : Stretch). ComeTo g (spelled_at (before ++ hops ∷ []) number) (span_of s)) last.1
            (subst (λ (n : ℕ). ComeTo g (spelled_at (before ++ hops ∷ []) n) (span_of stretch)) (sym here)
            (subst (λ (hs : List PlacedHop). ComeTo g hs (span_of stretch)) (sym (spelled_last before hops)) come)))
      ];
}

pub stretches_more : (g : Setting) (pieces : List Piece) (k : ℕ) (piece : Piece) (stretches : List Stretch)
    (stretch : Stretch) → k < length pieces → piece ≡ get_or pieces k piece
    → AreStretches g (spelled_behind [] (take k pieces)) stretches
    → ComeTo g (spelled_by (spelled_behind [] (take k pieces)) piece) (span_of stretch)
    → AreStretches g (spelled_behind [] (take (k + 1) pieces)) (stretches ++ stretch ∷ [])
stretches_more g pieces k piece stretches stretch less is are come =
    let more : take (k + 1) pieces ≡ take k pieces ++ piece ∷ [] =
    take_more pieces k piece less ∙ ap (λ (p : Piece). take k pieces ++ p ∷ []) (sym is) in
    let all : spelled_behind [] (take (k + 1) pieces)
    ≡ spelled_behind [] (take k pieces) ++ spelled_by (spelled_behind [] (take k pieces)) piece ∷ [] =
    ap (spelled_behind []) more ∙ behind_more [] (take k pieces) piece in
    subst (λ (before : List (List PlacedHop)). AreStretches g before (stretches ++ stretch ∷ [])) (sym all)
    (push_stretch g (spelled_behind [] (take k pieces)) stretches
    (spelled_by (spelled_behind [] (take k pieces)) piece) stretch are come)

-- what is told of each of a list by its index
pub told_at : {X : Type 0} (f : X → ℕ) (xs : List X) (told : ℕ → ℕ) (first : ℕ)
    → ((index : ℕ) (x : X) → slice_get xs index ≡ Some x → f x ≡ told (first + index))
    → (index : ℕ) → index < length xs → slice_index (map f xs) index ≡ told (first + index)
told_at {X = X} f [] told first each index less = absurd (omega (arith, less))
told_at {X = X} f (x ∷ xs) told first each zero less = each 0 x refl
told_at {X = X} f (x ∷ xs) told first each (suc index) less =
    let next : first + 1 + index ≡ first + suc index = omega arith in
    told_at f xs told (first + 1)
    (λ k one at.
    let same : first + suc k ≡ first + 1 + k = omega arith in
    each (suc k) one at ∙ ap told same)
    index (omega (arith, less)) ∙ ap told next

-- The last piece is a walk, where it begins as one does, no count is ever above what its mark allows, and no exit has
-- to be open at first.
pub whole_walk : (g : Setting) (pieces : List Piece) (stretches : List Stretch) (whole : Stretch) (passes : List ℕ)
    → AreStretches g (spelled_behind [] pieces) stretches → slice_get stretches (length stretches - 1) ≡ Some whole
    → IsFromStart g (span_of whole) → passes ≡ map passes_by whole.changes.items → AreInOrder pieces
    → SpellOut g whole.angle pieces passes whole.time
whole_walk g pieces stretches whole passes are last begins all order =
    let marks = g.notes.marks in
    let span = span_of whole in
    let hops = spelled pieces in
    let angle = whole.angle in
    let same_long : length stretches ≡ length pieces = are.each ∙ long_behind [] pieces ∙ omega arith in
    let come : ComeTo g hops span =
    are.come (length pieces - 1) whole
    (subst (λ (n : ℕ). slice_get stretches (n - 1) ≡ Some whole) same_long last) in
    let taken = laid g angle 0 hops in
    let at : (angle + 0) % 50 ≡ angle = omega (arith, begins.on_drum) in
    let counts = no_counts marks in
    let on : GoOn g angle (0 + span.time) (counts_after span.changes counts) [] span.onto = nothing_on span.onto in
    let walk : IsWalkFrom g angle g.start 0 counts taken =
    subst (λ (p : ℕ). IsWalkFrom g angle p 0 counts taken) begins.starts
    (subst (IsWalkFrom g angle span.from 0 counts) (append-nil taken)
    (come.walks angle 0 counts [] at begins.within on)) in
    record {
      order = order;
      hops = taken;
      same = come.placed angle 0 at;
      walk = record {
        on_drum = begins.on_drum;
        from_start = walk;
        back =
            subst (GoBack g.notes.calls (none_open g.notes.calls)) (sym (edges_laid g angle 0 hops))
            (come.opens.back (none_open g.notes.calls) (length-map g.notes.calls (λ (call : Call). None))
            begins.closed);
      };
      longest = longest_laid g angle 0 hops;
      time = come.time angle 0 at ∙ omega arith;
      each = ap length all ∙ length-map whole.changes.items passes_by ∙ come.each;
      passed = λ index less.
          ap (λ (ps : List ℕ). slice_index ps index) all
          ∙ told_at passes_by span.changes (λ k. passes_of marks k (edges_placed hops)) 0
          (λ k change there.
          let same : k ≡ 0 + k = omega arith in
          come.passed k change there ∙ ap (λ (n : ℕ). passes_of marks n (edges_placed hops)) same)
          index (omega (arith, less, come.each))
          ∙ ap (λ (n : ℕ). passes_of marks n (edges_placed hops)) (zero_first index)
          ∙ ap (passes_of marks index) (sym (edges_laid g angle 0 hops));
    }
  where
    zero_first : (n : ℕ) → 0 + n ≡ n
    zero_first n = omega arith

    nothing_on : (onto : Option ℕ)
        → GoOn g whole.angle (0 + whole.time) (counts_after whole.changes.items (no_counts g.notes.marks)) [] onto
    nothing_on None = refl
    nothing_on (Some next) = tt

-- how long pieces take, by what they come to
pub lasting_each : (g : Setting) (pieces : List Piece) (stretches : List Stretch) (number : ℕ)
    → AreStretches g (spelled_behind [] pieces) stretches → number < length pieces
    → slice_index (map (λ (one : Stretch). one.time) stretches) number ≡ sum_by (takes g.times) (spelled_of pieces number)
lasting_each g pieces stretches number are less =
    let whole = sum_of number in
    told_at (λ (one : Stretch). one.time) stretches (λ k. sum_by (takes g.times) (spelled_of pieces k)) 0
    (λ k stretch at. (are.come k stretch at).lasts ∙ sum_of k)
    number (omega (arith, less, are.each, long_behind [] pieces)) ∙ sym whole
  where
    sum_of : (k : ℕ) → sum_by (takes g.times) (spelled_of pieces k)
        ≡ sum_by (takes g.times) (spelled_of pieces (0 + k))
    sum_of k =
        let same : k ≡ 0 + k = omega arith in
        ap (λ (n : ℕ). sum_by (takes g.times) (spelled_of pieces n)) same
