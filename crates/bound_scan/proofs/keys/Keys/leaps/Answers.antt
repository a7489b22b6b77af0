-- Of Keys::leaps: the leaps so far, where they were made, are each location's own; those of one
-- more location stand at the index of that location.
use Rattle.std.proofs.Common.{◌≡◌, ◌<◌, ℕ, List, [], ◌∷◌, ◌++◌, length, Option, Some, Vec, Global, refl, ap, sym, ◌∙◌}
use Rattle.std.proofs.Common.{subst, inl, inr, arith}
use Rattle.std.proofs.lemmas.Grind.{common_steps}
use Rattle.std.specs.Prelude.{slice_get, IfSome}
use Rattle.std.specs.Option.{option_map}
use Rattle.std.proofs.lemmas.Bool.{cases_lt}
use Rattle.std.proofs.lemmas.List.{length-append}
use Rattle.std.proofs.lemmas.Option.{slice_get_read, slice_get-map, slice_get_within}
use Rattle.base_notes.specs.declared.times.Times.{Times}
use Rattle.flow_acceptance.specs.declared.ordered_flow.OrderedFlow.{OrderedFlow}
use Rattle.flow_acceptance.specs.OrderedFlow.{in_order}
use Rattle.bound_scan.specs.declared.keys.Node.{Node}
use Rattle.bound_scan.specs.declared.leap.Leap.{Leap}
use Rattle.bound_scan.specs.KeysOf.{setting_of}
use Rattle.bound_scan.specs.LeapOf.{AreLeaps}
use Rattle.bound_scan.proofs.Lists.{get_before, get_behind}
use Rattle.bound_scan.proofs.keys.Keys.leaps.Goals as goal
use Rattle.bound_scan.proofs.keys.Keys.leaps.Goals.{in-Some, in-None}

-- the leaps of the location, if it has them
own_leaps : (accepted : OrderedFlow) (times : Times) (place : ℕ) (made : Option (Vec Leap Global))
    (leaps : Vec Leap Global)
    → IfSome made (λ leaps. AreLeaps (setting_of accepted times) (in_order accepted) place leaps.items) → made
    ≡ Some leaps
    → AreLeaps (setting_of accepted times) (in_order accepted) place leaps.items
own_leaps accepted times place made leaps are is =
    subst (λ (one : Option (Vec Leap Global)).
    IfSome one (λ leaps. AreLeaps (setting_of accepted times) (in_order accepted) place leaps.items)) is are

-- the leaps of one more location
leaps_more : (accepted : OrderedFlow) (times : Times) (all : List (Option (Vec Leap Global)))
    (made : Option (Vec Leap Global))
    (place : ℕ)
    → slice_get (in_order accepted) (length all) ≡ Some place
    → IfSome made (λ leaps. AreLeaps (setting_of accepted times) (in_order accepted) place leaps.items)
    → ((k one : ℕ) (leaps : Vec Leap Global) → slice_get (in_order accepted) k ≡ Some one
    → slice_get all k ≡ Some (Some leaps) → AreLeaps (setting_of accepted times) (in_order accepted) one leaps.items)
    → (k one : ℕ) (leaps : Vec Leap Global) → slice_get (in_order accepted) k ≡ Some one
    → slice_get (all ++ made ∷ []) k ≡ Some (Some leaps)
    → AreLeaps (setting_of accepted times) (in_order accepted) one leaps.items
leaps_more accepted times all made place here are before k one leaps at there = elim (cases_lt k (length all)) [
  | inl within ↦ before k one leaps at (sym (get_before all made k within) ∙ there)
  | inr past ↦ (
      let inside : k < length (all ++ made ∷ []) = slice_get_within (all ++ made ∷ []) k (Some leaps) there in
      let last : k ≡ length all = omega (arith, past, inside, length-append all (made ∷ [])) in
      let same : place ≡ one = one_number (sym here ∙ ap (slice_get (in_order accepted)) (sym last) ∙ at) in
      let is : made ≡ Some leaps = one_made (sym (get_behind all made k last) ∙ there) in
      subst (λ (n : ℕ). AreLeaps (setting_of accepted times) (in_order accepted) n leaps.items) same
      (own_leaps accepted times place made leaps are is))
]
  where
    one_number : {a b : ℕ} → Some a ≡ Some b → a ≡ b
    one_number e = cc

    one_made : {a b : Option (Vec Leap Global)} → Some a ≡ Some b → a ≡ b
    one_made e = cc

pub loop-node-preserved : goal.loop-node-preserved
loop-node-preserved c =
    let keys = c.args.self.now in
    let accepted = keys.accepted.now in
    let all = c.loop-node.all.items in
    let k = c.loop-node.node-index in
    let count : length all ≡ k = omega (arith, c.loop-node.invariant.long, c.loop-node.all.ok.0) in
    let node : slice_get keys.nodes.items k ≡ Some c.node-item.result =
    ap (λ (nodes : List Node). slice_get nodes k) (sym c.deref-node-items.ensures.value)
    ∙ slice_get_read c.deref-node-items.result.now (length c.deref-node-items.result.now) k c.node-item.result refl
    c.loop-node-test.true c.node-item.is in
    let here : slice_get (in_order accepted) k ≡ Some c.node-item.result.location.number =
    ap (λ (order : List ℕ). slice_get order k) (sym c.requires.nodes)
    ∙ slice_get-map (λ (one : Node). one.location.number) keys.nodes.items k
    ∙ ap (option_map (λ (one : Node). one.location.number)) node in
    record {
      long = omega (arith, c.in_ok-push.ensures.len, c.loop-node.invariant.long);
      each = λ j one leaps at there.
          leaps_more accepted c.args.times.now all c.in_ok-leaps.leaps c.node-item.result.location.number
          (ap (slice_get (in_order accepted)) count ∙ here) c.in_ok-leaps.ensures.leaps
          c.loop-node.invariant.each j one leaps at
          (subst (λ (held : List (Option (Vec Leap Global))). slice_get held j ≡ Some (Some leaps))
          c.in_ok-push.ensures.items there);
      room = elim c.match-leaps.branch [
        | in-Some w ↦ omega (arith, w.room-is, c.loop-node.invariant.room)
        | in-None w ↦ omega (arith, w.room-is, c.loop-node.invariant.room)
      ];
    }

pub returns : goal.returns
returns c = grind (arith, common_steps)
