use Rattle.std.proofs.Common.{rules, ◌≡◌, ◌<◌, ◌∙◌, Bool, false, cond, List, [], ◌∷◌, ap, get_or, length, replicate}
use Rattle.std.proofs.Common.{arith}
use Rattle.std.proofs.lemmas.Grind.{common_steps}
use Rattle.std.proofs.lemmas.List.{get_or_default, get_or-replicate}
use Rattle.read_toml.specs.Document.{two_lists}
use Rattle.read_toml.proofs.Adding.{begun, one_step, adds_same}
use Rattle.read_toml.proofs.Repeating.{places_left, flags_more}
use Rattle.read_toml.proofs.document.faults.Faults.second_places.Goals as goal

pub loop-place-init : goal.loop-place-init
loop-place-init c =
    let flags : c.in_ok-seen.seen.items ≡ replicate 8004 false =
    c.in_ok-seen.ensures.items_if_clones_equal (λ y h. search rules) in
    record {
      size = c.in_ok-seen.ensures.len;
      flags = λ n low. ap (λ (all : List Bool). get_or all n false) flags ∙ get_or-replicate 8004 n false false low;
      so_far = begun _ _;
    }

pub loop-place-preserved : goal.loop-place-preserved
loop-place-preserved c =
    let place = c.place-item.result in
    let seen = c.loop-place.seen in
    let below : place.number < 8004 = place.exists.0 in
    let size : length seen.items ≡ 8004 = omega (arith, c.loop-place.invariant.size, seen.ok.0) in
    let again : c.index.result.now ≡ get_or seen.items place.number false =
    c.index.ensures
    ∙ get_or_default seen.items place.number c.index.result.now false (omega (arith, size, below)) in
    record {
      size = c.loop-place.invariant.size;
      flags =
          flags_more c.args.places.now c.loop-place.place-index place seen.items c.loop-place-test.true
          c.place-item.is size below c.loop-place.invariant.flags;
      so_far =
          one_step _ _ _ _ _ _ _ c.loop-place.invariant.so_far
          (places_left c.args.places.now c.loop-place.place-index place c.loop-place-test.true c.place-item.is)
          (adds_same _ _ _ _
          (ap (λ (b : Bool). cond b (two_lists place.number ∷ []) [])
          (again ∙ c.loop-place.invariant.flags place.number below))
          c.in_ok-second_place.ensures);
    }

pub returns : goal.returns
returns c = grind (arith, common_steps)
