-- That `==` of kinds distinguishes kinds as their definition does, which is an equivalence.
use Rattle.std.proofs.Common.{◌≡◌, ◌==◌, Bool, true, false, ◌&&◌, refl, ap, ◌∙◌, subst, cond, Option, Some}
use Rattle.indexmap.specs.IndexMap.{IndexMap, IsUnique, get}
use Rattle.std.proofs.lemmas.Bool.{eqb-true}
use Rattle.std.specs.Cmp.{IsEquivalence, nat_eq_equiv}
use Rattle.machine_steps.specs.contracts.ways.WayPartialEq as ways
use Rattle.machine_steps.specs.declared.ways.Way as code
use Rattle.machine_steps.specs.declared.ways.Way.TheVariants.{Early, To, Late}
use Rattle.machine_steps.specs.Ways.{Way, early, to, late}
use Rattle.machine_steps.specs.WaysLeft.{seen_way}
use Rattle.flow_walks.specs.Visited.{Visited}
use Rattle.print_hops.specs.contracts.kind.KindPartialEq as kinds
use Rattle.print_hops.specs.declared.kind.Kind.{Kind}
use Rattle.print_hops.specs.Waits.{is_alike, is_same_way}
use Rattle.print_hops.specs.KindsOf.{same_kind}

way_is : (a b : code.Way) → ways.TheImpl.ghosts.eq a b ≡ is_same_way (seen_way a) (seen_way b)
way_is Early Early = refl
way_is Early (To b) = refl
way_is Early Late = refl
way_is (To a) Early = refl
way_is (To a) (To b) = refl
way_is (To a) Late = refl
way_is Late Early = refl
way_is Late (To b) = refl
way_is Late Late = refl

regrouped : (p q r s t : Bool) → (p && ((q && (r && s)) && t)) ≡ (p && q && r && s && t)
regrouped true true true true t = refl
regrouped true true true false t = refl
regrouped true true false s t = refl
regrouped true false r s t = refl
regrouped false q r s t = refl

pub eq_is : (a b : Kind) → kinds.TheImpl.ghosts.eq a b ≡ same_kind a b
eq_is a b =
    let place = a.place.number == b.place.number in
    let op = a.instruction.op == b.instruction.op in
    let d = a.instruction.d == b.instruction.d in
    let i = a.instruction.i == b.instruction.i in
    ap (λ (way : Bool). place && ((op && (d && i)) && way)) (way_is a.way b.way)
    ∙ regrouped place op d i (is_same_way (seen_way a.way) (seen_way b.way))

-- ---- the equivalence

way_refl : (a : Way) → is_same_way a a ≡ true
way_refl early = refl
way_refl (to next) = nat_eq_equiv.refl next
way_refl late = refl

way_symm : (a b : Way) → is_same_way a b ≡ is_same_way b a
way_symm early early = refl
way_symm early (to b) = refl
way_symm early late = refl
way_symm (to a) early = refl
way_symm (to a) (to b) = nat_eq_equiv.symm a b
way_symm (to a) late = refl
way_symm late early = refl
way_symm late (to b) = refl
way_symm late late = refl

way_congr : (a b c : Way) → is_same_way a b ≡ true → is_same_way a c ≡ is_same_way b c
way_congr early early c p = refl
way_congr early (to b) c p = cc
way_congr early late c p = cc
way_congr (to a) early c p = cc
way_congr (to a) (to b) early p = refl
way_congr (to a) (to b) (to c) p = nat_eq_equiv.congr a b c p
way_congr (to a) (to b) late p = refl
way_congr (to a) late c p = cc
way_congr late early c p = cc
way_congr late (to b) c p = cc
way_congr late late c p = refl

-- of five facts
record AreFive (p q r s t : Bool) : Type 0 where
  pub first : p ≡ true
  pub second : q ≡ true
  pub third : r ≡ true
  pub fourth : s ≡ true
  pub fifth : t ≡ true

five : (p q r s t : Bool) → (p && q && r && s && t) ≡ true → AreFive p q r s t
five true true true true true so =
    record { first = refl; second = refl; third = refl; fourth = refl; fifth = refl }
five true true true true false so = cc
five true true true false t so = cc
five true true false s t so = cc
five true false r s t so = cc
five false q r s t so = cc

all_five : (p q r s t p' q' r' s' t' : Bool) → p ≡ p' → q ≡ q' → r ≡ r' → s ≡ s' → t ≡ t'
    → (p && q && r && s && t) ≡ (p' && q' && r' && s' && t')
all_five p q r s t p' q' r' s' t' a b c d e = cc

pub alike_equiv : IsEquivalence is_alike
alike_equiv = record {
  refl = λ a. all_five _ _ _ _ _ true true true true true (nat_eq_equiv.refl a.place)
      (nat_eq_equiv.refl a.ins.op) (nat_eq_equiv.refl a.ins.d) (nat_eq_equiv.refl a.ins.i) (way_refl a.way);
  symm = λ a b. all_five _ _ _ _ _ _ _ _ _ _ (nat_eq_equiv.symm a.place b.place)
      (nat_eq_equiv.symm a.ins.op b.ins.op) (nat_eq_equiv.symm a.ins.d b.ins.d)
      (nat_eq_equiv.symm a.ins.i b.ins.i) (way_symm a.way b.way);
  congr = λ a b c so.
      let each = five (a.place == b.place) (a.ins.op == b.ins.op) (a.ins.d == b.ins.d) (a.ins.i == b.ins.i)
      (is_same_way a.way b.way) so in
      all_five _ _ _ _ _ _ _ _ _ _ (nat_eq_equiv.congr a.place b.place c.place each.first)
      (nat_eq_equiv.congr a.ins.op b.ins.op c.ins.op each.second)
      (nat_eq_equiv.congr a.ins.d b.ins.d c.ins.d each.third)
      (nat_eq_equiv.congr a.ins.i b.ins.i c.ins.i each.fourth) (way_congr a.way b.way c.way each.fifth);
}

-- a hop of a kind, at no time
abbrev hop_of : Kind → Visited
hop_of kind = record {
  place = kind.place.number;
  ins = kind.instruction;
  way = seen_way kind.way;
  begun = 0;
  ended = 0;
}

pub same_kind_equiv : IsEquivalence same_kind
same_kind_equiv = record {
  refl = λ a. alike_equiv.refl (hop_of a);
  symm = λ a b. alike_equiv.symm (hop_of a) (hop_of b);
  congr = λ a b c. alike_equiv.congr (hop_of a) (hop_of b) (hop_of c);
}

-- so a map's keys are distinguished by either
pub eq_is_same : kinds.TheImpl.ghosts.eq ≡ same_kind
eq_is_same = λ j a b. eq_is a b j

module _ {X S : Type 0} where
  pub update_same : (old new : IndexMap Kind X S) (key : Kind) (value : X)
      → ((kind : Kind) → get kinds.TheImpl.ghosts.eq new kind
      ≡ cond (kinds.TheImpl.ghosts.eq key kind) (Some value) (get kinds.TheImpl.ghosts.eq old kind))
      → (kind : Kind) → get same_kind new kind
      ≡ cond (same_kind key kind) (Some value) (get same_kind old kind)
  update_same old new key value =
      subst (λ (eq : Kind → Kind → Bool). (kind : Kind) → get eq new kind
      ≡ cond (eq key kind) (Some value) (get eq old kind)) eq_is_same

  pub get_same : (rows : IndexMap Kind X S) (key : Kind) (found : Option X)
      → found ≡ get kinds.TheImpl.ghosts.eq rows key → found ≡ get same_kind rows key
  get_same rows key found =
      subst (λ (eq : Kind → Kind → Bool). found ≡ get eq rows key) eq_is_same

  pub unique_same : (rows : IndexMap Kind X S) → IsUnique kinds.TheImpl.ghosts.eq rows
      → IsUnique same_kind rows
  unique_same rows = subst (λ (eq : Kind → Kind → Bool). IsUnique eq rows) eq_is_same

  pub reordered_same : (old new : IndexMap Kind X S)
      → ((kind : Kind) → get kinds.TheImpl.ghosts.eq new kind ≡ get kinds.TheImpl.ghosts.eq old kind)
      → (kind : Kind) → get same_kind new kind ≡ get same_kind old kind
  reordered_same old new =
      subst (λ (eq : Kind → Kind → Bool). (kind : Kind) → get eq new kind ≡ get eq old kind) eq_is_same

-- ---- what hops of one kind have in common

same_way : (a b : Way) → is_same_way a b ≡ true → a ≡ b
same_way early early so = refl
same_way early (to b) so = cc
same_way early late so = cc
same_way (to a) early so = cc
same_way (to a) (to b) so = ap to (eqb-true a b so)
same_way (to a) late so = cc
same_way late early so = cc
same_way late (to b) so = cc
same_way late late so = refl

pub record HaveInCommon (a b : Visited) : Type 0 where
  pub place : a.place ≡ b.place
  pub op : a.ins.op ≡ b.ins.op
  pub d : a.ins.d ≡ b.ins.d
  pub i : a.ins.i ≡ b.ins.i
  pub way : a.way ≡ b.way

pub in_common : (a b : Visited) → is_alike a b ≡ true → HaveInCommon a b
in_common a b so =
    let each = five (a.place == b.place) (a.ins.op == b.ins.op) (a.ins.d == b.ins.d) (a.ins.i == b.ins.i)
    (is_same_way a.way b.way) so in
    record {
      place = eqb-true a.place b.place each.first;
      op = eqb-true a.ins.op b.ins.op each.second;
      d = eqb-true a.ins.d b.ins.d each.third;
      i = eqb-true a.ins.i b.ins.i each.fourth;
      way = same_way a.way b.way each.fifth;
    }
