-- Lists that begin with something.
use Rattle.std.proofs.Common.{◌≡◌, ℕ, zero, suc, ◌+◌, ◌≤◌, Bool, true, false, List, [], ◌∷◌, ◌++◌, map, refl, ap, sym}
use Rattle.std.proofs.Common.{◌∙◌, subst, inl, inr, arith, Some}
use Rattle.std.specs.Prelude.{Contains, cond, filter, flat_map, slice_get}
use Rattle.std.specs.List.{range_with_len}
use Rattle.std.proofs.lemmas.Grind.{flat_map-append}
use Rattle.base_graphs.proofs.Lists.{contains_cases, contains_here, contains_none, contains_there}
use Rattle.flow_graph.specs.Executed.{with_new}
use Rattle.flow_graph.proofs.Orders.{with_new_keeps}
use Rattle.check_findings.proofs.Nothing.{all_nothing}
use Rattle.check_deck.specs.First.{BeginsWith}

-- a list with others behind it, and one behind nothing
pub begins_left : {X : Type 0} (xs ys : List X) (x : X) → BeginsWith xs x → BeginsWith (xs ++ ys) x
begins_left xs ys x (others, e) = (others ++ ys, ap (λ (zs : List _). zs ++ ys) e)

pub begins_behind : {X : Type 0} (xs ys : List X) (x : X) → xs ≡ [] → BeginsWith ys x → BeginsWith (xs ++ ys) x
begins_behind xs ys x none (others, e) = (others, ap (λ (zs : List _). zs ++ ys) none ∙ e)

pub begins_mapped : {X Y : Type 0} (f : X → Y) (xs : List X) (x : X) → BeginsWith xs x → BeginsWith (map f xs) (f x)
begins_mapped f xs x (others, e) = (map f others, ap (map f) e)

-- many lists, of which the first that isn't empty begins so
pub begins_flat : {X Y : Type 0} (f : X → List Y) (xs before behind : List X) (x : X) (y : Y)
    → xs ≡ before ++ x ∷ behind → ((other : X) → Contains before other → f other ≡ []) → BeginsWith (f x) y
    → BeginsWith (flat_map f xs) y
begins_flat f xs before behind x y split none begins =
    subst (λ (zs : List _). BeginsWith zs y)
    (sym (ap (flat_map f) split ∙ flat_map-append f before (x ∷ behind)))
    (begins_behind (flat_map f before) (f x ++ flat_map f behind) y (all_nothing f before none)
    (begins_left (f x) (flat_map f behind) y begins))

-- what is added to none
first_of : (xs : List ℕ) (x : ℕ) → slice_get xs 0 ≡ Some x → BeginsWith xs x
first_of [] x e = cc
first_of (y ∷ xs) x e =
    let same : y ≡ x = cc in
    (xs, ap (λ (z : ℕ). z ∷ xs) same)

pub begins_new : (xs : List ℕ) (x : ℕ) → BeginsWith xs x → BeginsWith (with_new [] xs) x
begins_new xs x (others, e) =
    subst (λ (zs : List ℕ). BeginsWith (with_new [] zs) x) (sym e)
    (first_of (with_new (x ∷ []) others) x (with_new_keeps (x ∷ []) others 0 x refl))

-- the numbers from one on are none below it
from_first : (a n x : ℕ) → Contains (range_with_len a n) x → a ≤ x
from_first a zero x there = absurd (contains_none x there)
from_first a (suc n) x there = elim (contains_cases a x (range_with_len (a + 1) n) there) [
  | inl same ↦ omega (arith, same)
  | inr behind ↦ omega (arith, from_first (a + 1) n x behind)
]

-- of a range, the lowest that passes a test is the first
pub begins_lowest : (p : ℕ → Bool) (a n x : ℕ) → Contains (range_with_len a n) x → p x ≡ true
    → ((other : ℕ) → Contains (range_with_len a n) other → p other ≡ true → x ≤ other)
    → BeginsWith (filter p (range_with_len a n)) x
begins_lowest p a zero x there passes lowest = absurd (contains_none x there)
begins_lowest p a (suc n) x there passes lowest =
    go (p a) refl (λ behind. begins_lowest p (a + 1) n x behind passes
    (λ other has is. lowest other (contains_there a other (range_with_len (a + 1) n) has) is))
  where
    go : (b : Bool) → p a ≡ b → (Contains (range_with_len (a + 1) n) x → BeginsWith (filter p (range_with_len (a + 1) n)) x)
        → BeginsWith (filter p (range_with_len a (suc n))) x
    go true e later =
        let low : x ≤ a = lowest a (contains_here a (range_with_len (a + 1) n)) e in
        let high : a ≤ x = from_first a (suc n) x there in
        let same : a ≡ x = omega (arith, low, high) in
        let others : List ℕ = filter p (range_with_len (a + 1) n) in
        (others, ap (λ (b : Bool). cond b (a ∷ others) others) e ∙ ap (λ (z : ℕ). z ∷ others) same)
    go false e later = elim (contains_cases a x (range_with_len (a + 1) n) there) [
      | inl same ↦ (let clash : false ≡ true = sym e ∙ ap p same ∙ passes in cc)
      | inr behind ↦ (
          let others : List ℕ = filter p (range_with_len (a + 1) n) in
          ((later behind).0, ap (λ (b : Bool). cond b (a ∷ others) others) e ∙ (later behind).1))
    ]
