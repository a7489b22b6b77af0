-- The first visits of a walk that pass a test, and what has come before.
use Rattle.std.proofs.Common.{◌≡◌, ℕ, ◌≤◌, inl, inr, Bool, true, false, cond, List, [], ◌∷◌, ◌++◌}
use Rattle.std.proofs.Common.{filter, refl, ap, sym, ◌∙◌, subst, arith}
use Rattle.std.specs.Prelude.{slice_get, unwrap_or, Contains}
use Rattle.base_words.specs.declared.op.Op.{Op}
use Rattle.base_notes.specs.declared.entry.Entry.{Entry}
use Rattle.base_graphs.proofs.Lists.{contains_cases, contains_here, contains_none, contains_there}
use Rattle.flow_walks.specs.Visited.{Visited}
use Rattle.flow_walks.specs.Pieces.{PlacedHop}
use Rattle.print_ceilings.proofs.Laid.{AreLaid, IsLaid}

clash : false ≡ true → ⊥
clash e = cc

-- the first that passes; another visit, where none does
abbrev pub first_of : (Visited → Bool) → List Visited → Visited → Visited
first_of is visits otherwise = unwrap_or (slice_get (filter is visits) 0) otherwise

-- It passes, and none before it does.
pub record IsHead (is : Visited → Bool) (visits : List Visited) (one : Visited) : Type 0 where
  pub before : List Visited
  pub after : List Visited
  pub split : visits ≡ before ++ one ∷ after
  pub passes : is one ≡ true
  pub none : (visit : Visited) → Contains before visit → is visit ≡ false

pub head_is : (is : Visited → Bool) (visits : List Visited) (otherwise some : Visited) → Contains visits some
    → is some ≡ true → IsHead is visits (first_of is visits otherwise)
head_is is [] otherwise some has so = absurd (contains_none some has)
head_is is (visit ∷ visits) otherwise some has so =
    go (is visit) refl (λ behind. head_is is visits otherwise some behind so)
  where
    go : (b : Bool) → is visit ≡ b
        → (Contains visits some → IsHead is visits (first_of is visits otherwise))
        → IsHead is (visit ∷ visits)
        (unwrap_or (slice_get (cond b (visit ∷ filter is visits) (filter is visits)) 0) otherwise)
    go true here further = record {
      before = [];
      after = visits;
      split = refl;
      passes = here;
      none = λ other within. absurd (contains_none other within);
    }
    go false here further =
        let rest = further (elim (contains_cases visit some visits has) [
          | inl same ↦ absurd (clash (sym here ∙ ap is same ∙ so))
          | inr behind ↦ behind
        ]) in
        record {
          before = visit ∷ rest.before;
          after = rest.after;
          split = ap (λ (vs : List Visited). visit ∷ vs) rest.split;
          passes = rest.passes;
          none = λ other within. elim (contains_cases visit other rest.before within) [
            | inl same ↦ ap is (sym same) ∙ here
            | inr behind ↦ rest.none other behind
          ];
        }

-- in a list of two parts it is in the first, where some of that passes
pub head_within : (is : Visited → Bool) (first second : List Visited) (otherwise some : Visited)
    → Contains first some → is some ≡ true → Contains first (first_of is (first ++ second) otherwise)
head_within is [] second otherwise some has so = absurd (contains_none some has)
head_within is (visit ∷ first) second otherwise some has so =
    go (is visit) refl (λ behind. head_within is first second otherwise some behind so)
  where
    go : (b : Bool) → is visit ≡ b
        → (Contains first some → Contains first (first_of is (first ++ second) otherwise))
        → Contains (visit ∷ first) (unwrap_or (slice_get (cond b (visit ∷ filter is (first ++ second))
        (filter is (first ++ second))) 0) otherwise)
    go true here further = contains_here visit first
    go false here further =
        contains_there visit (first_of is (first ++ second) otherwise) first
        (further (elim (contains_cases visit some first has) [
          | inl same ↦ absurd (clash (sym here ∙ ap is same ∙ so))
          | inr behind ↦ behind
        ]))

-- ---- what has come before a visit

-- The hops of visits in two parts: what is before one of them is of visits before, which begin no
-- later.
pub record IsParted (times : Op → Entry) (angle time : ℕ) (before : List Visited) (visit : Visited)
    (hops : List PlacedHop) : Type 0 where
  pub first : List PlacedHop
  pub one : PlacedHop
  pub second : List PlacedHop
  pub split : hops ≡ first ++ one ∷ second
  pub at : ℕ
  pub laid : IsLaid times angle at visit one
  pub found : (hop : PlacedHop) → Contains first hop
      → (other : Visited) × Contains before other × ((begun : ℕ) × IsLaid times angle begun other hop)
  pub earlier : (other : Visited) → Contains before other → other.begun ≤ visit.begun
  pub later : time ≤ visit.begun

pub parted : (times : Op → Entry) (angle time : ℕ) (before : List Visited) (visit : Visited) (after : List Visited)
    (hops : List PlacedHop) → AreLaid times angle time (before ++ visit ∷ after) hops
    → IsParted times angle time before visit hops
unfolding AreLaid
parted times angle time [] visit after [] laid = absurd laid
parted times angle time [] visit after (hop ∷ hops) laid = record {
  first = [];
  one = hop;
  second = hops;
  split = refl;
  at = time;
  laid = laid.0;
  found = λ other has. absurd (contains_none other has);
  earlier = λ other has. absurd (contains_none other has);
  later = omega (arith, laid.0.begun);
}
parted times angle time (front ∷ before) visit after [] laid = absurd laid
parted times angle time (front ∷ before) visit after (hop ∷ hops) laid =
    let rest = parted times angle front.ended before visit after hops laid.1 in
    record {
      first = hop ∷ rest.first;
      one = rest.one;
      second = rest.second;
      split = ap (λ (hs : List PlacedHop). hop ∷ hs) rest.split;
      at = rest.at;
      laid = rest.laid;
      found = λ other has. elim (contains_cases hop other rest.first has) [
        | inl same ↦
            (front, contains_here front before, (time, subst (IsLaid times angle time front) same laid.0))
        | inr behind ↦
            let its = rest.found other behind in
            (its.0, contains_there front its.0 before its.1, its.2)
      ];
      earlier = λ other has. elim (contains_cases front other before has) [
        | inl same ↦
            omega (arith, ap (λ (v : Visited). v.begun) same, laid.0.begun, laid.0.ended, rest.later)
        | inr behind ↦ rest.earlier other behind
      ];
      later = omega (arith, laid.0.ended, rest.later);
    }
