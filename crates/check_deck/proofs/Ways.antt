-- Marks that go back to one location, one mark more.
use Rattle.std.proofs.Common.{◌≡◌, ℕ, Bool, true, false, List, [], ◌∷◌, ◌++◌, refl, ap, sym, ◌∙◌, subst, inl, inr, ◌⊎◌}
use Rattle.std.specs.Prelude.{Contains, ◌||◌}
use Rattle.std.specs.List.{list_any}
use Rattle.std.proofs.lemmas.List.Elements.{Contains-append_cases, Contains-append_left, Contains-append_right}
use Rattle.base_graphs.proofs.Lists.{contains_cases, contains_here, contains_none, contains_there}
use Rattle.flow_graph.specs.Taken.{is_among}
use Rattle.flow_graph.proofs.Orders.{any_contains, contains_any}
use Rattle.check_deck.specs.Insides.{AreHeads, GoesBack, HasOne, HasSeveralWays}
use Rattle.check_deck.proofs.Ones.{one_cases, one_last, one_more}

-- a number that is among these and among those
common_of : (these those : List ℕ) → list_any (is_among these) those ≡ true
    → (n : ℕ) × Contains these n × Contains those n
common_of these [] e = cc
common_of these (x ∷ those) e = go (is_among these x) refl e (common_of these those)
  where
    go : (b : Bool) → is_among these x ≡ b → (b || list_any (is_among these) those) ≡ true
        → (list_any (is_among these) those ≡ true → (n : ℕ) × Contains these n × Contains those n)
        → (n : ℕ) × Contains these n × Contains (x ∷ those) n
    go true is e more = (x, any_contains these x is, contains_here x those)
    go false is e more = ((more e).0, (more e).1, contains_there x (more e).0 those (more e).2)

common_so : (these those : List ℕ) (n : ℕ) → Contains these n → Contains those n
    → list_any (is_among these) those ≡ true
common_so these [] n here there = absurd (contains_none n there)
common_so these (x ∷ those) n here there =
    go (is_among these x) refl (contains_cases x n those there) (common_so these those n here)
  where
    go : (b : Bool) → is_among these x ≡ b → (x ≡ n) ⊎ Contains those n
        → (Contains those n → list_any (is_among these) those ≡ true)
        → (b || list_any (is_among these) those) ≡ true
    go true is either more = refl
    go false is (inl same) more =
        let clash : true ≡ false = sym (contains_any these n here) ∙ ap (is_among these) (sym same) ∙ is in
        cc
    go false is (inr behind) more = more behind

module _ (P : ℕ × ℕ → Type 0) where
  several_more : (xs ys : List (List (ℕ × ℕ))) → HasSeveralWays P xs → HasSeveralWays P (xs ++ ys)
  several_more [] ys has = absurd has
  several_more (x ∷ xs) ys (inl here) = inl (here.0, here.1, one_more (GoesBack P here.0) xs ys here.2)
  several_more (x ∷ xs) ys (inr later) = inr (several_more xs ys later)

  several_last : (xs : List (List (ℕ × ℕ))) (x : List (ℕ × ℕ)) (head : ℕ) → HasOne (GoesBack P head) xs
      → GoesBack P head x → HasSeveralWays P (xs ++ x ∷ [])
  several_last [] x head has back = absurd has
  several_last (y ∷ xs) x head (inl is) back = inl (head, is, one_last (GoesBack P head) xs x back)
  several_last (y ∷ xs) x head (inr has) back = inr (several_last xs x head has back)

  several_cases : (xs : List (List (ℕ × ℕ))) (x : List (ℕ × ℕ)) → HasSeveralWays P (xs ++ x ∷ [])
      → HasSeveralWays P xs ⊎ ((head : ℕ) × HasOne (GoesBack P head) xs × GoesBack P head x)
  several_cases [] x (inl here) = absurd here.2
  several_cases [] x (inr later) = absurd later
  several_cases (y ∷ xs) x (inl here) = elim (one_cases (GoesBack P here.0) xs x here.2) [
    | inl earlier ↦ inl (inl (here.0, here.1, earlier))
    | inr last ↦ inr (here.0, inl here.1, last)
  ]
  several_cases (y ∷ xs) x (inr later) = elim (several_cases xs x later) [
    | inl earlier ↦ inl (inr earlier)
    | inr both ↦ inr (both.0, inr both.1, both.2)
  ]

  -- where edges go back to, one edge more, without the property or with it
  pub heads_none : AreHeads P [] []
  heads_none = record {
    only = λ head there. absurd (contains_none head there);
    all = λ head back. absurd back;
  }

  pub heads_out : (xs : List (ℕ × ℕ)) (x : ℕ × ℕ) (heads : List ℕ) → AreHeads P xs heads → ¬ P x
      → AreHeads P (xs ++ x ∷ []) heads
  heads_out xs x heads so not = record {
    only = λ head there. one_more (λ edge. P edge × (edge.1 ≡ head)) xs (x ∷ []) (so.only head there);
    all = λ head back. elim (one_cases (λ edge. P edge × (edge.1 ≡ head)) xs x back) [
      | inl earlier ↦ so.all head earlier
      | inr last ↦ absurd (not last.0)
    ];
  }

  pub heads_in : (xs : List (ℕ × ℕ)) (x : ℕ × ℕ) (heads : List ℕ) → AreHeads P xs heads → P x
      → AreHeads P (xs ++ x ∷ []) (heads ++ x.1 ∷ [])
  heads_in xs x heads so is = record {
    only = λ head there. elim (Contains-append_cases heads (x.1 ∷ []) head there) [
      | inl earlier ↦ one_more (λ edge. P edge × (edge.1 ≡ head)) xs (x ∷ []) (so.only head earlier)
      | inr last ↦ one_last (λ edge. P edge × (edge.1 ≡ head)) xs x (is, one_there x.1 head last)
    ];
    all = λ head back. elim (one_cases (λ edge. P edge × (edge.1 ≡ head)) xs x back) [
      | inl earlier ↦ Contains-append_left heads (x.1 ∷ []) head (so.all head earlier)
      | inr last ↦ Contains-append_right heads (x.1 ∷ []) head
          (subst (λ (n : ℕ). Contains (x.1 ∷ []) n) last.1 (contains_here x.1 []))
    ];
  }
    where
      one_there : (a n : ℕ) → Contains (a ∷ []) n → a ≡ n
      one_there a n there = elim (contains_cases a n [] there) [
        | inl same ↦ same
        | inr none ↦ absurd (contains_none n none)
      ]

-- So far: these are where the marks go back to, and no two go back to one location.
pub record AreSeen (P : ℕ × ℕ → Type 0) (marks : List (List (ℕ × ℕ))) (seen : List ℕ) : Type 0 where
  pub only : (head : ℕ) → Contains seen head → HasOne (GoesBack P head) marks
  pub all : (head : ℕ) → HasOne (GoesBack P head) marks → Contains seen head
  pub one_way : ¬ HasSeveralWays P marks

module _ (P : ℕ × ℕ → Type 0) where
  pub seen_none : AreSeen P [] []
  seen_none = record {
    only = λ head there. absurd (contains_none head there);
    all = λ head has. absurd has;
    one_way = λ has. absurd has;
  }

  pub seen_more : (marks : List (List (ℕ × ℕ))) (mark : List (ℕ × ℕ)) (seen heads : List ℕ) → AreSeen P marks seen
      → AreHeads P mark heads → list_any (is_among seen) heads ≡ false → AreSeen P (marks ++ mark ∷ []) (seen ++ heads)
  seen_more marks mark seen heads so back apart = record {
    only = λ head there. elim (Contains-append_cases seen heads head there) [
      | inl earlier ↦ one_more (GoesBack P head) marks (mark ∷ []) (so.only head earlier)
      | inr last ↦ one_last (GoesBack P head) marks mark (back.only head last)
    ];
    all = λ head has. elim (one_cases (GoesBack P head) marks mark has) [
      | inl earlier ↦ Contains-append_left seen heads head (so.all head earlier)
      | inr last ↦ Contains-append_right seen heads head (back.all head last)
    ];
    one_way = λ has. elim (several_cases P marks mark has) [
      | inl earlier ↦ so.one_way earlier
      | inr both ↦ (
          let clash : true ≡ false =
          sym (common_so seen heads both.0 (so.all both.0 both.1) (back.all both.0 both.2)) ∙ apart in
          cc)
    ];
  }

  pub seen_several : (marks : List (List (ℕ × ℕ))) (mark : List (ℕ × ℕ)) (behind : List (List (ℕ × ℕ)))
      (seen heads : List ℕ) → AreSeen P marks seen → AreHeads P mark heads → list_any (is_among seen) heads ≡ true
      → HasSeveralWays P ((marks ++ mark ∷ []) ++ behind)
  seen_several marks mark behind seen heads so back common =
      let both = common_of seen heads common in
      several_more P (marks ++ mark ∷ []) behind
      (several_last P marks mark both.0 (so.only both.0 both.1) (back.only both.0 both.2))
