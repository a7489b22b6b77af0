-- Where a value stands in a list without repeats, and in one that is longer by one.
use Rattle.std.proofs.Common.{◌≡◌, ℕ, suc, ◌+◌, inl, inr, lt-ltb, le-ltb, Bool, true, false, cond, not, nat_lt, List, [], ◌∷◌, ◌++◌, length, Option, Some, None, refl, sym, ap, ◌∙◌, arith}
use Rattle.std.specs.Prelude.{is_some, position, ◌||◌}
use Rattle.std.specs.Cmp.{IsEquivalence}
use Rattle.std.proofs.lemmas.Bool.{cases_lt}
use Rattle.std.specs.List.{list_any, position_from, position_or_len}

-- the one index, or else the other
abbrev or_else : Option ℕ → Option ℕ → Option ℕ
or_else None other = other
or_else (Some index) other = Some index

shifted : (a b : ℕ) → nat_lt (1 + a) (suc b) ≡ nat_lt a b
shifted a b = elim (cases_lt a b) [
  | inl low ↦ lt-ltb (1 + a) (suc b) (omega (arith, low)) ∙ sym (lt-ltb a b low)
  | inr high ↦ le-ltb (1 + a) (suc b) (omega (arith, high)) ∙ sym (le-ltb a b high)
]

module _ {K : Type 0} (test : K → Bool) where
  -- the library's word for it
  from_is : (index : ℕ) (keys : List K) → position_from test index keys
      ≡ cond (nat_lt (position_or_len test keys) (length keys)) (Some (index + position_or_len test keys)) None
  from_is index [] = refl
  from_is index (key ∷ keys) = go (test key) (from_is (index + 1) keys)
    where
      go : (b : Bool) → position_from test (index + 1) keys
          ≡ cond (nat_lt (position_or_len test keys) (length keys)) (Some (index + 1 + position_or_len test keys)) None
          → cond b (Some index) (position_from test (index + 1) keys)
          ≡ cond (nat_lt (cond (not b) (1 + position_or_len test keys) 0) (length (key ∷ keys)))
          (Some (index + cond (not b) (1 + position_or_len test keys) 0)) None
      go true others =
          ap Some (omega arith)
          ∙ ap (λ (b : Bool). cond b (Some (index + 0)) None) (sym (lt-ltb 0 (length (key ∷ keys)) (omega arith)))
      go false others = others
          ∙ ap (λ (b : Bool). cond b (Some (index + 1 + position_or_len test keys)) None)
          (sym (shifted (position_or_len test keys) (length keys)))
          ∙ ap (λ (n : ℕ). cond (nat_lt (1 + position_or_len test keys) (length (key ∷ keys))) (Some n) None) (omega arith)

  pub position_is : (keys : List K) → position test keys ≡ position_from test 0 keys
  position_is keys =
      ap (λ (n : ℕ). cond (nat_lt (position_or_len test keys) (length keys)) (Some n) None) (omega arith)
      ∙ sym (from_is 0 keys)

  is_there : (index : ℕ) (keys : List K) → is_some (position_from test index keys) ≡ list_any test keys
  is_there index [] = refl
  is_there index (key ∷ keys) = go (test key) (is_there (index + 1) keys)
    where
      go : (b : Bool) → is_some (position_from test (index + 1) keys) ≡ list_any test keys
          → is_some (cond b (Some index) (position_from test (index + 1) keys)) ≡ (b || list_any test keys)
      go true others = refl
      go false others = others

  pub position_there : (keys : List K) → is_some (position test keys) ≡ list_any test keys
  position_there keys = ap is_some (position_is keys) ∙ is_there 0 keys

  -- whether it is there, by what was found
  pub there_by : (keys : List K) (found : Option ℕ) (b : Bool) → found ≡ position test keys → is_some found ≡ b
      → list_any test keys ≡ b
  there_by keys found b same is = sym (position_there keys) ∙ ap is_some (sym same) ∙ is

  push_from : (index : ℕ) (keys : List K) (key : K) → position_from test index (keys ++ key ∷ [])
      ≡ or_else (position_from test index keys) (cond (test key) (Some (index + length keys)) None)
  push_from index [] key = ap (λ (n : ℕ). cond (test key) (Some n) None) (omega arith)
  push_from index (one ∷ keys) key = go (test one) (push_from (index + 1) keys key)
    where
      go : (b : Bool) → position_from test (index + 1) (keys ++ key ∷ [])
          ≡ or_else (position_from test (index + 1) keys) (cond (test key) (Some (index + 1 + length keys)) None)
          → cond b (Some index) (position_from test (index + 1) (keys ++ key ∷ []))
          ≡ or_else (cond b (Some index) (position_from test (index + 1) keys))
          (cond (test key) (Some (index + length (one ∷ keys))) None)
      go true others = refl
      go false others = others
          ∙ ap (λ (n : ℕ). or_else (position_from test (index + 1) keys) (cond (test key) (Some n) None)) (omega arith)

  -- a value more that passes, where none did, is the first; one that doesn't pass changes nothing
  pub push_first : (keys : List K) (key : K) → position test keys ≡ None → test key ≡ true
      → position test (keys ++ key ∷ []) ≡ Some (length keys)
  push_first keys key none passes =
      position_is (keys ++ key ∷ []) ∙ push_from 0 keys key
      ∙ ap (λ (found : Option ℕ). or_else found (cond (test key) (Some (0 + length keys)) None)) (sym (position_is keys) ∙ none)
      ∙ ap (λ (b : Bool). cond b (Some (0 + length keys)) None) passes ∙ ap Some (omega arith)

  pub push_other : (keys : List K) (key : K) → test key ≡ false → position test (keys ++ key ∷ []) ≡ position test keys
  push_other keys key fails =
      position_is (keys ++ key ∷ []) ∙ push_from 0 keys key
      ∙ ap (λ (b : Bool). or_else (position_from test 0 keys) (cond b (Some (0 + length keys)) None)) fails
      ∙ none_else (position_from test 0 keys) ∙ sym (position_is keys)
    where
      none_else : (found : Option ℕ) → or_else found None ≡ found
      none_else None = refl
      none_else (Some index) = refl

module _ {K : Type 0} {eq : K → K → Bool} (laws : IsEquivalence eq) where
  same_from : (one other : K) → eq one other ≡ true → (index : ℕ) (keys : List K)
      → position_from (eq one) index keys ≡ position_from (eq other) index keys
  same_from one other same index [] = refl
  same_from one other same index (key ∷ keys) =
      ap (λ (b : Bool). cond b (Some index) (position_from (eq one) (index + 1) keys)) (laws.congr one other key same)
      ∙ ap (cond (eq other key) (Some index)) (same_from one other same (index + 1) keys)

  -- equal values stand at one place
  pub position_same : (one other : K) (keys : List K) → eq one other ≡ true
      → position (eq one) keys ≡ position (eq other) keys
  position_same one other keys same =
      position_is (eq one) keys ∙ same_from one other same 0 keys ∙ sym (position_is (eq other) keys)

  -- what a map says that agreed with a list, and got a value more that the list got too
  pub agree_more : (keys : List K) (key : K) (found : K → Option ℕ) (now : K → Option ℕ)
      → ((one : K) → found one ≡ position (eq one) keys) → is_some (found key) ≡ false
      → ((one : K) → now one ≡ cond (eq key one) (Some (length keys)) (found one))
      → (one : K) → now one ≡ position (eq one) (keys ++ key ∷ [])
  agree_more keys key found now agree absent updates one = updates one ∙ go (eq key one) refl
    where
      none : (r : Option ℕ) → is_some r ≡ false → r ≡ None
      none None e = refl
      none (Some n) e = cc

      go : (b : Bool) → eq key one ≡ b
          → cond b (Some (length keys)) (found one) ≡ position (eq one) (keys ++ key ∷ [])
      go true e = sym (push_first (eq one) keys key
          (position_same one key keys (laws.symm one key ∙ e) ∙ sym (agree key) ∙ none (found key) absent)
          (laws.symm one key ∙ e))
      go false e = agree one ∙ sym (push_other (eq one) keys key (laws.symm one key ∙ e))
