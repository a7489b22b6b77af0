-- Words that are added one after the other.
use Rattle.std.proofs.Common.{◌≡◌, ℕ, suc, ◌+◌, ◌-◌, ◌<◌, Bool, true, false, List, [], ◌∷◌, ◌++◌, refl, ap, sym, ◌∙◌, arith}
use Rattle.std.specs.Prelude.{filter, cond}
use Rattle.std.specs.List.{range_with_len}
use Rattle.flow_graph.specs.Executed.{with_new}
use Rattle.flow_graph.proofs.Additions.{with_new_append}

-- a word alone is added, or it is none of those that are
pub word_kept : (keeps : ℕ → Bool) (places : List ℕ) (word : ℕ) → keeps word ≡ true
    → with_new places (word ∷ []) ≡ with_new places (filter keeps (word ∷ []))
word_kept keeps places word is = sym (ap (λ (b : Bool). with_new places (cond b (word ∷ []) [])) is)

pub word_dropped : (keeps : ℕ → Bool) (places : List ℕ) (word : ℕ) → keeps word ≡ false
    → places ≡ with_new places (filter keeps (word ∷ []))
word_dropped keeps places word is = sym (ap (λ (b : Bool). with_new places (cond b (word ∷ []) [])) is)

-- the numbers from one on, that one first
range_first : (number end : ℕ) → number < end
    → range_with_len number (end - number) ≡ number ∷ range_with_len (number + 1) (end - (number + 1))
range_first number end below = ap (range_with_len number) (long number end below)
  where
    long : (number end : ℕ) → number < end → end - number ≡ suc (end - (number + 1))
    long number end below = omega (arith, below)

-- what is kept of some numbers, the first by itself
filter_first : (keeps : ℕ → Bool) (x : ℕ) (xs : List ℕ) → filter keeps (x ∷ xs) ≡ filter keeps (x ∷ []) ++ filter keeps xs
filter_first keeps x xs = go (keeps x)
  where
    go : (b : Bool) → cond b (x ∷ filter keeps xs) (filter keeps xs) ≡ cond b (x ∷ []) [] ++ filter keeps xs
    go true = refl
    go false = refl

-- one more word of a range
pub word_more : (keeps : ℕ → Bool) (places more : List ℕ) (number end : ℕ) → number < end
    → more ≡ with_new places (filter keeps (number ∷ []))
    → with_new more (filter keeps (range_with_len (number + 1) (end - (number + 1))))
    ≡ with_new places (filter keeps (range_with_len number (end - number)))
word_more keeps places more number end below grown =
    let rest : List ℕ = range_with_len (number + 1) (end - (number + 1)) in
    ap (λ (xs : List ℕ). with_new xs (filter keeps rest)) grown
    ∙ sym (ap (λ (xs : List ℕ). with_new places (filter keeps xs)) (range_first number end below)
    ∙ ap (with_new places) (filter_first keeps number rest)
    ∙ with_new_append places (filter keeps (number ∷ [])) (filter keeps rest))
