-- The instructions that match a pattern, by their data addresses, and those of several patterns.
use Rattle.std.proofs.Common.{◌≡◌, ℕ, zero, suc, ◌+◌, ◌-◌, ◌%◌, ◌^◌, ◌<◌, ◌≤◌, List, [], ◌∷◌, ◌++◌, map, Contains, refl}
use Rattle.std.proofs.Common.{ap, sym, ◌∙◌, subst, inl, inr, arith}
use Rattle.std.specs.Prelude.{flat_map}
use Rattle.std.specs.List.{range_with_len}
use Rattle.std.proofs.lemmas.List.{append-nil, append_assoc, map-append}
use Rattle.std.proofs.lemmas.List.Elements.{Contains-append_cases}
use Rattle.std.proofs.lemmas.Grind.{flat_map-append}
use Rattle.base_words.specs.declared.instruction.Instruction.{Instruction}
use Rattle.base_words.specs.Instruction.{instruction}
use Rattle.base_words.proofs.Same.{same_instruction}
use Rattle.base_notes.specs.declared.notes.pattern.Pattern.{Pattern}
use Rattle.base_notes.specs.Allowed.{matching}
use Rattle.base_graphs.proofs.Lists.{contains_cases, contains_none}
use Rattle.flow_graph.specs.Accepted.{IsFirstIn}
use Rattle.flow_graph.specs.Alike.{with_d}

-- the instruction of a pattern at a data address
abbrev pub matching_at : Pattern → ℕ → Instruction
matching_at pattern d = instruction pattern.op d pattern.i

-- the instructions of a pattern from a data address on
abbrev pub matching_from : Pattern → ℕ → List Instruction
matching_from pattern d = map (matching_at pattern) (range_with_len d (suc pattern.d_to - d))

-- an instruction of a pattern has the pattern's parts
pub matching_op : (pattern : Pattern) → pattern.op % 100 ≡ pattern.op
matching_op pattern = omega (arith, pattern.two)

pub matching_d : (pattern : Pattern) (d : ℕ) → d ≤ pattern.d_to → d % 10 ^ 4 ≡ d
matching_d pattern d to = omega (arith, pattern.four, to)

-- with another data address it is the pattern's instruction there
pub matching_with_d : (pattern : Pattern) (ins : Instruction) (d k : ℕ) → ins ≡ matching_at pattern d
    → with_d ins k ≡ matching_at pattern k
matching_with_d pattern ins d k same =
    ap (λ (one : Instruction). with_d one k) same
    ∙ same_instruction (with_d (matching_at pattern d) k) (matching_at pattern k) (two_twice pattern.op) refl
    (four_twice pattern.i)
  where
    two_twice : (n : ℕ) → (n % 100) % 100 ≡ n % 100
    two_twice n = omega arith

    four_twice : (n : ℕ) → (n % 10 ^ 4) % 10 ^ 4 ≡ n % 10 ^ 4
    four_twice n = omega arith

-- the numbers from one on, in two parts
range_split : (a m b n l : ℕ) → b ≡ a + m → l ≡ m + n → range_with_len a l ≡ range_with_len a m ++ range_with_len b n
range_split a zero b n l from long =
    let same : a ≡ b = omega arith in
    let all : l ≡ n = omega arith in
    ap (range_with_len a) all ∙ ap (λ (x : ℕ). range_with_len x n) same
range_split a (suc m) b n zero from long = absurd (omega arith)
range_split a (suc m) b n (suc l) from long =
    ap (λ (xs : List ℕ). a ∷ xs) (range_split (a + 1) m b n l (omega arith) (omega arith))

-- each of a range of data addresses has a property
each_in_range : (Property : Instruction → Type 0) (pattern : Pattern) (a n : ℕ)
    → ((k : ℕ) → a ≤ k → k < a + n → Property (matching_at pattern k))
    → (other : Instruction) → Contains (map (matching_at pattern) (range_with_len a n)) other → Property other
each_in_range Property pattern a zero each other there = absurd (contains_none other there)
each_in_range Property pattern a (suc n) each other there =
    elim (contains_cases (matching_at pattern a) other (map (matching_at pattern) (range_with_len (a + 1) n)) there) [
      | inl same ↦ subst Property same (each a (omega arith) (omega arith))
      | inr behind ↦ each_in_range Property pattern (a + 1) n
          (λ k low high. each k (omega (arith, low)) (omega (arith, high))) other behind
    ]

-- each of a pattern's has one
pub each_in_pattern : (Property : Instruction → Type 0) (pattern : Pattern)
    → ((k : ℕ) → pattern.d_from ≤ k → k ≤ pattern.d_to → Property (matching_at pattern k))
    → (other : Instruction) → Contains (matching pattern) other → Property other
each_in_pattern Property pattern each =
    each_in_range Property pattern pattern.d_from (suc pattern.d_to - pattern.d_from)
    (λ k low high. each k low (omega (arith, low, high)))

-- none of a pattern's has one
pub none_in_pattern : (Property : Instruction → Type 0) (pattern : Pattern)
    → ((k : ℕ) → pattern.d_from ≤ k → k ≤ pattern.d_to → ¬ Property (matching_at pattern k))
    → (other : Instruction) → Contains (matching pattern) other → ¬ Property other
none_in_pattern Property pattern none = each_in_pattern (λ ins. ¬ Property ins) pattern none

-- the first of a pattern's that has one
pub first_in_pattern : (Property : Instruction → Type 0) (pattern : Pattern) (d : ℕ) → pattern.d_from ≤ d
    → d ≤ pattern.d_to
    → ((k : ℕ) → pattern.d_from ≤ k → k < d → ¬ Property (matching_at pattern k)) → Property (matching_at pattern d)
    → IsFirstIn (matching pattern) Property (matching_at pattern d)
first_in_pattern Property pattern d from to before here = (
  map (matching_at pattern) (range_with_len pattern.d_from (d - pattern.d_from)),
  map (matching_at pattern) (range_with_len (d + 1) (pattern.d_to - d)),
  ap (map (matching_at pattern))
      (range_split pattern.d_from (d - pattern.d_from) d (suc (pattern.d_to - d)) (suc pattern.d_to - pattern.d_from)
      (omega (arith, from)) (omega (arith, from, to)))
      ∙ map-append (matching_at pattern) (range_with_len pattern.d_from (d - pattern.d_from))
      (range_with_len d (suc (pattern.d_to - d))),
  here,
  each_in_range (λ ins. ¬ Property ins) pattern pattern.d_from (d - pattern.d_from)
      (λ k low high. before k low (omega (arith, from, high))),
)

-- one more pattern whose instructions have it
pub each_in_more : (Property : Instruction → Type 0) (before : List Pattern) (pattern : Pattern)
    → ((other : Instruction) → Contains (flat_map matching before) other → Property other)
    → ((other : Instruction) → Contains (matching pattern) other → Property other) → (other : Instruction)
    → Contains (flat_map matching (before ++ pattern ∷ [])) other → Property other
each_in_more Property before pattern each here other there =
    let parts : flat_map matching (before ++ pattern ∷ []) ≡ flat_map matching before ++ matching pattern =
    flat_map-append matching before (pattern ∷ [])
    ∙ ap (λ (xs : List Instruction). flat_map matching before ++ xs) (append-nil (matching pattern)) in
    elim (Contains-append_cases (flat_map matching before) (matching pattern) other
    (subst (λ (xs : List Instruction). Contains xs other) parts there)) [
      | inl earlier ↦ each other earlier
      | inr last ↦ here other last
    ]

-- one more pattern whose instructions don't have it
pub none_in_more : (Property : Instruction → Type 0) (before : List Pattern) (pattern : Pattern)
    → ((other : Instruction) → Contains (flat_map matching before) other → ¬ Property other)
    → ((other : Instruction) → Contains (matching pattern) other → ¬ Property other) → (other : Instruction)
    → Contains (flat_map matching (before ++ pattern ∷ [])) other → ¬ Property other
none_in_more Property before pattern none here = each_in_more (λ ins. ¬ Property ins) before pattern none here

-- the first of a pattern's is the first of all, where none of those of the patterns before has it
pub first_in_all : (Property : Instruction → Type 0) (before rest left : List Pattern) (pattern : Pattern)
    (all : List Instruction) (ins : Instruction)
    → flat_map matching (before ++ left) ≡ all → left ≡ pattern ∷ rest
    → ((other : Instruction) → Contains (flat_map matching before) other → ¬ Property other)
    → IsFirstIn (matching pattern) Property ins → IsFirstIn all Property ins
first_in_all Property before rest left pattern all ins split taken none first = (
  flat_map matching before ++ first.0,
  first.1 ++ flat_map matching rest,
  sym split ∙ ap (λ (ps : List Pattern). flat_map matching (before ++ ps)) taken
      ∙ flat_map-append matching before (pattern ∷ rest)
      ∙ ap (λ (xs : List Instruction). flat_map matching before ++ (xs ++ flat_map matching rest)) first.2
      ∙ regroup (flat_map matching before) first.0 (ins ∷ first.1) (flat_map matching rest),
  first.3,
  λ other there. elim (Contains-append_cases (flat_map matching before) first.0 other there) [
    | inl earlier ↦ none other earlier
    | inr here ↦ first.4 other here
  ],
)
  where
    regroup : (a b c d : List Instruction) → a ++ ((b ++ c) ++ d) ≡ (a ++ b) ++ (c ++ d)
    regroup a b c d = simp append_assoc

-- one more pattern taken from those that are left
pub patterns_taken : (taken left rest : List Pattern) (pattern : Pattern) (all : List Instruction)
    → flat_map matching (taken ++ left) ≡ all → left ≡ pattern ∷ rest
    → flat_map matching ((taken ++ pattern ∷ []) ++ rest) ≡ all
patterns_taken taken left rest pattern all split first =
    ap (flat_map matching) (append_assoc taken (pattern ∷ []) rest)
    ∙ sym (ap (λ (ps : List Pattern). flat_map matching (taken ++ ps)) first) ∙ split

-- all are taken where none are left
pub patterns_all : (taken left : List Pattern) (all : List Instruction) → flat_map matching (taken ++ left) ≡ all
    → left ≡ [] → flat_map matching taken ≡ all
patterns_all taken left all split none =
    sym (ap (flat_map matching) (append-nil taken))
    ∙ sym (ap (λ (ps : List Pattern). flat_map matching (taken ++ ps)) none) ∙ split

-- the one instruction of a pattern that has its parts and its data address alone
pub one_matches : (ins : Instruction)
    → map (λ d. instruction ins.op d ins.i) (range_with_len ins.d (suc ins.d - ins.d)) ≡ ins ∷ []
one_matches ins =
    let one : suc ins.d - ins.d ≡ 1 = omega arith in
    let op : ins.op % 100 ≡ ins.op = omega (arith, ins.two) in
    let at : ins.d % 10 ^ 4 ≡ ins.d = omega (arith, ins.four) in
    let next : ins.i % 10 ^ 4 ≡ ins.i = omega (arith, ins.next_four) in
    ap (λ (n : ℕ). map (λ d. instruction ins.op d ins.i) (range_with_len ins.d n)) one
    ∙ ap (λ (x : Instruction). x ∷ []) (same_instruction (instruction ins.op ins.d ins.i) ins op at next)
