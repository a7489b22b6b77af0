-- What a pattern's instructions name, by their data addresses.
use Rattle.std.proofs.Common.{◌≡◌, ℕ, zero, suc, ◌+◌, ◌-◌, ◌/◌, ◌%◌, ◌^◌, ◌<◌, ◌≤◌, Bool, true, false, List, [], ◌∷◌, map, refl}
use Rattle.std.proofs.Common.{ap, sym, ◌∙◌, subst, inl, inr, ◌⊎◌, arith}
use Rattle.std.specs.Prelude.{Contains, flat_map, if◌then◌else◌, nat_lt, ◌↔◌}
use Rattle.std.specs.List.{range_with_len}
use Rattle.std.proofs.lemmas.Bool.{cases_lt, le-ltb, lt-ltb}
use Rattle.std.proofs.lemmas.List.Elements.{Contains-append_cases, Contains-append_left, Contains-append_right}
use Rattle.std.proofs.lemmas.List.FromFn.{length-range_with_len, get_or-range_with_len}
use Rattle.base_words.specs.Op.{op_of}
use Rattle.base_notes.specs.declared.notes.pattern.Pattern.{Pattern}
use Rattle.base_notes.specs.Allowed.{matching}
use Rattle.machine_steps.specs.Effect.{band}
use Rattle.base_graphs.proofs.Lists.{contains_cases, contains_here, contains_none}
use Rattle.flow_graph.proofs.Matched.{matching_at, matching_d, matching_op}
use Rattle.check_findings.specs.declared.naming.Naming.{Naming}
use Rattle.check_findings.specs.declared.naming.Naming.TheVariants.{Nothing, Data}
use Rattle.check_findings.specs.Idle.{names, naming_of, words_at, words_of}
use Rattle.check_findings.specs.NamedOf.{IsBetween, IsNamedIn}

-- numbers of a range
range_has : (a n x : ℕ) → a ≤ x → x < a + n → Contains (range_with_len a n) x
range_has a n x low high = (
  x - a,
  omega (arith, length-range_with_len a n, low, high),
  omega
      (arith, low, high, get_or-range_with_len a n (x - a) x (omega (arith, low, high))),
)

range_within : (a n x : ℕ) → Contains (range_with_len a n) x → (a ≤ x) × (x < a + n)
range_within a n x there =
    let inside : there.0 < n = omega (arith, there.1, length-range_with_len a n) in
    let here : a + there.0 ≡ x = sym (get_or-range_with_len a n there.0 x inside) ∙ there.2 in
    (omega (arith, here), omega (arith, here, inside))

-- the words by an address on the drum, and by one that isn't there
words_on : (naming : Naming) (d : ℕ) → d < 2000 → words_at naming d ≡ words_of naming d
words_on naming d on = ap (λ (b : Bool). if b then words_of naming d else []) (lt-ltb d 2000 on)

words_past : (naming : Naming) (d : ℕ) → 2000 ≤ d → words_at naming d ≡ []
words_past naming d past = ap (λ (b : Bool). if b then words_of naming d else []) (le-ltb d 2000 past)

words_nothing : (d : ℕ) → words_at Nothing d ≡ []
words_nothing d = either (nat_lt d 2000)
  where
    none : List ℕ
    none = []

    either : (b : Bool) → (if b then none else none) ≡ none
    either true = refl
    either false = refl

module _ (pattern : Pattern) (naming : Naming) (by : naming ≡ naming_of (op_of pattern.op)) where
  -- what an instruction of the pattern names
  named_by : (d : ℕ) → d ≤ pattern.d_to → names (matching_at pattern d) ≡ words_at naming d
  named_by d to =
      ap (λ (n : ℕ). words_at (naming_of (op_of n)) (d % 10 ^ 4)) (matching_op pattern)
      ∙ ap (λ (n : ℕ). words_at (naming_of (op_of pattern.op)) n) (matching_d pattern d to)
      ∙ ap (λ (one : Naming). words_at one d) (sym by)

  -- where none of them names a word
  none_named : (d from end word : ℕ) → ((k : ℕ) → d ≤ k → k ≤ pattern.d_to → words_at naming k ≡ [])
      → IsBetween from 0 word ↔ IsNamedIn pattern d end word
  none_named d from end word none = (
    λ between. absurd (omega (arith, between.1)),
    λ named. absurd (contains_none word (subst (λ (xs : List ℕ). Contains xs word)
        (named_by named.0 named.3 ∙ none named.0 named.1 named.3) named.4)),
  )

  pub past_named : (d from below end word : ℕ) → 2000 ≤ d → below ≡ 0
      → IsBetween from below word ↔ IsNamedIn pattern d end word
  past_named d from below end word past none =
      subst (λ (n : ℕ). IsBetween from n word ↔ IsNamedIn pattern d end word) (sym none)
      (none_named d from end word (λ k low to. words_past naming k (omega (arith, past, low))))

  pub nothing_named : (d from below end word : ℕ) → naming ≡ Nothing → below ≡ 0
      → IsBetween from below word ↔ IsNamedIn pattern d end word
  nothing_named d from below end word is none =
      subst (λ (n : ℕ). IsBetween from n word ↔ IsNamedIn pattern d end word) (sym none)
      (none_named d from end word (λ k low to. ap (λ (one : Naming). words_at one k) is ∙ words_nothing k))

  -- where each names its data address
  pub data_named : (d from below end word : ℕ) → naming ≡ Data → from ≡ d → below ≡ end → end ≤ 2000
      → end ≤ pattern.d_to + 1 → IsBetween from below word ↔ IsNamedIn pattern d end word
  data_named d from below end word is first past drum to = (
    λ between.
        let under : word < end = omega (arith, past, between.1) in
        let last : word ≤ pattern.d_to = omega (arith, under, to) in (
          word,
          omega (arith, first, between.0),
          under,
          last,
          subst (λ (xs : List ℕ). Contains xs word) (sym (itself word (omega (arith, under, drum)) last))
              (contains_here word []),
        ),
    λ named.
        let here : (named.0 ≡ word) = only named.0 (subst (λ (xs : List ℕ). Contains xs word)
        (itself named.0 (omega (arith, named.2, drum)) named.3) named.4) in
        (omega (arith, first, here, named.1), omega (arith, past, here, named.2)),
  )
    where
      itself : (k : ℕ) → k < 2000 → k ≤ pattern.d_to → names (matching_at pattern k) ≡ k ∷ []
      itself k on to = named_by k to ∙ words_on naming k on ∙ ap (λ (one : Naming). words_of one k) is

      only : (k : ℕ) → Contains (k ∷ []) word → k ≡ word
      only k there = elim (contains_cases k word [] there) [
        | inl same ↦ same
        | inr behind ↦ absurd (contains_none word behind)
      ]

  -- where each names ten words of its band
  pub band_named : (first d from below end word : ℕ) → ((k : ℕ) → words_of naming k ≡ range_with_len (band k + first) 10)
      → d < 2000 → d ≤ pattern.d_to → from ≡ band d + first → below ≡ band d + first + 10 → end ≡ band d + 50
      → IsBetween from below word ↔ IsNamedIn pattern d end word
  band_named first d from below end word ten on to low high past = (
    λ between. (
      d,
      omega arith,
      omega (arith, past),
      to,
      subst (λ (xs : List ℕ). Contains xs word) (sym (named_by d to ∙ words_on naming d on ∙ ten d))
          (range_has (band d + first) 10 word (omega (arith, low, between.0)) (omega (arith, high, between.1))),
    ),
    λ named.
        let k = named.0 in
        let same : k / 50 ≡ d / 50 = omega (arith, past, named.1, named.2) in
        let inside = range_within (band k + first) 10 word
        (subst (λ (xs : List ℕ). Contains xs word)
        (named_by k named.3 ∙ words_on naming k (omega (arith, past, named.2, on)) ∙ ten k) named.4) in
        (omega (arith, same, low, inside.0), omega (arith, same, high, inside.1)),
  )

-- The words that the instructions of a pattern name, by their data addresses.
module _ (pattern : Pattern) where
  named_has : (a n k word : ℕ) → a ≤ k → k < a + n → Contains (names (matching_at pattern k)) word
      → Contains (flat_map names (map (matching_at pattern) (range_with_len a n))) word
  named_has a zero k word low high there = absurd (omega (arith, low, high))
  named_has a (suc n) k word low high there =
      let here : List ℕ = names (matching_at pattern a) in
      let rest : List ℕ = flat_map names (map (matching_at pattern) (range_with_len (a + 1) n)) in
      elim (cases_lt a k) [
        | inl below ↦ Contains-append_right here rest word
            (named_has (a + 1) n k word (omega (arith, below)) (omega (arith, high)) there)
        | inr above ↦ (let same : k ≡ a = omega (arith, above, low) in
            Contains-append_left here rest word
            (subst (λ (one : ℕ). Contains (names (matching_at pattern one)) word) same there))
      ]

  named_only : (a n word : ℕ) → Contains (flat_map names (map (matching_at pattern) (range_with_len a n))) word
      → (k : ℕ) × (a ≤ k) × (k < a + n) × Contains (names (matching_at pattern k)) word
  named_only a zero word there = absurd (contains_none word there)
  named_only a (suc n) word there =
      elim (Contains-append_cases (names (matching_at pattern a))
      (flat_map names (map (matching_at pattern) (range_with_len (a + 1) n))) word there) [
        | inl here ↦ (a, omega arith, omega arith, here)
        | inr behind ↦ (let more = named_only (a + 1) n word behind in
            (more.0, omega (arith, more.1), omega (arith, more.2), more.3))
      ]

  pub all_named : (word : ℕ) → IsNamedIn pattern pattern.d_from (suc pattern.d_to) word
      ↔ Contains (flat_map names (matching pattern)) word
  all_named word = (
    λ named. named_has pattern.d_from (suc pattern.d_to - pattern.d_from) named.0 word named.1
        (omega (arith, named.1, named.3)) named.4,
    λ there.
        let one = named_only pattern.d_from (suc pattern.d_to - pattern.d_from) word there in
        (one.0, one.1, omega (arith, one.1, one.2), omega (arith, one.1, one.2), one.3),
  )

  -- those from a data address on are those up to another one, and those from there on
  pub named_split : (d end word : ℕ) → d ≤ end → IsNamedIn pattern d (suc pattern.d_to) word
      ↔ (IsNamedIn pattern d end word ⊎ IsNamedIn pattern end (suc pattern.d_to) word)
  named_split d end word further = (
    λ named. elim (cases_lt named.0 end) [
      | inl below ↦ inl (named.0, named.1, below, named.3, named.4)
      | inr above ↦ inr (named.0, above, named.2, named.3, named.4)
    ],
    λ either. elim either [
      | inl named ↦ (named.0, named.1, omega (arith, named.3), named.3, named.4)
      | inr named ↦ (named.0, omega (arith, further, named.1), named.2, named.3, named.4)
    ],
  )
