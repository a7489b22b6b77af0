-- Whether some instruction may stop the run, pattern by pattern.
use Rattle.std.proofs.Common.{◌≡◌, ℕ, zero, suc, ◌+◌, ◌-◌, ◌<◌, ◌≤◌, Bool, true, false, List, [], ◌∷◌, map}
use Rattle.std.proofs.Common.{refl, ap, ◌∙◌, inl, inr, arith}
use Rattle.std.specs.Prelude.{flat_map, ◌||◌}
use Rattle.std.specs.List.{list_any, range_with_len}
use Rattle.std.proofs.lemmas.Bool.{cases_lt}
use Rattle.std.proofs.lemmas.List.Folds.{list_any-append}
use Rattle.base_words.specs.declared.instruction.Instruction.{Instruction}
use Rattle.base_notes.specs.declared.notes.pattern.Pattern.{Pattern}
use Rattle.base_notes.specs.Allowed.{Notes, matching}
use Rattle.machine_steps.specs.Ways.{Way, ways}
use Rattle.flow_graph.specs.Hops.{Hop, hops_of}
use Rattle.flow_graph.proofs.Matched.{matching_at, matching_from}
use Rattle.print_graphs.specs.Graph.{stops}
use Rattle.print_graphs.specs.GraphOf.{has_stop_by}

-- a hop that stops is a way of its instruction that does
pub hops_stop : (notes : Notes) (instructions : List Instruction)
    → list_any (λ (hop : Hop). stops hop.way) (flat_map (hops_of notes) instructions)
    ≡ list_any (has_stop_by notes) instructions
hops_stop notes [] = refl
hops_stop notes (ins ∷ others) =
    list_any-append (λ (hop : Hop). stops hop.way) (hops_of notes ins) (flat_map (hops_of notes) others)
    ∙ ap (λ (b : Bool). b || list_any (λ (hop : Hop). stops hop.way) (flat_map (hops_of notes) others))
    (one (ways notes ins))
    ∙ ap (λ (b : Bool). list_any stops (ways notes ins) || b) (hops_stop notes others)
  where
    one : (all : List Way)
        → list_any (λ (hop : Hop). stops hop.way) (map (λ w. record { ins = ins; way = w }) all)
        ≡ list_any stops all
    one [] = refl
    one (w ∷ all) = ap (λ (b : Bool). stops w || b) (one all)

-- one that has a property is enough
pub first_enough : {X : Type 0} (has : X → Bool) (x : X) (xs : List X) → has x ≡ true → list_any has (x ∷ xs) ≡ true
first_enough has x xs is = ap (λ (b : Bool). b || list_any has xs) is

-- and one that hasn't counts for nothing
pub first_passed : {X : Type 0} (has : X → Bool) (x : X) (xs : List X) → has x ≡ false
    → list_any has (x ∷ xs) ≡ list_any has xs
first_passed has x xs is = ap (λ (b : Bool). b || list_any has xs) is

module _ (has : Instruction → Bool) (pattern : Pattern) where
  abbrev pub at : ℕ → Bool
  at d = has (matching_at pattern d)

  -- up to a number none has it
  range_passed : (next a n : ℕ) → a ≤ next → ((k : ℕ) → a ≤ k → k < next → at k ≡ false)
      → list_any has (map (matching_at pattern) (range_with_len a n))
      ≡ list_any has (map (matching_at pattern) (range_with_len next (a + n - next)))
  range_passed next a zero from none =
      let gone : 0 ≡ a + 0 - next = omega (arith, from) in
      ap (λ (l : ℕ). list_any has (map (matching_at pattern) (range_with_len next l))) gone
  range_passed next a (suc n) from none = elim (cases_lt a next) [
    | inl below ↦ first_passed has (matching_at pattern a) (map (matching_at pattern) (range_with_len (a + 1) n))
        (none a (omega arith) below)
        ∙ range_passed next (a + 1) n (omega (arith, below)) (λ k low high. none k (omega (arith, low)) high)
        ∙ ap (λ (l : ℕ). list_any has (map (matching_at pattern) (range_with_len next l))) (shift a n next)
    | inr past ↦ (let here : a ≡ next = omega (arith, from, past) in
        let long : suc n ≡ a + suc n - next = omega (arith, here) in
        ap (λ (x : ℕ). list_any has (map (matching_at pattern) (range_with_len x (suc n)))) here
        ∙ ap (λ (l : ℕ). list_any has (map (matching_at pattern) (range_with_len next l))) long)
  ]
    where
      shift : (a n next : ℕ) → a + 1 + n - next ≡ a + suc n - next
      shift a n next = omega arith

  -- from a data address on, one that hasn't it counts for nothing, nor do those that are like it
  pub alike_passed : (d next : ℕ) → d ≤ pattern.d_to → d < next → at d ≡ false
      → ((k : ℕ) → d ≤ k → k < next → at k ≡ at d)
      → list_any has (matching_from pattern d) ≡ list_any has (matching_from pattern next)
  alike_passed d next to further none alike =
      range_passed next d (suc pattern.d_to - d) (omega (arith, further))
      (λ k low high. alike k low high ∙ none)
      ∙ ap (λ (l : ℕ). list_any has (map (matching_at pattern) (range_with_len next l)))
      (rest pattern.d_to d next to)
    where
      rest : (last d next : ℕ) → d ≤ last → d + (suc last - d) - next ≡ suc last - next
      rest last d next to = omega (arith, to)

  -- one that has it is enough
  pub here_enough : (d : ℕ) → d ≤ pattern.d_to → at d ≡ true → list_any has (matching_from pattern d) ≡ true
  here_enough d to is =
      ap (λ (l : ℕ). list_any has (map (matching_at pattern) (range_with_len d l))) (long pattern.d_to d to)
      ∙ first_enough has (matching_at pattern d)
      (map (matching_at pattern) (range_with_len (d + 1) (pattern.d_to - d))) is
    where
      long : (last d : ℕ) → d ≤ last → suc last - d ≡ suc (last - d)
      long last d to = omega (arith, to)

  -- none is left behind the last
  pub none_left : (d : ℕ) → pattern.d_to < d → list_any has (matching_from pattern d) ≡ false
  none_left d past =
      ap (λ (l : ℕ). list_any has (map (matching_at pattern) (range_with_len d l))) (gone pattern.d_to d past)
    where
      gone : (last d : ℕ) → last < d → suc last - d ≡ 0
      gone last d past = omega (arith, past)

-- one more pattern, which has one
pub pattern_enough : (has : Instruction → Bool) (left rest : List Pattern) (pattern : Pattern) → left ≡ pattern ∷ rest
    → list_any has (matching pattern) ≡ true → list_any has (flat_map matching left) ≡ true
pattern_enough has left rest pattern first is =
    ap (λ (ps : List Pattern). list_any has (flat_map matching ps)) first
    ∙ list_any-append has (matching pattern) (flat_map matching rest)
    ∙ ap (λ (b : Bool). b || list_any has (flat_map matching rest)) is

-- or has none
pub pattern_passed : (has : Instruction → Bool) (left rest : List Pattern) (pattern : Pattern) → left ≡ pattern ∷ rest
    → list_any has (matching pattern) ≡ false
    → list_any has (flat_map matching left) ≡ list_any has (flat_map matching rest)
pattern_passed has left rest pattern first is =
    ap (λ (ps : List Pattern). list_any has (flat_map matching ps)) first
    ∙ list_any-append has (matching pattern) (flat_map matching rest)
    ∙ ap (λ (b : Bool). b || list_any has (flat_map matching rest)) is
