-- What is added to a list of the locations where instructions go on, and that those with the same
-- ways add nothing after the first.
use Rattle.std.proofs.Common.{◌≡◌, ℕ, zero, suc, ◌+◌, ◌-◌, ◌<◌, ◌≤◌, Bool, true, false, eqb, List, [], ◌∷◌, ◌++◌, map}
use Rattle.std.proofs.Common.{Option, Contains, refl, ap, sym, ◌∙◌, inl, inr, arith}
use Rattle.std.specs.Prelude.{flat_map, filter_map, if◌then◌else◌}
use Rattle.std.specs.List.{range_with_len, list_any, cons_option}
use Rattle.std.proofs.lemmas.Bool.{cases_lt}
use Rattle.std.proofs.lemmas.List.Elements.{filter_map-append}
use Rattle.std.proofs.lemmas.List.Folds.{flat_map-map}
use Rattle.std.proofs.lemmas.Grind.{flat_map-append}
use Rattle.base_words.specs.declared.instruction.Instruction.{Instruction}
use Rattle.base_words.specs.declared.word.Word.{Word}
use Rattle.base_notes.specs.declared.notes.pattern.Pattern.{Pattern}
use Rattle.base_notes.specs.Allowed.{Notes, allowed, matching}
use Rattle.machine_steps.specs.Ways.{Way, ways}
use Rattle.base_graphs.proofs.Lists.{contains_here, contains_there}
use Rattle.flow_graph.specs.Executed.{target_of, successors, with_new}
use Rattle.flow_graph.specs.Found.{targets_of, targets_by}
use Rattle.flow_graph.specs.Hops.{Hop, hops_of}
use Rattle.flow_graph.proofs.Matched.{matching_at, matching_from}
use Rattle.flow_graph.proofs.Orders.{contains_any, with_new_has}

-- lists that are added in turn
pub with_new_append : (places xs ys : List ℕ) → with_new places (xs ++ ys) ≡ with_new (with_new places xs) ys
with_new_append places [] ys = refl
with_new_append places (x ∷ xs) ys =
    go (list_any (λ place. eqb place x) places) (with_new_append places xs ys)
    (with_new_append (places ++ x ∷ []) xs ys)
  where
    go : (b : Bool) → with_new places (xs ++ ys) ≡ with_new (with_new places xs) ys
        → with_new (places ++ x ∷ []) (xs ++ ys) ≡ with_new (with_new (places ++ x ∷ []) xs) ys
        → (if b then with_new places (xs ++ ys) else with_new (places ++ x ∷ []) (xs ++ ys))
        ≡ with_new (if b then with_new places xs else with_new (places ++ x ∷ []) xs) ys
    go true there new = there
    go false there new = new

-- a list whose members are all there adds nothing
none_new : (places xs : List ℕ) → ((x : ℕ) → Contains xs x → Contains places x) → with_new places xs ≡ places
none_new places [] all = refl
none_new places (x ∷ xs) all =
    ap (λ (b : Bool). if b then with_new places xs else with_new (places ++ x ∷ []) xs)
    (contains_any places x (all x (contains_here x xs)))
    ∙ none_new places xs (λ y there. all y (contains_there x y xs there))

-- a list that is added again adds nothing
again_none_new : (places xs : List ℕ) → with_new (with_new places xs) xs ≡ with_new places xs
again_none_new places xs = none_new (with_new places xs) xs (with_new_has places xs)

-- up to a number, numbers whose lists are one list that is there add nothing
past_alike : (list_of : ℕ → List ℕ) (places same : List ℕ) (next a n : ℕ) → a ≤ next → with_new places same ≡ places
    → ((k : ℕ) → a ≤ k → k < next → list_of k ≡ same)
    → with_new places (flat_map list_of (range_with_len a n))
    ≡ with_new places (flat_map list_of (range_with_len next (a + n - next)))
past_alike list_of places same next a zero from there alike =
    let none : 0 ≡ a + 0 - next = omega arith in
    ap (λ (l : ℕ). with_new places (flat_map list_of (range_with_len next l))) none
past_alike list_of places same next a (suc n) from there alike =
    let rest : List ℕ = flat_map list_of (range_with_len (a + 1) n) in
    elim (cases_lt a next) [
      | inl below ↦ ap (λ (xs : List ℕ). with_new places (xs ++ rest)) (alike a (omega arith) below)
          ∙ with_new_append places same rest ∙ ap (λ (xs : List ℕ). with_new xs rest) there
          ∙ past_alike list_of places same next (a + 1) n (omega (arith, below)) there
          (λ k low high. alike k (omega (arith, low)) high)
          ∙ ap (λ (l : ℕ). with_new places (flat_map list_of (range_with_len next l))) (shift a n next)
      | inr past ↦ (let here : a ≡ next = omega (arith, from, past) in
          let long : suc n ≡ a + suc n - next = omega (arith, here) in
          ap (λ (x : ℕ). with_new places (flat_map list_of (range_with_len x (suc n)))) here
          ∙ ap (λ (l : ℕ). with_new places (flat_map list_of (range_with_len next l))) long)
    ]
  where
    shift : (a n next : ℕ) → a + 1 + n - next ≡ a + suc n - next
    shift a n next = omega arith

-- what each instruction adds, in place of where it goes on
module _ (adds : Instruction → List ℕ) where
  -- from a data address on a pattern adds what its instruction there does, and then what it adds from
  -- another one on, up to which all add the same
  pub added_alike : (pattern : Pattern) (places : List ℕ) (d next : ℕ) → d ≤ pattern.d_to → d < next
      → ((k : ℕ) → d ≤ k → k < next → adds (matching_at pattern k) ≡ adds (matching_at pattern d))
      → with_new places (flat_map adds (matching_from pattern d))
      ≡ with_new (with_new places (adds (matching_at pattern d))) (flat_map adds (matching_from pattern next))
  added_alike pattern places d next to further alike =
      let here : List ℕ = with_new places (at d) in
      ap (with_new places) (from d)
      ∙ ap (λ (n : ℕ). with_new places (flat_map at (range_with_len d n))) (first pattern.d_to d to)
      ∙ with_new_append places (at d) (flat_map at (range_with_len (d + 1) (pattern.d_to - d)))
      ∙ past_alike at here (at d) next (d + 1) (pattern.d_to - d) (omega (arith, further))
      (again_none_new places (at d)) (λ k low high. alike k (omega (arith, low)) high)
      ∙ ap (λ (n : ℕ). with_new here (flat_map at (range_with_len next n))) (rest pattern.d_to d next to)
      ∙ ap (with_new here) (sym (from next))
    where
      at : ℕ → List ℕ
      at d = adds (matching_at pattern d)

      from : (k : ℕ) → flat_map adds (matching_from pattern k) ≡ flat_map at (range_with_len k (suc pattern.d_to - k))
      from k = flat_map-map adds (matching_at pattern) (range_with_len k (suc pattern.d_to - k))

      first : (last d : ℕ) → d ≤ last → suc last - d ≡ suc (last - d)
      first last d to = omega arith

      rest : (last d next : ℕ) → d ≤ last → d + 1 + (last - d) - next ≡ suc last - next
      rest last d next to = omega arith

  -- one more pattern
  pub added_more : (places : List ℕ) (pattern : Pattern) (left rest : List Pattern) → left ≡ pattern ∷ rest
      → with_new places (flat_map adds (flat_map matching left))
      ≡ with_new (with_new places (flat_map adds (matching pattern))) (flat_map adds (flat_map matching rest))
  added_more places pattern left rest first =
      ap (λ (ps : List Pattern). with_new places (flat_map adds (flat_map matching ps))) first
      ∙ ap (with_new places) (flat_map-append adds (matching pattern) (flat_map matching rest))
      ∙ with_new_append places (flat_map adds (matching pattern)) (flat_map adds (flat_map matching rest))

-- the successors of a location are where its instructions go on
pub successors_by : (loads : ℕ → Option Word) (notes : Notes) (place : ℕ)
    → targets_by notes (allowed loads notes place) ≡ successors loads notes place
successors_by loads notes place = go (allowed loads notes place)
  where
    one : (ins : Instruction) (all : List Way)
        → targets_of all ≡ filter_map (λ (hop : Hop). target_of hop.way) (map (λ w. record { ins = ins; way = w }) all)
    one ins [] = refl
    one ins (w ∷ all) = ap (cons_option (target_of w)) (one ins all)

    go : (instructions : List Instruction)
        → targets_by notes instructions
        ≡ filter_map (λ (hop : Hop). target_of hop.way) (flat_map (hops_of notes) instructions)
    go [] = refl
    go (ins ∷ others) =
        ap (λ (xs : List ℕ). targets_of (ways notes ins) ++ xs) (go others)
        ∙ ap (λ (xs : List ℕ). xs ++ filter_map (λ (hop : Hop). target_of hop.way) (flat_map (hops_of notes) others))
        (one ins (ways notes ins))
        ∙ sym (filter_map-append (λ (hop : Hop). target_of hop.way) (hops_of notes ins)
        (flat_map (hops_of notes) others))
