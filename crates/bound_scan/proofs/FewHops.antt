-- A location has few hops: a list has 64 patterns at most, each of which 10,000 instructions match at most, and an
-- instruction ends in four ways at most.
use Rattle.std.proofs.Common.{ℕ, ◌+◌, ◌*◌, ◌^◌, ◌≤◌, Bool, true, false, cond, List, [], ◌∷◌, ◌++◌, length, map, Option}
use Rattle.std.proofs.Common.{Some, None, arith, length-append}
use Rattle.std.specs.Prelude.{flat_map, filter, ◌==◌, ◌||◌, not}
use Rattle.std.specs.List.{AllByRecursion, list_any}
use Rattle.std.proofs.lemmas.List.{length-map}
use Rattle.base_words.specs.declared.instruction.Instruction.{Instruction}
use Rattle.base_words.specs.declared.op.Op.{Op}
use Rattle.base_words.specs.declared.op.Op.TheVariants.{NoOperation, Stop, Add, ResetAdd, Divide, DivideReset, Multiply}
use Rattle.base_words.specs.declared.op.Op.TheVariants.{Store, Shift, Branch, LoadDistributor, Read, Punch}
use Rattle.base_words.specs.declared.op.Op.TheVariants.{BranchOnDigit}
use Rattle.base_words.specs.declared.word.Word.{Word}
use Rattle.base_words.specs.Location.{is_location}
use Rattle.base_words.specs.Op.{op_of, operand_of, is_operand}
use Rattle.base_notes.specs.declared.notes.programmed.Programmed as switches
use Rattle.base_notes.specs.declared.notes.programmed.Programmed.TheVariants as switch
use Rattle.base_notes.specs.Allowed.{Listed, Notes, AreSound, matching, patterns_in, patterns_of, loaded, listed}
use Rattle.base_notes.specs.Allowed.{allowed}
use Rattle.machine_steps.specs.Ways.{Way, early, to, late, in_order, ways_of_stop, ways_of, ways_with, ways}
use Rattle.flow_graph.proofs.Instructed.{few_match}
use Rattle.flow_graph.specs.Hops.{Hop, hops_of, hops}

few_flat : {X Y : Type 0} (f : X → List Y) (most : ℕ) → ((x : X) → length (f x) ≤ most) → (xs : List X)
    → length (flat_map f xs) ≤ most * length xs
few_flat f most few [] = omega arith
few_flat f most few (x ∷ xs) = omega (arith, length-append (f x) (flat_map f xs), few x, few_flat f most few xs)

filtered_few : {X : Type 0} (p : X → Bool) (xs : List X) → length (filter p xs) ≤ length xs
filtered_few p [] = omega arith
filtered_few {X} p (x ∷ xs) = go (p x) (filtered_few p xs)
  where
    go : (b : Bool) → length (filter p xs) ≤ length xs
        → length (cond b (x ∷ filter p xs) (filter p xs)) ≤ length (x ∷ xs)
    go true less = omega (arith, less)
    go false less = omega (arith, less)

one_or_none : {X : Type 0} (b : Bool) (x : X) → length (cond b (x ∷ []) []) ≤ 1
one_or_none true x = omega arith
one_or_none false x = omega arith

few_in_order : (stops_early stops_late : Bool) (nexts : List ℕ)
    → length (in_order stops_early nexts stops_late) ≤ 2 + length nexts
few_in_order stops_early stops_late nexts =
    let prefix = cond stops_early (early ∷ []) [] in
    let middle = map to (filter is_location nexts) in
    let back = cond (stops_late || list_any (λ next. not (is_location next)) nexts) (late ∷ []) [] in
    omega (
      arith,
      length-append (prefix ++ middle) back,
      length-append prefix middle,
      one_or_none stops_early early,
      one_or_none (stops_late || list_any (λ next. not (is_location next)) nexts) late,
      length-map (filter is_location nexts) to,
      filtered_few is_location nexts,
    )

few_of_stop : (declared : switches.Programmed) (i : ℕ) → length (ways_of_stop declared i) ≤ 4
few_of_stop switch.Stop i = omega (arith, few_in_order false true [])
few_of_stop switch.Run i = omega (arith, few_in_order false false (i ∷ []))
few_of_stop switch.Any i = omega (arith, few_in_order false true (i ∷ []))

few_of_read : (loads : Bool) (d i : ℕ) → length (in_order true ((cond loads (d ∷ []) []) ++ i ∷ []) false) ≤ 4
few_of_read true d i = omega (arith, few_in_order true false (d ∷ i ∷ []))
few_of_read false d i = omega (arith, few_in_order true false (i ∷ []))

few_of : (notes : Notes) (op : Op) (d i : ℕ) → length (ways_of notes op d i) ≤ 4
few_of notes NoOperation d i = omega (arith, few_in_order false false (i ∷ []))
few_of notes Stop d i = few_of_stop notes.programmed i
few_of notes (Add a) d i = omega (arith, few_in_order false true (i ∷ []))
few_of notes (ResetAdd a) d i = omega (arith, few_in_order false false (i ∷ []))
few_of notes Divide d i = omega (arith, few_in_order false true (i ∷ []))
few_of notes DivideReset d i = omega (arith, few_in_order false true (i ∷ []))
few_of notes Multiply d i = omega (arith, few_in_order false true (i ∷ []))
few_of notes (Store s) d i = omega (arith, few_in_order false false (i ∷ []))
few_of notes (Shift s) d i = omega (arith, few_in_order false false (i ∷ []))
few_of notes (Branch b) d i = omega (arith, few_in_order false false (d ∷ i ∷ []))
few_of notes LoadDistributor d i = omega (arith, few_in_order false false (i ∷ []))
few_of notes Read d i = few_of_read notes.load_cards d i
few_of notes Punch d i = omega (arith, few_in_order false false (i ∷ []))
few_of notes (BranchOnDigit p) d i = omega (arith, few_in_order false true (d ∷ i ∷ []))

few_with : (notes : Notes) (op : Option Op) (d i : ℕ) → length (ways_with notes op d i) ≤ 4
few_with notes None d i = omega arith
few_with notes (Some op) d i = go (is_operand (operand_of op) d)
  where
    go : (b : Bool) → length (cond b (ways_of notes op d i) (early ∷ [])) ≤ 4
    go true = few_of notes op d i
    go false = omega arith

few_hops_of : (notes : Notes) (ins : Instruction) → length (hops_of notes ins) ≤ 4
few_hops_of notes ins =
    let hop : Way → Hop = λ w. record { ins = ins; way = w } in
    omega (arith, length-map (ways notes ins) hop, few_with notes (op_of ins.op) ins.d ins.i)

few_listed : (lists : List Listed) (place : ℕ)
    → AllByRecursion (λ list. (1 ≤ length list.patterns) × (length list.patterns ≤ 64)) lists
    → length (listed (patterns_in lists place)) ≤ 640000
few_listed [] place sound = omega arith
few_listed (list ∷ lists) place sound = go (list.location == place) (few_listed lists place sound.1)
  where
    go : (b : Bool) → length (listed (patterns_in lists place)) ≤ 640000
        → length (listed (cond b (Some list.patterns) (patterns_in lists place))) ≤ 640000
    go true others = omega (arith, few_flat matching (10 ^ 4) few_match list.patterns, sound.0.1)
    go false others = others

few_loaded : (found : Option Word) → length (loaded found) ≤ 1
few_loaded None = omega arith
few_loaded (Some w) = omega arith

pub few_hops : (loads : ℕ → Option Word) (notes : Notes) (place : ℕ) → AreSound notes
    → length (hops loads notes place) ≤ 2560004
few_hops loads notes place sound =
    omega (
      arith,
      few_flat (hops_of notes) 4 (few_hops_of notes) (allowed loads notes place),
      length-append (loaded (loads place)) (listed (patterns_of notes place)),
      few_loaded (loads place),
      few_listed notes.lists place sound.patterns,
    )
