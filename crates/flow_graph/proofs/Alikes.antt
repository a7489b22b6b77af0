-- That instructions which are alike but for their data address write the same words, and have the
-- same ways.
use Rattle.std.proofs.Common.{◌≡◌, ℕ, ◌%◌, ◌^◌, ◌<◌, ◌≤◌, Bool, true, false, not, List, [], ◌∷◌, ◌++◌, map, Option}
use Rattle.std.proofs.Common.{Some, None, refl, ap, sym, ◌∙◌, inl, inr, ◌⊎◌, arith}
use Rattle.std.specs.Prelude.{if◌then◌else◌, ◌||◌, ◌&&◌, nat_lt, filter}
use Rattle.std.specs.List.{list_any}
use Rattle.std.proofs.lemmas.Bool.{le-ltb}
use Rattle.base_words.specs.declared.instruction.Instruction.{Instruction}
use Rattle.base_words.specs.declared.op.Op.{Op}
use Rattle.base_words.specs.declared.op.Op.TheVariants.{NoOperation, Stop, Add, ResetAdd, Divide, DivideReset, Multiply}
use Rattle.base_words.specs.declared.op.Op.TheVariants.{Store, Shift, Branch, LoadDistributor, Read, Punch}
use Rattle.base_words.specs.declared.op.Op.TheVariants.{BranchOnDigit}
use Rattle.base_words.specs.declared.op.store.Store as stores
use Rattle.base_words.specs.declared.op.Operand.{Operand}
use Rattle.base_words.specs.declared.op.Operand.TheVariants.{Any, Drum, Unused}
use Rattle.base_words.specs.Location.{is_location}
use Rattle.base_words.specs.Op.{op_of, operand_of, is_operand}
use Rattle.base_notes.specs.Allowed.{Notes}
use Rattle.machine_steps.specs.Ways.{Way, early, to, late, in_order, ways_of, ways_with, ways}
use Rattle.machine_steps.specs.Writes.{written_by, writes_with, writes}
use Rattle.flow_graph.specs.Alike.{with_d, branches, branches_with}

-- what is so of two digits and four is so of an instruction's parts
at_digits : {X : Type 0} (f : ℕ → ℕ → ℕ → X) (ins : Instruction) (d : ℕ) → d < 10 ^ 4
    → f (ins.op % 100) (d % 10 ^ 4) (ins.i % 10 ^ 4) ≡ f ins.op d ins.i
at_digits f ins d four =
    let op : ins.op % 100 ≡ ins.op = omega (arith, ins.two) in
    let at : d % 10 ^ 4 ≡ d = omega (arith, four) in
    let next : ins.i % 10 ^ 4 ≡ ins.i = omega (arith, ins.next_four) in
    ap (λ (n : ℕ). f n (d % 10 ^ 4) (ins.i % 10 ^ 4)) op ∙ ap (λ (n : ℕ). f ins.op n (ins.i % 10 ^ 4)) at
    ∙ ap (λ (n : ℕ). f ins.op d n) next

-- the words that it writes, and the ways that it has, with another data address
pub writes_at : (ins : Instruction) (d : ℕ) → d < 10 ^ 4 → writes (with_d ins d) ≡ writes_with (op_of ins.op) d
writes_at ins d four = at_digits (λ op d i. writes_with (op_of op) d) ins d four

pub ways_at : (notes : Notes) (ins : Instruction) (d : ℕ) → d < 10 ^ 4
    → ways notes (with_d ins d) ≡ ways_with notes (op_of ins.op) d ins.i
ways_at notes ins d four = at_digits (λ op d i. ways_with notes (op_of op) d i) ins d four

-- past the drum nothing is written
pub none_written : (op : Option Op) (d : ℕ) → 2000 ≤ d → writes_with op d ≡ []
none_written None d past = refl
none_written (Some op) d past = ap (λ (b : Bool). if b then written_by op d else []) (le-ltb d 2000 past)

-- nor is anything by an operation that neither stores nor reads a card
pub none_other : (op : Op) (d : ℕ) → ((store : stores.Store) → op ≡ Store store → ⊥) → (op ≡ Read → ⊥)
    → writes_with (Some op) d ≡ []
none_other op d no_store no_read = either (nat_lt d 2000) (written_by op d) (go op no_store no_read)
  where
    either : (b : Bool) (words : List ℕ) → words ≡ [] → (if b then words else []) ≡ []
    either true words none = none
    either false words none = refl

    go : (op : Op) → ((store : stores.Store) → op ≡ Store store → ⊥) → (op ≡ Read → ⊥) → written_by op d ≡ []
    go NoOperation no_store no_read = refl
    go Stop no_store no_read = refl
    go (Add x) no_store no_read = refl
    go (ResetAdd x) no_store no_read = refl
    go Divide no_store no_read = refl
    go DivideReset no_store no_read = refl
    go Multiply no_store no_read = refl
    go (Store x) no_store no_read = absurd (no_store x refl)
    go (Shift x) no_store no_read = refl
    go (Branch x) no_store no_read = refl
    go LoadDistributor no_store no_read = refl
    go Read no_store no_read = absurd (no_read refl)
    go Punch no_store no_read = refl
    go (BranchOnDigit x) no_store no_read = refl

-- one of two tests that aren't both so
pub one_false : (a b : Bool) → (a && b) ≡ false → (a ≡ false) ⊎ (b ≡ false)
one_false true b e = inr e
one_false false b e = inl refl

-- D's that are both operands, or neither
same_operand : (operand : Operand) (a b : ℕ) → is_location a ≡ is_location b → nat_lt a 2000 ≡ nat_lt b 2000
    → is_operand operand a ≡ is_operand operand b
same_operand Any a b location drum = location
same_operand Drum a b location drum = drum
same_operand Unused a b location drum = refl

-- the ways of two addresses, of which the first is no location
none_first : (stops_early stops_late : Bool) (a i : ℕ) → is_location a ≡ false
    → in_order stops_early (a ∷ i ∷ []) stops_late
    ≡ (if stops_early then early ∷ [] else []) ++ map to (filter is_location (i ∷ []))
    ++ (if stops_late || true then late ∷ [] else [])
none_first stops_early stops_late a i off =
    ap (λ (b : Bool). (if stops_early then early ∷ [] else [])
    ++ map to (if b then a ∷ filter is_location (i ∷ []) else filter is_location (i ∷ []))
    ++ (if stops_late || (not b || list_any (λ next. not (is_location next)) (i ∷ [])) then late ∷ [] else [])) off

-- an operation that doesn't go on at D has the same ways with each
same_onward : (notes : Notes) (op : Op) (a b i : ℕ) → branches notes op ≡ false
    → ways_of notes op a i ≡ ways_of notes op b i
same_onward notes NoOperation a b i alone = refl
same_onward notes Stop a b i alone = refl
same_onward notes (Add x) a b i alone = refl
same_onward notes (ResetAdd x) a b i alone = refl
same_onward notes Divide a b i alone = refl
same_onward notes DivideReset a b i alone = refl
same_onward notes Multiply a b i alone = refl
same_onward notes (Store x) a b i alone = refl
same_onward notes (Shift x) a b i alone = refl
same_onward notes (Branch x) a b i alone = cc
same_onward notes LoadDistributor a b i alone = refl
same_onward notes Read a b i alone =
    ap (λ (t : Bool). in_order true ((if t then a ∷ [] else []) ++ i ∷ []) false) alone
    ∙ sym (ap (λ (t : Bool). in_order true ((if t then b ∷ [] else []) ++ i ∷ []) false) alone)
same_onward notes Punch a b i alone = refl
same_onward notes (BranchOnDigit x) a b i alone = cc

-- so has one that does with each that is no location
same_off : (notes : Notes) (op : Op) (a b i : ℕ) → is_location a ≡ false → is_location b ≡ false
    → ways_of notes op a i ≡ ways_of notes op b i
same_off notes NoOperation a b i off other = refl
same_off notes Stop a b i off other = refl
same_off notes (Add x) a b i off other = refl
same_off notes (ResetAdd x) a b i off other = refl
same_off notes Divide a b i off other = refl
same_off notes DivideReset a b i off other = refl
same_off notes Multiply a b i off other = refl
same_off notes (Store x) a b i off other = refl
same_off notes (Shift x) a b i off other = refl
same_off notes (Branch x) a b i off other = none_first false false a i off ∙ sym (none_first false false b i other)
same_off notes LoadDistributor a b i off other = refl
same_off notes Read a b i off other = go notes.load_cards
  where
    go : (cards : Bool) → in_order true ((if cards then a ∷ [] else []) ++ i ∷ []) false
        ≡ in_order true ((if cards then b ∷ [] else []) ++ i ∷ []) false
    go true = none_first true false a i off ∙ sym (none_first true false b i other)
    go false = refl
same_off notes Punch a b i off other = refl
same_off notes (BranchOnDigit x) a b i off other = none_first false true a i off ∙ sym (none_first false true b i other)

-- two D's of one part of the addresses
pub same_part : (notes : Notes) (op : Option Op) (a b i : ℕ) → is_location a ≡ is_location b
    → nat_lt a 2000 ≡ nat_lt b 2000
    → (branches_with notes op ≡ false) ⊎ (is_location b ≡ false) → ways_with notes op a i ≡ ways_with notes op b i
same_part notes None a b i location drum apart = refl
same_part notes (Some op) a b i location drum apart =
    ap (λ (t : Bool). if t then ways_of notes op a i else early ∷ []) (same_operand (operand_of op) a b location drum)
    ∙ ap (λ (all : List Way). if is_operand (operand_of op) b then all else early ∷ []) (elim apart [
      | inl alone ↦ same_onward notes op a b i alone
      | inr off ↦ same_off notes op a b i (location ∙ off) off
    ])
