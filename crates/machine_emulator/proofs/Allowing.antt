-- Which instructions lists allow, of what is compared.
use Rattle.std.proofs.Common.{◌≡◌, Bool, true, false, subst, ℕ, zero, suc, ◌<◌, List, [], ◌∷◌, ◌++◌, length, get_or}
use Rattle.std.proofs.Common.{refl, ap, inl, inr, arith}
use Rattle.std.specs.Prelude.{flat_map, ◌==◌, ◌&&◌, IsTrue, is_some, Option, Some}
use Rattle.std.specs.Bool.{MatchBool}
use Rattle.std.proofs.lemmas.Bool.Decides.{nat_tests}
use Rattle.std.specs.List.{Contains}
use Rattle.std.proofs.lemmas.List.Elements.{Contains-append_left, Contains-append_right, Contains-append_cases}
use Rattle.base_words.specs.declared.instruction.Instruction.{Instruction}
use Rattle.base_words.proofs.Same.{same_instruction}
use Rattle.base_notes.specs.declared.notes.pattern.Pattern.{Pattern}
use Rattle.base_notes.specs.Allowed.{Matches, matching, listed}
use Rattle.base_notes.proofs.Matching.{matching_has, has_matching}

-- what matches one of the patterns is allowed by them
pub allowed_by_one : (ps : List Pattern) (k : ℕ) (d : Pattern) (ins : Instruction) → k < length ps
    → Matches (get_or ps k d) ins → Contains (flat_map matching ps) ins
allowed_by_one [] k d ins inside matches = absurd (omega arith)
allowed_by_one (p ∷ ps) zero d ins inside matches =
    Contains-append_left (matching p) (flat_map matching ps) ins (matching_has p ins matches)
allowed_by_one (p ∷ ps) (suc k) d ins inside matches =
    Contains-append_right (matching p) (flat_map matching ps) ins (allowed_by_one ps k d ins (omega arith) matches)

-- what matches none of them isn't
pub allowed_by_none : (ps : List Pattern) (ins : Instruction)
    → ((k : ℕ) (d : Pattern) → k < length ps → ¬ Matches (get_or ps k d) ins) → ¬ Contains (flat_map matching ps) ins
allowed_by_none [] ins none has = absurd (omega (arith, has.1))
allowed_by_none (p ∷ ps) ins none has =
    elim (Contains-append_cases (matching p) (flat_map matching ps) ins has) [
      | inl first ↦ none 0 p (omega arith) (has_matching p ins first)
      | inr later ↦ allowed_by_none ps ins (λ k d inside. none (suc k) d (omega arith)) later
    ]

-- a list of one has that one alone
pub only_one : (a b : Instruction) → Contains (a ∷ []) b → a ≡ b
only_one a b (zero, inside, is) = is
only_one a b (suc k, inside, is) = absurd (omega arith)

-- the test of the one instruction that is loaded
pub loaded_test : (held ins : Instruction) (r : Bool) → r ≡ (held.op == ins.op && (held.d == ins.d && held.i == ins.i))
    → MatchBool r (Contains (held ∷ []) ins) (¬ Contains (held ∷ []) ins)
loaded_test held ins true e =
    let op : held.op ≡ ins.op = grind (arith, nat_tests) in
    let d : held.d ≡ ins.d = grind (arith, nat_tests) in
    let i : held.i ≡ ins.i = grind (arith, nat_tests) in
    (0, omega arith, same_instruction held ins op d i)
loaded_test held ins false e = λ has.
    let same : held ≡ ins = only_one held ins has in
    let op : held.op ≡ ins.op = ap (λ (v : Instruction). v.op) same in
    let d : held.d ≡ ins.d = ap (λ (v : Instruction). v.d) same in
    let i : held.i ≡ ins.i = ap (λ (v : Instruction). v.i) same in
    grind (arith, nat_tests)

-- the test of a listed location, where what the deck loads there isn't the instruction
abbrev Tested : Bool → List Instruction → Instruction → Option (List Pattern) → Type 0
Tested r held ins patterns =
    MatchBool r (IsTrue (is_some patterns) → Contains (held ++ listed patterns) ins)
    (¬ (IsTrue (is_some patterns) → Contains (held ++ listed patterns) ins))

by_patterns : (r : Bool) (held : List Instruction) (ps : List Pattern) (ins : Instruction) → ¬ Contains held ins
    → MatchBool r (Contains (flat_map matching ps) ins) (¬ Contains (flat_map matching ps) ins)
    → Tested r held ins (Some ps)
by_patterns true held ps ins other has = λ _. Contains-append_right held (flat_map matching ps) ins has
by_patterns false held ps ins other none = λ allowed.
    elim (Contains-append_cases held (flat_map matching ps) ins (allowed refl))
    [ inl first ↦ other first | inr later ↦ none later ]

pub listed_test : (r : Bool) (held : List Instruction) (ps : List Pattern) (patterns : Option (List Pattern))
    (ins : Instruction) → Some ps ≡ patterns → ¬ Contains held ins
    → MatchBool r (Contains (flat_map matching ps) ins) (¬ Contains (flat_map matching ps) ins)
    → Tested r held ins patterns
listed_test r held ps patterns ins is other has = subst (Tested r held ins) is (by_patterns r held ps ins other has)
