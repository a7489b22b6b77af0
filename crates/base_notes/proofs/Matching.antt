-- The instructions that match a pattern, counted and by their places.
use Rattle.std.proofs.Common.{◌≡◌, ℕ, zero, suc, ◌+◌, ◌-◌, ◌<◌, List, [], ◌∷◌, ◌++◌, map, length, get_or, Option, Some}
use Rattle.std.proofs.Common.{None, refl, ap, sym, ◌∙◌, subst, inl, inr, ◌⊎◌, arith}
use Rattle.std.proofs.lemmas.List.Elements.{Contains-append_left, Contains-append_right, Contains-append_cases}
use Rattle.std.proofs.lemmas.List.FromFn.{length-map-range_with_len, length-range_with_len, get_or-map-range_with_len}
use Rattle.std.proofs.lemmas.List.FromFn.{get_or-range_with_len}
use Rattle.std.proofs.lemmas.Option.{slice_get-map, slice_get-get_or}
use Rattle.std.specs.List.{range_with_len}
use Rattle.std.specs.Option.{option_map}
use Rattle.std.proofs.lemmas.Simd.{map-map}
use Rattle.std.specs.List.Sorted.{IsStrictlyIncreasing}
use Rattle.std.specs.Prelude.{slice_get, flat_map, Any, Contains, IsSomeAnd, ◌↔◌}
use Rattle.base_words.specs.declared.instruction.Instruction.{Instruction}
use Rattle.base_words.specs.declared.word.Word.{Word}
use Rattle.base_words.specs.Instruction.{instruction, instruction_of}
use Rattle.base_words.proofs.Same.{same_instruction}
use Rattle.base_notes.specs.declared.notes.pattern.Pattern.{Pattern}
use Rattle.base_notes.specs.Allowed.{Matches, matching, loaded, listed}

-- the instruction of a pattern with this D
abbrev instruction_at : Pattern → ℕ → Instruction
instruction_at p d = instruction p.op d p.i

pub how_many : (p : Pattern) → p.d_to - p.d_from + 1 ≡ length (matching p)
how_many p =
    let all : length (matching p) ≡ suc p.d_to - p.d_from =
    length-map-range_with_len (instruction_at p) p.d_from (suc p.d_to - p.d_from) in
    omega (arith, all, p.ordered)

pub one_at : (p : Pattern) (k : ℕ) {ins : Instruction} → k < length (matching p) → ins.op ≡ p.op → ins.d ≡ p.d_from + k
    → ins.i ≡ p.i → Some ins ≡ slice_get (matching p) k
one_at p k {ins} below op d i =
    let size : ℕ = suc p.d_to - p.d_from in
    let all : length (matching p) ≡ suc p.d_to - p.d_from =
    length-map-range_with_len (instruction_at p) p.d_from (suc p.d_to - p.d_from) in
    let numbers : List ℕ = range_with_len p.d_from (suc p.d_to - p.d_from) in
    let within : k < suc p.d_to - p.d_from = omega (arith, all, below) in
    let inside : k < length (range_with_len p.d_from (suc p.d_to - p.d_from)) =
    omega (arith, length-range_with_len p.d_from (suc p.d_to - p.d_from), within) in
    let number : slice_get (range_with_len p.d_from (suc p.d_to - p.d_from)) k ≡ Some (p.d_from + k) =
    slice_get-get_or (range_with_len p.d_from (suc p.d_to - p.d_from)) k 0 inside
    ∙ ap Some (get_or-range_with_len p.d_from (suc p.d_to - p.d_from) k 0 within) in
    let same : ins ≡ instruction_at p (p.d_from + k) =
    same_instruction ins (instruction_at p (p.d_from + k)) (omega (arith, op, p.two))
    (omega (arith, d, within, p.four, p.ordered)) (omega (arith, i, p.next_four)) in
    sym (slice_get-map (instruction_at p) (range_with_len p.d_from (suc p.d_to - p.d_from)) k
    ∙ ap (option_map (instruction_at p)) number ∙ ap Some (sym same))

-- what matches a pattern is among its instructions
pub matching_has : (p : Pattern) (ins : Instruction) → Matches p ins → Contains (matching p) ins
matching_has p ins matches =
    let all : length (matching p) ≡ suc p.d_to - p.d_from =
    length-map-range_with_len (instruction_at p) p.d_from (suc p.d_to - p.d_from) in
    let within : ins.d - p.d_from < suc p.d_to - p.d_from = omega (arith, matches.from, matches.to) in
    let there = get_or-map-range_with_len (instruction_at p) p.d_from (suc p.d_to - p.d_from) (ins.d - p.d_from)
    (p.d_from + (ins.d - p.d_from)) ins within refl in
    let same : instruction_at p (p.d_from + (ins.d - p.d_from)) ≡ ins =
    same_instruction (instruction_at p (p.d_from + (ins.d - p.d_from))) ins (omega (arith, matches.same_op, p.two))
    (omega (arith, matches.from, ins.four)) (omega (arith, matches.same_i, p.next_four)) in
    (ins.d - p.d_from, omega (arith, all, within), there ∙ same)

-- and what is among them matches
pub has_matching : (p : Pattern) (ins : Instruction) → Contains (matching p) ins → Matches p ins
has_matching p ins has =
    let all : length (matching p) ≡ suc p.d_to - p.d_from =
    length-map-range_with_len (instruction_at p) p.d_from (suc p.d_to - p.d_from) in
    let within : has.0 < suc p.d_to - p.d_from = omega (arith, all, has.1) in
    let same : instruction_at p (p.d_from + has.0) ≡ ins =
    sym (get_or-map-range_with_len (instruction_at p) p.d_from (suc p.d_to - p.d_from) has.0
    (p.d_from + has.0) ins within refl) ∙ has.2 in
    let op : (instruction_at p (p.d_from + has.0)).op ≡ ins.op = ap (λ (v : Instruction). v.op) same in
    let d : (instruction_at p (p.d_from + has.0)).d ≡ ins.d = ap (λ (v : Instruction). v.d) same in
    let i : (instruction_at p (p.d_from + has.0)).i ≡ ins.i = ap (λ (v : Instruction). v.i) same in
    record {
      same_op = omega (arith, op, p.two);
      from = omega (arith, d, within, p.four, p.ordered);
      to = omega (arith, d, within, p.four, p.ordered);
      same_i = omega (arith, i, p.next_four);
    }

-- each D is below the next
pub matching_rises : (p : Pattern) → IsStrictlyIncreasing (map (λ ins. ins.d) (matching p))
matching_rises p k more =
    let size : ℕ = suc p.d_to - p.d_from in
    let d_of : Instruction → ℕ = λ ins. ins.d in
    let same : map (λ (ins : Instruction). ins.d) (matching p)
    ≡ map (λ d. (instruction_at p d).d) (range_with_len p.d_from (suc p.d_to - p.d_from)) =
    map-map d_of (instruction_at p) (range_with_len p.d_from (suc p.d_to - p.d_from)) in
    let all : length (map (λ (ins : Instruction). ins.d) (matching p)) ≡ suc p.d_to - p.d_from = ap length same
    ∙ length-map-range_with_len (λ d. (instruction_at p d).d) p.d_from (suc p.d_to - p.d_from) in
    let within : k + 1 < suc p.d_to - p.d_from = omega (arith, all, more) in
    let here : get_or (map (λ (ins : Instruction). ins.d) (matching p)) k 0 ≡ (instruction_at p (p.d_from + k)).d =
    ap (λ (ds : List ℕ). get_or ds k 0) same ∙ get_or-map-range_with_len (λ d. (instruction_at p d).d) p.d_from
    (suc p.d_to - p.d_from) k (p.d_from + k) 0 (omega arith) refl in
    let next : get_or (map (λ (ins : Instruction). ins.d) (matching p)) (k + 1) 0
    ≡ (instruction_at p (p.d_from + (k + 1))).d =
    ap (λ (ds : List ℕ). get_or ds (k + 1) 0) same ∙ get_or-map-range_with_len (λ d. (instruction_at p d).d) p.d_from
    (suc p.d_to - p.d_from) (k + 1) (p.d_from + (k + 1)) 0 within refl in
    omega (arith, here, next, within, p.four, p.ordered)

-- what matches one of some patterns is among their instructions
any_has : (ps : List Pattern) (ins : Instruction) → Any (λ pattern. Matches pattern ins) ps
    → Contains (flat_map matching ps) ins
any_has [] ins (k, one, within, here, matches) = absurd (omega arith)
any_has (p ∷ ps) ins (zero, one, within, here, matches) =
    Contains-append_left (matching p) (flat_map matching ps) ins
    (matching_has p ins (subst (λ (pattern : Pattern). Matches pattern ins) (sym here) matches))
any_has (p ∷ ps) ins (suc k, one, within, here, matches) =
    Contains-append_right (matching p) (flat_map matching ps) ins (any_has ps ins (k, one, omega arith, here, matches))

has_any : (ps : List Pattern) (ins : Instruction) → Contains (flat_map matching ps) ins
    → Any (λ pattern. Matches pattern ins) ps
has_any [] ins has = absurd (omega (arith, has.1))
has_any (p ∷ ps) ins has = elim (Contains-append_cases (matching p) (flat_map matching ps) ins has) [
  | inl first ↦ (0, p, omega arith, refl, has_matching p ins first)
  | inr later ↦ let rest = has_any ps ins later in (suc rest.0, rest.1, omega (arith, rest.2), rest.3, rest.4)
]

-- the deck loads the instruction, or it matches a pattern
abbrev MayStand : Option Word → Option (List Pattern) → Instruction → Type 0
MayStand word patterns ins = IsSomeAnd word (λ one. instruction_of one ≡ ins)
    ⊎ IsSomeAnd patterns (Any (λ pattern. Matches pattern ins))

has_loaded : (word : Option Word) (ins : Instruction) → Contains (loaded word) ins
    → IsSomeAnd word (λ one. instruction_of one ≡ ins)
has_loaded None ins has = omega (arith, has.1)
has_loaded (Some word) ins (zero, within, is) = is
has_loaded (Some word) ins (suc k, within, is) = absurd (omega arith)

loaded_has : (word : Option Word) (ins : Instruction) → IsSomeAnd word (λ one. instruction_of one ≡ ins)
    → Contains (loaded word) ins
loaded_has None ins is = absurd is
loaded_has (Some word) ins is = (0, omega arith, is)

has_listed : (patterns : Option (List Pattern)) (ins : Instruction) → Contains (listed patterns) ins
    → IsSomeAnd patterns (Any (λ pattern. Matches pattern ins))
has_listed None ins has = omega (arith, has.1)
has_listed (Some ps) ins has = has_any ps ins has

listed_has : (patterns : Option (List Pattern)) (ins : Instruction)
    → IsSomeAnd patterns (Any (λ pattern. Matches pattern ins)) → Contains (listed patterns) ins
listed_has None ins is = absurd is
listed_has (Some ps) ins is = any_has ps ins is

pub allowed_is : (word : Option Word) (patterns : Option (List Pattern)) (ins : Instruction)
    → Contains (loaded word ++ listed patterns) ins ↔ MayStand word patterns ins
allowed_is word patterns ins = (
  λ has. elim (Contains-append_cases (loaded word) (listed patterns) ins has) [
    | inl first ↦ inl
        (has_loaded word ins first)
    | inr later ↦ inr (has_listed patterns ins later)
  ],
  λ stands. elim stands [
    | inl first ↦ Contains-append_left (loaded word) (listed patterns) ins (loaded_has word ins first)
    | inr later ↦ Contains-append_right (loaded word) (listed patterns) ins (listed_has patterns ins later)
  ],
)
