-- What a coverage has seen, one stride later.
use Rattle.std.proofs.Common.{◌≡◌, ℕ, zero, suc, ◌<◌, ◌≤◌, Bool, true, false, List, ◌∷◌, ◌++◌, length, take, map, arith, inl, inr, []}
use Rattle.std.proofs.Common.{refl, ap, sym, subst, ◌∙◌, max}
use Rattle.std.specs.Prelude.{◌==◌, ◌&&◌, ◌||◌, slice_index, IsTrue, ◌↔◌, Option}
use Rattle.std.specs.Bool.{one_answer}
use Rattle.std.proofs.lemmas.Bool.{cases_lt}
use Rattle.std.proofs.lemmas.Bool.Decides.{nat_tests}
use Rattle.std.proofs.lemmas.List.{length-map}
use Rattle.std.proofs.lemmas.List.Folds.{list_any-append}
use Rattle.base_words.specs.declared.instruction.Instruction.{Instruction}
use Rattle.base_words.specs.declared.location.Location.{Location}
use Rattle.base_words.specs.declared.word.Word.{Word}
use Rattle.base_words.specs.Instruction.{instruction_of}
use Rattle.base_notes.specs.declared.notes.listing.Listing.{Listing}
use Rattle.base_notes.specs.declared.notes.mark.Mark.{Mark}
use Rattle.base_notes.specs.declared.notes.pattern.Pattern.{Pattern}
use Rattle.base_notes.specs.Allowed.{Listed, Matches, Notes}
use Rattle.base_notes.specs.Listed.{listed}
use Rattle.machine_steps.specs.Counts.{AreWithin, after_pass, no_counts}
use Rattle.machine_steps.specs.declared.counts.Counts.{Counts}
use Rattle.machine_steps.specs.declared.why.Why as whys
use Rattle.machine_steps.specs.Contents.{Contents}
use Rattle.machine_steps.specs.CountsIn.{counts_in}
use Rattle.machine_steps.specs.Keeps.{counts_after, counts_by, counts_over}
use Rattle.machine_steps.specs.Run.{Stride}
use Rattle.machine_steps.specs.Step.{Stepped, on, stopped, fetched, instruction_in}
use Rattle.machine_emulator.specs.declared.step.Step.TheVariants.{Went}
use Rattle.machine_emulator.specs.Machine.{Tells}
use Rattle.machine_emulator.proofs.Watching.{over_more}
use Rattle.program_replay.specs.declared.coverage.Coverage.{Coverage}
use Rattle.program_replay.specs.CoverageOf.{HasSeen, counts_of, flags_of, passed_at}
use Rattle.program_replay.proofs.Flags.{map_same}
use Rattle.program_replay.specs.Coverage.{highest_from, is_match, is_met, meets}

-- ---- counts

module _ (notes : Notes) (place : ℕ) where
  -- no count at the end is above the highest
  pub last_below : (counts : List ℕ) (strides : List Stride)
      → slice_index (counts_over notes counts strides) place ≤ highest_from notes place counts strides
  last_below counts [] = omega arith
  last_below counts (stride ∷ strides) = omega (arith, last_below (counts_after notes counts stride) strides)

  -- and the highest of one stride more is that so far, or the count then
  pub highest_more : (counts : List ℕ) (strides : List Stride) (stride : Stride)
      → highest_from notes place counts (strides ++ stride ∷ [])
      ≡ max (highest_from notes place counts strides)
      (slice_index (counts_over notes counts (strides ++ stride ∷ [])) place)
  highest_more counts [] stride = refl
  highest_more counts (first ∷ strides) stride =
      omega (arith, highest_more (counts_after notes counts first) strides stride)

  -- it is reached, and no count is above it
  pub reached_from : (counts : List ℕ) (strides : List Stride) → (n : ℕ) × (n ≤ length strides)
      × (slice_index (counts_over notes counts (take n strides)) place ≡ highest_from notes place counts strides)
  reached_from counts [] = (0, omega arith, refl)
  reached_from counts (stride ∷ strides) =
      let after : List ℕ = counts_after notes counts stride in
      let rest = reached_from after strides in
      elim (cases_lt (highest_from notes place after strides) (slice_index counts place)) [
        | inl above ↦ (0, omega arith, omega (arith, above))
        | inr below ↦ (suc rest.0, omega (arith, rest.1), omega (arith, rest.2, below))
      ]

  pub none_above : (counts : List ℕ) (strides : List Stride) (n : ℕ)
      → slice_index (counts_over notes counts (take n strides)) place ≤ highest_from notes place counts strides
  none_above counts [] zero = omega arith
  none_above counts [] (suc n) = omega arith
  none_above counts (stride ∷ strides) zero = omega arith
  none_above counts (stride ∷ strides) (suc n) =
      omega (arith, none_above (counts_after notes counts stride) strides n)

-- ---- patterns

both_left : (a b : Bool) → (a && b) ≡ true → a ≡ true
both_left true b is = refl
both_left false b is = is

both_right : (a b : Bool) → (a && b) ≡ true → b ≡ true
both_right true b is = is
both_right false b is = absurd (cc)

or_none : (a : Bool) → (a || false) ≡ a
or_none true = refl
or_none false = refl

pub met_more : (strides : List Stride) (stride : Stride) (location : ℕ) (pattern : Pattern)
    → is_met (strides ++ stride ∷ []) location pattern ≡ (is_met strides location pattern || meets location pattern stride)
met_more strides stride location pattern =
    list_any-append (meets location pattern) strides (stride ∷ [])
    ∙ ap (λ (b : Bool). is_met strides location pattern || b) (or_none (meets location pattern stride))

-- the test of a pattern is right
pub matched : (pattern : Pattern) (ins : Instruction) → is_match pattern ins ≡ true → Matches pattern ins
matched pattern ins is = record {
  same_op = grind (arith, nat_tests);
  from = grind (arith, nat_tests);
  to = grind (arith, nat_tests);
  same_i = grind (arith, nat_tests);
}

pub matching : (pattern : Pattern) (ins : Instruction) → Matches pattern ins → is_match pattern ins ≡ true
matching pattern ins is = go (is_match pattern ins) refl
  where
    go : (b : Bool) → is_match pattern ins ≡ b → is_match pattern ins ≡ true
    go true same = same
    go false same =
        let op : ins.op ≡ pattern.op = is.same_op in
        let from : pattern.d_from ≤ ins.d = is.from in
        let to : ins.d ≤ pattern.d_to = is.to in
        let i : ins.i ≡ pattern.i = is.same_i in
        grind (arith, nat_tests)

-- and so is that of a stride
pub meeting : (location : ℕ) (pattern : Pattern) (stride : Stride)
    → IsTrue (meets location pattern stride) ↔ ((stride.origin.sought ≡ location) × Matches pattern (instruction_in stride.origin))
meeting location pattern stride =
    let sought = stride.origin.sought in
    let ins = instruction_in stride.origin in (
      (λ is.
          let there : (sought == location) ≡ true = both_left (sought == location) (is_match pattern ins) is in (
            grind (arith, nat_tests),
            matched pattern ins (both_right (sought == location) (is_match pattern ins) is),
          )),
      (λ both.
          let same : sought ≡ location = both.0 in
          let there : (sought == location) ≡ true = grind (arith, nat_tests) in
          ap (λ (b : Bool). b && is_match pattern ins) there ∙ matching pattern ins both.1),
    )

pub match_is : (b : Bool) (pattern : Pattern) (ins : Instruction) → IsTrue b ↔ Matches pattern ins → b ≡ is_match pattern ins
match_is b pattern ins tells =
    one_answer b (is_match pattern ins) tells (matched pattern ins, matching pattern ins)

-- ---- what a coverage may count

-- a count within what its mark allows has four digits
pub within_short : (marks : List Mark) (counts : List ℕ) (place : ℕ) → AreWithin marks counts
    → slice_index counts place ≤ 9999
within_short [] [] place within = omega arith
within_short [] (count ∷ counts) place within = absurd within
within_short (mark ∷ marks) [] place within = absurd within
within_short (mark ∷ marks) (count ∷ counts) zero within = omega (arith, within.0, mark.four_digits)
within_short (mark ∷ marks) (count ∷ counts) (suc place) within = within_short marks counts place within.1

-- ---- flags

-- the flags of lists, as the code has them
abbrev pub row : (Listed → Pattern → Bool) → Listing → List Bool
row flag list = map (flag (listed list)) list.patterns.items

pub rows_listed : (flag : Listed → Pattern → Bool) (lists : List Listing)
    → flags_of flag (map listed lists) ≡ map (row flag) lists
rows_listed flag [] = refl
rows_listed flag (list ∷ lists) = ap (λ (rest : List (List Bool)). row flag list ∷ rest) (rows_listed flag lists)

pub rows_size : (flag : Listed → Pattern → Bool) (lists : List Listing) (rows : List (List Bool))
    → rows ≡ flags_of flag (map listed lists) → length rows ≡ length lists
rows_size flag lists rows are =
    ap length (are ∙ rows_listed flag lists) ∙ length-map lists (row flag)

flags_same : (f g : Listed → Pattern → Bool) (lists : List Listed)
    → ((list : Listed) (pattern : Pattern) → f list pattern ≡ g list pattern) → flags_of f lists ≡ flags_of g lists
flags_same f g lists same =
    map_same (λ list. map (f list) list.patterns) (λ list. map (g list) list.patterns) lists
    (λ list. map_same (f list) (g list) list.patterns (same list))

-- ---- one stride more

-- the flags once a stride is seen too
abbrev pub flag_with : Stride → (Listed → Pattern → Bool) → Listed → Pattern → Bool
flag_with stride flag list pattern = flag list pattern || meets list.location pattern stride

module _ (notes : Notes) (strides : List Stride) (stride : Stride) (old new : Coverage) (seen : HasSeen notes strides old) where
  -- so far no count is above the highest
  pub below : (place : ℕ) → place < length notes.marks
      → slice_index (counts_of old notes) place ≤ passed_at old place
  below place inside =
      omega (
        arith,
        ap (λ (counts : List ℕ). slice_index counts place) seen.counts,
        seen.highest place inside,
        last_below notes place (no_counts notes.marks) strides,
      )

  pub seen_more : counts_of new notes ≡ counts_after notes (counts_of old notes) stride
      → ((place : ℕ) → place < length notes.marks → passed_at new place
      ≡ max (passed_at old place) (slice_index (counts_of new notes) place))
      → ((flag : Listed → Pattern → Bool) → old.met.items ≡ flags_of flag notes.lists
      → new.met.items ≡ flags_of (flag_with stride flag) notes.lists)
      → HasSeen notes (strides ++ stride ∷ []) new
  seen_more counted raised met =
      let zeros = no_counts notes.marks in
      let more = strides ++ stride ∷ [] in
      let counts : counts_of new notes ≡ counts_over notes zeros more =
      counted ∙ ap (λ (counts : List ℕ). counts_after notes counts stride) seen.counts
      ∙ sym (over_more notes zeros strides stride) in
      record {
        counts = counts;
        highest = λ place inside.
            omega (
              arith,
              raised place inside,
              seen.highest place inside,
              ap (λ (some : List ℕ). slice_index some place) counts,
              highest_more notes place zeros strides stride,
            );
        met =
            met (λ list. is_met strides list.location) seen.met
            ∙ flags_same (flag_with stride (λ list. is_met strides list.location)) (λ list. is_met more list.location)
            notes.lists (λ list pattern. sym (met_more strides stride list.location pattern));
      }

-- a stride that stops is no pass
pub stop_counts : (notes : Notes) (stride : Stride) (old new : Coverage) → new.counts ≡ old.counts
    → (held : Contents) (why : whys.Why) (moment : ℕ) → stride.outcome ≡ stopped held why moment
    → counts_of new notes ≡ counts_after notes (counts_of old notes) stride
stop_counts notes stride old new same held why moment stops =
    ap (λ (held : Counts). counts_in held notes.marks) same
    ∙ sym (ap (counts_by notes (counts_of old notes) stride.origin.sought) stops)

-- one that goes on may be
pub went_counts : (notes : Notes) (counts : List ℕ) (from : ℕ) (outcome : Stepped) (origin : Location) (w : Word)
    (l : Bool) (p : Option (List Word)) (location : Location) (word : Word) (onto : Location) (used : ℕ) (load : Bool)
    (punched : Option (List Word)) → Tells outcome origin w l p (Went location word onto used load punched)
    → counts_by notes counts from outcome ≡ after_pass notes.marks from onto.number counts
went_counts notes counts from (on next) origin w l p location word onto used load punched told =
    ap (λ (n : ℕ). after_pass notes.marks from n counts) (sym told.2)
went_counts notes counts from (stopped held because moment) origin w l p location word onto used load punched told =
    absurd (cc)

-- the flags that the fetched word sets
pub met_there : (notes : Notes) (stride : Stride) (old new : List (List Bool)) (location : Location) (word : Word)
    (ins : Instruction) (lists : List Listing) → location.number ≡ stride.origin.sought → word ≡ fetched stride.origin
    → ins ≡ instruction_of word → map listed lists ≡ notes.lists
    → ((flag : Listed → Pattern → Bool) → old ≡ flags_of flag (map listed lists)
    → new ≡ flags_of (λ list pattern. flag list pattern || (location.number == list.location && is_match pattern ins))
    (map listed lists))
    → (flag : Listed → Pattern → Bool) → old ≡ flags_of flag notes.lists
    → new ≡ flags_of (flag_with stride flag) notes.lists
met_there notes stride old new location word ins lists numbers words is all met =
    let With : ℕ → Instruction → List Listed → Type 0 =
    λ number one some. (flag : Listed → Pattern → Bool) → old ≡ flags_of flag some
    → new ≡ flags_of (λ list pattern. flag list pattern || (number == list.location && is_match pattern one)) some in
    subst (λ (number : ℕ). With number (instruction_in stride.origin) notes.lists) numbers
    (subst (λ (one : Instruction). With location.number one notes.lists) (is ∙ ap instruction_of words)
    (subst (With location.number ins) all met))
