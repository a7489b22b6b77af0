-- What changes do to counts: one after the other, over rounds, and by one hop.
use Rattle.std.proofs.Common.{◌≡◌, ℕ, zero, suc, ◌+◌, ◌*◌, ◌<◌, ◌≤◌, Bool, true, false, List, [], ◌∷◌, length, map, refl, ap}
use Rattle.std.proofs.Common.{◌∙◌, arith, Option, Some, None, ◌++◌, take}
use Rattle.std.specs.Prelude.{slice_get, ◌==◌, if◌then◌else◌}
use Rattle.std.proofs.Math.Nat.{suc-mul}
use Rattle.base_notes.specs.declared.notes.mark.Mark.{Mark}
use Rattle.machine_steps.specs.Counts.{is_inside, no_counts, passed_from, AreWithin}
use Rattle.ceiling_rounds.specs.declared.change.Change.{Change}
use Rattle.ceiling_rounds.specs.declared.change.Change.TheVariants.{Rise, SetBack}
use Rattle.ceiling_rounds.specs.Change.{all_followed, count_after, counts_after, followed, over_rounds, passes_by, peak, peaks}
use Rattle.ceiling_rounds.specs.Stretch.{change_by, changes_by}

-- of two changes, one after the other
peak_followed : (a b : Change) (count most : ℕ) → peak (followed a b) count ≤ most
    → (peak a count ≤ most) × (peak b (count_after a count) ≤ most)
peak_followed (Rise by) (Rise more) count most low = (omega (arith, low), omega (arith, low))
peak_followed (Rise by) (SetBack passes rise highest last) count most low = (omega (arith, low), omega (arith, low))
peak_followed (SetBack passes rise highest last) b count most low = (omega (arith, low), omega (arith, low))

after_followed : (a b : Change) (count : ℕ) → count_after (followed a b) count ≡ count_after b (count_after a count)
after_followed (Rise by) (Rise more) count = omega arith
after_followed (Rise by) (SetBack passes rise highest last) count = refl
after_followed (SetBack passes rise highest last) b count = refl

pub passes_followed : (a b : Change) → passes_by (followed a b) ≡ passes_by a + passes_by b
passes_followed (Rise by) (Rise more) = refl
passes_followed (Rise by) (SetBack passes rise highest last) = refl
passes_followed (SetBack passes rise highest last) b = refl

-- The same of all counts, where there are xs many changes xs marks.
pub within_followed : (marks : List Mark) (xs ys : List Change) (counts : List ℕ) → length xs ≡ length marks
    → length ys ≡ length marks → AreWithin marks (peaks (all_followed xs ys) counts)
    → AreWithin marks (peaks xs counts) × AreWithin marks (peaks ys (counts_after xs counts))
within_followed [] [] [] counts few more within = (within, within)
within_followed [] (a ∷ xs) ys counts few more within = absurd (omega (arith, few))
within_followed [] [] (b ∷ ys) counts few more within = absurd (omega (arith, more))
within_followed (mark ∷ marks) [] ys counts few more within = absurd (omega (arith, few))
within_followed (mark ∷ marks) (a ∷ xs) [] counts few more within = absurd (omega (arith, more))
within_followed (mark ∷ marks) (a ∷ xs) (b ∷ ys) [] few more within = absurd within
within_followed (mark ∷ marks) (a ∷ xs) (b ∷ ys) (count ∷ counts) few more within =
    let one = peak_followed a b count mark.most within.0 in
    let rest = within_followed marks xs ys counts (omega (arith, few)) (omega (arith, more)) within.1 in
    ((one.0, rest.0), (one.1, rest.1))

pub counts_followed : (xs ys : List Change) (counts : List ℕ) → length xs ≡ length ys
    → counts_after (all_followed xs ys) counts ≡ counts_after ys (counts_after xs counts)
counts_followed [] [] counts same = refl
counts_followed [] (b ∷ ys) counts same = absurd (omega (arith, same))
counts_followed (a ∷ xs) [] counts same = absurd (omega (arith, same))
counts_followed (a ∷ xs) (b ∷ ys) [] same = refl
counts_followed (a ∷ xs) (b ∷ ys) (count ∷ counts) same =
    let one = after_followed a b count in
    let rest = counts_followed xs ys counts (omega (arith, same)) in
    cc (one, rest)

pub long_followed : (xs ys : List Change) → length xs ≡ length ys → length (all_followed xs ys) ≡ length xs
long_followed [] ys same = refl
long_followed (a ∷ xs) [] same = absurd (omega (arith, same))
long_followed (a ∷ xs) (b ∷ ys) same = ap suc (long_followed xs ys (omega (arith, same)))

-- what stands at an index of changes, one after the other
pub at_followed : (xs ys : List Change) (index : ℕ) (change : Change) → length xs ≡ length ys
    → slice_get (all_followed xs ys) index ≡ Some change
    → (a : Change) × ((b : Change) × (slice_get xs index ≡ Some a) × (slice_get ys index ≡ Some b)
    × (change ≡ followed a b))
at_followed [] ys index change same at = cc
at_followed (a ∷ xs) [] index change same at = absurd (omega (arith, same))
at_followed (a ∷ xs) (b ∷ ys) zero change same at = (a, (b, refl, refl, cc))
at_followed (a ∷ xs) (b ∷ ys) (suc index) change same at =
    at_followed xs ys index change (omega (arith, same)) at

-- of rounds of a change: one, and others behind it
peak_rounds : (more : ℕ) (c : Change) (count most : ℕ) → peak (over_rounds (suc more) c) count ≤ most
    → peak c count ≤ most
peak_rounds more (Rise by) count most low = omega (arith, low, suc-mul more by)
peak_rounds more (SetBack passes rise highest last) count most low = omega (arith, low)

peak_others : (more : ℕ) (c : Change) (count most : ℕ) → peak (over_rounds (suc (suc more)) c) count ≤ most
    → peak (over_rounds (suc more) c) (count_after c count) ≤ most
peak_others more (Rise by) count most low = omega (arith, low, suc-mul (suc more) by)
peak_others more (SetBack passes rise highest last) count most low = omega (arith, low)

after_others : (more : ℕ) (c : Change) (count : ℕ)
    → count_after (over_rounds (suc (suc more)) c) count ≡ count_after (over_rounds (suc more) c) (count_after c count)
after_others more (Rise by) count = omega (arith, suc-mul (suc more) by)
after_others more (SetBack passes rise highest last) count = refl

after_once : (c : Change) (count : ℕ) → count_after (over_rounds 1 c) count ≡ count_after c count
after_once (Rise by) count = omega (arith, suc-mul 0 by)
after_once (SetBack passes rise highest last) count = refl

pub passes_rounds : (times : ℕ) (c : Change) → passes_by (over_rounds times c) ≡ times * passes_by c
passes_rounds times (Rise by) = refl
passes_rounds times (SetBack passes rise highest last) = refl

-- the same of all counts
pub within_first : (more : ℕ) (marks : List Mark) (cs : List Change) (counts : List ℕ) → length cs ≡ length marks
    → AreWithin marks (peaks (map (over_rounds (suc more)) cs) counts) → AreWithin marks (peaks cs counts)
within_first more [] [] counts few within = within
within_first more [] (c ∷ cs) counts few within = absurd (omega (arith, few))
within_first more (mark ∷ marks) [] counts few within = absurd (omega (arith, few))
within_first more (mark ∷ marks) (c ∷ cs) [] few within = absurd within
within_first more (mark ∷ marks) (c ∷ cs) (count ∷ counts) few within =
    (peak_rounds more c count mark.most within.0, within_first more marks cs counts (omega (arith, few)) within.1)

pub within_others : (more : ℕ) (marks : List Mark) (cs : List Change) (counts : List ℕ) → length cs ≡ length marks
    → AreWithin marks (peaks (map (over_rounds (suc (suc more))) cs) counts)
    → AreWithin marks (peaks (map (over_rounds (suc more)) cs) (counts_after cs counts))
within_others more [] [] counts few within = within
within_others more [] (c ∷ cs) counts few within = absurd (omega (arith, few))
within_others more (mark ∷ marks) [] counts few within = absurd (omega (arith, few))
within_others more (mark ∷ marks) (c ∷ cs) [] few within = absurd within
within_others more (mark ∷ marks) (c ∷ cs) (count ∷ counts) few within =
    (peak_others more c count mark.most within.0, within_others more marks cs counts (omega (arith, few)) within.1)

pub counts_others : (more : ℕ) (cs : List Change) (counts : List ℕ)
    → counts_after (map (over_rounds (suc (suc more))) cs) counts
    ≡ counts_after (map (over_rounds (suc more)) cs) (counts_after cs counts)
counts_others more [] counts = refl
counts_others more (c ∷ cs) [] = refl
counts_others more (c ∷ cs) (count ∷ counts) =
    let one = after_others more c count in
    let rest = counts_others more cs counts in
    cc (one, rest)

pub counts_once : (cs : List Change) (counts : List ℕ)
    → counts_after (map (over_rounds 1) cs) counts ≡ counts_after cs counts
counts_once [] counts = refl
counts_once (c ∷ cs) [] = refl
counts_once (c ∷ cs) (count ∷ counts) =
    let one = after_once c count in
    let rest = counts_once cs counts in
    cc (one, rest)

-- what stands at an index of rounds of changes
pub at_rounds : (times : ℕ) (cs : List Change) (index : ℕ) (change : Change)
    → slice_get (map (over_rounds times) cs) index ≡ Some change
    → (c : Change) × (slice_get cs index ≡ Some c) × (change ≡ over_rounds times c)
at_rounds times [] index change at = cc
at_rounds times (c ∷ cs) zero change at = (c, refl, cc)
at_rounds times (c ∷ cs) (suc index) change at = at_rounds times cs index change at

-- a hop that passes no mark changes no count
pub within_none : (all : List Mark) (index : ℕ) (marks : List Mark) (counts : List ℕ)
    → AreWithin marks (peaks (changes_by all None index marks) counts)
    → AreWithin marks counts × (counts_after (changes_by all None index marks) counts ≡ counts)
within_none all index [] counts within = (within, refl)
within_none all index (mark ∷ marks) [] within = absurd within
within_none all index (mark ∷ marks) (count ∷ counts) within =
    let rest = within_none all (index + 1) marks counts within.1 in
    let same : count + 0 ≡ count = omega arith in
    ((omega (arith, within.0), rest.0), cc (same, rest.1))

-- and one that passes a mark changes them xs it says
pub within_passed : (all : List Mark) (passed index : ℕ) (marks : List Mark) (counts : List ℕ)
    → AreWithin marks (peaks (changes_by all (Some passed) index marks) counts)
    → AreWithin marks (passed_from all passed index counts)
    × (counts_after (changes_by all (Some passed) index marks) counts ≡ passed_from all passed index counts)
within_passed all passed index [] [] within = (within, refl)
within_passed all passed index [] (count ∷ counts) within = absurd within
within_passed all passed index (mark ∷ marks) [] within = absurd within
within_passed all passed index (mark ∷ marks) (count ∷ counts) within =
    one (index == passed) (is_inside all index passed) within.0
    (within_passed all passed (index + 1) marks counts within.1)
  where
    one : (own inside : Bool)
        → peak (if own then Rise 1 else (if inside then SetBack 0 0 0 0 else Rise 0)) count ≤ mark.most
        → AreWithin marks (passed_from all passed (index + 1) counts)
        × (counts_after (changes_by all (Some passed) (index + 1) marks) counts ≡ passed_from all passed (index + 1) counts)
        → AreWithin (mark ∷ marks)
        ((if own then count + 1 else (if inside then 0 else count)) ∷ passed_from all passed (index + 1) counts)
        × ((count_after (if own then Rise 1 else (if inside then SetBack 0 0 0 0 else Rise 0)) count
        ∷ counts_after (changes_by all (Some passed) (index + 1) marks) counts)
        ≡ ((if own then count + 1 else (if inside then 0 else count)) ∷ passed_from all passed (index + 1) counts))
    one true inside low rest = ((low, rest.0), cc (rest.1))
    one false true low rest = ((omega arith, rest.0), cc (rest.1))
    one false false low rest =
        let same : count + 0 ≡ count = omega arith in
        ((omega (arith, low), rest.0), cc (same, rest.1))

pub long_by : (all : List Mark) (passed : Option ℕ) (index : ℕ) (marks : List Mark)
    → length (changes_by all passed index marks) ≡ length marks
long_by all passed index [] = refl
long_by all passed index (mark ∷ marks) = ap suc (long_by all passed (index + 1) marks)

-- those of one mark more
by_one : (all : List Mark) (passed : Option ℕ) (index at : ℕ) (marks : List Mark) → at < length marks
    → changes_by all passed index (take (suc at) marks)
    ≡ changes_by all passed index (take at marks) ++ change_by all passed (index + at) ∷ []
by_one all passed index at [] below = absurd (omega (arith, below))
by_one all passed index zero (mark ∷ marks) below =
    let here : index ≡ index + 0 = omega arith in
    ap (λ (n : ℕ). change_by all passed n ∷ []) here
by_one all passed index (suc at) (mark ∷ marks) below =
    let here : index + 1 + at ≡ index + suc at = omega arith in
    ap (λ (rest : List Change). change_by all passed index ∷ rest)
    (by_one all passed (index + 1) at marks (omega (arith, below))
    ∙ ap (λ (n : ℕ). changes_by all passed (index + 1) (take at marks) ++ change_by all passed n ∷ []) here)

pub by_more : (all : List Mark) (passed : Option ℕ) (at : ℕ) (marks : List Mark) → at < length marks
    → changes_by all passed 0 (take (at + 1) marks)
    ≡ changes_by all passed 0 (take at marks) ++ change_by all passed at ∷ []
by_more all passed at marks below =
    let next : at + 1 ≡ suc at = omega arith in
    let here : 0 + at ≡ at = omega arith in
    ap (λ (n : ℕ). changes_by all passed 0 (take n marks)) next ∙ by_one all passed 0 at marks below
    ∙ ap (λ (n : ℕ). changes_by all passed 0 (take at marks) ++ change_by all passed n ∷ []) here

-- two lists of changes, with one more of each
followed_one : (xs ys : List Change) (at : ℕ) (a b : Change) → slice_get xs at ≡ Some a → slice_get ys at ≡ Some b
    → all_followed (take (suc at) xs) (take (suc at) ys)
    ≡ all_followed (take at xs) (take at ys) ++ followed a b ∷ []
followed_one [] ys at a b is other = cc
followed_one (x ∷ xs) [] at a b is other = cc
followed_one (x ∷ xs) (y ∷ ys) zero a b is other =
    let one : x ≡ a = cc in
    let second : y ≡ b = cc in
    ap (λ (c : Change). followed c y ∷ []) one ∙ ap (λ (c : Change). followed a c ∷ []) second
followed_one (x ∷ xs) (y ∷ ys) (suc at) a b is other =
    ap (λ (rest : List Change). followed x y ∷ rest) (followed_one xs ys at a b is other)

pub followed_more : (xs ys : List Change) (at : ℕ) (a b : Change) → slice_get xs at ≡ Some a → slice_get ys at ≡ Some b
    → all_followed (take (at + 1) xs) (take (at + 1) ys)
    ≡ all_followed (take at xs) (take at ys) ++ followed a b ∷ []
followed_more xs ys at a b is other =
    let next : at + 1 ≡ suc at = omega arith in
    ap (λ (n : ℕ). all_followed (take n xs) (take n ys)) next ∙ followed_one xs ys at a b is other

-- Counts that begin at 0 are within, where the peak of each is.
pub within_each : (marks : List Mark) (changes : List Change) → length changes ≡ length marks
    → ((k : ℕ) (change : Change) (mark : Mark) → slice_get changes k ≡ Some change → slice_get marks k ≡ Some mark
    → peak change 0 ≤ mark.most)
    → AreWithin marks (peaks changes (no_counts marks))
within_each [] [] long each = tt
within_each [] (change ∷ changes) long each = absurd (omega (arith, long))
within_each (mark ∷ marks) [] long each = absurd (omega (arith, long))
within_each (mark ∷ marks) (change ∷ changes) long each = (
  each 0 change mark refl refl,
  within_each marks changes (omega (arith, long)) (λ k one other is has. each (suc k) one other is has),
)
