-- Counts of marks taken from a number and put into one, a mark at a time.
use Rattle.std.proofs.Common.{◌≡◌, ℕ, zero, suc, ◌+◌, ◌*◌, ◌/◌, ◌%◌, ◌<◌, ◌≤◌, List, ◌∷◌, length, take, drop, []}
use Rattle.std.proofs.Common.{get_or, ap, sym, subst, ◌∙◌, inl, inr, ◌⊎◌, arith}
use Rattle.std.specs.Prelude.{slice_set}
use Rattle.std.proofs.Math.Nat.{mul-le-mul_left, mul-le-mul_right}
use Rattle.std.proofs.Math.Seq.{take-set-lt}
use Rattle.std.proofs.lemmas.Bool.{cases_lt}
use Rattle.std.proofs.lemmas.Grind.{common_steps}
use Rattle.std.proofs.lemmas.List.{drop_more, drop-set, length-take-le}
use Rattle.std.proofs.lemmas.Nat.{div-add-mod', mod_below}
use Rattle.base_notes.specs.declared.notes.mark.Mark.{Mark}
use Rattle.machine_steps.specs.Counts.{AreWithin}
use Rattle.flow_graph.specs.Accepted.{counts_of}
use Rattle.flow_graph.specs.Passes.{leading, leading-<}
use Rattle.bound_scan.specs.Digits.{digits}
use Rattle.bound_scan.proofs.DigitsLaws.{counts_some, digits_leading, number_within}
use Rattle.bound_scan.specs.Table.{number_of}

-- A number is `prefix` times the number of counts that these marks can have, and the number of
-- these counts.
pub record Leads (marks : List Mark) (counts : List ℕ) (prefix number : ℕ) : Type 0 where
  pub same : prefix * counts_of marks + leading marks counts ≡ number
  pub within : AreWithin marks counts

-- the counts of the marks from a place on
abbrev pub counts_from : List Mark → ℕ → List ℕ → List ℕ
counts_from marks place counts = drop place (take (length marks) counts)

-- the count of the first of the marks from a place on
next_of : (counts : List ℕ) (size place : ℕ) → place < size → place < length counts
    → drop place (take size counts) ≡ get_or counts place 0 ∷ drop (place + 1) (take size counts)
next_of counts size place below inside = grind (arith, common_steps)

-- which is written there
written_of : (counts : List ℕ) (size place x : ℕ) → place < size → size ≤ length counts
    → drop place (take size (slice_set counts place x)) ≡ x ∷ drop (place + 1) (take size counts)
written_of counts size place x below inside =
    ap (drop place) (take-set-lt size counts place x below)
    ∙ drop-set (take size counts) place x (omega (arith, length-take-le size counts inside))

-- a mark's count taken from a number, over plain numbers
take_apart : (quotient remainder many whole size others number : ℕ) → quotient * many + remainder ≡ whole
    → whole * size + others ≡ number
    → quotient * (many * size) + (remainder * size + others) ≡ number
take_apart quotient remainder many whole size others number parts same =
    omega (arith, ap (λ (n : ℕ). n * size + others) parts, same)

-- and put into one
put_together : (prefix count many size others number : ℕ) → prefix * (many * size) + (count * size + others) ≡ number
    → (prefix * many + count) * size + others ≡ number
put_together prefix count many size others number same = omega (arith, same)

-- a mark's count is taken
leads_first : (mark : Mark) (marks : List Mark) (counts : List ℕ) (prefix number : ℕ) → Leads marks counts prefix number
    → Leads (mark ∷ marks) (prefix % (mark.most + 1) ∷ counts) (prefix / (mark.most + 1)) number
leads_first mark marks counts prefix number h =
    let many = mark.most + 1 in
    let below : prefix % (mark.most + 1) < mark.most + 1 = mod_below prefix (mark.most + 1) (omega arith) in
    record {
      same = take_apart (prefix / many) (prefix % many) many prefix (counts_of marks) (leading marks counts) number
          (div-add-mod' prefix many) h.same;
      within = (omega (arith, below), h.within);
    }

-- in a loop: the count of the mark at a place, where those behind it are taken
pub leads_more : (marks : List Mark) (place later : ℕ) (d : Mark) (counts : List ℕ) (prefix number : ℕ)
    → later ≡ place + 1 → place < length marks → length marks ≤ length counts
    → Leads (drop later marks) (counts_from marks later counts) prefix number
    → Leads (drop place marks)
    (counts_from marks place (slice_set counts place (prefix % ((get_or marks place d).most + 1))))
    (prefix / ((get_or marks place d).most + 1)) number
leads_more marks place later d counts prefix number next inside long h =
    let mark = get_or marks place d in
    let many = (get_or marks place d).most + 1 in
    subst (λ (ms : List Mark).
    Leads ms (counts_from marks place (slice_set counts place (prefix % many))) (prefix / many) number)
    (sym (drop_more marks place d inside))
    (subst (λ (cs : List ℕ). Leads (mark ∷ drop (place + 1) marks) cs (prefix / many) number)
    (sym (written_of counts (length marks) place (prefix % many) inside long))
    (leads_first mark (drop (place + 1) marks) (counts_from marks (place + 1) counts) prefix number
    (subst (λ (k : ℕ). Leads (drop k marks) (counts_from marks k counts) prefix number) next h)))

-- all counts are taken: they are those that the number stands for
leads_whole : (marks : List Mark) (counts : List ℕ) (prefix number : ℕ) → Leads marks counts prefix number
    → number < counts_of marks → counts ≡ digits marks number
leads_whole marks counts prefix number h below =
    sym (digits_leading marks counts h.within) ∙ ap (digits marks) (go (cases_lt 0 prefix))
  where
    go : (0 < prefix) ⊎ (prefix ≤ 0) → leading marks counts ≡ number
    go (inl more) =
        let one : 1 * counts_of marks ≤ prefix * counts_of marks = mul-le-mul_right (counts_of marks) more in
        omega (arith, one, h.same, below)
    go (inr nothing) =
        let zero_is : prefix ≡ 0 = omega arith in
        let same : 0 * counts_of marks + leading marks counts ≡ number =
        ap (λ (n : ℕ). n * counts_of marks + leading marks counts) (sym zero_is) ∙ h.same in
        omega (arith, same)

-- and the loop is at the first mark
pub leads_all : (marks : List Mark) (place : ℕ) (counts : List ℕ) (prefix number : ℕ) → place ≤ 0
    → Leads (drop place marks) (counts_from marks place counts) prefix number → number < counts_of marks
    → take (length marks) counts ≡ digits marks number
leads_all marks place counts prefix number first h below =
    let none_left : place ≡ 0 = omega arith in
    leads_whole marks (take (length marks) counts) prefix number
    (subst (λ (k : ℕ). Leads (drop k marks) (counts_from marks k counts) prefix number) none_left h) below

-- counts within their limits are so from each mark on
within_from : (marks : List Mark) (counts : List ℕ) (place : ℕ) → AreWithin marks counts
    → AreWithin (drop place marks) (drop place counts)
within_from marks counts zero within = within
within_from [] [] (suc place) within = tt
within_from [] (count ∷ counts) (suc place) within = absurd within
within_from (mark ∷ marks) [] (suc place) within = absurd within
within_from (mark ∷ marks) (count ∷ counts) (suc place) within = within_from marks counts place within.1

-- and there are fewer counts of fewer marks
counts_fewer : (marks : List Mark) (place : ℕ) → counts_of (drop place marks) ≤ counts_of marks
counts_fewer marks zero = omega arith
counts_fewer [] (suc place) = omega arith
counts_fewer (mark ∷ marks) (suc place) =
    let one : 1 * counts_of marks ≤ (mark.most + 1) * counts_of marks =
    mul-le-mul_right (counts_of marks) (omega arith) in
    omega (arith, one, counts_fewer marks place)

-- a mark's count is put into the number
pub leading_more : (marks : List Mark) (place : ℕ) (d : Mark) (counts : List ℕ) (prefix number : ℕ)
    → place < length marks → length marks ≤ length counts
    → prefix * counts_of (drop place marks) + leading (drop place marks) (counts_from marks place counts) ≡ number
    → (prefix * ((get_or marks place d).most + 1) + get_or counts place 0) * counts_of (drop (place + 1) marks)
    + leading
    (drop (place + 1) marks) (counts_from marks (place + 1) counts) ≡ number
leading_more marks place d counts prefix number inside long same =
    let left = drop (place + 1) marks in
    let mark = get_or marks place d in
    let count = get_or counts place 0 in
    let one : prefix * counts_of (mark ∷ left) + leading (mark ∷ left) (counts_from marks place counts) ≡ number =
    subst (λ (ms : List Mark). prefix * counts_of ms + leading ms (counts_from marks place counts) ≡ number)
    (drop_more marks place d inside) same in
    let both : prefix * counts_of (mark ∷ left) + leading (mark ∷ left) (count ∷ counts_from marks (place + 1) counts)
    ≡ number =
    subst (λ (cs : List ℕ). prefix * counts_of (mark ∷ left) + leading (mark ∷ left) cs ≡ number)
    (next_of counts (length marks) place inside (omega arith)) one in
    put_together prefix count (mark.most + 1) (counts_of left) (leading left (counts_from marks (place + 1) counts))
    number both

-- so far it is no more than the whole number
prefix_small : (marks : List Mark) (counts : List ℕ) (prefix number : ℕ)
    → prefix * counts_of marks + leading marks counts ≡ number → prefix ≤ number
prefix_small marks counts prefix number same =
    let one : prefix * 1 ≤ prefix * counts_of marks = mul-le-mul_left prefix (counts_some marks) in
    omega (arith, one, same)

-- which is small
pub leading_small : (marks : List Mark) (place : ℕ) (d : Mark) (counts : List ℕ) (prefix : ℕ) → place < length marks
    → length marks ≤ length counts
    → AreWithin marks (take (length marks) counts)
    → prefix * counts_of (drop place marks) + leading (drop place marks) (counts_from marks place counts)
    ≡ leading marks (take (length marks) counts)
    → prefix * ((get_or marks place d).most + 1) + get_or counts place 0 < counts_of marks
leading_small marks place d counts prefix inside long within same =
    let number = leading marks (take (length marks) counts) in
    let next = prefix * ((get_or marks place d).most + 1) + get_or counts place 0 in
    let more = leading_more marks place d counts prefix number inside long same in
    let below : next ≤ number =
    prefix_small (drop (place + 1) marks) (counts_from marks (place + 1) counts) next number more in
    omega (arith, below, leading-< marks (take (length marks) counts) within)

-- a mark's count is put before the others' number
pub number_more : (marks : List Mark) (place later : ℕ) (d : Mark) (counts : List ℕ) (number : ℕ) → later ≡ place + 1
    → place < length marks → length marks ≤ length counts
    → number ≡ number_of (drop later marks) (counts_from marks later counts)
    → number * ((get_or marks place d).most + 1) + get_or counts place 0
    ≡ number_of (drop place marks) (counts_from marks place counts)
number_more marks place later d counts number next inside long same =
    let left = drop (place + 1) marks in
    let mark = get_or marks place d in
    let count = get_or counts place 0 in
    let so_far : number ≡ number_of left (counts_from marks (place + 1) counts) =
    same ∙ ap (λ (k : ℕ). number_of (drop k marks) (counts_from marks k counts)) next in
    ap (λ (n : ℕ). n * (mark.most + 1) + count) so_far
    ∙ turned count (mark.most + 1) (number_of left (counts_from marks (place + 1) counts))
    ∙ ap (number_of (mark ∷ left)) (sym (next_of counts (length marks) place inside (omega arith)))
    ∙ ap (λ (ms : List Mark). number_of ms (counts_from marks place counts)) (sym (drop_more marks place d inside))
  where
    turned : (count many others : ℕ) → others * many + count ≡ count + many * others
    turned count many others = omega arith

-- which is small
pub number_small : (marks : List Mark) (place later : ℕ) (d : Mark) (counts : List ℕ) (number : ℕ) → later ≡ place + 1
    → place < length marks → length marks ≤ length counts
    → AreWithin marks (take (length marks) counts)
    → number ≡ number_of (drop later marks) (counts_from marks later counts)
    → number * ((get_or marks place d).most + 1) + get_or counts place 0 < counts_of marks
number_small marks place later d counts number next inside long within same =
    let more = number_more marks place later d counts number next inside long same in
    let left = number_within (drop place marks) (counts_from marks place counts)
    (within_from marks (take (length marks) counts) place within) in
    omega (arith, more, left, counts_fewer marks place)
