-- How many passes there are in rounds, as they are summed up.
use Rattle.std.proofs.Common.{◌≡◌, ℕ, zero, suc, ◌+◌, ◌*◌, ◌^◌, ◌<◌, ◌≤◌, Bool, true, false, List, [], ◌∷◌, length, drop, map, Some}
use Rattle.std.proofs.Common.{refl, ap, sym, ◌∙◌, inl, inr, arith}
use Rattle.std.specs.Prelude.{if◌then◌else◌, slice_get, slice_index}
use Rattle.std.proofs.Math.ListN.{set}
use Rattle.std.proofs.lemmas.Bool.{cases_lt}
use Rattle.std.proofs.lemmas.List.{drop_more}
use Rattle.std.proofs.lemmas.Option.{get_or_from_slice_get}
use Rattle.base_notes.specs.declared.notes.mark.Mark.{Mark}
use Rattle.base_notes.specs.Allowed.{StandInEarlier}
use Rattle.machine_steps.specs.Counts.{is_inside}
use Rattle.machine_steps.proofs.SinceLaws.{inside_iff, leads_earlier}
use Rattle.flow_graph.specs.Accepted.{capped}
use Rattle.flow_acceptance.proofs.Products.{told_less}
use Rattle.ceiling_checked.specs.InRounds.{passes_in_all, passes_inside}

-- a sum of told numbers is told as the sum of all
pub told_sum : (a h r s : ℕ) → s ≡ capped (a + capped h) → capped (s + r) ≡ capped (a + (h + r))
told_sum a h r s is = omega (arith, is)

pub told_one : (n m : ℕ) → m ≡ capped n → capped (1 + m) ≡ capped (1 + n)
told_one n m is = omega (arith, is)

-- something stands at a number below as many as there are
pub there : {X : Type 0} (xs : List X) (k : ℕ) → k < length xs → (x : X) × (slice_get xs k ≡ Some x)
there [] k below = absurd (omega (arith, below))
there (x ∷ xs) zero below = (x, refl)
there (x ∷ xs) (suc k) below = there xs k (omega (arith, below))

-- one mark more
pub inside_more : (all : List Mark) (outer : ℕ) (marks : List Mark) (rounds : List ℕ) (index : ℕ) (mark : Mark)
    → index < length marks → slice_get marks index ≡ Some mark → index < length rounds
    → passes_inside all outer index (drop index marks) (drop index rounds)
    ≡ (if is_inside all index outer then mark.most * slice_index rounds index else 0)
    + passes_inside all outer (index + 1) (drop (index + 1) marks) (drop (index + 1) rounds)
inside_more all outer marks rounds index mark inside is within =
    ap (λ (rest : List Mark). passes_inside all outer index rest (drop index rounds))
    (drop_more marks index mark inside
    ∙ ap (λ (one : Mark). one ∷ drop (index + 1) marks) (get_or_from_slice_get marks index mark mark is))
    ∙ ap (λ (rest : List ℕ). passes_inside all outer index (mark ∷ drop (index + 1) marks) rest)
    (drop_more rounds index 0 within)

-- a mark stands inside of earlier ones alone
pub not_inside : (marks : List Mark) (inner outer : ℕ) → StandInEarlier 0 marks → inner ≤ outer
    → is_inside marks inner outer ≡ false
not_inside marks inner outer nested before = go (is_inside marks inner outer) refl
  where
    go : (b : Bool) → is_inside marks inner outer ≡ b → is_inside marks inner outer ≡ false
    go false is = is
    go true is =
        let through = (inside_iff marks inner outer nested).0 is in
        let earlier : outer < inner = leads_earlier marks nested through.0 inner outer through.1 in
        absurd (omega (arith, earlier, before))

-- what a mark counts for that doesn't stand inside of another makes no difference to that
unchanged : (all : List Mark) (outer x : ℕ) (index j : ℕ) (marks : List Mark) (rounds : List ℕ)
    → is_inside all (index + j) outer ≡ false
    → passes_inside all outer index marks (set rounds j x) ≡ passes_inside all outer index marks rounds
unchanged all outer x index j [] rounds other = refl
unchanged all outer x index j (mark ∷ marks) [] other = refl
unchanged all outer x index zero (mark ∷ marks) (round ∷ rounds) other =
    let same : index + 0 ≡ index = omega arith in
    let own : is_inside all index outer ≡ false = ap (λ (n : ℕ). is_inside all n outer) (sym same) ∙ other in
    ap (λ (b : Bool). (if b then mark.most * x else 0) + passes_inside all outer (index + 1) marks rounds) own
    ∙ sym (ap (λ (b : Bool). (if b then mark.most * round else 0) + passes_inside all outer (index + 1) marks rounds) own)
unchanged all outer x index (suc j) (mark ∷ marks) (round ∷ rounds) other =
    let same : index + suc j ≡ index + 1 + j = omega arith in
    ap (λ (n : ℕ). (if is_inside all index outer then mark.most * round else 0) + n)
    (unchanged all outer x (index + 1) j marks rounds (ap (λ (n : ℕ). is_inside all n outer) (sym same) ∙ other))

pub set_same : (xs : List ℕ) (k x : ℕ) → k < length xs → slice_index (set xs k x) k ≡ x
set_same [] k x below = absurd (omega (arith, below))
set_same (y ∷ xs) zero x below = refl
set_same (y ∷ xs) (suc k) x below = set_same xs k x (omega (arith, below))

pub set_other : (xs : List ℕ) (j k x : ℕ) → j < k → slice_index (set xs j x) k ≡ slice_index xs k
set_other [] j k x before = refl
set_other (y ∷ xs) j zero x before = absurd (omega (arith, before))
set_other (y ∷ xs) zero (suc k) x before = refl
set_other (y ∷ xs) (suc j) (suc k) x before = set_other xs j k x (omega (arith, before))

-- One more is right, and the later ones stay so.
pub one_more : (marks : List Mark) (rounds : List ℕ) (index x : ℕ) → StandInEarlier 0 marks
    → length rounds ≡ length marks → index < length marks → x ≡ capped (1 + passes_inside marks index 0 marks rounds)
    → ((k : ℕ) → k < length marks → index < k
    → slice_index rounds k ≡ capped (1 + passes_inside marks k 0 marks rounds))
    → (k : ℕ) → k < length marks → index ≤ k
    → slice_index (set rounds index x) k ≡ capped (1 + passes_inside marks k 0 marks (set rounds index x))
one_more marks rounds index x nested long below is later k within from = elim (cases_lt index k) [
  | inl before ↦
      set_other rounds index k x before ∙ later k within before
      ∙ ap (λ (n : ℕ). capped (1 + n)) (sym (same k from))
  | inr here ↦ (
      let own : index ≡ k = omega (arith, from, here) in
      ap (λ (n : ℕ). slice_index (set rounds index x) n) (sym own)
      ∙ set_same rounds index x (omega (arith, below, long)) ∙ is
      ∙ ap (λ (n : ℕ). capped (1 + passes_inside marks n 0 marks rounds)) own
      ∙ ap (λ (n : ℕ). capped (1 + n)) (sym (same k from)))
]
  where
    same : (k : ℕ) → index ≤ k → passes_inside marks k 0 marks (set rounds index x) ≡ passes_inside marks k 0 marks rounds
    same k low =
        let at : 0 + index ≡ index = omega arith in
        unchanged marks k x 0 index marks rounds
        (ap (λ (n : ℕ). is_inside marks n k) at ∙ not_inside marks index k nested low)

-- those inside of one mark are no more than all
pub inside_few : (all : List Mark) (outer index : ℕ) (marks : List Mark) (rounds : List ℕ)
    → passes_inside all outer index marks rounds ≤ passes_in_all marks rounds
inside_few all outer index [] rounds = omega arith
inside_few all outer index (mark ∷ marks) [] = omega arith
inside_few all outer index (mark ∷ marks) (round ∷ rounds) =
    omega (arith, go (is_inside all index outer), inside_few all outer (index + 1) marks rounds)
  where
    go : (b : Bool) → (if b then mark.most * round else 0) ≤ mark.most * round
    go true = omega arith
    go false = omega arith

-- prices that are small enough are told as they are
pub told_prices : (unit : ℕ) (rounds : List ℕ) → ((k : ℕ) → k < length rounds → unit * slice_index rounds k ≤ 2 ^ 127)
    → map (λ round. capped (unit * round)) rounds ≡ map (λ round. unit * round) rounds
told_prices unit [] small = refl
told_prices unit (round ∷ rounds) small =
    let own : capped (unit * round) ≡ unit * round = told_less (unit * round) (small 0 (omega arith)) in
    ap (λ (n : ℕ). n ∷ map (λ round. capped (unit * round)) rounds) own
    ∙ ap (λ (rest : List ℕ). (unit * round) ∷ rest)
    (told_prices unit rounds (λ k below. small (suc k) (omega (arith, below))))
