-- The rows of a walk's kinds, with a hop more.
use Rattle.std.proofs.Common.{◌≡◌, ℕ, suc, ◌+◌, ◌*◌, ◌^◌, ◌<◌, ◌≤◌, Bool, true, false, cond, List, [], ◌∷◌, ◌++◌, length}
use Rattle.std.proofs.Common.{get_or, take, map, refl, ap, sym, ◌∙◌, subst, arith, length-append, Option, Some, None, filter}
use Rattle.std.proofs.lemmas.List.{append-nil, length-map, length-take-le, map-append, take_more}
use Rattle.std.proofs.lemmas.List.Elements.{filter_more}
use Rattle.std.proofs.lemmas.List.Sums.{sum_by-cons, sum_by-take-le, sum_by_push}
use Rattle.std.specs.List.{take-map}
use Rattle.std.specs.Prelude.{sum_by}
use Rattle.base_words.specs.declared.op.Op.{Op}
use Rattle.base_notes.specs.declared.entry.Entry.{Entry}
use Rattle.flow_walks.specs.declared.visit.Visit.{Visit}
use Rattle.flow_walks.specs.Visited.{Visited, seen_visit}
use Rattle.print_hops.specs.declared.kind.Kind.{Kind}
use Rattle.print_hops.specs.Waits.{for_data, for_instruction, time_of}
use Rattle.print_hops.specs.KindsOf.{kind_of, same_kind, sums_of}
use Rattle.print_hops.proofs.SameKinds.{same_kind_equiv}
use Rattle.print_hops.proofs.Waiting.{data_soon, instruction_soon}
use Rattle.print_walks.specs.declared.waits.wait.Wait.{Wait}
use Rattle.print_walks.specs.WaitsOf.{of_kind, row_of}

same_wait : (a b : Wait) → a.first ≡ b.first → a.sums.visits ≡ b.sums.visits
    → a.sums.time ≡ b.sums.time → a.sums.instruction ≡ b.sums.instruction
    → a.sums.operand ≡ b.sums.operand → a ≡ b
same_wait a b p q r s t =
    λ j. record {
      first = p j;
      sums = record { visits = q j; time = r j; instruction = s j; operand = t j };
    }

-- ---- sums over hops with one more

pub sum_more : (f : Visited → ℕ) (hops : List Visit) (visit : Visit)
    → sum_by f (map seen_visit (hops ++ visit ∷ []))
    ≡ sum_by f (map seen_visit hops) + f (seen_visit visit)
sum_more f hops visit =
    ap (sum_by f) (map-append seen_visit hops (visit ∷ []))
    ∙ sum_by_push f (map seen_visit hops) (seen_visit visit)

count_more : (hops : List Visit) (visit : Visit)
    → length (map seen_visit (hops ++ visit ∷ [])) ≡ length (map seen_visit hops) + 1
count_more hops visit =
    omega (
      arith,
      length-map (hops ++ visit ∷ []) seen_visit,
      length-map hops seen_visit,
      length-append hops (visit ∷ []),
    )

-- a row with a hop more, and one of one hop
pub row_more : (times : Op → Entry) (angle : ℕ) (hops : List Visit) (visit : Visit) (old wait : Wait)
    → Some old ≡ row_of times angle hops → wait.first ≡ old.first
    → wait.sums.visits ≡ old.sums.visits + 1
    → wait.sums.time ≡ old.sums.time + time_of (seen_visit visit)
    → wait.sums.instruction ≡ old.sums.instruction + for_instruction times angle (seen_visit visit)
    → wait.sums.operand ≡ old.sums.operand + for_data times angle (seen_visit visit)
    → row_of times angle (hops ++ visit ∷ []) ≡ Some wait
row_more times angle [] visit old wait is first visits time instruction had = cc
row_more times angle (one ∷ others) visit old wait is first visits time instruction had =
    let hops : List Visit = one ∷ others in
    let all : List Visited = map seen_visit hops in
    let row : Wait = record { first = one; sums = sums_of times angle all } in
    let same : old ≡ row = cc in
    let more : List Visited = map seen_visit (hops ++ visit ∷ []) in
    let new : Wait = record { first = one; sums = sums_of times angle more } in
    ap (λ (w : Wait). Some w) (same_wait new wait
    (sym (first ∙ ap (λ (w : Wait). w.first) same))
    (omega (arith, count_more hops visit, visits, ap (λ (w : Wait). w.sums.visits) same))
    (omega (arith, sum_more time_of hops visit, time, ap (λ (w : Wait). w.sums.time) same))
    (omega (
      arith,
      sum_more (for_instruction times angle) hops visit,
      instruction,
      ap (λ (w : Wait). w.sums.instruction) same,
    ))
    (omega (arith, sum_more (for_data times angle) hops visit, had, ap (λ (w : Wait). w.sums.operand) same)))

pub row_begun : (times : Op → Entry) (angle : ℕ) (hops : List Visit) (visit : Visit) (wait : Wait)
    → None ≡ row_of times angle hops → wait.first ≡ visit → wait.sums.visits ≡ 1
    → wait.sums.time ≡ time_of (seen_visit visit)
    → wait.sums.instruction ≡ for_instruction times angle (seen_visit visit)
    → wait.sums.operand ≡ for_data times angle (seen_visit visit)
    → row_of times angle (hops ++ visit ∷ []) ≡ Some wait
row_begun times angle [] visit wait is first visits time instruction had =
    let hop : Visited = seen_visit visit in
    let new : Wait = record { first = visit; sums = sums_of times angle (hop ∷ []) } in
    ap (λ (w : Wait). Some w) (same_wait new wait (sym first) (sym visits)
    (omega (arith, sum_by-cons time_of hop [], time))
    (omega (arith, sum_by-cons (for_instruction times angle) hop [], instruction))
    (omega (arith, sum_by-cons (for_data times angle) hop [], had)))
row_begun times angle (one ∷ others) visit wait is first visits time instruction had = cc

-- ---- the rows of all kinds with a hop more

-- the hops of two kinds that are the same
pub of_same : (a b : Kind) (walk : List Visit) → same_kind a b ≡ true → of_kind a walk ≡ of_kind b walk
of_same a b walk so =
    ap (λ (is : Visit → Bool). filter is walk) (λ j v. same_kind_equiv.congr a b (kind_of v) so j)

-- the hops of a kind, with one more
of_kind_more : (kind : Kind) (walk : List Visit) (i : ℕ) (visit : Visit) → i < length walk
    → visit ≡ get_or walk i visit
    → of_kind kind (take (i + 1) walk)
    ≡ of_kind kind (take i walk) ++ cond (same_kind kind (kind_of visit)) (visit ∷ []) []
of_kind_more kind walk i visit within is =
    filter_more (λ (v : Visit). same_kind kind (kind_of v)) walk i visit within
    ∙ ap (λ (v : Visit). of_kind kind (take i walk) ++ cond (same_kind kind (kind_of v)) (v ∷ []) [])
    (sym is)

pub rows_more : (times : Op → Entry) (angle : ℕ) (walk : List Visit) (i : ℕ) (visit : Visit)
    (wait : Wait) (old new : Kind → Option Wait) → i < length walk → visit ≡ get_or walk i visit
    → ((kind : Kind) → old kind ≡ row_of times angle (of_kind kind (take i walk)))
    → row_of times angle (of_kind (kind_of visit) (take i walk) ++ visit ∷ []) ≡ Some wait
    → ((kind : Kind) → new kind ≡ cond (same_kind (kind_of visit) kind) (Some wait) (old kind))
    → (kind : Kind) → new kind ≡ row_of times angle (of_kind kind (take (i + 1) walk))
rows_more times angle walk i visit wait old new within is so_far row update kind =
    update kind ∙ go (same_kind (kind_of visit) kind) refl
    ∙ ap (row_of times angle) (sym (of_kind_more kind walk i visit within is))
  where
    go : (b : Bool) → same_kind (kind_of visit) kind ≡ b
        → cond b (Some wait) (old kind)
        ≡ row_of times angle (of_kind kind (take i walk)
        ++ cond (same_kind kind (kind_of visit)) (visit ∷ []) [])
    go true so =
        let back : same_kind kind (kind_of visit) ≡ true =
        same_kind_equiv.symm kind (kind_of visit) ∙ so in
        sym row
        ∙ ap (λ (hops : List Visit). row_of times angle (hops ++ visit ∷ []))
        (of_same (kind_of visit) kind (take i walk) so)
        ∙ ap (λ (b : Bool). row_of times angle (of_kind kind (take i walk) ++ cond b (visit ∷ []) []))
        (sym back)
    go false so =
        let back : same_kind kind (kind_of visit) ≡ false =
        same_kind_equiv.symm kind (kind_of visit) ∙ so in
        so_far kind
        ∙ ap (row_of times angle) (sym (append-nil (of_kind kind (take i walk))))
        ∙ ap (λ (b : Bool). row_of times angle (of_kind kind (take i walk) ++ cond b (visit ∷ []) []))
        (sym back)

-- ---- how large the sums of a row are

-- some of the hops take no more than all
pub part_le : (f : Visited → ℕ) (is : Visit → Bool) (walk : List Visit)
    → sum_by f (map seen_visit (filter is walk)) ≤ sum_by f (map seen_visit walk)
part_le f is [] = omega arith
part_le f is (one ∷ walk) = go (is one) (part_le f is walk)
  where
    go : (b : Bool) → sum_by f (map seen_visit (filter is walk)) ≤ sum_by f (map seen_visit walk)
        → sum_by f (map seen_visit (cond b (one ∷ filter is walk) (filter is walk)))
        ≤ sum_by f (map seen_visit (one ∷ walk))
    go true rest =
        omega (
          arith,
          rest,
          sum_by-cons f (seen_visit one) (map seen_visit (filter is walk)),
          sum_by-cons f (seen_visit one) (map seen_visit walk),
        )
    go false rest = omega (arith, rest, sum_by-cons f (seen_visit one) (map seen_visit walk))

count_le : (is : Visit → Bool) (walk : List Visit) → length (filter is walk) ≤ length walk
count_le is [] = omega arith
count_le is (one ∷ walk) = go (is one) (count_le is walk)
  where
    go : (b : Bool) → length (filter is walk) ≤ length walk
        → length (cond b (one ∷ filter is walk) (filter is walk)) ≤ suc (length walk)
    go true rest = omega (arith, rest)
    go false rest = omega (arith, rest)

-- numbers that are 49 at most
soon_sum : (f : Visited → ℕ) → ((hop : Visited) → f hop ≤ 49) → (walk : List Visit)
    → sum_by f (map seen_visit walk) ≤ 49 * length walk
soon_sum f soon [] = omega arith
soon_sum f soon (one ∷ walk) =
    omega (
      arith,
      soon_sum f soon walk,
      soon (seen_visit one),
      sum_by-cons f (seen_visit one) (map seen_visit walk),
    )

-- the hops up to one, and that one
prefix_le : (f : Visited → ℕ) (walk : List Visit) (i : ℕ) (visit : Visit) → i < length walk
    → visit ≡ get_or walk i visit
    → sum_by f (map seen_visit (take i walk)) + f (seen_visit visit) ≤ sum_by f (map seen_visit walk)
prefix_le f walk i visit within is =
    let more : sum_by f (map seen_visit (take (i + 1) walk))
    ≡ sum_by f (map seen_visit (take i walk)) + f (seen_visit visit) =
    ap (λ (hops : List Visit). sum_by f (map seen_visit hops)) (take_more walk i visit within)
    ∙ sum_more f (take i walk) (get_or walk i visit)
    ∙ ap (λ (v : Visit). sum_by f (map seen_visit (take i walk)) + f (seen_visit v)) (sym is) in
    let part : sum_by f (map seen_visit (take (i + 1) walk)) ≤ sum_by f (map seen_visit walk) =
    subst (λ (visits : List Visited). sum_by f visits ≤ sum_by f (map seen_visit walk))
    (take-map seen_visit (i + 1) walk) (sum_by-take-le f (map seen_visit walk) (i + 1)) in
    omega (arith, more, part)

-- The sums of a row of the hops so far leave room for one more.
pub record HasRoom (times : Op → Entry) (angle : ℕ) (visit : Visit) (row : Wait) : Type 0 where
  pub visits : row.sums.visits + 1 < 2 ^ 128
  pub time : row.sums.time + time_of (seen_visit visit) < 2 ^ 128
  pub instruction : row.sums.instruction + for_instruction times angle (seen_visit visit) < 2 ^ 128
  pub had : row.sums.operand + for_data times angle (seen_visit visit) < 2 ^ 128

pub has_room : (times : Op → Entry) (angle : ℕ) (kind : Kind) (walk : List Visit) (i : ℕ)
    (visit : Visit) (row : Wait) → i < length walk → visit ≡ get_or walk i visit
    → length walk ≤ 4000000 → sum_by time_of (map seen_visit walk) < 2 ^ 50
    → Some row ≡ row_of times angle (of_kind kind (take i walk)) → HasRoom times angle visit row
has_room times angle kind walk i visit row within is few short =
    go (of_kind kind (take i walk)) refl
  where
    go : (hops : List Visit) → of_kind kind (take i walk) ≡ hops
        → Some row ≡ row_of times angle hops → HasRoom times angle visit row
    go [] some none = cc
    go (one ∷ others) some row_is =
        let hops : List Visit = one ∷ others in
        let all : List Visited = map seen_visit hops in
        let summed : Wait = record { first = one; sums = sums_of times angle all } in
        let same : row ≡ summed = cc in
        let is_kind : Visit → Bool = λ (v : Visit). same_kind kind (kind_of v) in
        let before : length (take i walk) ≤ i = omega (arith, length-take-le i walk (omega arith)) in
        let count : length hops ≤ i =
        subst (λ (xs : List Visit). length xs ≤ i) some (omega (arith, count_le is_kind (take i walk), before)) in
        let long : sum_by time_of all ≤ sum_by time_of (map seen_visit (take i walk)) =
        subst (λ (xs : List Visit). sum_by time_of (map seen_visit xs)
        ≤ sum_by time_of (map seen_visit (take i walk))) some (part_le time_of is_kind (take i walk)) in
        record {
          visits = omega (arith, ap (λ (w : Wait). w.sums.visits) same, count, length-map hops seen_visit);
          time =
              omega (arith, ap (λ (w : Wait). w.sums.time) same, long, prefix_le time_of walk i visit within is);
          instruction =
              omega (
                arith,
                ap (λ (w : Wait). w.sums.instruction) same,
                count,
                soon_sum (for_instruction times angle) (instruction_soon times angle) hops,
                instruction_soon times angle (seen_visit visit),
              );
          had =
              omega (
                arith,
                ap (λ (w : Wait). w.sums.operand) same,
                count,
                soon_sum (for_data times angle) (data_soon times angle) hops,
                data_soon times angle (seen_visit visit),
              );
        }
