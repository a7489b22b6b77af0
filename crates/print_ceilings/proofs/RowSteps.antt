-- The rows of kinds, with one piece more.
use Rattle.std.proofs.Common.{◌≡◌, ℕ, zero, suc, ◌+◌, ◌*◌, ◌<◌, ◌≤◌, Bool, true, false, List, [], ◌∷◌, ◌++◌, length, take}
use Rattle.std.proofs.Common.{refl, ap, sym, ◌∙◌, subst, arith, Option, Some, None, inl, inr}
use Rattle.std.specs.Prelude.{if◌then◌else◌, cond, slice_get, slice_index}
use Rattle.std.proofs.Math.Nat.{mul-zero}
use Rattle.std.proofs.lemmas.Bool.{cases_lt}
use Rattle.std.proofs.lemmas.List.{length-take, take_more}
use Rattle.std.proofs.lemmas.Option.{get_or_from_slice_get, slice_get_within}
use Rattle.base_words.specs.declared.op.Op.{Op}
use Rattle.base_notes.specs.declared.entry.Entry.{Entry}
use Rattle.flow_walks.specs.declared.piece.Piece.{Piece}
use Rattle.flow_walks.specs.declared.piece.Piece.TheVariants as piece
use Rattle.flow_walks.specs.declared.piece.Placed.{Placed}
use Rattle.flow_walks.specs.Pieces.{seen_placed, PlacedHop}
use Rattle.ceiling_rounds.specs.InRounds.{summed, takes}
use Rattle.ceiling_rounds.proofs.OftenLaws.{own, summed_more}
use Rattle.print_hops.specs.declared.kind.Kind.{Kind}
use Rattle.print_hops.specs.declared.sums.Sums.{Sums}
use Rattle.print_hops.specs.TimedHop.{seen_timed}
use Rattle.print_hops.specs.KindsOf.{same_kind}
use Rattle.print_hops.proofs.SameKinds.{alike_equiv, same_kind_equiv}
use Rattle.print_ceilings.specs.declared.waits.kind_row.KindRow.{KindRow}
use Rattle.print_ceilings.specs.RoundsText.{from_to}
use Rattle.print_ceilings.specs.RoundsWaitsOf.{is_of, kind_of, of_those, seen_kind, waits_data}
use Rattle.print_ceilings.specs.RoundsWaitsOf.{waits_instruction, AreNoneBelow, IsOfPiece, IsRow, IsRowOf}

-- ---- sums with one piece more

summed_push : (what : PlacedHop → ℕ) (pieces : List Piece) (often : List ℕ) (one : Piece) (times : ℕ)
    → length often ≡ length pieces
    → summed what (pieces ++ one ∷ []) (often ++ times ∷ []) ≡ summed what pieces often + times * own what one
summed_push what [] [] one times same = omega (arith, summed_more what one [] times [])
summed_push what [] (more ∷ often) one times same = absurd (omega (arith, same))
summed_push what (first ∷ pieces) [] one times same = absurd (omega (arith, same))
summed_push what (first ∷ pieces) (more ∷ often) one times same =
    omega (
      arith,
      summed_more what first (pieces ++ one ∷ []) more (often ++ times ∷ []),
      summed_more what first pieces more often,
      summed_push what pieces often one times (omega (arith, same)),
    )

module _ (pieces : List Piece) (often : List ℕ) (each : length often ≡ length pieces) (limit : ℕ)
    (one : Piece) (here : slice_get pieces limit ≡ Some one) where
  within : limit < length pieces
  within = slice_get_within pieces limit one here

  -- what is added up over the pieces below a limit, with the next
  pub summed_next : (what : PlacedHop → ℕ)
      → summed what (take (limit + 1) pieces) (take (limit + 1) often)
      ≡ summed what (take limit pieces) (take limit often) + slice_index often limit * own what one
  summed_next what =
      let more : take (limit + 1) pieces ≡ take limit pieces ++ one ∷ [] =
      take_more pieces limit one within
      ∙ ap (λ (p : Piece). take limit pieces ++ p ∷ []) (get_or_from_slice_get pieces limit one one here) in
      let times : take (limit + 1) often ≡ take limit often ++ slice_index often limit ∷ [] =
      take_more often limit 0 (omega (arith, within, each)) in
      ap (λ (ps : List Piece). summed what ps (take (limit + 1) often)) more
      ∙ ap (summed what (take limit pieces ++ one ∷ [])) times
      ∙ summed_push what (take limit pieces) (take limit often) one (slice_index often limit)
      (omega (arith, each, length-take limit often, length-take limit pieces))

-- what is added up over the pieces below a limit is part of the whole
pub summed_part : (what : PlacedHop → ℕ) (pieces : List Piece) (often : List ℕ) (limit : ℕ)
    → summed what (take limit pieces) (take limit often) ≤ summed what pieces often
summed_part what pieces often zero = omega arith
summed_part what [] often (suc limit) = omega arith
summed_part what (one ∷ pieces) [] (suc limit) = omega arith
summed_part what (one ∷ pieces) (times ∷ often) (suc limit) =
    omega (
      arith,
      summed_more what one (take limit pieces) times (take limit often),
      summed_more what one pieces times often,
      summed_part what pieces often limit,
    )

-- ---- pieces that are none of some hops

-- the piece is none of them
abbrev pub IsNone : (PlacedHop → Bool) → Piece → Type 0
IsNone is one = (other : Placed) → one ≡ piece.Hop other → is (seen_placed other) ≡ false

none_own : (is : PlacedHop → Bool) (what : PlacedHop → ℕ) (one : Piece) → IsNone is one
    → own (of_those is what) one ≡ 0
none_own is what (piece.Hop one) none =
    ap (λ (b : Bool). if b then what (seen_placed one) else 0) (none one refl)
none_own is what (piece.Row names) none = refl
none_own is what (piece.Rounds rounds) none = refl

-- and one of them
pub one_own : (is : PlacedHop → Bool) (what : PlacedHop → ℕ) (one : Placed) → is (seen_placed one) ≡ true
    → own (of_those is what) (piece.Hop one) ≡ what (seen_placed one)
one_own is what one so = ap (λ (b : Bool). if b then what (seen_placed one) else 0) so

none_next : (is : PlacedHop → Bool) (pieces : List Piece) (limit : ℕ) (one : Piece)
    → slice_get pieces limit ≡ Some one → IsNone is one → AreNoneBelow is pieces limit
    → AreNoneBelow is pieces (limit + 1)
none_next is pieces limit one here none below number other less at = elim (cases_lt number limit) [
  | inl low ↦ below number other low at
  | inr high ↦
      let same : number ≡ limit = omega (arith, less, high) in
      let both : Some one ≡ Some (piece.Hop other) = sym here ∙ ap (slice_get pieces) (sym same) ∙ at in
      let is_one : one ≡ piece.Hop other = cc in
      none other is_one
]

-- a piece is one of them, where it is none
has_piece : (pieces : List Piece) (limit : ℕ) → limit < length pieces
    → (one : Piece) × (slice_get pieces limit ≡ Some one)
has_piece [] limit less = absurd (omega (arith, less))
has_piece (one ∷ pieces) zero less = (one, refl)
has_piece (one ∷ pieces) (suc limit) less = has_piece pieces limit (omega (arith, less))

pub none_summed : (is : PlacedHop → Bool) (what : PlacedHop → ℕ) (pieces : List Piece) (often : List ℕ)
    → length often ≡ length pieces → (limit : ℕ) → limit ≤ length pieces → AreNoneBelow is pieces limit
    → summed (of_those is what) (take limit pieces) (take limit often) ≡ 0
none_summed is what pieces often each zero low none = refl
none_summed is what pieces often each (suc limit) low none =
    let last = has_piece pieces limit (omega (arith, low)) in
    let own_none : own (of_those is what) last.0 ≡ 0 =
    none_own is what last.0 (λ other same. none limit other (omega arith) (last.1 ∙ ap Some same)) in
    let next : suc limit ≡ limit + 1 = omega arith in
    ap (λ (n : ℕ). summed (of_those is what) (take n pieces) (take n often)) next
    ∙ omega (
      arith,
      summed_next pieces often each limit last.0 last.1 (of_those is what),
      none_summed is what pieces often each limit (omega (arith, low)) (λ k o less. none k o (omega (arith, less))),
      ap (λ (n : ℕ). slice_index often limit * n) own_none,
      mul-zero (slice_index often limit),
    )

-- ---- a row with one piece more

same_sums : (a b : Sums) → a.visits ≡ b.visits → a.time ≡ b.time → a.instruction ≡ b.instruction
    → a.operand ≡ b.operand → a ≡ b
same_sums a b p q r s = λ j. record { visits = p j; time = q j; instruction = r j; operand = s j }

module _ (times : Op → Entry) (pieces : List Piece) (often : List ℕ) (each : length often ≡ length pieces)
    (limit : ℕ) (is : PlacedHop → Bool) where
  abbrev so_far : (PlacedHop → ℕ) → ℕ → ℕ
  so_far what n = summed (of_those is what) (take n pieces) (take n often)

  module _ (one : Piece) (here : slice_get pieces limit ≡ Some one) where
    -- the next piece is none of them
    kept : IsNone is one → (what : PlacedHop → ℕ) → so_far what limit ≡ so_far what (limit + 1)
    kept none what =
        omega (
          arith,
          summed_next pieces often each limit one here (of_those is what),
          ap (λ (n : ℕ). slice_index often limit * n) (none_own is what one none),
          mul-zero (slice_index often limit),
        )

    pub row_kept : IsNone is one → (row : Option KindRow) → IsRowOf times pieces often limit is row
        → IsRowOf times pieces often (limit + 1) is row
    row_kept none None are = none_next is pieces limit one here none are
    row_kept none (Some row) are = record {
      one = are.one;
      here = are.here;
      has = are.has;
      first = are.first;
      told = are.told;
      angle = are.angle;
      sums = are.sums ∙ same_sums _ _ (kept none (λ _. 1)) (kept none (takes times))
          (kept none (waits_instruction times)) (kept none (waits_data times));
    }

  module _ (one : Placed) (here : slice_get pieces limit ≡ Some (piece.Hop one)) (so : is (seen_placed one) ≡ true)
      (row : KindRow) (its : IsOfPiece times often limit one row) where
    -- the next piece is one of them
    more : (what : PlacedHop → ℕ) (before own_part after : ℕ) → before ≡ so_far what limit
        → own_part ≡ slice_index often limit * what (seen_placed one) → after ≡ before + own_part
        → after ≡ so_far what (limit + 1)
    more what before own_part after p q r =
        omega (
          arith,
          p,
          q,
          r,
          summed_next pieces often each limit (piece.Hop one) here (of_those is what),
          ap (λ (n : ℕ). slice_index often limit * n) (one_own is what one so),
        )

    visits_own : row.sums.visits ≡ slice_index often limit * 1
    visits_own = omega (arith, its.visits)

    pub row_joined : (before joined : KindRow) → IsRow times pieces often limit is before
        → joined.number ≡ before.number → joined.told ≡ before.told → joined.angle ≡ before.angle
        → joined.sums.visits ≡ before.sums.visits + row.sums.visits
        → joined.sums.time ≡ before.sums.time + row.sums.time
        → joined.sums.instruction ≡ before.sums.instruction + row.sums.instruction
        → joined.sums.operand ≡ before.sums.operand + row.sums.operand
        → IsRow times pieces often (limit + 1) is joined
    row_joined before joined are number told angle visits time instruction operand = record {
      one = are.one;
      here = ap (slice_get pieces) number ∙ are.here;
      has = are.has;
      first = λ k other less at. are.first k other (omega (arith, less, number)) at;
      told = ap seen_timed told ∙ are.told;
      angle = angle ∙ are.angle;
      sums = same_sums _ _
          (more (λ _. 1) before.sums.visits row.sums.visits joined.sums.visits (ap (λ (s : Sums). s.visits) are.sums)
          visits_own visits)
          (more (takes times) before.sums.time row.sums.time joined.sums.time (ap (λ (s : Sums). s.time) are.sums)
          its.time time)
          (more (waits_instruction times) before.sums.instruction row.sums.instruction joined.sums.instruction
          (ap (λ (s : Sums). s.instruction) are.sums) its.instruction instruction)
          (more (waits_data times) before.sums.operand row.sums.operand joined.sums.operand
          (ap (λ (s : Sums). s.operand) are.sums) its.operand operand);
    }

    -- it is the first of them
    pub row_begun : AreNoneBelow is pieces limit → IsRow times pieces often (limit + 1) is row
    row_begun none =
        let low : limit ≤ length pieces = omega (arith, slice_get_within pieces limit (piece.Hop one) here) in
        let nothing : (what : PlacedHop → ℕ) → 0 ≡ so_far what limit =
        λ what. sym (none_summed is what pieces often each limit low none) in
        record {
          one = one;
          here = ap (slice_get pieces) its.number ∙ here;
          has = so;
          first = λ k other less at. none k other (omega (arith, less, its.number)) at;
          told = its.told;
          angle = its.angle;
          sums = same_sums _ _
              (more (λ _. 1) 0 row.sums.visits row.sums.visits (nothing (λ _. 1)) visits_own (omega arith))
              (more (takes times) 0 row.sums.time row.sums.time (nothing (takes times)) its.time (omega arith))
              (more (waits_instruction times) 0 row.sums.instruction row.sums.instruction
              (nothing (waits_instruction times)) its.instruction (omega arith))
              (more (waits_data times) 0 row.sums.operand row.sums.operand (nothing (waits_data times)) its.operand
              (omega arith));
        }

-- ---- the rows of all kinds with one piece more

-- hops of kinds that are the same
pub is_of_same : (a b : Kind) → same_kind a b ≡ true → is_of a ≡ is_of b
is_of_same a b so = λ j one. alike_equiv.congr (seen_kind a) (seen_kind b) (from_to 0 0 one) so j

pub rows_kept : (times : Op → Entry) (pieces : List Piece) (often : List ℕ) → length often ≡ length pieces
    → (limit : ℕ) (one : Piece) → slice_get pieces limit ≡ Some one → ((other : Placed) → one ≡ piece.Hop other → ⊥)
    → (old : Kind → Option KindRow) → ((kind : Kind) → IsRowOf times pieces often limit (is_of kind) (old kind))
    → (kind : Kind) → IsRowOf times pieces often (limit + 1) (is_of kind) (old kind)
rows_kept times pieces often each limit one here never old are kind =
    row_kept times pieces often each limit (is_of kind) one here (λ other same. absurd (never other same)) (old kind)
    (are kind)

pub rows_more : (times : Op → Entry) (pieces : List Piece) (often : List ℕ) → length often ≡ length pieces
    → (limit : ℕ) (one : Placed) → slice_get pieces limit ≡ Some (piece.Hop one)
    → (wait : KindRow) (old new : Kind → Option KindRow)
    → ((kind : Kind) → IsRowOf times pieces often limit (is_of kind) (old kind))
    → IsRow times pieces often (limit + 1) (is_of (kind_of one)) wait
    → ((kind : Kind) → new kind ≡ cond (same_kind (kind_of one) kind) (Some wait) (old kind))
    → (kind : Kind) → IsRowOf times pieces often (limit + 1) (is_of kind) (new kind)
rows_more times pieces often each limit one here wait old new are row update kind =
    subst (IsRowOf times pieces often (limit + 1) (is_of kind)) (sym (update kind))
    (go (same_kind (kind_of one) kind) refl)
  where
    go : (b : Bool) → same_kind (kind_of one) kind ≡ b
        → IsRowOf times pieces often (limit + 1) (is_of kind) (cond b (Some wait) (old kind))
    go true so =
        subst (λ (is : PlacedHop → Bool). IsRow times pieces often (limit + 1) is wait)
        (is_of_same (kind_of one) kind so) row
    go false so =
        row_kept times pieces often each limit (is_of kind) (piece.Hop one) here
        (λ other same. is_other other same) (old kind) (are kind)
      where
        is_other : (other : Placed) → piece.Hop one ≡ piece.Hop other → is_of kind (seen_placed other) ≡ false
        is_other other same =
            let its : one ≡ other = cc in
            ap (λ (o : Placed). is_of kind (seen_placed o)) (sym its)
            ∙ same_kind_equiv.symm kind (kind_of one) ∙ so
