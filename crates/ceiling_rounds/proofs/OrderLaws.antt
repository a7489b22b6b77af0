-- Pieces that are gone through in order.
use Rattle.std.proofs.Common.{◌≡◌, ℕ, zero, suc, ◌+◌, ◌-◌, ◌<◌, Bool, List, ◌∷◌, ◌++◌, []}
use Rattle.std.proofs.Common.{length, take, get_or, refl, ap, sym, ◌∙◌, subst, arith, Option, Some, None, inl, inr}
use Rattle.std.specs.Prelude.{if◌then◌else◌, slice_get, unwrap_or}
use Rattle.std.proofs.lemmas.Bool.{cases_lt, eq-eqb}
use Rattle.std.proofs.lemmas.List.{length-append, take_more}
use Rattle.flow_walks.specs.declared.piece.Piece.{Piece}
use Rattle.ceiling_rounds.specs.Order.{closing, never, on_from, through_at, through_behind, through_by, through_row}
use Rattle.ceiling_rounds.specs.Order.{Through}
use Rattle.ceiling_rounds.specs.OrderOf.{first_in, AreThrough}

on_last : (o : Option ℕ) → on_from o Some ≡ o
on_last None = refl
on_last (Some ended) = refl

-- through one more piece in a row
pub row_more : (before : List Through) (numbers : List ℕ) (number ended : ℕ)
    → through_row before (numbers ++ number ∷ []) ended
    ≡ on_from (through_row before numbers ended) (through_at before number)
row_more before [] number ended = on_last (through_at before number ended)
row_more before (first ∷ numbers) number ended =
    one (through_at before first ended) (row_more before numbers number)
  where
    one : (o : Option ℕ) → ((next : ℕ) → through_row before (numbers ++ number ∷ []) next
        ≡ on_from (through_row before numbers next) (through_at before number))
        → on_from o (through_row before (numbers ++ number ∷ []))
        ≡ on_from (on_from o (through_row before numbers)) (through_at before number)
    one None more = refl
    one (Some next) more = more next

-- the way through a piece, by those before it
abbrev way : List Through → Piece → Through
way before piece = λ ended. on_from (through_by before piece ended) (closing (length before))

throughs_more : (before : List Through) (pieces : List Piece) (piece : Piece)
    → through_behind before (pieces ++ piece ∷ [])
    ≡ through_behind before pieces ++ way (through_behind before pieces) piece ∷ []
throughs_more before [] piece = refl
throughs_more before (one ∷ pieces) piece = throughs_more (before ++ way before one ∷ []) pieces piece

at_before : (xs : List Through) (y : Through) (k : ℕ) → k < length xs
    → unwrap_or (slice_get (xs ++ y ∷ []) k) never ≡ unwrap_or (slice_get xs k) never
at_before [] y k less = absurd (omega (arith, less))
at_before (x ∷ xs) y zero less = refl
at_before (x ∷ xs) y (suc k) less = at_before xs y k (omega (arith, less))

at_last : (xs : List Through) (y : Through) → unwrap_or (slice_get (xs ++ y ∷ []) (length xs)) never ≡ y
at_last [] y = refl
at_last (x ∷ xs) y = at_last xs y

closes : (number : ℕ) → closing number number ≡ Some (suc number)
closes number = ap (λ (b : Bool). if b then Some (suc number) else None) (eq-eqb number number refl)

push_through : (firsts : List ℕ) (limit : ℕ) (before : List Through) (piece : Piece) → AreThrough firsts limit before
    → through_by before piece (first_in firsts limit) ≡ Some limit
    → AreThrough firsts (limit + 1) (before ++ way before piece ∷ [])
push_through firsts limit before piece are by = record {
  each = omega (arith, are.each, length-append before (way before piece ∷ []));
  next = λ number less. elim (cases_lt number limit) [
    | inl low ↦ (
        ap (λ (t : Through). t (first_in firsts number)) (at_before before (way before piece) number (omega (arith, low, are.each)))
        ∙ are.next number low)
    | inr high ↦ (
        let here : number ≡ limit = omega (arith, less, high) in
        let long : number ≡ length before = omega (arith, here, are.each) in
        let its : way before piece (first_in firsts limit) ≡ Some (suc limit) =
        ap (λ (o : Option ℕ). on_from o (closing (length before))) by
        ∙ ap (λ (n : ℕ). closing n limit) are.each ∙ closes limit in
        ap (λ (n : ℕ). unwrap_or (slice_get (before ++ way before piece ∷ []) n) never (first_in firsts number)) long
        ∙ ap (λ (t : Through). t (first_in firsts number)) (at_last before (way before piece))
        ∙ ap (λ (n : ℕ). way before piece (first_in firsts n)) here ∙ its ∙ ap (λ (n : ℕ). Some (suc n)) (sym here))
  ];
}

pub through_more : (firsts : List ℕ) (pieces : List Piece) (k : ℕ) (piece : Piece) → k < length pieces
    → piece ≡ get_or pieces k piece → AreThrough firsts k (through_behind [] (take k pieces))
    → through_by (through_behind [] (take k pieces)) piece (first_in firsts k) ≡ Some k
    → AreThrough firsts (k + 1) (through_behind [] (take (k + 1) pieces))
through_more firsts pieces k piece less is are by =
    let more : take (k + 1) pieces ≡ take k pieces ++ piece ∷ [] =
    take_more pieces k piece less ∙ ap (λ (p : Piece). take k pieces ++ p ∷ []) (sym is) in
    let all = ap (through_behind []) more ∙ throughs_more [] (take k pieces) piece in
    subst (λ (ts : List Through). AreThrough firsts (k + 1) ts) (sym all)
    (push_through firsts k (through_behind [] (take k pieces)) piece are by)
