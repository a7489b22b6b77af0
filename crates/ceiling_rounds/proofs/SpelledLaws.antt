-- What pieces spell out, one after the other.
use Rattle.std.proofs.Common.{◌≡◌, ℕ, zero, suc, ◌+◌, ◌<◌, List, [], ◌∷◌, ◌++◌, length, take, drop, get_or}
use Rattle.std.proofs.Common.{refl, ap, sym, ◌∙◌, arith}
use Rattle.std.proofs.lemmas.List.{at_drop_more, length-append, length-take, take-append-drop}
use Rattle.flow_walks.specs.declared.piece.Piece.{Piece}
use Rattle.flow_walks.specs.Pieces.{spelled_at, spelled_behind, spelled_by, spelled_of, PlacedHop}

pub behind_more : (before : List (List PlacedHop)) (pieces : List Piece) (piece : Piece)
    → spelled_behind before (pieces ++ piece ∷ [])
    ≡ spelled_behind before pieces ++ spelled_by (spelled_behind before pieces) piece ∷ []
behind_more before [] piece = refl
behind_more before (one ∷ pieces) piece = behind_more (before ++ spelled_by before one ∷ []) pieces piece

pub long_behind : (before : List (List PlacedHop)) (pieces : List Piece)
    → length (spelled_behind before pieces) ≡ length before + length pieces
long_behind before [] = omega arith
long_behind before (one ∷ pieces) =
    omega (
      arith,
      long_behind (before ++ spelled_by before one ∷ []) pieces,
      length-append before (spelled_by before one ∷ []),
    )

pub spelled_before : (xs : List (List PlacedHop)) (y : List PlacedHop) (k : ℕ) → k < length xs
    → spelled_at (xs ++ y ∷ []) k ≡ spelled_at xs k
spelled_before [] y k less = absurd (omega (arith, less))
spelled_before (x ∷ xs) y zero less = refl
spelled_before (x ∷ xs) y (suc k) less = spelled_before xs y k (omega (arith, less))

pub spelled_last : (xs : List (List PlacedHop)) (y : List PlacedHop) → spelled_at (xs ++ y ∷ []) (length xs) ≡ y
spelled_last [] y = refl
spelled_last (x ∷ xs) y = spelled_last xs y

-- more pieces leave those before as they are
spelled_kept : (before : List (List PlacedHop)) (pieces : List Piece) (k : ℕ) → k < length before
    → spelled_at (spelled_behind before pieces) k ≡ spelled_at before k
spelled_kept before [] k less = refl
spelled_kept before (one ∷ pieces) k less =
    spelled_kept (before ++ spelled_by before one ∷ []) pieces k
    (omega (arith, less, length-append before (spelled_by before one ∷ [])))
    ∙ spelled_before before (spelled_by before one) k less

spelled_split : (before : List (List PlacedHop)) (xs ys : List Piece)
    → spelled_behind before (xs ++ ys) ≡ spelled_behind (spelled_behind before xs) ys
spelled_split before [] ys = refl
spelled_split before (x ∷ xs) ys = spelled_split (before ++ spelled_by before x ∷ []) xs ys

module _ (pieces : List Piece) (n : ℕ) (within : n < length pieces) where
  here : length (spelled_behind [] (take n pieces)) ≡ n
  here = long_behind [] (take n pieces) ∙ omega (arith, within, length-take n pieces)

  -- a piece by those before it
  pub spelled_piece : (one : Piece) → spelled_of pieces n ≡ spelled_by (spelled_behind [] (take n pieces)) (get_or pieces n one)
  spelled_piece one =
      let before = spelled_behind [] (take n pieces) in
      let its = spelled_by before (get_or pieces n one) in
      let rest = drop (n + 1) pieces in
      let all : pieces ≡ take n pieces ++ get_or pieces n one ∷ rest =
      sym (take-append-drop n pieces) ∙ at_drop_more (λ (ps : List Piece). take n pieces ++ ps) pieces n one within in
      ap (λ (ps : List Piece). spelled_of ps n) all
      ∙ ap (λ (ss : List (List PlacedHop)). spelled_at ss n) (spelled_split [] (take n pieces) (get_or pieces n one ∷ rest))
      ∙ spelled_kept (before ++ its ∷ []) rest n (omega (arith, here, length-append before (its ∷ [])))
      ∙ ap (spelled_at (before ++ its ∷ [])) (sym here) ∙ spelled_last before its

  -- and one before it
  pub spelled_earlier : (k : ℕ) → k < n → spelled_of pieces k ≡ spelled_at (spelled_behind [] (take n pieces)) k
  spelled_earlier k less =
      ap (λ (ps : List Piece). spelled_of ps k) (sym (take-append-drop n pieces))
      ∙ ap (λ (ss : List (List PlacedHop)). spelled_at ss k) (spelled_split [] (take n pieces) (drop n pieces))
      ∙ spelled_kept (spelled_behind [] (take n pieces)) (drop n pieces) k (omega (arith, less, here))
