-- The piece that a loop over pieces is at.
use Rattle.std.proofs.Common.{◌≡◌, ◌∙◌, ◌<◌, ℕ, List, Option, Some, None, ap, get_or, length, sym}
use Rattle.std.specs.Prelude.{slice_get}
use Rattle.std.proofs.lemmas.Option.{slice_get-get_or}
use Rattle.flow_walks.specs.declared.piece.Piece.{Piece}
use Rattle.flow_walks.specs.declared.piece.Piece.TheVariants as piece
use Rattle.flow_walks.specs.declared.piece.Placed.{Placed}
use Rattle.print_ceilings.specs.RoundsWaitsOf.{hop_in}

pub at_here : (items pieces : List Piece) (n : ℕ) (one : Piece) → items ≡ pieces → n < length items
    → one ≡ get_or items n one → slice_get pieces n ≡ Some one
at_here items pieces n one same less is =
    ap (λ (ps : List Piece). slice_get ps n) (sym same) ∙ slice_get-get_or items n one less
    ∙ ap (λ (p : Piece). Some p) (sym is)

hop_is : (one : Piece) (hop : Placed) → Some hop ≡ hop_in one → one ≡ piece.Hop hop
hop_is (piece.Hop other) hop is = let same : hop ≡ other = cc in ap piece.Hop (sym same)
hop_is (piece.Row names) hop is = absurd (cc)
hop_is (piece.Rounds rounds) hop is = absurd (cc)

pub no_hop : (one : Piece) → None ≡ hop_in one → (other : Placed) → one ≡ piece.Hop other → ⊥
no_hop one none other is =
    let both : None ≡ Some other = none ∙ ap hop_in is in cc

pub hop_here : (items pieces : List Piece) (n : ℕ) (one : Piece) (hop : Placed) (found : Option Placed) → items ≡ pieces
    → n < length items → one ≡ get_or items n one → found ≡ Some hop → found ≡ hop_in one
    → slice_get pieces n ≡ Some (piece.Hop hop)
hop_here items pieces n one hop found same less is some its =
    at_here items pieces n one same less is ∙ ap (λ (p : Piece). Some p) (hop_is one hop (sym some ∙ its))
