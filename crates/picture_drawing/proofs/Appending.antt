-- Texts that are appended to a document one behind the other.
use Rattle.std.proofs.Common.{◌≡◌, ℕ, List, ◌++◌, append_assoc, subst}
use Rattle.picture_drawing.specs.declared.svg.Svg.{Svg}
use Rattle.picture_drawing.specs.Draws.{Draws, Says}

-- one text, and then another
infixl 30 ◌⊳◌
pub ◌⊳◌ : {before between after : Svg} {xs ys : List ℕ} → Draws before between xs → Draws between after ys
    → Draws before after (xs ++ ys)
◌⊳◌ {before} {between} {after} {xs} {ys} p q = record {
  says = λ text so_far. subst (Says after) (append_assoc text xs ys) (q.says (text ++ xs) (p.says text so_far));
}

-- the same text
pub draws_as : {before after : Svg} {xs ys : List ℕ} → xs ≡ ys → Draws before after xs → Draws before after ys
draws_as {before} {after} same p = subst (Draws before after) same p
