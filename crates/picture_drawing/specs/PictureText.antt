-- What a picture says.
use Rattle.std.specs.Prelude.{◌≡◌, ℕ, List, ◌++◌, codes}
use Rattle.picture_scene.specs.declared.shares.Shares.{Shares}
use Rattle.picture_scene.specs.declared.walk.Kind.{Kind}
use Rattle.picture_drawing.specs.Bar.{numbers}
use Rattle.picture_drawing.specs.Heading.{element, heading, page}

-- A picture of some size begins with its heading, and ends with the numbers below its bar. Nothing
-- is said of what stands between.
abbrev pub IsPictureOf : Kind → ℕ → Shares → List ℕ → Type 0
IsPictureOf kind time shares picture =
    (width : ℕ) × (height : ℕ) × (between : List ℕ) × (base : ℕ)
    × (picture ≡ element width height ++ heading kind time (page width height)
    ++ between ++ numbers base shares ++ codes "</svg>\n")
