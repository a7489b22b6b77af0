-- What a document says that pieces are appended to.
use Rattle.std.specs.Prelude.{◌≡◌, List, ℕ, ◌++◌, false, string_bytes}
use Rattle.picture_drawing.specs.declared.svg.Svg.{Svg}

-- this was appended, where no piece is lost
abbrev pub Says : Svg → List ℕ → Type 0
Says svg text = svg.is_lost ≡ false → string_bytes svg.text ≡ text

-- Behind all that a document said it says this now.
pub record Draws (before after : Svg) (more : List ℕ) : Type 0 where
  pub says : (text : List ℕ) → Says before text → Says after (text ++ more)
