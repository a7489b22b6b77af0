-- The lines of a text, what each says, and the first with a fault.
use Rattle.std.specs.Prelude.{◌≡◌, ℕ, ◌+◌, ◌<◌, List, [], ◌∷◌, ◌++◌, ◌==◌, ◌⊎◌, Any, length}
use Rattle.std.specs.Prelude.{if◌then◌else◌}

-- a byte in front of the first line
abbrev pub with_front : ℕ → List (List ℕ) → List (List ℕ)
with_front byte [] = (byte ∷ []) ∷ []
with_front byte (line ∷ lines) = (byte ∷ line) ∷ lines

-- The lines of a text: its parts between line feeds. The last may lack its line feed, and a text
-- that ends with one has no empty line after it.
abbrev pub lines_of : List ℕ → List (List ℕ)
lines_of [] = []
lines_of (byte ∷ bytes) =
    if byte == 10 then [] ∷ lines_of bytes else with_front byte (lines_of bytes)

-- a text of more lines, or with a line of more bytes
abbrev pub IsLonger : ℕ → ℕ → List ℕ → Type 0
IsLonger count bytes text =
    (count < length (lines_of text)) ⊎ Any (λ line. bytes < length line) (lines_of text)

-- each text says its line, where Says has what a text says
abbrev pub EachSays : {Line : Type 0} → (List ℕ → Line → Type 0) → List (List ℕ) → List Line
    → Type 0
EachSays Says [] [] = Unit {0}
EachSays Says (text ∷ texts) (line ∷ lines) = Says text line × EachSays Says texts lines
EachSays Says [] (line ∷ lines) = ⊥
EachSays Says (text ∷ texts) [] = ⊥

-- The first line of a text with a fault has this one: the lines before it are sound. What a text
-- says, which lines are sound, and which fault the line of a number has behind others, is given by
-- Says, AreSound and IsFaultOfLine.
pub record HasFirstFault {Line Fault : Type 0} (Says : List ℕ → Line → Type 0)
    (AreSound : List Line → Type 0) (IsFaultOfLine : List Line → ℕ → List ℕ → Fault → Type 0)
    (text : List ℕ) (fault : Fault) : Type 0 where
  pub texts : List (List ℕ)
  pub line : List ℕ
  pub others : List (List ℕ)
  pub split : lines_of text ≡ texts ++ line ∷ others
  pub before : List Line
  pub said : EachSays Says texts before
  pub sound : AreSound before
  pub first : IsFaultOfLine before (length texts + 1) line fault
