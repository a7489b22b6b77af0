-- What the first line says that says anything.
use Rattle.std.proofs.Common.{◌≡◌, List, [], ◌∷◌, ◌++◌, refl, ap, sym, ◌∙◌, Option, Some, None}
use Rattle.std.specs.Prelude.{IsSome}
use Rattle.std.specs.Option.{option_or}
use Rattle.read_replays.specs.InputsText.{Line, first_said}

-- a line that says nothing of it changes nothing
said_kept : {A : Type 0} (in_line : Line → Option A) (lines : List Line) (line : Line) → in_line line ≡ None
    → first_said in_line (lines ++ line ∷ []) ≡ first_said in_line lines
said_kept in_line [] line none = ap (λ one. option_or one None) none
said_kept in_line (first ∷ lines) line none = ap (option_or (in_line first)) (said_kept in_line lines line none)

-- a line says it where none has
said_now : {A : Type 0} (in_line : Line → Option A) (lines : List Line) (line : Line) → first_said in_line lines ≡ None
    → first_said in_line (lines ++ line ∷ []) ≡ in_line line
said_now in_line [] line none = or_none (in_line line)
  where
    or_none : {A : Type 0} (one : Option A) → option_or one None ≡ one
    or_none None = refl
    or_none (Some said) = refl
said_now in_line (first ∷ lines) line none = go (in_line first) (said_now in_line lines line) none
  where
    go : {A : Type 0} {rest all one : Option A} (here : Option A) → (rest ≡ None → all ≡ one)
        → option_or here rest ≡ None → option_or here all ≡ one
    go None step none = step none
    go (Some said) step none = cc

-- a slot that holds what the lines say still does
pub keeps : {A : Type 0} {slot : Option A} (in_line : Line → Option A) (lines : List Line) (line : Line)
    → slot ≡ first_said in_line lines → in_line line ≡ None
    → slot ≡ first_said in_line (lines ++ line ∷ [])
keeps in_line lines line held none = held ∙ sym (said_kept in_line lines line none)

-- a slot that no line has filled is filled with what the line says
pub fills : {A : Type 0} {slot : Option A} (in_line : Line → Option A) (lines : List Line) (line : Line) (value : A)
    → slot ≡ first_said in_line lines → ¬ IsSome (first_said in_line lines)
    → in_line line ≡ Some value → Some value ≡ first_said in_line (lines ++ line ∷ [])
fills {A} in_line lines line value held once says = sym (said_now in_line lines line (none_of (first_said in_line lines) once) ∙ says)
  where
    none_of : (one : Option A) → ¬ IsSome one → one ≡ None
    none_of None not = refl
    none_of (Some said) not = absurd (not refl)
