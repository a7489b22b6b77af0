-- All faults of a text's lines, and what it means that the lines are taken one after the other.
use Rattle.std.specs.Prelude.{◌≡◌, ℕ, ◌+◌, ◌⊎◌, List, [], ◌∷◌, ◌++◌, length, Option, Some}
use Rattle.std.specs.Prelude.{None}
use Rattle.read_decks.specs.Lines.{EachSays}

-- These are the faults of lines behind others: a line with a fault has it, and counts as a comment
-- for the lines after it. Which fault the next line has is given by HasFault.
abbrev pub HaveFaults : {Line Fault : Type 0} → (comment : Line)
    → (Says : List ℕ → Line → Type 0) → (AreSound : List Line → Type 0)
    → (HasFault : List Line → List ℕ → Fault → Type 0) → List Line → List (List ℕ) → List Fault
    → Type 0
HaveFaults comment Says AreSound HasFault before [] faults = faults ≡ []
HaveFaults {Line} {Fault} comment Says AreSound HasFault before (text ∷ texts) faults =
    ((line : Line) × Says text line × AreSound (before ++ line ∷ [])
    × HaveFaults comment Says AreSound HasFault (before ++ line ∷ []) texts faults)
    ⊎ ((first : Fault) × (others : List Fault) × (faults ≡ first ∷ others)
    × HasFault before text first
    × HaveFaults comment Says AreSound HasFault (before ++ comment ∷ []) texts others)

-- What a line of a text may say, how a comment is said, which lines are sound, which fault the next
-- one has behind others, and which lines a state holds.
pub record Rules (State Fault : Type 0) : Type 1 where
  pub Line : Type 0
  pub comment : Line
  pub Says : List ℕ → Line → Type 0
  pub AreSound : List Line → Type 0
  pub HasFault : List Line → List ℕ → Fault → Type 0
  pub Holds : State → List Line → Type 0

-- so many lines have been taken, and are held
abbrev pub HaveTaken : {State Fault : Type 0} → Rules State Fault → State → ℕ → Type 0
HaveTaken rules state number =
    (before : List rules.Line) × (number ≡ length before) × rules.Holds state before

-- this is the number of the next line
abbrev pub IsNumber : {State Fault : Type 0} → Rules State Fault → State → ℕ → Type 0
IsNumber rules state number =
    (before : List rules.Line) × (number ≡ length before + 1) × rules.Holds state before

-- behind these lines the next one is taken: it is sound with them, or it has this fault and counts
-- as a comment
abbrev pub IsNext : {State Fault : Type 0} → (rules : Rules State Fault) → (new : State)
    → (before : List rules.Line) → (text : List ℕ) → Option Fault → Type 0
IsNext rules new before text None =
    (line : rules.Line) × rules.Says text line × rules.AreSound (before ++ line ∷ [])
    × rules.Holds new (before ++ line ∷ [])
IsNext rules new before text (Some fault) =
    rules.HasFault before text fault × rules.Holds new (before ++ rules.comment ∷ [])

-- the line of this number is taken, whatever lines were held before it
abbrev pub IsTaken : {State Fault : Type 0} → (rules : Rules State Fault) → (old new : State)
    → (text : List ℕ) → (number : ℕ) → Option Fault → Type 0
IsTaken rules old new text number outcome =
    (before : List rules.Line) → number ≡ length before + 1 → rules.Holds old before
    → IsNext rules new before text outcome

-- Of the lines that were left behind others the first are sound with them, and then these are left.
pub record Passed {State Fault : Type 0} (rules : Rules State Fault) (before : List rules.Line)
    (rest : List (List ℕ)) (after : List rules.Line) (left : List (List ℕ)) : Type 0 where
  pub texts : List (List ℕ)
  pub lines : List rules.Line
  pub split : rest ≡ texts ++ left
  pub said : EachSays rules.Says texts lines
  pub all : after ≡ before ++ lines
  pub sound : rules.AreSound before → rules.AreSound after
  pub faults : (of_left : List Fault)
      → HaveFaults rules.comment rules.Says rules.AreSound rules.HasFault after left of_left
      → HaveFaults rules.comment rules.Says rules.AreSound rules.HasFault before rest of_left

-- behind these lines, all that are left are sound, or these up to one with this fault
abbrev pub GoesFrom : {State Fault : Type 0} → (rules : Rules State Fault) → (new : State)
    → (count : ℕ) → (rest left : List (List ℕ)) → (before : List rules.Line) → Option Fault
    → Type 0
GoesFrom rules new count rest left before None =
    (after : List rules.Line) × Passed rules before rest after [] × rules.Holds new after
GoesFrom rules new count rest left before (Some fault) =
    (after : List rules.Line) × (text : List ℕ) × Passed rules before rest after (text ∷ left)
    × (count ≡ length after + 1) × rules.HasFault after text fault
    × rules.Holds new (after ++ rules.comment ∷ [])

-- lines are taken up to the next fault, whatever lines were held before
abbrev pub GoesOn : {State Fault : Type 0} → (rules : Rules State Fault) → (old new : State)
    → (number count : ℕ) → (rest left : List (List ℕ)) → Option Fault → Type 0
GoesOn rules old new number count rest left outcome =
    (before : List rules.Line) → number ≡ length before → rules.Holds old before
    → GoesFrom rules new count rest left before outcome
