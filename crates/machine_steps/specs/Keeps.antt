-- When a run keeps to the notes, and how it leaves them.
use Rattle.std.specs.Prelude.{◌≡◌, ℕ, Bool, true, false, ◌&&◌, IsTrue, List, [], ◌∷◌, Option, Some}
use Rattle.std.specs.Prelude.{None, Contains}
use Rattle.base_words.specs.declared.op.Op.{Op}
use Rattle.base_words.specs.declared.word.Word.{Word}
use Rattle.base_words.specs.Op.{op_of, operand_of, is_operand}
use Rattle.base_notes.specs.declared.notes.programmed.Programmed as switches
use Rattle.base_notes.specs.declared.notes.programmed.Programmed.TheVariants as switch
use Rattle.base_notes.specs.Allowed.{Notes, is_listed, allowed}
use Rattle.machine_steps.specs.declared.card.Card.{Card}
use Rattle.machine_steps.specs.declared.left.Left.{Left}
use Rattle.machine_steps.specs.declared.left.Left.TheVariants.{Unlisted, TooOften, Switch, LoadCard}
use Rattle.machine_steps.specs.declared.left.Left.TheVariants.{NotBack}
use Rattle.machine_steps.specs.Calls.{none_open, open_along, GoBack}
use Rattle.machine_steps.specs.Counts.{after_pass, no_counts, AreWithin}
use Rattle.machine_steps.specs.Run.{Stride}
use Rattle.machine_steps.specs.Since.{edge_by, edges_of}
use Rattle.machine_steps.specs.Step.{State, Stepped, on, stopped, fetched, instruction_in, is_read}

-- the programmed switch is as declared
abbrev pub IsAsDeclared : switches.Programmed → Bool → Type 0
IsAsDeclared switch.Stop stops = stops ≡ true
IsAsDeclared switch.Run stops = stops ≡ false
IsAsDeclared switch.Any stops = Unit {0}

-- the word fetched at a listed location is allowed there
abbrev pub IsAllowed : (ℕ → Option Word) → Notes → State → Type 0
IsAllowed loads notes s =
    IsTrue (is_listed notes s.sought) → Contains (allowed loads notes s.sought) (instruction_in s)

-- the next card is a load card
abbrev pub is_load : List Card → Bool
is_load [] = false
is_load (card ∷ cards) = card.load

abbrev pub reads_with : State → Option Op → Bool
reads_with s None = false
reads_with s (Some op) = is_read op && is_operand (operand_of op) (instruction_in s).d

-- the step reads a load card
abbrev pub reads_load : State → Bool
reads_load s = reads_with s (op_of (instruction_in s).op) && is_load s.contents.cards

-- no load card is read where the notes have none
abbrev pub IsWithoutLoad : Notes → State → Type 0
IsWithoutLoad notes s = notes.load_cards ≡ false → reads_load s ≡ false

-- the counts after a step from a location: one that goes on may pass a mark
abbrev pub counts_by : Notes → List ℕ → ℕ → Stepped → List ℕ
counts_by notes counts from (on next) = after_pass notes.marks from next.sought counts
counts_by notes counts from (stopped held because moment) = counts

abbrev pub counts_after : Notes → List ℕ → Stride → List ℕ
counts_after notes counts stride = counts_by notes counts stride.origin.sought stride.outcome

-- the counts after strides
abbrev pub counts_over : Notes → List ℕ → List Stride → List ℕ
counts_over notes counts [] = counts
counts_over notes counts (stride ∷ strides) =
    counts_over notes (counts_after notes counts stride) strides

-- the step goes on to this location
abbrev pub GoesTo : Stepped → ℕ → Type 0
GoesTo (on next) location = next.sought ≡ location
GoesTo (stopped held because moment) location = ⊥

-- the stride keeps to the notes, where the marks have these counts before it
pub record IsKeptStride (loads : ℕ → Option Word) (notes : Notes) (counts : List ℕ)
    (stride : Stride) : Type 0 where
  pub listed : IsAllowed loads notes stride.origin
  pub cards : IsWithoutLoad notes stride.origin
  pub marks : AreWithin notes.marks (counts_after notes counts stride)

abbrev pub AreKept : (ℕ → Option Word) → Notes → List ℕ → List Stride → Type 0
AreKept loads notes counts [] = Unit {0}
AreKept loads notes counts (stride ∷ strides) =
    IsKeptStride loads notes counts stride
    × AreKept loads notes (counts_after notes counts stride) strides

-- what is open behind strides, at first nothing
abbrev pub open_behind : Notes → List Stride → List (Option ℕ)
open_behind notes strides = open_along notes.calls (none_open notes.calls) (edges_of strides)

-- what is open behind a stride, where this is open before it
abbrev pub ways_after : Notes → List (Option ℕ) → Stride → List (Option ℕ)
ways_after notes ways stride =
    open_along notes.calls ways (edge_by stride.origin.sought stride.outcome)

-- the stride goes back, where it leaves an exit, to the way back that is open there
abbrev pub GoesBack : Notes → List (Option ℕ) → Stride → Type 0
GoesBack notes ways stride =
    GoBack notes.calls ways (edge_by stride.origin.sought stride.outcome)

-- the strides of a run do, with nothing open at first
abbrev pub AllGoBack : Notes → List Stride → Type 0
AllGoBack notes strides = GoBack notes.calls (none_open notes.calls) (edges_of strides)

-- A run keeps to the notes.
pub record IsKept (loads : ℕ → Option Word) (notes : Notes) (s : State)
    (strides : List Stride) : Type 0 where
  pub declared : IsAsDeclared notes.programmed s.contents.programmed_stops
  pub kept : AreKept loads notes (no_counts notes.marks) strides
  pub back : AllGoBack notes strides

-- How a stride leaves the notes, where the marks have these counts before it and this is open: the
-- first cause in the order Unlisted, LoadCard, NotBack, TooOften. (Switch is decided before any
-- stride.)
abbrev pub Leaves : (ℕ → Option Word) → Notes → List ℕ → List (Option ℕ) → Stride → Left → Type 0
Leaves loads notes counts ways stride (Unlisted location w) =
    (location.number ≡ stride.origin.sought) × (w ≡ fetched stride.origin)
    × ¬ IsAllowed loads notes stride.origin
Leaves loads notes counts ways stride LoadCard =
    IsAllowed loads notes stride.origin × ¬ IsWithoutLoad notes stride.origin
Leaves loads notes counts ways stride (NotBack exit onto) =
    IsAllowed loads notes stride.origin × IsWithoutLoad notes stride.origin
    × ¬ GoesBack notes ways stride
    × (exit.number ≡ stride.origin.sought) × GoesTo stride.outcome onto.number
Leaves loads notes counts ways stride (TooOften from onto) =
    IsAllowed loads notes stride.origin × IsWithoutLoad notes stride.origin
    × GoesBack notes ways stride
    × ¬ AreWithin notes.marks (counts_after notes counts stride)
    × (from.number ≡ stride.origin.sought) × GoesTo stride.outcome onto.number
Leaves loads notes counts ways stride Switch = ⊥
