-- What a monitor has seen of a run.
use Rattle.std.specs.Prelude.{◌≡◌, ℕ, List, Option}
use Rattle.base_words.specs.declared.word.Word.{Word}
use Rattle.base_notes.specs.Allowed.{Notes}
use Rattle.machine_steps.specs.declared.left.Left.{Left}
use Rattle.machine_emulator.specs.declared.monitor.Monitor.{Monitor}
use Rattle.machine_steps.specs.Counts.{no_counts}
use Rattle.machine_steps.specs.CountsIn as held
use Rattle.machine_steps.specs.Keeps.{AreKept, AllGoBack, counts_over, open_behind}
use Rattle.machine_steps.specs.OpenIn as ways
use Rattle.machine_steps.specs.Run.{Stride}

-- how the run left the notes, as a monitor knows it; none while it keeps to them
abbrev pub answer_of : Monitor → Option Left
answer_of m = m.left

-- the counts of the notes' marks, as a monitor holds them
abbrev pub counts_in : Monitor → Notes → List ℕ
counts_in m notes = held.counts_in m.counts notes.marks

-- what is open at the exits of the notes' calls, as a monitor holds it
abbrev pub open_in : Monitor → Notes → List (Option ℕ)
open_in m notes = ways.open_in m.exits notes.calls

-- a monitor has seen these strides, all of which keep to the notes, and holds their counts and what
-- is open behind them
pub record HasSeenKept (loads : ℕ → Option Word) (notes : Notes) (m : Monitor)
    (strides : List Stride) : Type 0 where
  pub counts : counts_in m notes ≡ counts_over notes (no_counts notes.marks) strides
  pub kept : AreKept loads notes (no_counts notes.marks) strides
  pub open_now : open_in m notes ≡ open_behind notes strides
  pub back : AllGoBack notes strides
