-- A step of a machine, as its line goes out.
use Rattle.std.specs.Prelude.{◌≡◌, ℕ, List}
use Rattle.base_words.specs.declared.op.Op.{Op}
use Rattle.base_notes.specs.declared.entry.Entry.{Entry}
use Rattle.machine_steps.specs.declared.card.Card.{Card}
use Rattle.machine_steps.specs.Run.{Stride}
use Rattle.machine_steps.specs.Step.{contents_after}
use Rattle.machine_emulator.specs.declared.machine.Machine.{Machine}
use Rattle.machine_emulator.specs.declared.step.Step.{Step}
use Rattle.machine_emulator.specs.Machine.{held_by}
use Rattle.machine_emulator.specs.Machine.{IsToldOf}

-- The step is that of a stride, on a drum with this angle at time 0, with `before` word times used
-- before it; the machine is as it is after the stride, with some cards in the reader.
pub record IsStepOf (times : Op → Entry) (angle before : ℕ) (step : Step) (machine : Machine)
    (stride : Stride) : Type 0 where
  pub told : IsToldOf times stride step
  pub start : stride.origin.first_angle ≡ angle
  pub time : stride.origin.time ≡ before
  pub cards : List Card
  pub held : held_by machine cards ≡ contents_after stride.outcome
