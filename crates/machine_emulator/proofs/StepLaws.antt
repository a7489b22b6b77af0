-- What a step of a machine writes, and by which way it ends.
use Rattle.std.proofs.Common.{◌≡◌, ℕ, List, Bool, Option, ap, sym, ◌∙◌, subst}
use Rattle.std.specs.Prelude.{Contains, slice_get}
use Rattle.base_words.specs.declared.location.Location.{Location}
use Rattle.base_words.specs.declared.op.Op.{Op}
use Rattle.base_words.specs.declared.word.Word.{Word}
use Rattle.base_notes.specs.declared.entry.Entry.{Entry}
use Rattle.machine_steps.specs.declared.card.Card.{Card}
use Rattle.machine_steps.specs.Contents.{Contents}
use Rattle.machine_steps.proofs.Alone.{writes_no_other}
use Rattle.machine_steps.specs.Ending.{ended_by, own_notes}
use Rattle.machine_steps.proofs.Ends.{ends_by_its_own}
use Rattle.machine_steps.specs.Step.{State, Stepped, on, stopped, contents_after, step, fetched, instruction_in}
use Rattle.machine_steps.specs.Ways.{Way, to, ways}
use Rattle.machine_emulator.specs.declared.feed.Feed.{Feed}
use Rattle.machine_emulator.specs.declared.machine.Machine.{Machine}
use Rattle.machine_emulator.specs.declared.step.Step.{Step}
use Rattle.machine_emulator.specs.declared.step.Step.TheVariants.{Went, Stopped}
use Rattle.machine_emulator.specs.Feed.{cards_left, waits_left}
use Rattle.machine_emulator.specs.Fed.{op_in, wait_with}
use Rattle.machine_emulator.specs.Machine.{Tells, Becomes, TakesStep, WritesAlone, EndsByAWay, state_in, way_told}

-- the way that the answer has is that by which the step ended
told_way : (stepped : Stepped) (origin : Location) (word : Word) (load : Bool) (words : Option (List Word))
    (answer : Step)
    → Tells stepped origin word load words answer → ended_by stepped ≡ way_told answer
told_way (on next) origin word load words (Went from fetch onto used read punch) told = ap to (sym told.2)
told_way (on next) origin word load words (Stopped from fetch because used) told = absurd told
told_way (stopped held because moment) origin word load words answer told = ap way_told (sym told)

-- a machine holds what the step left
holds_after : (stepped : Stepped) (origin : Location) (word : Word) (m : Machine) (cards : List Card)
    → Becomes stepped origin word m cards → (state_in m cards).contents ≡ contents_after stepped
holds_after (on next) origin word m cards becomes = ap (λ (s : State). s.contents) becomes.1
holds_after (stopped held because moment) origin word m cards becomes = becomes.3

-- A step that a machine takes ends by a way of its instruction,
pub takes_ends : (times : Op → Entry) (before : Machine) (fed : Feed) (answer : Step) (after : Machine) (left : Feed)
    → TakesStep times before fed answer after left → EndsByAWay (state_in before (cards_left fed)) answer
takes_ends times before fed answer after left takes op is =
    let s : State = state_in before (cards_left fed) in
    let wait : ℕ = wait_with times (op_in s) (waits_left fed) in
    subst (λ (way : Way). Contains (ways (own_notes s) (instruction_in s)) way)
    (told_way (step times s wait) before.sought _ _ _ answer takes.tells) (ends_by_its_own times s wait op is)

-- and writes what it writes alone.
pub takes_writes : (times : Op → Entry) (before : Machine) (fed : Feed) (answer : Step) (after : Machine) (left : Feed)
    → TakesStep times before fed answer after left
    → WritesAlone (state_in before (cards_left fed)) (state_in after (cards_left left))
takes_writes times before fed answer after left takes place apart =
    let s : State = state_in before (cards_left fed) in
    let wait : ℕ = wait_with times (op_in s) (waits_left fed) in
    ap (λ (c : Contents). slice_get c.drum place)
    (holds_after (step times s wait) before.sought (fetched s) after (cards_left left) takes.becomes)
    ∙ writes_no_other times s wait place apart
