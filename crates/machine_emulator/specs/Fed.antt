-- Which card and which wait a step takes of those that the card machine is fed with, and which it
-- leaves.
use Rattle.std.specs.Prelude.{ℕ, drop, slice_get, min, max, Bool, true, false, not, ◌&&◌}
use Rattle.std.specs.Prelude.{if◌then◌else◌, List, [], ◌∷◌, Option, Some, None}
use Rattle.base_words.specs.declared.op.Op.{Op}
use Rattle.base_words.specs.declared.op.Op.TheVariants.{Read, Punch}
use Rattle.base_words.specs.Op.{op_of, operand_of, is_operand}
use Rattle.base_notes.specs.declared.entry.Entry.{Entry}
use Rattle.machine_steps.specs.declared.card.Card.{Card}
use Rattle.machine_steps.specs.Step.{State, instruction_in, is_read, lacks_card}

-- the operation of the fetched word, where the profile has it
abbrev pub op_in : State → Option Op
op_in s = op_of (instruction_in s).op

-- the operation waits for the card machine
abbrev pub has_wait : Op → Bool
has_wait Read = true
has_wait Punch = true
has_wait _ = false

-- the number in the entry's range that is nearest to the next wait that is fed, or the greatest in
-- the range where none is left
abbrev pub nearest : Entry → List ℕ → ℕ
nearest entry [] = entry.wait_max
nearest entry (wait ∷ waits) = max entry.wait_min (min wait entry.wait_max)

-- the wait that an operation is given
abbrev pub wait_for : Op → Entry → List ℕ → ℕ
wait_for op entry waits = if has_wait op then nearest entry waits else 0

abbrev pub wait_with : (Op → Entry) → Option Op → List ℕ → ℕ
wait_with times None waits = 0
wait_with times (Some op) waits = wait_for op (times op) waits

-- the operation acts: D is what it wants, and 70 finds a card
abbrev pub does_act : Op → State → Bool
does_act op s = is_operand (operand_of op) (instruction_in s).d && not (lacks_card op s.contents)

-- the card that an operation reads, and whether it is a load card
abbrev pub card_for : Op → List Card → Option Card
card_for op cards = if is_read op then slice_get cards 0 else None

abbrev pub is_load : Option Card → Bool
is_load None = false
is_load (Some card) = card.load

-- the cards that an operation leaves, once it has acted, and those that a step leaves
abbrev pub cards_after : Op → List Card → List Card
cards_after op cards = if is_read op then drop 1 cards else cards

abbrev pub cards_with : Option Op → State → List Card → List Card
cards_with None s cards = cards
cards_with (Some op) s cards = if does_act op s then cards_after op cards else cards

-- the waits, likewise
abbrev pub waits_after : Op → List ℕ → List ℕ
waits_after op waits = if has_wait op then drop 1 waits else waits

abbrev pub waits_with : Option Op → State → List ℕ → List ℕ
waits_with None s waits = waits
waits_with (Some op) s waits = if does_act op s then waits_after op waits else waits
