-- What is open, as the code holds it.
use Rattle.std.specs.Prelude.{ℕ, List, Option, map, option_map, take, length}
use Rattle.base_words.specs.declared.location.Location.{Location}
use Rattle.base_notes.specs.declared.notes.call.Call.{Call}
use Rattle.machine_steps.specs.declared.open.Open.{Open}
use Rattle.machine_steps.specs.Since.{Edge}

-- the number of a way back, if there is one
abbrev pub number_of : Option Location → Option ℕ
number_of way = option_map (λ location. location.number) way

-- what is open at the exits of these calls, in their order
abbrev pub open_in : Open → List Call → List (Option ℕ)
open_in held calls = map number_of (take (length calls) held.ways)

-- the edge from the one location onto the other
abbrev pub between : Location → Location → Edge
between from onto = record { from = from.number; onto = onto.number }
