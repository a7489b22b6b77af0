-- The words of a deck that nothing comes to: they are neither executed, nor named as data by an
-- instruction that is. `loads` says which word the deck loads into a location.
use Rattle.std.specs.Prelude.{ℕ, ◌+◌, ◌-◌, nat_lt, if◌then◌else◌, ◌&&◌, not, Bool, List, [], ◌∷◌}
use Rattle.std.specs.Prelude.{flat_map, map, length, Option, Some, None, is_some}
use Rattle.std.specs.List.{range_with_len, take_while}
use Rattle.base_words.specs.declared.instruction.Instruction.{Instruction}
use Rattle.base_words.specs.declared.op.Op.{Op}
use Rattle.base_words.specs.declared.op.Op.TheVariants.{Add, ResetAdd, Divide, DivideReset}
use Rattle.base_words.specs.declared.op.Op.TheVariants.{Multiply, Store, LoadDistributor}
use Rattle.base_words.specs.declared.op.Op.TheVariants.{NoOperation, Stop, Shift, Branch}
use Rattle.base_words.specs.declared.op.Op.TheVariants.{BranchOnDigit}
use Rattle.base_words.specs.declared.op.Op.TheVariants as op
use Rattle.base_words.specs.declared.word.Word.{Word}
use Rattle.base_words.specs.Op.{op_of}
use Rattle.base_notes.specs.Allowed.{Notes, allowed}
use Rattle.machine_steps.specs.Effect.{band}
use Rattle.flow_graph.specs.Taken.{is_among}
use Rattle.check_findings.specs.declared.naming.Naming.{Naming}
use Rattle.check_findings.specs.declared.naming.Naming.TheVariants.{Nothing, Data, ReadWords}
use Rattle.check_findings.specs.declared.naming.Naming.TheVariants.{PunchWords}
use Rattle.check_findings.specs.Finding.{Finding, idle}

-- which words an operation names as data
abbrev pub naming_by : Op → Naming
naming_by (Add a) = Data
naming_by (ResetAdd a) = Data
naming_by Divide = Data
naming_by DivideReset = Data
naming_by Multiply = Data
naming_by LoadDistributor = Data
naming_by (Store s) = Data
naming_by op.Read = ReadWords
naming_by op.Punch = PunchWords
naming_by NoOperation = Nothing
naming_by Stop = Nothing
naming_by (Shift s) = Nothing
naming_by (Branch b) = Nothing
naming_by (BranchOnDigit p) = Nothing

abbrev pub naming_of : Option Op → Naming
naming_of None = Nothing
naming_of (Some op) = naming_by op

-- these words, by D, a location on the drum: D itself, words 01 to 10 of its band, or 27 to 36
abbrev pub words_of : Naming → ℕ → List ℕ
words_of Nothing d = []
words_of Data d = d ∷ []
words_of ReadWords d = range_with_len (band d + 1) 10
words_of PunchWords d = range_with_len (band d + 27) 10

abbrev pub words_at : Naming → ℕ → List ℕ
words_at naming d = if nat_lt d 2000 then words_of naming d else []

-- the drum words that an instruction names as data
abbrev pub names : Instruction → List ℕ
names ins = words_at (naming_of (op_of ins.op)) ins.d

-- those that the instructions of a location name
abbrev pub named_at : (ℕ → Option Word) → Notes → ℕ → List ℕ
named_at loads notes place = flat_map names (allowed loads notes place)

-- those that the instructions of all executed locations name
abbrev pub named : (ℕ → Option Word) → Notes → List ℕ → List ℕ
named loads notes executed = flat_map (named_at loads notes) executed

-- whether the deck loads this word, and it is neither executed nor named
abbrev pub is_idle : (ℕ → Option Word) → Notes → List ℕ → ℕ → Bool
is_idle loads notes executed place =
    is_some (loads place) && not (is_among executed place)
    && not (is_among (named loads notes executed) place)

-- whether a word is idle and the one before it isn't
abbrev pub is_first : (ℕ → Bool) → ℕ → Bool
is_first is_one place = is_one place && not (nat_lt 0 place && is_one (place - 1))

-- how many words are idle from one on, one after the other
abbrev pub idle_from : (ℕ → Bool) → ℕ → ℕ
idle_from is_one place = length (take_while is_one (range_with_len place (2000 - place)))

-- what is told of so many idle words from one on: of three and more at once, of fewer word by word
abbrev pub told_idle : ℕ → ℕ → List Finding
told_idle first count =
    if nat_lt count 3 then map (λ place. idle place place) (range_with_len first count)
    else idle first (first + count - 1) ∷ []

-- what is told where a word is the first of those
abbrev pub idle_at : (ℕ → Option Word) → Notes → List ℕ → ℕ → List Finding
idle_at loads notes executed place =
    if is_first (is_idle loads notes executed) place
    then told_idle place (idle_from (is_idle loads notes executed) place) else []

-- The locations on the drum.
unfoldable pub drum_locations : List ℕ
drum_locations = range_with_len 0 2000

-- all such words, by their locations
abbrev pub idle_words : (ℕ → Option Word) → Notes → List ℕ → List Finding
idle_words loads notes executed = flat_map (idle_at loads notes executed) drum_locations
