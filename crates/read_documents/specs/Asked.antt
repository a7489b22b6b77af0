-- What is asked of a source: which files, in which order, and how they are read.
use Rattle.std.specs.Prelude.{◌≡◌, ◌≢◌, ℕ, ◌+◌, ◌≤◌, List, [], ◌∷◌, ◌++◌, Option, Some, None}
use Rattle.std.specs.Prelude.{Result, Ok, Err, ◌⊎◌, option_map}
use Rattle.std.specs.Borrow.{Bor}
use Rattle.program_command.specs.declared.command.Command.{Command}
use Rattle.program_command.specs.declared.command.Command.TheVariants.{Answer, Check, Replay, Trace}
use Rattle.program_command.specs.declared.command.Command.TheVariants.{DrawRun}
use Rattle.program_command.specs.declared.command.Files.{Files}
use Rattle.read_decks.specs.declared.deck.fault.DeckFault.TheVariants as of_deck
use Rattle.read_replays.specs.declared.fault.InputFault.TheVariants as of_inputs
use Rattle.print_lines.specs.declared.fault.Fault.{Fault}
use Rattle.print_lines.specs.declared.fault.Fault.TheVariants as fault
use Rattle.print_lines.specs.declared.part.Part as parts
use Rattle.print_lines.specs.declared.part.Part.TheVariants as part
use Rattle.print_lines.specs.declared.part.PartFault.TheVariants as what
use Rattle.print_lines.specs.FaultStatus.{reads_failed}

-- How a text was read: how often, how many of these reads failed and how many met the end, how many
-- bytes they gave, and how many of them gave none.
pub record Reading : Type 0 where
  pub calls : ℕ
  pub failures : ℕ
  pub ends : ℕ
  pub bytes : ℕ
  pub idle : ℕ

abbrev pub reading : ℕ → ℕ → ℕ → ℕ → ℕ → Reading
reading many failed met gave none =
    record { calls = many; failures = failed; ends = met; bytes = gave; idle = none }

-- A file is sought by its name; a text, read so, is given back.
pub data Asked : Type 0 where
  sought : List ℕ → Asked
  returned : Reading → Asked

-- What was asked in between, of a source that told before and after all that was asked so far.
abbrev pub AsksFor : Option (List Asked) → Option (List Asked) → (List Asked → Type 0) → Type 0
AsksFor before None Is = Unit {0}
AsksFor None (Some all) Is = ⊥
AsksFor (Some earlier) (Some all) Is =
    (asked : List Asked) × (all ≡ earlier ++ asked) × Is asked

-- ---- a file

-- the most bytes that a part is read to: one past its limit
abbrev pub most_of : parts.Part → ℕ
most_of part.Joined = 16777217
most_of part.Deck = 404001
most_of part.Times = 8388609
most_of part.Notes = 8388609
most_of part.Inputs = 804001

-- how many failed reads a fault tells of, and whether it is lack of memory
abbrev pub failures_told : Option Fault → ℕ
failures_told None = 0
failures_told (Some why) = reads_failed why

abbrev pub MayWant : Option Fault → Type 0
MayWant (Some fault.Memory) = Unit {0}
MayWant (Some (fault.Deck of_deck.Memory)) = Unit {0}
MayWant (Some (fault.Inputs of_inputs.Memory)) = Unit {0}
MayWant _ = ⊥

-- How a text is read, `most` bytes at most, where this fault of it is told, or none: one read at
-- most gives no byte, and all of the text is read, unless a read fails or there is no memory. Once
-- the most bytes were given, no read fails.
pub record IsRead (most : ℕ) (told : Option Fault) (read : Reading) : Type 0 where
  pub failures : read.failures ≡ failures_told told
  pub idle : read.idle ≤ 1
  pub calls : read.calls ≤ most
  pub each : read.calls ≤ read.bytes + 1
  pub ends : read.ends ≤ 1
  pub bytes : read.bytes ≤ most
  pub full : read.bytes ≡ most → read.failures ≡ 0
  pub whole : (read.ends ≡ 1) ⊎ (read.bytes ≡ most) ⊎ (read.failures ≡ 1) ⊎ MayWant told

-- the part whose file or text the fault is of; none for a fault of no part
abbrev pub part_of : Fault → Option parts.Part
part_of (fault.Part one why) = Some one
part_of (fault.Deck why) = Some part.Deck
part_of (fault.Times why) = Some part.Times
part_of (fault.Notes why) = Some part.Notes
part_of (fault.Inputs why) = Some part.Inputs
part_of _ = None

-- no fault, or one of the text of this part
abbrev pub IsOfText : parts.Part → Option Fault → Type 0
IsOfText of None = Unit {0}
IsOfText of (Some told) =
    ((part_of told ≡ Some of) ⊎ (told ≡ fault.Memory)) × (told ≢ fault.Part of what.Open)

-- A part's file is sought; where it can be opened, its text is read and given back.
abbrev pub IsLookedAt : parts.Part → List ℕ → Option Fault → List Asked → Type 0
IsLookedAt of name told asked =
    ((told ≡ Some (fault.Part of what.Open)) × (asked ≡ sought name ∷ []))
    ⊎ (IsOfText of told × (read : Reading) × IsRead (most_of of) told read
    × (asked ≡ sought name ∷ returned read ∷ []))

-- ---- the files of a command

-- which part is in the file of which name
pub record NamedFile : Type 0 where
  pub part : parts.Part
  pub name : List ℕ

abbrev pub in_file : parts.Part → List ℕ → NamedFile
in_file one file = record { part = one; name = file }

abbrev pub named : List ℕ → List ℕ → List ℕ → List NamedFile
named deck times notes =
    in_file part.Deck deck ∷ in_file part.Times times ∷ in_file part.Notes notes ∷ []

-- in the order of a command's words
abbrev pub named_in : Files → List NamedFile
named_in files = named files.deck.now files.times.now files.notes.now

abbrev pub all_named_in : Files → List ℕ → List NamedFile
all_named_in files inputs = named_in files ++ in_file part.Inputs inputs ∷ []

-- a name, if there is one
abbrev pub name_in : Option (Bor (List ℕ)) → Option (List ℕ)
name_in name = option_map (λ name. name.now) name

-- the file of inputs, if one is named
abbrev pub inputs_named : Option (List ℕ) → List NamedFile
inputs_named None = []
inputs_named (Some inputs) = in_file part.Inputs inputs ∷ []

abbrev pub named_with : Files → Option (List ℕ) → List NamedFile
named_with files inputs = named_in files ++ inputs_named inputs

abbrev pub files_sought : Command → List NamedFile
files_sought (Answer question files) = named_in files
files_sought (Check files inputs) = named_with files (name_in inputs)
files_sought (Replay files inputs) = all_named_in files inputs.now
files_sought (Trace files inputs) = all_named_in files inputs.now
files_sought (DrawRun files inputs) = all_named_in files inputs.now

-- Files are looked at one after the other, and nothing is wrong with one.
abbrev pub AreLookedAt : List NamedFile → List Asked → Type 0
AreLookedAt [] asked = asked ≡ []
AreLookedAt (file ∷ files) asked =
    (first later : List Asked) × (asked ≡ first ++ later)
    × IsLookedAt file.part file.name None first × AreLookedAt files later

-- They are up to the one that the fault is of, and no further.
abbrev pub AreLookedAtUpTo : List NamedFile → Fault → List Asked → Type 0
AreLookedAtUpTo [] told asked = ⊥
AreLookedAtUpTo (file ∷ files) told asked =
    IsLookedAt file.part file.name (Some told) asked
    ⊎ ((first later : List Asked) × (asked ≡ first ++ later)
    × IsLookedAt file.part file.name None first × AreLookedAtUpTo files told later)

-- What is looked at where this fault is told, or none: the files up to the fault's, or all of them
-- where the fault is of none.
abbrev pub Looks : List NamedFile → Option Fault → List Asked → Type 0
Looks files None asked = AreLookedAt files asked
Looks files (Some told) asked =
    AreLookedAtUpTo files told asked ⊎ ((part_of told ≡ None) × AreLookedAt files asked)

-- the same by a result
abbrev pub LooksFor : {A : Type 0} → List NamedFile → Result A Fault → List Asked → Type 0
LooksFor files (Ok found) asked = AreLookedAt files asked
LooksFor files (Err told) asked = AreLookedAtUpTo files told asked

abbrev pub fault_in : {A : Type 0} → Result A Fault → Option Fault
fault_in (Ok found) = None
fault_in (Err told) = Some told
