-- The command line: which commands there are, which files each names, and what words say.
use Rattle.std.specs.Prelude.{◌≡◌, ◌==◌, ◌&&◌, ◌||◌, Bool, true, false, List, [], ◌∷◌, ◌++◌, map}
use Rattle.std.specs.Prelude.{Option, Some, None, codes, find, is_some, not, option_map}
use Rattle.std.specs.List.{list_all, list_any}
use Rattle.std.specs.Option.{option_map_or}
use Rattle.std.specs.Str.{bytes_eq}
use Rattle.clap.specs.Words.{App, Row, Rule, Shape, Text, first_of, new_rule, subcommand_of}
use Rattle.clap.specs.Simple.{new_shape}
use Rattle.clap.specs.Walk.{is_empty}
use Rattle.clap.specs.declared.builder.action.ArgAction.TheVariants.{Set}
use Rattle.program_command.specs.declared.command.Command.{Command}
use Rattle.program_command.specs.declared.command.Command.TheVariants.{Answer, Check, Replay, Trace}
use Rattle.program_command.specs.declared.command.Command.TheVariants.{DrawRun}
use Rattle.program_command.specs.declared.command.Files.{Files}
use Rattle.program_command.specs.declared.command.Question.{Question}
use Rattle.program_command.specs.declared.command.Question.TheVariants.{Bound, Report, Walk, Waits}
use Rattle.program_command.specs.declared.command.Question.TheVariants.{Table, Size, Graph, Outline}
use Rattle.program_command.specs.declared.command.Question.TheVariants.{Draw, Ceiling}

-- a file that a command names: what it is called, and whether it has to be named
pub record File : Type 0 where
  pub name : Text
  pub needed : Bool

-- a command: its name, and its files in their order
pub record Verb : Type 0 where
  pub name : Text
  pub files : List File

abbrev pub needed : Text → File
needed name = record { name = name; needed = true }

-- the files that every command works on
abbrev pub common_files : List File
common_files = needed (codes "DECK") ∷ needed (codes "TIMES") ∷ needed (codes "NOTES") ∷ []

-- those of a command that lets the deck run
abbrev pub run_files : List File
run_files =
    needed (codes "DECK") ∷ needed (codes "TIMES") ∷ needed (codes "NOTES")
    ∷ needed (codes "INPUTS") ∷ []

-- and those of a command that looks at inputs where they are named, or draws their run
abbrev pub check_files : List File
check_files =
    needed (codes "DECK") ∷ needed (codes "TIMES") ∷ needed (codes "NOTES")
    ∷ record { name = codes "INPUTS"; needed = false } ∷ []

abbrev pub bound : Verb
bound = record { name = codes "bound"; files = common_files }

abbrev pub check : Verb
check = record { name = codes "check"; files = check_files }

abbrev pub report : Verb
report = record { name = codes "report"; files = common_files }

abbrev pub walk : Verb
walk = record { name = codes "walk"; files = common_files }

abbrev pub waits : Verb
waits = record { name = codes "waits"; files = common_files }

abbrev pub table : Verb
table = record { name = codes "table"; files = common_files }

abbrev pub size : Verb
size = record { name = codes "size"; files = common_files }

abbrev pub graph : Verb
graph = record { name = codes "graph"; files = common_files }

abbrev pub outline : Verb
outline = record { name = codes "outline"; files = common_files }

abbrev pub draw : Verb
draw = record { name = codes "draw"; files = check_files }

abbrev pub ceiling : Verb
ceiling = record { name = codes "ceiling"; files = common_files }

abbrev pub replay : Verb
replay = record { name = codes "replay"; files = run_files }

abbrev pub trace : Verb
trace = record { name = codes "trace"; files = run_files }

-- the commands that there are
abbrev pub verbs : List Verb
verbs =
    bound ∷ check ∷ report ∷ walk ∷ waits ∷ table ∷ size ∷ graph ∷ outline ∷ draw ∷ ceiling
    ∷ replay ∷ trace ∷ []

-- ---- the same, as clap's arguments and commands

-- a file
abbrev pub file_rule : File → Rule
file_rule file = record (new_rule file.name) { action = Some Set; required = file.needed }

-- a command, with its files
abbrev pub verb_shape : Verb → Shape
verb_shape verb = record (new_shape verb.name) { rules = map file_rule verb.files }

-- the program with these commands: the words are those after its own name, and the first names one
abbrev pub program : List Shape → App
program commands = record {
  top = record (new_shape (codes "drum650")) {
    is_leaf = is_empty commands;
    no_binary_name = true;
    subcommand_required = true;
    disable_help_subcommand = true;
  };
  subs = commands;
}

abbrev pub drum650 : App
drum650 = program (map verb_shape verbs)

-- ---- what is said

-- the files of the command of this name
abbrev pub files_of : Text → List File
files_of name = option_map_or (λ verb. verb.files) (find (λ verb. bytes_eq verb.name name) verbs) []

-- a command's name with the files that clap found, in the order of the command's files
abbrev pub said_in : Text × List Row → Text × List (Option Text)
said_in found = (found.0, map (λ file. first_of file.name found.1) (files_of found.0))

-- what clap finds that the words say: the name of a command, and its files
abbrev pub said_by_words : List Text → Option (Text × List (Option Text))
said_by_words words = option_map said_in (subcommand_of drum650 words)

-- the files' names, in their order
abbrev pub common : Files → List Text
common files = files.deck.now ∷ files.times.now ∷ files.notes.now ∷ []

abbrev pub with_inputs : Files → Text → List Text
with_inputs files inputs = files.deck.now ∷ files.times.now ∷ files.notes.now ∷ inputs ∷ []

-- the name of the command that asks this
abbrev pub asked_by : Question → Text
asked_by Bound = codes "bound"
asked_by Report = codes "report"
asked_by Walk = codes "walk"
asked_by Waits = codes "waits"
asked_by Table = codes "table"
asked_by Size = codes "size"
asked_by Graph = codes "graph"
asked_by Outline = codes "outline"
asked_by Draw = codes "draw"
asked_by Ceiling = codes "ceiling"

-- the files of its command that it leaves unnamed
abbrev pub unnamed_by : Question → List (Option Text)
unnamed_by Draw = None ∷ []
unnamed_by _ = []

-- what a command says: its name, and its files in their order
abbrev pub said_by : Command → Text × List (Option Text)
said_by (Answer question files) =
    (asked_by question, map Some (common files) ++ unnamed_by question)
said_by (Check files inputs) =
    (codes "check", map Some (common files) ++ option_map (λ name. name.now) inputs ∷ [])
said_by (Replay files inputs) = (codes "replay", map Some (with_inputs files inputs.now))
said_by (Trace files inputs) = (codes "trace", map Some (with_inputs files inputs.now))
said_by (DrawRun files inputs) = (codes "draw", map Some (with_inputs files inputs.now))

-- a file was found, if it has to be named
abbrev pub is_there : List Row → File → Bool
is_there rows file = not file.needed || is_some (first_of file.name rows)

-- clap found the name of a command, and all files that it has to name
abbrev pub is_whole : Text × List Row → Bool
is_whole found = list_any (λ verb. bytes_eq verb.name found.0) verbs
    && list_all (is_there found.1) (files_of found.0)

-- ---- lines as they are meant to be written

-- the word is taken for an option
abbrev pub begins_with_hyphen : Text → Bool
begins_with_hyphen [] = false
begins_with_hyphen (c ∷ rest) = c == 45

-- the words name files in their order, all that have to be named, and no word is one too many or is
-- taken for an option
abbrev pub NameFiles : List File → List Text → Type 0
NameFiles [] [] = Unit {0}
NameFiles [] (word ∷ words) = ⊥
NameFiles (file ∷ files) [] = (file.needed ≡ false) × NameFiles files []
NameFiles (file ∷ files) (word ∷ words) =
    (begins_with_hyphen word ≡ false) × NameFiles files words

abbrev pub NamesFilesOf : Verb → List Text → Type 0
NamesFilesOf verb words = NameFiles verb.files words

-- what the words say of the files: their names, and nothing of one that isn't named
abbrev pub said_of : List File → List Text → List (Option Text)
said_of [] words = []
said_of (file ∷ files) [] = None ∷ said_of files []
said_of (file ∷ files) (word ∷ words) = Some word ∷ said_of files words

-- the words are the command's name and its files
abbrev pub IsLineOf : Verb → List Text → List Text → Type 0
IsLineOf verb files words = (words ≡ verb.name ∷ files) × NamesFilesOf verb files
