-- The line of each fault. A location has four digits, an operation two, and other numbers are plain
-- decimal.
use Rattle.std.specs.Prelude.{ℕ, List, ◌++◌, codes, decimal, flat_map, string_bytes}
use Rattle.read_decks.specs.declared.deck.fault.DeckFault.{DeckFault}
use Rattle.read_decks.specs.declared.deck.fault.DeckFault.TheVariants as deck
use Rattle.base_words.specs.declared.location.Location.{Location}
use Rattle.base_words.specs.Numeral.{digits_of}
use Rattle.flow_graph.specs.declared.refusal.Refusal as refused
use Rattle.flow_graph.specs.declared.refusal.Refusal.TheVariants as refusal
use Rattle.read_replays.specs.declared.fault.InputFault.{InputFault}
use Rattle.read_replays.specs.declared.fault.InputFault.TheVariants as input
use Rattle.base_notes.specs.declared.fault.NoteFault.{NoteFault}
use Rattle.base_notes.specs.declared.fault.NoteFault.TheVariants as note
use Rattle.print_lines.specs.declared.fault.Fault.{Fault}
use Rattle.print_lines.specs.declared.fault.Fault.TheVariants.{NoPart, Part, Memory, Deck, Times}
use Rattle.print_lines.specs.declared.fault.Fault.TheVariants.{Notes, Inputs, Refused, Loaded}
use Rattle.print_lines.specs.declared.part.Part as parts
use Rattle.print_lines.specs.declared.part.Part.TheVariants as part
use Rattle.print_lines.specs.declared.part.PartFault.{PartFault}
use Rattle.print_lines.specs.declared.part.PartFault.TheVariants as bytes

-- what a part is called
abbrev pub part_name : parts.Part → List ℕ
part_name part.Joined = codes "input"
part_name part.Deck = codes "deck"
part_name part.Times = codes "times"
part_name part.Notes = codes "notes"
part_name part.Inputs = codes "inputs"

-- the bytes of a part, of this name, can't be had
abbrev pub part_text : List ℕ → PartFault → List ℕ
part_text name bytes.Open = codes "fault 52 " ++ name ++ codes " open\n"
part_text name bytes.Read = codes "fault 52 " ++ name ++ codes " read\n"
part_text name bytes.TooLong = codes "fault 52 " ++ name ++ codes " toolong\n"

-- the deck is refused
abbrev pub deck_text : DeckFault → List ℕ
deck_text deck.Read = codes "fault 1 deck read\n"
deck_text deck.Memory = codes "fault 2 deck memory\n"
deck_text (deck.Card line) = codes "fault 3 deck card " ++ decimal line ++ codes "\n"
deck_text (deck.Twice location) =
    codes "fault 4 deck twice " ++ digits_of 4 location.number ++ codes "\n"
deck_text deck.NoStart = codes "fault 5 deck nostart\n"
deck_text (deck.TwoStarts line) = codes "fault 6 deck twostarts " ++ decimal line ++ codes "\n"
deck_text (deck.PastDrum line) = codes "fault 7 deck pastdrum " ++ decimal line ++ codes "\n"
deck_text deck.TooLong = codes "fault 8 deck toolong\n"

-- the timing table or the notes are refused: the part of this name
abbrev pub note_text : List ℕ → NoteFault → List ℕ
note_text name note.Toml = codes "fault 11 " ++ name ++ codes " toml\n"
note_text name note.Memory = codes "fault 12 " ++ name ++ codes " memory\n"
note_text name (note.Missing key) =
    codes "fault 13 " ++ name ++ codes " missing " ++ string_bytes key.text ++ codes "\n"
note_text name (note.Unknown key) =
    codes "fault 14 " ++ name ++ codes " unknown " ++ string_bytes key.text ++ codes "\n"
note_text name (note.Range key) =
    codes "fault 15 " ++ name ++ codes " range " ++ string_bytes key.text ++ codes "\n"
note_text name (note.Kind key) =
    codes "fault 16 " ++ name ++ codes " kind " ++ string_bytes key.text ++ codes "\n"
note_text name (note.TwoMarks from onto) =
    codes "fault 17 " ++ name ++ codes " twomarks "
    ++ digits_of 4 from.number ++ codes " " ++ digits_of 4 onto.number ++ codes "\n"
note_text name (note.TwoLists location) =
    codes "fault 18 " ++ name ++ codes " twolists " ++ digits_of 4 location.number ++ codes "\n"

-- a location behind others, after a space
abbrev pub next_location : Location → List ℕ
next_location location = codes " " ++ digits_of 4 location.number

-- The analysis refuses the deck; of an alteration the writer's location comes first. Of notes with
-- calls, for which there is no bound, the line is that of notes that may have none.
abbrev pub refusal_text : refused.Refusal → List ℕ
refusal_text refusal.Memory = codes "fault 31 memory\n"
refusal_text (refusal.NotInProfile location op) =
    codes "fault 32 notinprofile "
    ++ digits_of 4 location.number ++ codes " " ++ digits_of 2 op ++ codes "\n"
refusal_text (refusal.NotLoaded location) =
    codes "fault 33 notloaded " ++ digits_of 4 location.number ++ codes "\n"
refusal_text (refusal.Alters writer word) =
    codes "fault 34 alters "
    ++ digits_of 4 writer.number ++ codes " " ++ digits_of 4 word.number ++ codes "\n"
refusal_text (refusal.Unbounded cycle) =
    codes "fault 35 unbounded" ++ flat_map next_location cycle.locations.items ++ codes "\n"
refusal_text (refusal.TooLarge product) =
    codes "fault 36 toolarge " ++ decimal product ++ codes "\n"
refusal_text refusal.TooMany = codes "fault 37 toomany\n"
refusal_text refusal.HasCalls = codes "fault 14 notes unknown call\n"

-- the inputs are refused
abbrev pub input_text : InputFault → List ℕ
input_text input.Read = codes "fault 41 inputs read\n"
input_text input.Memory = codes "fault 42 inputs memory\n"
input_text (input.Line line) = codes "fault 43 inputs line " ++ decimal line ++ codes "\n"
input_text (input.Repeated line) = codes "fault 44 inputs repeated " ++ decimal line ++ codes "\n"
input_text (input.PastDrum line) = codes "fault 45 inputs pastdrum " ++ decimal line ++ codes "\n"
input_text input.TooLong = codes "fault 46 inputs toolong\n"

-- the line of a fault
abbrev pub fault_text : Fault → List ℕ
fault_text (Deck fault) = deck_text fault
fault_text (Times fault) = note_text (codes "times") fault
fault_text (Notes fault) = note_text (codes "notes") fault
fault_text (Refused refusal) = refusal_text refusal
fault_text (Inputs fault) = input_text fault
fault_text (Loaded location) =
    codes "fault 47 inputs loaded " ++ digits_of 4 location.number ++ codes "\n"
fault_text NoPart = codes "fault 51 nopart\n"
fault_text (Part part fault) = part_text (part_name part) fault
fault_text Memory = codes "fault 53 memory\n"
