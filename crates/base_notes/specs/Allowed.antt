-- Which instructions the notes allow at a location.
use Rattle.std.specs.Prelude.{◌≡◌, ℕ, suc, ◌-◌, ◌≤◌, ◌==◌, if◌then◌else◌, Bool, List, [], ◌∷◌, ◌++◌}
use Rattle.std.specs.Prelude.{map, flat_map, Option, Some, None, is_some, ◌+◌, ◌<◌, false}
use Rattle.std.specs.Prelude.{◌&&◌, IsTrue, length}
use Rattle.std.specs.List.{range_with_len, list_any, AllByRecursion}
use Rattle.base_words.specs.declared.instruction.Instruction.{Instruction}
use Rattle.base_words.specs.declared.word.Word.{Word}
use Rattle.base_words.specs.Instruction.{instruction, instruction_of}
use Rattle.base_words.specs.Location.{is_location}
use Rattle.base_notes.specs.declared.notes.call.Call.{Call}
use Rattle.base_notes.specs.declared.notes.mark.Mark.{Mark}
use Rattle.base_notes.specs.declared.notes.pattern.Pattern.{Pattern}
use Rattle.base_notes.specs.declared.notes.programmed.Programmed.{Programmed}
use Rattle.base_notes.specs.EdgeOf.{edge_of}
use Rattle.base_notes.specs.Edges.{StandOnce, leads}
use Rattle.base_notes.specs.Marks.{edges_of}

-- a list of the notes: what may stand at a location whose word the program alters
pub record Listed : Type 0 where
  pub location : ℕ
  pub patterns : List Pattern

-- what notes say
pub record Notes : Type 0 where
  pub programmed : Programmed
  pub load_cards : Bool
  pub marks : List Mark
  pub lists : List Listed
  pub calls : List Call

-- no two lists are for one location
abbrev pub HaveOwnLocations : List Listed → Type 0
HaveOwnLocations [] = Unit {0}
HaveOwnLocations (list ∷ lists) =
    (list_any (λ other. list.location == other.location) lists ≡ false) × HaveOwnLocations lists

-- an outer mark, if there is one, stands before this index
abbrev pub IsEarlier : ℕ → Option ℕ → Type 0
IsEarlier index None = Unit {0}
IsEarlier index (Some outer) = outer < index

-- each mark, the first of which has this index, stands inside of an earlier one or of none
abbrev pub StandInEarlier : ℕ → List Mark → Type 0
StandInEarlier index [] = Unit {0}
StandInEarlier index (mark ∷ marks) = IsEarlier index mark.inside × StandInEarlier (index + 1) marks

-- the two calls are made by one edge, and have one exit
abbrev pub is_same_call : Call → Call → Bool
is_same_call call other = call.exit.number == other.exit.number
    && leads call.edge.from.number call.edge.onto.number (edge_of other.edge)

-- no call is there twice, whatever its way back is
abbrev pub HaveOwnExits : List Call → Type 0
HaveOwnExits [] = Unit {0}
HaveOwnExits (call ∷ calls) =
    (list_any (is_same_call call) calls ≡ false) × HaveOwnExits calls

-- What holds of all notes. There are at most 64 marks; no edge is there twice among theirs, and
-- each mark stands inside of an earlier one or of none. Each list is for a location, no two are for
-- the same one, and each has 1 to 64 patterns. There are at most 64 calls, no two of which are made
-- by one edge and have one exit.
pub record AreSound (notes : Notes) : Type 0 where
  pub few_marks : length notes.marks ≤ 64
  pub own_edges : StandOnce (flat_map edges_of notes.marks)
  pub nested : StandInEarlier 0 notes.marks
  pub own_locations : HaveOwnLocations notes.lists
  pub locations : AllByRecursion (λ list. IsTrue (is_location list.location)) notes.lists
  pub patterns : AllByRecursion
      (λ list. (1 ≤ length list.patterns) × (length list.patterns ≤ 64)) notes.lists
  pub few_calls : length notes.calls ≤ 64
  pub own_exits : HaveOwnExits notes.calls

-- the instruction has the pattern's operation and I, and its D is within the pattern's range
pub record Matches (pattern : Pattern) (ins : Instruction) : Type 0 where
  pub same_op : ins.op ≡ pattern.op
  pub from : pattern.d_from ≤ ins.d
  pub to : ins.d ≤ pattern.d_to
  pub same_i : ins.i ≡ pattern.i

-- the instructions that match a pattern, D ascending
abbrev pub matching : Pattern → List Instruction
matching pattern =
    map (λ d. instruction pattern.op d pattern.i)
    (range_with_len pattern.d_from (suc pattern.d_to - pattern.d_from))

-- the patterns of a location, where it is listed
abbrev pub patterns_in : List Listed → ℕ → Option (List Pattern)
patterns_in [] location = None
patterns_in (list ∷ lists) location =
    if list.location == location then Some list.patterns else patterns_in lists location

abbrev pub patterns_of : Notes → ℕ → Option (List Pattern)
patterns_of notes location = patterns_in notes.lists location

abbrev pub is_listed : Notes → ℕ → Bool
is_listed notes location = is_some (patterns_of notes location)

-- the instruction that a deck loads into a location, as a list of one or none
abbrev pub loaded : Option Word → List Instruction
loaded None = []
loaded (Some word) = instruction_of word ∷ []

-- the instructions of the patterns, in order
abbrev pub listed : Option (List Pattern) → List Instruction
listed None = []
listed (Some patterns) = flat_map matching patterns

-- What is allowed at a location: the deck's instruction, if the deck loads it, and then, pattern by
-- pattern, every instruction that matches. `loads` says which word the deck loads into a location.
abbrev pub allowed : (ℕ → Option Word) → Notes → ℕ → List Instruction
allowed loads notes location = loaded (loads location) ++ listed (patterns_of notes location)
