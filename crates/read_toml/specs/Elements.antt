-- What the code asks of the tables of an array that has no fault: each says a value.
use Rattle.std.specs.Prelude.{ℕ, ◌+◌, ◌≤◌, List, [], ◌∷◌, length, IfSome, IsTrue}
use Rattle.std.specs.List.{AllByRecursion}
use Rattle.base_words.specs.Location.{IsLocation}
use Rattle.base_notes.specs.declared.notes.call.Call.{Call}
use Rattle.base_notes.specs.declared.notes.mark.Mark.{Mark}
use Rattle.base_notes.specs.declared.notes.pattern.Pattern.{Pattern}
use Rattle.base_notes.specs.Allowed.{Listed}
use Rattle.base_notes.specs.Names.{is_name}
use Rattle.read_toml.specs.Calls.{IsCall}
use Rattle.read_toml.specs.LongMarks.{IsMark, edges_said, name_in}
use Rattle.read_toml.specs.NotesDocument.{IsListed, IsPattern}
use Rattle.toml.specs.Data.{Members}
use Rattle.std.specs.Prelude.{Some}

-- each of the tables, the first of which has this index, has a property
abbrev pub Each : (ℕ → Members → Type 0) → ℕ → List Members → Type 0
Each Has index [] = Unit {0}
Each Has index (fields ∷ tables) = Has index fields × Each Has (index + 1) tables

-- the table says a pattern, or a call
abbrev pub HoldsPattern : Members → Type 0
HoldsPattern fields = (pattern : Pattern) × IsPattern fields pattern

abbrev pub HoldsCall : Members → Type 0
HoldsCall fields = (call : Call) × IsCall fields call

-- The table says a list: for a location, and of 1 to 64 patterns.
pub record HoldsList (fields : Members) : Type 0 where
  pub list : Listed
  pub says : IsListed fields list
  pub place : IsLocation list.location
  pub some : 1 ≤ length list.patterns
  pub few : length list.patterns ≤ 64

-- both ends of an edge are locations
abbrev pub IsOnLocations : ℕ × ℕ → Type 0
IsOnLocations edge = IsLocation edge.0 × IsLocation edge.1

-- The table of a document says a mark: on edges between locations, and with a name that is one.
pub record HoldsMark (document : Members) (index : ℕ) (fields : Members) : Type 0 where
  pub mark : Mark
  pub says : IsMark document index fields mark
  pub ends : AllByRecursion IsOnLocations (edges_said fields)
  pub name : IfSome (name_in (Some fields)) (λ text. IsTrue (is_name text))
