-- What a line of the program tells of the files and of the bytes that it was given.
use Rattle.std.specs.Prelude.{◌≡◌, ℕ, true, List, Option, not}
use Rattle.std.specs.List.{list_all}
use Rattle.clap.specs.Words.{Text}
use Rattle.program_command.specs.Line.{begins_with_hyphen}
use Rattle.read_documents.specs.declared.documents.Documents.{Documents}
use Rattle.program_limits.specs.Limits.{IsBound}
use Rattle.read_documents.specs.Files.{HoldsDeck, HoldsTimes, HoldsNotes}
use Rattle.read_documents.specs.Joined.{Joins}

-- none of the words is taken for an option
abbrev pub AreNames : List Text → Type 0
AreNames words = list_all (λ word. not (begins_with_hyphen word)) words ≡ true

-- The bound of the deck, the timing table and the notes in files that hold these bytes: some walk
-- takes this time and none takes more, and no run that keeps to the notes ever uses more.
pub record IsBoundOfFiles (deck times notes : Option (List ℕ)) (bound : ℕ) : Type 0 where
  pub documents : Documents
  pub of_deck : HoldsDeck deck documents.deck
  pub of_times : HoldsTimes times documents.times
  pub of_notes : HoldsNotes notes documents.notes
  pub is_bound : IsBound documents bound

-- the bound of a joined form
pub record IsBoundOfJoined (text : List ℕ) (bound : ℕ) : Type 0 where
  pub documents : Documents
  pub joins : Joins text documents
  pub is_bound : IsBound documents bound
