-- What a list of the notes says, and what notes say.
use Rattle.std.specs.Prelude.{List, Bool, map}
use Rattle.base_notes.specs.declared.notes.call.Call.{Call}
use Rattle.base_notes.specs.declared.notes.listing.Listing.{Listing}
use Rattle.base_notes.specs.declared.notes.mark.Mark.{Mark}
use Rattle.base_notes.specs.declared.notes.programmed.Programmed.{Programmed}
use Rattle.base_notes.specs.Allowed.{Listed, Notes}

abbrev pub listed : Listing → Listed
listed list = record { location = list.location.number; patterns = list.patterns.items }

-- the notes of a switch, of whether load cards are read, of marks, of lists and of calls
abbrev pub notes_of : Programmed → Bool → List Mark → List Listing → List Call → Notes
notes_of switch cards marks lists calls = record {
  programmed = switch;
  load_cards = cards;
  marks = marks;
  lists = map listed lists;
  calls = calls;
}
