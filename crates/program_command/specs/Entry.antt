-- What an entry of the program's list says of a command.
use Rattle.std.specs.Prelude.{map}
use Rattle.program_command.specs.Line.{File, Verb}
use Rattle.program_command.specs.declared.entries.Entry.{Entry}
use Rattle.program_command.specs.declared.entries.FileWord.{FileWord}

-- a file of a command
abbrev pub file_of : FileWord → File
file_of file = record { name = file.name.now; needed = file.needed }

abbrev pub verb_of : Entry → Verb
verb_of entry = record {
  name = entry.name.now;
  files = map file_of entry.files.now;
}
