-- What a source of files in memory tells.
use Rattle.std.specs.Prelude.{ℕ, List, [], ◌∷◌, Option, Some, None, string_bytes}
use Rattle.std.specs.Prelude.{if◌then◌else◌}
use Rattle.std.specs.Str.{bytes_eq}
use Rattle.read_documents.specs.Asked.{Asked, reading, returned, sought}
use Rattle.caller.specs.declared.memory_files.Event.{Event}
use Rattle.caller.specs.declared.memory_files.Event.TheVariants.{Sought, Returned}
use Rattle.caller.specs.declared.memory_files.File.{File}

-- the bytes of the first file of this name
abbrev pub text_of : List File → List ℕ → Option (List ℕ)
text_of [] name = None
text_of (file ∷ files) name =
    if bytes_eq file.name.now name then Some file.bytes.now else text_of files name

-- what it was asked
abbrev pub asked_of : Event → Asked
asked_of (Sought name) = sought (string_bytes name)
asked_of (Returned calls failures ends bytes idle) =
    returned (reading calls failures ends bytes idle)
