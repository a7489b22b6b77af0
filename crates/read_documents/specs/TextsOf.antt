-- The texts of a deck, a timing table and notes, and of inputs, as the code holds them.
use Rattle.std.specs.Prelude.{ℕ, List, Option, Some, None}
use Rattle.read_faults.specs.FaultLines.{Named}
use Rattle.read_documents.specs.declared.texts.Texts as held
use Rattle.read_documents.specs.Documents.{Texts}

-- the texts that are held
abbrev pub texts_in : held.Texts → Texts
texts_in texts = record {
  deck = texts.deck.items;
  times = texts.times.items;
  notes = texts.notes.items;
}

-- a text of inputs with its file's name, if there is one
abbrev pub inputs_in : Option (List ℕ) → Option (List ℕ) → Option Named
inputs_in (Some name) (Some bytes) = Some (record { name = name; bytes = bytes })
inputs_in _ _ = None
