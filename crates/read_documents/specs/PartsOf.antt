-- The parts of a joined form, as the code has them.
use Rattle.read_documents.specs.declared.joined.Parts.{Parts}
use Rattle.read_documents.specs.Documents.{Texts}

abbrev pub texts_of : Parts → Texts
texts_of parts = record {
  deck = parts.deck.now;
  times = parts.times.now;
  notes = parts.notes.now;
}
