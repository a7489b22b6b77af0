-- Of sound_documents: texts without faults are a deck, a timing table and long notes, which are
-- refused for lack of memory alone.
use Rattle.std.proofs.Common.{ℕ, List, subst}
use Rattle.std.specs.Prelude.{option_map}
use Rattle.read_decks.specs.declared.deck.fault.DeckFault.{DeckFault}
use Rattle.read_faults.specs.NamedTexts.{named}
use Rattle.read_documents.specs.Documents.{SayNone, texts_of}
use Rattle.read_documents.specs.TextsOf.{texts_in}
use Rattle.read_toml.specs.declared.notes.read.NotesRead.TheVariants.{Long}
use Rattle.program_run.specs.SaysCheck.{in_file_of}
use Rattle.program_run.proofs.Soundly.{only_memory}
use Rattle.program_run.proofs.checking.sound_documents.Goals as goal

pub memory_of-requires : goal.memory_of-requires
memory_of-requires c =
    let texts = c.args.texts.now in
    let files = c.args.files in
    let fault = c.in-Err.fault in
    let none : SayNone Long (texts_of texts.deck.items texts.times.items texts.notes.items) fault =
    subst (λ (deck : List ℕ). SayNone Long (texts_of deck texts.times.items texts.notes.items) fault)
    c.deref.ensures.value
    (subst (λ (times : List ℕ). SayNone Long (texts_of c.deref.result.now times texts.notes.items) fault)
    c.deref-2.ensures.value
    (subst (λ (notes : List ℕ). SayNone Long (texts_of c.deref.result.now c.deref-2.result.now notes) fault)
    c.deref-3.ensures.value c.in-Err.ensures.fault)) in
    let sound = c.sound_where_none.ensures (in_file_of files.deck.now texts.deck.items)
    (in_file_of files.times.now texts.times.items) (in_file_of files.notes.now texts.notes.items)
    (option_map named c.args.inputs) c.requires in
    only_memory (texts_in texts) fault sound.1.0 sound.2.0
    (λ (one : DeckFault). c.not_refused.ensures texts.deck.items sound.0.0 one sound.0.1)
    sound.1.2 (c.says_times.ensures.right sound.1.0 sound.1.1 sound.1.3)
    sound.2.2 (c.says_long_notes.ensures.right sound.2.0 sound.2.1 sound.2.3) none
