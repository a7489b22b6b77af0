use Rattle.read_documents.proofs.documents.Documents.of_texts.Goals as goal

pub returns-in-Err-clause-fault : goal.returns-in-Err-clause-fault
returns-in-Err-clause-fault c = ((c.in_ok-deck.deck, c.in_ok-deck.ensures.deck), c.in-Err.ensures.refused)

pub returns-in-Err-read_notes_of-clause-fault : goal.returns-in-Err-read_notes_of-clause-fault
returns-in-Err-read_notes_of-clause-fault c = (
  (c.in_ok-deck.deck, c.in_ok-deck.ensures.deck),
  (c.in-Ok.times, c.in-Ok.ensures.read),
  c.in-Err-read_notes_of.ensures.refused,
)
