use Rattle.std.proofs.Common.{◌≡◌, ◌++◌, map, take}
use Rattle.base_words.specs.declared.location.Location.{Location}
use Rattle.read_decks.specs.InDeck.{loads_in}
use Rattle.check_findings.specs.Finding.{alters}
use Rattle.check_findings.specs.UnchangedParts.{kept_of}
use Rattle.check_deck.specs.FindingsOf.{found_in}
use Rattle.check_deck.proofs.findings.Findings.add_words.Given as goal

-- the words so far were added
abbrev pub invariant-loop-word : goal.invariant-loop-word
invariant-loop-word l = found_in l.self ≡ found_in l.fn.self
    ++ map (λ (word : Location). alters l.fn.writer.number word.number
    (kept_of (loads_in l.flow.deck.now) l.flow.notes.now l.fn.writer.number word.number)) (take l.word-index l.words)
