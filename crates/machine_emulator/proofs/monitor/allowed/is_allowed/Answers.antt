use Rattle.read_decks.specs.InDeck.{loads_in}
use Rattle.base_notes.specs.Allowed.{loaded, patterns_of}
use Rattle.machine_emulator.proofs.Allowing.{listed_test}
use Rattle.machine_emulator.proofs.monitor.allowed.is_allowed.Goals as goal

pub returns : goal.returns
returns c =
    let number = c.args.location.number in
    listed_test c.has_match.result (loaded (loads_in c.args.deck.now number)) c.in-Some.patterns.now
    (patterns_of c.args.notes.now number) c.args.instruction
    c.in-Some.ensures c.if-is_loaded.ensures c.has_match.ensures
