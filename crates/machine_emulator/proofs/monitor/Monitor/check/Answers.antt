use Rattle.read_decks.specs.InDeck.{loads_in}
use Rattle.machine_emulator.proofs.Watching.{seen_more}
use Rattle.machine_emulator.proofs.monitor.Monitor.check.Goals as goal

pub returns-clause-judged : goal.returns-clause-judged
returns-clause-judged c fresh times strides stride seen told =
    seen_more (loads_in c.args.deck.now) c.args.notes.now c.args.self.now
    (record {
      counts = c.judge-judged.new.self.counts;
      exits = c.judge-judged.new.self.exits;
      left = c.judge-judged.result;
    }) strides stride
    c.judge-judged.result seen (c.judge-judged.ensures times stride told)
