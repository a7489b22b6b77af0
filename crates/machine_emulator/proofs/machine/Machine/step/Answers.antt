use Rattle.base_notes.specs.Entries.{entry_in}
use Rattle.machine_emulator.proofs.StepLaws.{takes_ends, takes_writes}
use Rattle.machine_emulator.proofs.machine.Machine.step.Goals as goal

pub returns-in-Some-of-clause-writes : goal.returns-in-Some-of-clause-writes
returns-in-Some-of-clause-writes c = λ before.
    takes_writes (entry_in c.args.times.now) c.args.self.now c.args.feed.now c.take.result c.take.new.self
    c.take.new.feed c.take.ensures.takes

pub returns-in-Some-of-clause-ends : goal.returns-in-Some-of-clause-ends
returns-in-Some-of-clause-ends c = λ before.
    takes_ends (entry_in c.args.times.now) c.args.self.now c.args.feed.now c.take.result c.take.new.self c.take.new.feed
    c.take.ensures.takes
