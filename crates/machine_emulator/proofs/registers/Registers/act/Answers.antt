use Rattle.machine_emulator.proofs.registers.Registers.act.Goals as goal

pub returns-in-Some : goal.returns-in-Some
returns-in-Some c cards = rw (c.in-Read.is, c.in-Some.is) (c.read_card.ensures cards)
