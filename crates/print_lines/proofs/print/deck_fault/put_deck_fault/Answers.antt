use Rattle.print_lines.proofs.print.deck_fault.put_deck_fault.Goals as goal

pub returns-in-Read : goal.returns-in-Read
returns-in-Read g c = rw c.in-Read.is c.put.ensures

pub returns-in-Memory : goal.returns-in-Memory
returns-in-Memory g c = rw c.in-Memory.is c.put-in-Memory.ensures

pub returns-in-Card : goal.returns-in-Card
returns-in-Card g c = rw c.in-Card.is c.put_numbered.ensures

pub returns-in-Twice : goal.returns-in-Twice
returns-in-Twice g c = rw c.in-Twice.is c.put_located.ensures

pub returns-in-NoStart : goal.returns-in-NoStart
returns-in-NoStart g c = rw c.in-NoStart.is c.put-in-NoStart.ensures

pub returns-in-TwoStarts : goal.returns-in-TwoStarts
returns-in-TwoStarts g c = rw c.in-TwoStarts.is c.put_numbered-in-TwoStarts.ensures

pub returns-in-PastDrum : goal.returns-in-PastDrum
returns-in-PastDrum g c = rw c.in-PastDrum.is c.put_numbered-in-PastDrum.ensures

pub returns-in-TooLong : goal.returns-in-TooLong
returns-in-TooLong g c = rw c.in-TooLong.is c.put-in-TooLong.ensures
