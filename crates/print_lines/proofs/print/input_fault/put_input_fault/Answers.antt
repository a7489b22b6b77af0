use Rattle.print_lines.proofs.print.input_fault.put_input_fault.Goals as goal

pub returns-in-Read : goal.returns-in-Read
returns-in-Read g c = rw c.in-Read.is c.put.ensures

pub returns-in-Memory : goal.returns-in-Memory
returns-in-Memory g c = rw c.in-Memory.is c.put-in-Memory.ensures

pub returns-in-Line : goal.returns-in-Line
returns-in-Line g c = rw c.in-Line.is c.put_numbered.ensures

pub returns-in-Repeated : goal.returns-in-Repeated
returns-in-Repeated g c = rw c.in-Repeated.is c.put_numbered-in-Repeated.ensures

pub returns-in-PastDrum : goal.returns-in-PastDrum
returns-in-PastDrum g c = rw c.in-PastDrum.is c.put_numbered-in-PastDrum.ensures

pub returns-in-TooLong : goal.returns-in-TooLong
returns-in-TooLong g c = rw c.in-TooLong.is c.put-in-TooLong.ensures
