use Rattle.print_lines.proofs.print.verdict_line.put_left.Goals as goal

pub returns-in-Unlisted : goal.returns-in-Unlisted
returns-in-Unlisted g c = rw c.in-Unlisted.is c.put_unlisted.ensures

pub returns-in-TooOften : goal.returns-in-TooOften
returns-in-TooOften g c = rw c.in-TooOften.is c.put_edge.ensures

pub returns-in-NotBack : goal.returns-in-NotBack
returns-in-NotBack g c = rw c.in-NotBack.is c.put_edge-in-NotBack.ensures

pub returns-in-Switch : goal.returns-in-Switch
returns-in-Switch g c = rw c.in-Switch.is c.put_at_step.ensures

pub returns-in-LoadCard : goal.returns-in-LoadCard
returns-in-LoadCard g c = rw c.in-LoadCard.is c.put_at_step-in-LoadCard.ensures
