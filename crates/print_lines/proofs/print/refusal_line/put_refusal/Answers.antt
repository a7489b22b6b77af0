use Rattle.print_lines.proofs.print.refusal_line.put_refusal.Goals as goal

pub returns-in-Memory : goal.returns-in-Memory
returns-in-Memory g c = rw c.in-Memory.is c.put.ensures

pub returns-in-NotInProfile : goal.returns-in-NotInProfile
returns-in-NotInProfile g c = rw c.in-NotInProfile.is c.put_not_in_profile.ensures

pub returns-in-NotLoaded : goal.returns-in-NotLoaded
returns-in-NotLoaded g c = rw c.in-NotLoaded.is c.put_located.ensures

pub returns-in-Alters : goal.returns-in-Alters
returns-in-Alters g c = rw c.in-Alters.is c.put_alters.ensures

pub returns-in-Unbounded : goal.returns-in-Unbounded
returns-in-Unbounded g c = rw c.in-Unbounded.is c.put_cycle.ensures

pub returns-in-TooLarge : goal.returns-in-TooLarge
returns-in-TooLarge g c = rw c.in-TooLarge.is c.put_numbered.ensures

pub returns-in-TooMany : goal.returns-in-TooMany
returns-in-TooMany g c = rw c.in-TooMany.is c.put-in-TooMany.ensures

pub returns-in-HasCalls : goal.returns-in-HasCalls
returns-in-HasCalls g c = rw c.in-HasCalls.is c.put-in-HasCalls.ensures
