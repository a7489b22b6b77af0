use Rattle.print_lines.proofs.print.fault_line.put_fault.Goals as goal

pub returns-in-NoPart : goal.returns-in-NoPart
returns-in-NoPart g c = rw c.in-NoPart.is c.put.ensures

pub returns-in-Part : goal.returns-in-Part
returns-in-Part g c = rw c.in-Part.is c.put_part_fault.ensures

pub returns-in-Memory : goal.returns-in-Memory
returns-in-Memory g c = rw c.in-Memory.is c.put-in-Memory.ensures

pub returns-in-Deck : goal.returns-in-Deck
returns-in-Deck g c = rw c.in-Deck.is c.put_deck_fault.ensures

pub returns-in-Times : goal.returns-in-Times
returns-in-Times g c = rw c.in-Times.is c.put_note_fault.ensures

pub returns-in-Notes : goal.returns-in-Notes
returns-in-Notes g c = rw c.in-Notes.is c.put_note_fault-in-Notes.ensures

pub returns-in-Inputs : goal.returns-in-Inputs
returns-in-Inputs g c = rw c.in-Inputs.is c.put_input_fault.ensures

pub returns-in-Refused : goal.returns-in-Refused
returns-in-Refused g c = rw c.in-Refused.is c.put_refusal.ensures

pub returns-in-Loaded : goal.returns-in-Loaded
returns-in-Loaded g c = rw c.in-Loaded.is c.put_located.ensures
