use Rattle.machine_emulator.proofs.monitor.Monitor.new.Goals as goal

pub returns-clause-seen : goal.returns-clause-seen
returns-clause-seen c loads = record {
  counts = c.none.ensures c.args.notes.now.marks c.marks.ensures.sound.few_marks;
  kept = tt;
  open_now = c.none-2.ensures c.args.notes.now.calls c.calls.ensures.sound.few_calls;
  back = tt;
}
