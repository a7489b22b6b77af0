-- Of Machine::take: entry, card, wait, units, end and effect are, one after the other, those of the
-- state as the definitions have it. Put together they are the definition's step, and leave the
-- cards and waits that it leaves.
use Rattle.std.proofs.Common.{◌≡◌, ◌+◌, ◌≤◌, ◌*◌, ℕ, Option, true, false, ◌&&◌, is_some, ◌∙◌, ap, sym, subst, arith}
use Rattle.std.proofs.Common.{refl}
use Rattle.base_words.specs.declared.instruction.Instruction.{Instruction}
use Rattle.base_words.specs.Instruction.{instruction_of}
use Rattle.base_words.specs.Op.{operand_of, is_operand}
use Rattle.base_words.specs.declared.op.Op.{Op}
use Rattle.base_notes.specs.declared.entry.Entry.{Entry}
use Rattle.base_notes.specs.Entries.{entry_in}
use Rattle.machine_steps.specs.Keeps.{is_load as load_next, reads_load, reads_with}
use Rattle.machine_steps.specs.Effect.{effect}
use Rattle.machine_steps.specs.Timing.{ready, ended, units_of, IsWait}
use Rattle.machine_steps.specs.Step.{step, stepped_by, fetched, clock_of, MayWait, instruction_in, is_read, has_cards}
use Rattle.machine_steps.specs.Step.{lacks_card}
use Rattle.machine_emulator.specs.Fed.{wait_for, cards_after, waits_after, is_load, op_in, wait_with, cards_with, waits_with}
use Rattle.machine_emulator.specs.Feed.{cards_left, waits_left}
use Rattle.machine_emulator.specs.Machine.{state_in, punched_with}
use Rattle.machine_emulator.specs.Registers.{contents_with, cards_before, outcome_of}
use Rattle.machine_emulator.proofs.Stepping.{short_work, step_past_x, not_lacking, load_read, same_end, same_effect}
use Rattle.machine_emulator.proofs.Stepping.{same_told, same_left, taken_past_x}
use Rattle.machine_emulator.proofs.machine.Machine.take.Goals as goal

pub ended-end-requires-clause-work : goal.ended-end-requires-clause-work
ended-end-requires-clause-work c =
    let before = contents_with c.args.self.now.registers (cards_left c.args.feed.now) in
    let units = c.units-units.ensures.value (cards_left c.args.feed.now) in
    subst (λ (n : ℕ). c.entry-entry.result.per * n + c.take_wait-wait.result ≤ 90000000) (sym units)
    (short_work c.args.op c.entry-entry.result c.of-instruction.result.d c.take_wait-wait.result before
    (omega (arith, units, c.units-units.ensures.ninety)) c.take_wait-wait.ensures.may)

pub returns-clause-takes : goal.returns-clause-takes
returns-clause-takes c =
    let before = c.args.self.now in
    let fed = c.args.feed.now in
    let left = c.take_wait-wait.new.self in
    let times = entry_in c.args.times.now in
    let op = c.args.op in
    let entry = c.entry-entry.result in
    let card = c.take_card-card.result in
    let ins = c.of-instruction.result in
    let s = state_in before (cards_left fed) in
    let wait = wait_for op (times op) (waits_left fed) in
    let outcome = outcome_of c.act-acted.result (contents_with c.act-acted.new.self (cards_left left)) in
    let same_ins : ins ≡ instruction_in s =
    c.of-instruction.ensures.is ∙ ap instruction_of c.requires.fetched in
    let same_d : ins.d ≡ (instruction_in s).d = ap (λ (v : Instruction). v.d) same_ins in
    let same_i : ins.i ≡ (instruction_in s).i = ap (λ (v : Instruction). v.i) same_ins in
    let same_entry : entry ≡ times op = c.entry-entry.ensures in
    let cards : cards_before card (cards_left left) ≡ cards_left fed =
    ap (cards_before card) c.take_wait-wait.ensures.cards ∙ c.take_card-card.ensures.before in
    let same_wait : c.take_wait-wait.result ≡ wait =
    c.take_wait-wait.ensures.wait ∙ ap (wait_for op entry) c.take_card-card.ensures.waits
    ∙ ap (λ (v : Entry). wait_for op v (waits_left fed)) same_entry in
    let wanted_of : is_operand (operand_of op) ins.d ≡ true = grind arith in
    let wanted : is_operand (operand_of op) (instruction_in s).d ≡ true =
    subst (λ (v : ℕ). is_operand (operand_of op) v ≡ true) same_d wanted_of in
    let supplied : is_some card ≡ is_read op = grind arith in
    let has : lacks_card op s.contents ≡ false =
    not_lacking (is_read op) (is_some card) (has_cards (cards_left fed)) c.take_card-card.ensures.taken supplied in
    let same_x : c.ready-x.result ≡ ready (times op) s.sought (clock_of s) =
    c.ready-x.ensures.value ∙ ap (λ (v : Entry). ready v s.sought (clock_of s)) same_entry in
    let same_units : c.units-units.result ≡ units_of op (instruction_in s).d s.contents =
    c.units-units.ensures.value (cards_left fed) ∙ ap (λ (v : ℕ). units_of op v s.contents) same_d in
    let ends : c.ended-end.result
    ≡ ended (times op) op (instruction_in s).d s.sought (units_of op (instruction_in s).d s.contents) wait
    (clock_of s) =
    same_end op entry (times op) ins.d (instruction_in s).d c.ready-x.result (ready (times op) s.sought (clock_of s))
    c.units-units.result (units_of op (instruction_in s).d s.contents) c.take_wait-wait.result wait
    c.ended-end.result
    c.ended-end.ensures.value same_entry same_d same_x same_units same_wait in
    let has_effect : effect s.contents op (instruction_in s).d (instruction_in s).i ≡ outcome =
    same_effect op (contents_with before.registers (cards_before card (cards_left left))) s.contents ins.d
    (instruction_in s).d ins.i (instruction_in s).i
    (ap (contents_with before.registers) cards) same_d same_i
    ∙ c.act-acted.ensures (cards_left left) in
    let stepped : step times s (wait_with times (op_in s) (waits_left fed)) ≡ stepped_by s c.ended-end.result outcome =
    ap (λ (v : Option Op). step times s (wait_with times v (waits_left fed))) c.requires.op
    ∙ step_past_x times s op wait c.ended-end.result outcome c.requires.op wanted has ends has_effect in
    let load : c.is_load-load.result ≡ reads_load s =
    c.is_load-load.ensures ∙ ap is_load c.take_card-card.ensures.card
    ∙ load_read (is_read op) (is_operand (operand_of op) (instruction_in s).d) (cards_left fed) wanted
    ∙ ap (λ (v : Option Op). reads_with s v && load_next (cards_left fed)) (sym c.requires.op) in
    let punches : c.punched-punched.result ≡ punched_with (op_in s) s =
    c.punched-punched.ensures s (cards_left fed) refl (sym same_d)
    ∙ ap (λ (v : Option Op). punched_with v s) (sym c.requires.op) in
    record {
      may_wait = subst (λ (v : Option Op). MayWait times v (wait_with times v (waits_left fed))) (sym c.requires.op)
          (subst (λ (v : Entry). IsWait op v wait) same_entry
          (subst (λ (v : ℕ). IsWait op entry v) same_wait c.take_wait-wait.ensures.may));
      tells =
          same_told (stepped_by s c.ended-end.result outcome) (step times s (wait_with times (op_in s) (waits_left fed)))
          before.sought c.args.word (fetched s)
          c.is_load-load.result (reads_load s) c.punched-punched.result (punched_with (op_in s) s) c.finish.result
          stepped c.requires.fetched load punches
          (c.finish.ensures.tells s (cards_left left) refl);
      becomes =
          same_left (stepped_by s c.ended-end.result outcome) (step times s (wait_with times (op_in s) (waits_left fed)))
          before.sought c.args.word (fetched s)
          c.finish.new.self (cards_left left) stepped c.requires.fetched
          (c.finish.ensures.becomes s (cards_left left) refl);
      cards = c.take_wait-wait.ensures.cards ∙ c.take_card-card.ensures.cards
          ∙ taken_past_x (is_operand (operand_of op) (instruction_in s).d) (lacks_card op s.contents)
          (cards_after op (cards_left fed)) (cards_left fed) wanted has
          ∙ ap (λ (v : Option Op). cards_with v s (cards_left fed)) (sym c.requires.op);
      waits = c.take_wait-wait.ensures.waits ∙ ap (waits_after op) c.take_card-card.ensures.waits
          ∙ taken_past_x (is_operand (operand_of op) (instruction_in s).d) (lacks_card op s.contents)
          (waits_after op (waits_left fed)) (waits_left fed) wanted has
          ∙ ap (λ (v : Option Op). waits_with v s (waits_left fed)) (sym c.requires.op);
    }
