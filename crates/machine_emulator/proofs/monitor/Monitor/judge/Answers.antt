use Rattle.std.proofs.Common.{ap, sym, subst, ◌∙◌}
use Rattle.base_words.specs.declared.location.Location.{Location}
use Rattle.read_decks.specs.InDeck.{loads_in}
use Rattle.machine_steps.specs.Keeps.{reads_load}
use Rattle.machine_steps.specs.Step.{fetched}
use Rattle.machine_emulator.specs.declared.step.Step.{Step}
use Rattle.machine_emulator.specs.Machine.{Tells}
use Rattle.machine_emulator.specs.Monitor.{counts_in, open_in}
use Rattle.machine_emulator.proofs.Judging.{told_going, told_stop, unlisted_leaves, stop_reads_none, stop_judged}
use Rattle.machine_emulator.proofs.monitor.Monitor.judge.Goals as goal

pub returns-in-Some : goal.returns-in-Some
returns-in-Some c times stride told =
    let w = c.in-Went in
    let tells =
    subst (λ (s : Step). Tells stride.outcome told.origin (fetched stride.origin) (reads_load stride.origin) told.punched
    s) w.is told.tells in
    let began =
    told_going stride.outcome told.origin (fetched stride.origin) (reads_load stride.origin) told.punched w.origin w.word
    w.next w.used w.load w.punched tells in
    unlisted_leaves (loads_in c.args.deck.now) c.args.notes.now (counts_in c.args.self.now c.args.notes.now)
    (open_in c.args.self.now c.args.notes.now) stride w.origin w.word c.in-Some.left
    (ap (λ (l : Location). l.number) began.0 ∙ told.sought) began.1 c.in-Some.ensures.0 c.in-Some.ensures.1

pub returns-in-Stopped : goal.returns-in-Stopped
returns-in-Stopped c times stride told =
    let s = c.in-Stopped in
    let tells =
    subst (λ (v : Step). Tells stride.outcome told.origin (fetched stride.origin) (reads_load stride.origin) told.punched
    v) s.is told.tells in
    let began =
    told_stop stride.outcome told.origin (fetched stride.origin) (reads_load stride.origin) told.punched s.origin s.word
    s.why s.used tells in
    stop_judged (loads_in c.args.deck.now) c.args.notes.now (counts_in c.args.self.now c.args.notes.now)
    (open_in c.args.self.now c.args.notes.now) stride s.origin
    s.word began.2.0 s.why s.used c.unlisted.result
    (ap (λ (l : Location). l.number) began.0 ∙ told.sought) began.1 began.2.1
    (stop_reads_none times stride.origin stride.wait began.2.0 s.why s.used (sym told.stepped ∙ began.2.1))
    c.unlisted.ensures
