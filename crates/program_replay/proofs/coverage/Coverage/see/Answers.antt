-- Of see: the word that was fetched sets flags of its location's list, and a step that goes on is
-- counted, so that one stride more is seen.
use Rattle.std.proofs.Common.{◌≡◌, ◌∙◌, ℕ, List, ◌<◌, ◌≤◌, length, ap, sym, subst, arith, max}
use Rattle.std.proofs.Common.{Global, Vec}
use Rattle.std.specs.Prelude.{slice_index}
use Rattle.base_words.specs.declared.location.Location.{Location}
use Rattle.base_notes.specs.declared.notes.mark.Mark.{Mark}
use Rattle.machine_steps.specs.declared.counts.Counts.{Counts}
use Rattle.machine_steps.specs.Counts.{after_pass}
use Rattle.machine_steps.specs.CountsIn.{counts_in}
use Rattle.machine_steps.specs.Keeps.{reads_load}
use Rattle.machine_steps.specs.Step.{fetched}
use Rattle.machine_emulator.specs.declared.step.Step.{Step}
use Rattle.machine_emulator.specs.Machine.{Tells}
use Rattle.machine_emulator.proofs.Judging.{told_going, told_stop}
use Rattle.program_replay.specs.declared.met.Met.{Met}
use Rattle.program_replay.specs.CoverageOf.{passed_at}
use Rattle.program_replay.proofs.Seen.{below, seen_more, stop_counts, went_counts, met_there}
use Rattle.program_replay.proofs.coverage.Coverage.see.Goals as goal

pub returns-in-Stopped : goal.returns-in-Stopped
returns-in-Stopped c times strides stride seen told =
    let notes = c.args.notes.now in
    let s = c.in-Stopped in
    let old = c.args.self.now in
    let new = c.meet.new.self in
    let tells =
    subst (λ (v : Step). Tells stride.outcome told.origin (fetched stride.origin) (reads_load stride.origin) told.punched
    v) s.is told.tells in
    let began =
    told_stop stride.outcome told.origin (fetched stride.origin) (reads_load stride.origin) told.punched s.origin s.word
    s.why s.used tells in
    let sought : s.origin.number ≡ stride.origin.sought = ap (λ (l : Location). l.number) began.0 ∙ told.sought in
    seen_more notes strides stride old new seen
    (stop_counts notes stride old new c.meet.ensures.counts began.2.0 s.why s.used began.2.1)
    (λ place inside. omega (
      arith,
      ap (λ (held : Counts). slice_index held.passes place) c.meet.ensures.highest,
      ap (λ (held : Counts). slice_index (counts_in held notes.marks) place) c.meet.ensures.counts,
      below notes strides stride old new seen place inside,
    ))
    (met_there notes stride old.met.items new.met.items s.origin s.word c.of.result c.lists.result.now sought began.1
    c.of.ensures.is c.lists.ensures.all c.meet.ensures.met)

pub returns-in-Went : goal.returns-in-Went
returns-in-Went c times strides stride seen told =
    let notes = c.args.notes.now in
    let w = c.in-Went in
    let old = c.args.self.now in
    let mid = c.meet-in-Went.new.self in
    let new = c.pass.new.self in
    let tells =
    subst (λ (v : Step). Tells stride.outcome told.origin (fetched stride.origin) (reads_load stride.origin) told.punched
    v) w.is told.tells in
    let began =
    told_going stride.outcome told.origin (fetched stride.origin) (reads_load stride.origin) told.punched w.origin w.word
    w.next w.used w.load w.punched tells in
    let sought : w.origin.number ≡ stride.origin.sought = ap (λ (l : Location). l.number) began.0 ∙ told.sought in
    let counted : counts_in new.counts notes.marks
    ≡ after_pass notes.marks w.origin.number w.next.number (counts_in mid.counts notes.marks) =
    subst (λ (marks : List Mark). counts_in new.counts marks
    ≡ after_pass marks w.origin.number w.next.number (counts_in mid.counts marks)) c.marks.ensures.all
    c.pass.ensures.counts in
    let raised : (place : ℕ) → place < length notes.marks
    → slice_index (counts_in mid.counts notes.marks) place ≤ passed_at mid place
    → passed_at new place ≡ max (passed_at mid place) (slice_index (counts_in new.counts notes.marks) place) =
    subst (λ (marks : List Mark). (place : ℕ) → place < length marks
    → slice_index (counts_in mid.counts marks) place ≤ passed_at mid place
    → passed_at new place ≡ max (passed_at mid place) (slice_index (counts_in new.counts marks) place))
    c.marks.ensures.all c.pass.ensures.highest in
    seen_more notes strides stride old new seen
    (counted ∙ ap (λ (held : Counts). after_pass notes.marks w.origin.number w.next.number (counts_in held notes.marks))
    c.meet-in-Went.ensures.counts
    ∙ ap (λ (n : ℕ). after_pass notes.marks n w.next.number (counts_in old.counts notes.marks)) sought
    ∙ sym (went_counts notes (counts_in old.counts notes.marks) stride.origin.sought stride.outcome told.origin
    (fetched stride.origin) (reads_load stride.origin) told.punched w.origin w.word w.next w.used w.load w.punched tells))
    (λ place inside.
    let high = ap (λ (held : Counts). slice_index held.passes place) c.meet-in-Went.ensures.highest in
    let count =
    ap (λ (held : Counts). slice_index (counts_in held notes.marks) place) c.meet-in-Went.ensures.counts in
    let so_far = below notes strides stride old new seen place inside in
    omega (arith, raised place inside (omega (arith, high, count, so_far)), high))
    (λ flag was. ap (λ (met : Vec Met Global). met.items) c.pass.ensures.met
    ∙ met_there notes stride old.met.items mid.met.items w.origin w.word c.of-in-Went.result c.lists-in-Went.result.now
    sought began.1 c.of-in-Went.ensures.is c.lists-in-Went.ensures.all c.meet-in-Went.ensures.met flag was)
