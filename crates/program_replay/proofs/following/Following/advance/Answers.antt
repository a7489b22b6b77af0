-- Of Following::advance: the machine's step is the next stride of the run. Where the monitor says
-- that this leaves the notes, or where the machine stops, the verdict comes with it; else the
-- strides so far keep to the notes, and so have used no more than the limit.
use Rattle.std.proofs.Common.{ℕ, ◌+◌, ◌∷◌, ◌++◌, [], sym, subst, ◌∙◌}
use Rattle.read_decks.specs.InDeck.{loads_in}
use Rattle.base_notes.specs.Entries.{entry_in}
use Rattle.machine_steps.specs.Step.{fetched}
use Rattle.machine_emulator.specs.Feed.{cards_left}
use Rattle.machine_emulator.specs.Machine.{IsToldOf}
use Rattle.machine_emulator.specs.Monitor.{HasSeenKept}
use Rattle.flow_graph.specs.SettingOf.{setting}
use Rattle.machine_steps.specs.declared.verdict.Verdict.TheVariants.{Left}
use Rattle.program_replay.specs.Following.{IsFollowed, state_of, stride_of}
use Rattle.program_replay.proofs.Followed.{goes_on, held_after, leaves_here, replayed, stops_here, told}
use Rattle.program_replay.proofs.following.Following.advance.Goals as goal

pub returns-in-Some-clause-told : goal.returns-in-Some-clause-told
returns-in-Some-clause-told c goes =
    told (setting c.args.deck.now c.args.times.now c.args.notes.now) c.args.self.now c.step-step.result
    c.step-step.new.self
    c.step-step.new.feed (c.step-step.ensures.goes goes)

pub returns-in-Stopped-clause-told : goal.returns-in-Stopped-clause-told
returns-in-Stopped-clause-told c goes =
    let g = setting c.args.deck.now c.args.times.now c.args.notes.now in
    let before = c.args.self.now in
    subst (IsToldOf g.times (stride_of g.times before)) c.in-Stopped.is
    (told g before c.step-step.result c.step-step.new.self c.step-step.new.feed (c.step-step.ensures.goes goes))

pub returns-clause-told : goal.returns-clause-told
returns-clause-told c goes =
    told (setting c.args.deck.now c.args.times.now c.args.notes.now) c.args.self.now c.step-step.result
    c.step-step.new.self
    c.step-step.new.feed (c.step-step.ensures.goes goes)

pub returns-in-Some-clause-held : goal.returns-in-Some-clause-held
returns-in-Some-clause-held c goes =
    let before = c.args.self.now in
    let takes = c.step-step.ensures.goes goes in
    held_after (stride_of (entry_in c.args.times.now) before).outcome before.machine.sought
    (fetched (state_of before)) c.step-step.new.self (cards_left c.step-step.new.feed) takes.becomes

pub returns-in-Stopped-clause-held : goal.returns-in-Stopped-clause-held
returns-in-Stopped-clause-held c goes =
    let before = c.args.self.now in
    let takes = c.step-step.ensures.goes goes in
    held_after (stride_of (entry_in c.args.times.now) before).outcome before.machine.sought
    (fetched (state_of before)) c.step-step.new.self (cards_left c.step-step.new.feed) takes.becomes

pub returns-clause-held : goal.returns-clause-held
returns-clause-held c goes =
    let before = c.args.self.now in
    let takes = c.step-step.ensures.goes goes in
    held_after (stride_of (entry_in c.args.times.now) before).outcome before.machine.sought
    (fetched (state_of before)) c.step-step.new.self (cards_left c.step-step.new.feed) takes.becomes

pub returns-in-Some-clause-of_run : goal.returns-in-Some-clause-of_run
returns-in-Some-clause-of_run c s waits strides begins bounded following =
    replayed (setting c.args.deck.now c.args.times.now c.args.notes.now) s waits c.args.bound begins bounded strides
    c.args.self.now following
    c.step-step.result c.step-step.new.self c.step-step.new.feed (c.step-step.ensures.goes following.goes)

pub returns-in-Stopped-clause-of_run : goal.returns-in-Stopped-clause-of_run
returns-in-Stopped-clause-of_run c s waits strides begins bounded following =
    replayed (setting c.args.deck.now c.args.times.now c.args.notes.now) s waits c.args.bound begins bounded strides
    c.args.self.now following
    c.step-step.result c.step-step.new.self c.step-step.new.feed (c.step-step.ensures.goes following.goes)

pub returns-clause-of_run : goal.returns-clause-of_run
returns-clause-of_run c s waits strides begins bounded following =
    replayed (setting c.args.deck.now c.args.times.now c.args.notes.now) s waits c.args.bound begins bounded strides
    c.args.self.now following
    c.step-step.result c.step-step.new.self c.step-step.new.feed (c.step-step.ensures.goes following.goes)

pub returns-in-Some-clause-advanced : goal.returns-in-Some-clause-advanced
returns-in-Some-clause-advanced c s waits strides begins bounded following =
    let g = setting c.args.deck.now c.args.times.now c.args.notes.now in
    let before = c.args.self.now in
    let takes = c.step-step.ensures.goes following.goes in
    let told_so = told g before c.step-step.result c.step-step.new.self c.step-step.new.feed takes in
    let leaves =
    c.in-Some.ensures.judged following.silent (entry_in c.args.times.now) strides (stride_of g.times before)
    following.seen told_so in
    subst (λ (used : ℕ). IsFollowed g s waits c.args.bound (strides ++ stride_of g.times before ∷ [])
    (Left c.in-Some.what (before.steps + 1) used))
    (sym c.used-before.ensures)
    (leaves_here g s waits c.args.bound begins bounded strides before following c.step-step.result c.step-step.new.self
    c.step-step.new.feed takes
    c.in-Some.what leaves)

pub returns-in-Stopped-clause-advanced : goal.returns-in-Stopped-clause-advanced
returns-in-Stopped-clause-advanced c s waits strides begins bounded following =
    let g = setting c.args.deck.now c.args.times.now c.args.notes.now in
    let before = c.args.self.now in
    let takes = c.step-step.ensures.goes following.goes in
    let told_so = told g before c.step-step.result c.step-step.new.self c.step-step.new.feed takes in
    let seen : HasSeenKept (loads_in c.args.deck.now) c.args.notes.now c.check.new.self
    (strides ++ stride_of g.times before ∷ []) =
    c.in_default.ensures.judged following.silent (entry_in c.args.times.now) strides (stride_of g.times before)
    following.seen told_so in
    stops_here g s waits c.args.bound begins bounded strides before following c.step-step.result c.step-step.new.self
    c.step-step.new.feed takes
    c.check.new.self seen c.in-Stopped.origin c.in-Stopped.word c.in-Stopped.why c.in-Stopped.used c.in-Stopped.is

pub returns-clause-advanced : goal.returns-clause-advanced
returns-clause-advanced c s waits strides begins bounded following =
    let g = setting c.args.deck.now c.args.times.now c.args.notes.now in
    let before = c.args.self.now in
    let takes = c.step-step.ensures.goes following.goes in
    let told_so = told g before c.step-step.result c.step-step.new.self c.step-step.new.feed takes in
    let seen : HasSeenKept (loads_in c.args.deck.now) c.args.notes.now c.check.new.self
    (strides ++ stride_of g.times before ∷ []) =
    c.in_default.ensures.judged following.silent (entry_in c.args.times.now) strides (stride_of g.times before)
    following.seen told_so in
    goes_on g s waits c.args.bound begins bounded strides before following c.step-step.result c.step-step.new.self
    c.step-step.new.feed takes
    c.check.new.self seen (sym c.check.ensures.answered ∙ c.in_default.is) c.step-step.ensures.advances
    c.in_default-step.not-Stopped
