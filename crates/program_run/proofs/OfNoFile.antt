-- Faults of no file: the refusal of a deck with its notes, that of a run, and lack of memory. None
-- of them says that a read failed.
use Rattle.std.proofs.Common.{◌≡◌, ℕ, None, Result, Ok, Err, IfErr, inl, inr, refl}
use Rattle.flow_graph.specs.declared.refusal.Refusal.{Refusal}
use Rattle.flow_graph.specs.Bounded.{IsDeckAccepted}
use Rattle.flow_graph.specs.Walk.{Setting}
use Rattle.flow_acceptance.specs.Acceptance.{IsRefusal}
use Rattle.program_command.specs.declared.command.Question.{Question}
use Rattle.program_command.specs.declared.command.Question.TheVariants.{Bound, Report, Walk, Waits, Table, Size, Graph, Outline, Draw, Ceiling}
use Rattle.print_lines.specs.declared.fault.Fault.{Fault}
use Rattle.print_lines.specs.declared.fault.Fault.TheVariants as faults
use Rattle.print_lines.specs.declared.limit.Limit.{Limit}
use Rattle.print_lines.specs.FaultStatus.{failed_reads}
use Rattle.print_lines.specs.FaultStatus.{IsOutOfMemory}
use Rattle.read_documents.specs.declared.documents.Documents.{Documents}
use Rattle.read_documents.specs.Asked.{part_of}
use Rattle.program_limits.specs.Limits.{IsLimit, IsLimitRefusal, IsRefusedFor}
use Rattle.read_documents.specs.Documents.{setting_of, Texts}
use Rattle.program_replay.specs.Replay.{Given, IsReplayFault, IsRunFault, IsTraceFault}
use Rattle.program_answers.specs.Says.{Refuses}
use Rattle.program_run.specs.SaysCheck.{RefusesCheck}
use Rattle.program_run.specs.DoesCommand.{IsOfNoFile}

pub refused_of_none : (Is : Refusal → Type 0) (fault : Fault) → IsRefusedFor Is fault → IsOfNoFile fault
refused_of_none Is (faults.Refused refusal) is = record { part = refl; reads = refl }
refused_of_none Is faults.NoPart is = absurd is
refused_of_none Is (faults.Part part what) is = absurd is
refused_of_none Is faults.Memory is = absurd is
refused_of_none Is (faults.Deck fault) is = absurd is
refused_of_none Is (faults.Times fault) is = absurd is
refused_of_none Is (faults.Notes fault) is = absurd is
refused_of_none Is (faults.Inputs fault) is = absurd is
refused_of_none Is (faults.Loaded location) is = absurd is

memory_of_none : (fault : Fault) → IsOutOfMemory fault → IsOfNoFile fault
memory_of_none (faults.Refused refusal) is = record { part = refl; reads = refl }
memory_of_none faults.NoPart is = absurd is
memory_of_none (faults.Part part what) is = absurd is
memory_of_none faults.Memory is = record { part = refl; reads = refl }
memory_of_none (faults.Deck fault) is = absurd is
memory_of_none (faults.Times fault) is = absurd is
memory_of_none (faults.Notes fault) is = absurd is
memory_of_none (faults.Inputs fault) is = absurd is
memory_of_none (faults.Loaded location) is = absurd is

pub check_of_none : (texts : Texts) (fault : Fault) → RefusesCheck texts fault → IsOfNoFile fault
check_of_none texts fault (inl is) = memory_of_none fault is
check_of_none texts fault (inr is) = refused_of_none _ fault is.2

run_of_none : (g : Setting) (given : Given) (Refuses : Refusal → Type 0) (IsLimited : Type 0) (fault : Fault)
    → IsRunFault g given Refuses IsLimited fault → IsOfNoFile fault
run_of_none g given Refuses IsLimited (faults.Refused refusal) is = record { part = refl; reads = refl }
run_of_none g given Refuses IsLimited faults.NoPart is = absurd is
run_of_none g given Refuses IsLimited (faults.Part part what) is = absurd is
run_of_none g given Refuses IsLimited faults.Memory is = record { part = refl; reads = refl }
run_of_none g given Refuses IsLimited (faults.Deck fault) is = absurd is
run_of_none g given Refuses IsLimited (faults.Times fault) is = absurd is
run_of_none g given Refuses IsLimited (faults.Notes fault) is = absurd is
run_of_none g given Refuses IsLimited (faults.Inputs fault) is = absurd is
run_of_none g given Refuses IsLimited (faults.Loaded location) is = record { part = refl; reads = refl }

pub replay_of_none : (g : Setting) (given : Given) (fault : Fault) → IsReplayFault g given fault → IsOfNoFile fault
replay_of_none g given fault is =
    run_of_none g given (IsRefusal g.loads g.notes g.start) (IsDeckAccepted g) fault is

pub trace_of_none : (documents : Documents) (given : Given) (fault : Fault) → IsTraceFault documents given fault
    → IsOfNoFile fault
trace_of_none documents given fault is =
    run_of_none (setting_of documents) given (IsLimitRefusal documents)
    ((limit : Limit) × (most : ℕ) × IsLimit documents limit most) fault is

pub question_of_none : (question : Question) (documents : Documents) (fault : Fault) → Refuses question documents fault
    → IsOfNoFile fault
question_of_none Bound documents fault is = refused_of_none _ fault is
question_of_none Report documents fault is = refused_of_none _ fault is
question_of_none Walk documents fault is = refused_of_none _ fault is
question_of_none Waits documents fault is = refused_of_none _ fault is
question_of_none Table documents fault is = refused_of_none _ fault is
question_of_none Size documents fault is = refused_of_none _ fault is
question_of_none Graph documents fault is = refused_of_none _ fault is
question_of_none Outline documents fault is = refused_of_none _ fault is
question_of_none Draw documents fault is = refused_of_none _ fault is
question_of_none Ceiling documents fault is = refused_of_none _ fault is

-- so a result with such a fault says of no read that it failed
pub unread : {A : Type 0} (result : Result A Fault) → IfErr result IsOfNoFile → failed_reads result ≡ 0
unread (Ok found) of = refl
unread (Err fault) of = of.reads

pub of_no_part : {A : Type 0} (result : Result A Fault) → IfErr result IsOfNoFile
    → IfErr result (λ fault. part_of fault ≡ None)
of_no_part (Ok found) of = tt
of_no_part (Err fault) of = of.part
