-- What the program replies to a command, and to a joined form.
use Rattle.std.specs.Prelude.{◌≡◌, ℕ, List, Option, ◌⊎◌}
use Rattle.program_command.specs.declared.command.Command.{Command}
use Rattle.program_command.specs.declared.command.Command.TheVariants.{Answer, Check, Replay, Trace}
use Rattle.program_command.specs.declared.command.Command.TheVariants.{DrawRun}
use Rattle.program_command.specs.declared.command.Files.{Files}
use Rattle.program_command.specs.declared.command.Question.{Question}
use Rattle.program_command.specs.declared.command.Question.TheVariants.{Bound, Report, Table, Size}
use Rattle.read_toml.specs.declared.notes.read.NotesRead.{NotesRead}
use Rattle.read_toml.specs.declared.notes.read.NotesRead.TheVariants.{Short, Long}
use Rattle.read_faults.specs.FaultLines as printed
use Rattle.read_replays.specs.declared.inputs.Inputs.{Inputs}
use Rattle.print_lines.specs.declared.fault.Fault.{Fault}
use Rattle.print_lines.specs.FaultStatus.{reads_failed}
use Rattle.read_documents.specs.declared.documents.Documents.{Documents}
use Rattle.read_documents.specs.Asked.{name_in}
use Rattle.read_documents.specs.Documents.{Texts, setting_of}
use Rattle.read_documents.specs.Files.{AreHeld, AreHeldWithInputs, AreNotHeld, AreNotHeldWithInputs}
use Rattle.read_documents.specs.Files.{Contents}
use Rattle.read_documents.specs.Joined.{Gives, GivesNone}
use Rattle.read_documents.specs.TextsIn.{AreNoneHeld, AreTextsHeld, IsInputsText}
use Rattle.program_replay.specs.Given.{given}
use Rattle.program_limits.specs.Limits.{IsAnalysisFault}
use Rattle.program_replay.specs.Replay.{Given, IsReplayFault, IsTraceFault}
use Rattle.program_answers.specs.Says.{Refuses, Says, SaysBound}
use Rattle.program_run.specs.SaysCheck.{RefusesCheck, SaysCheck}
use Rattle.print_lines.specs.Reply.{Reply}
use Rattle.program_replay.specs.RunReply.{SaysRunPicture, SaysTrace, SaysVerdict}
use Rattle.print_lines.specs.Reply.{fault_reply}

-- The reply to a command, where `failures` reads failed: what it says of what it has read; or the
-- line of a fault, why that can't be had, or why nothing is said of it.
abbrev pub Replies : {A : Type 0} → (A → Type 0) → (Fault → Type 0) → (A → Reply → Type 0)
    → (A → Fault → Type 0) → ℕ → Reply → Type 0
Replies {A = A} Are AreNone Says Refuses failures reply =
    ((read : A) × Are read × (failures ≡ 0) × Says read reply)
    ⊎ ((fault : Fault) × (AreNone fault ⊎ ((read : A) × Are read × Refuses read fault))
    × (failures ≡ reads_failed fault) × (reply ≡ fault_reply fault))

-- the reply to a joined form
abbrev pub AnswersJoined : List ℕ → ℕ → Reply → Type 0
AnswersJoined bytes = Replies (Gives bytes) (GivesNone bytes) SaysBound IsAnalysisFault

-- which notes are read for a question: short ones alone, where it is one of the bound, of a
-- report, of the table or of the size
abbrev pub read_for : Question → NotesRead
read_for Bound = Short
read_for Report = Short
read_for Table = Short
read_for Size = Short
read_for _ = Long

-- the reply to a question about three files
abbrev pub AnswersQuestion : Contents → Question → ℕ → Reply → Type 0
AnswersQuestion held question =
    Replies (AreHeld (read_for question) held) (AreNotHeld (read_for question) held)
    (Says question) (Refuses question)

-- to a check of texts in files, and in one of inputs, if it is named
abbrev pub AnswersCheck : Contents → Files → Option (List ℕ) → ℕ → Reply → Type 0
AnswersCheck held files name =
    Replies {A = Texts × Option printed.Named}
    (λ read. AreTextsHeld held read.0 × IsInputsText held name read.1) (AreNoneHeld held name)
    (λ read. SaysCheck files read.0 read.1) (λ read. RefusesCheck read.0)

-- To a command that lets the deck run: of the documents, where such notes are read, and the inputs,
-- what it says of the run that the inputs fix.
abbrev pub AnswersRun : NotesRead → Contents → (Documents → Given → Reply → Type 0)
    → (Documents → Given → Fault → Type 0) → ℕ → Reply → Type 0
AnswersRun notes held Says Refuses =
    Replies {A = Documents × Inputs} (AreHeldWithInputs notes held)
    (AreNotHeldWithInputs notes held)
    (λ read. Says read.0 (given read.1)) (λ read. Refuses read.0 (given read.1))

-- the reply to a command, where the files of its parts hold this and `failures` reads failed
abbrev pub AnswersCommand : Contents → Command → ℕ → Reply → Type 0
AnswersCommand held (Answer question files) = AnswersQuestion held question
AnswersCommand held (Check files inputs) = AnswersCheck held files (name_in inputs)
AnswersCommand held (Replay files inputs) =
    AnswersRun Short held SaysVerdict (λ documents. IsReplayFault (setting_of documents))
AnswersCommand held (Trace files inputs) = AnswersRun Long held SaysTrace IsTraceFault
AnswersCommand held (DrawRun files inputs) =
    AnswersRun Short held SaysRunPicture (λ documents. IsReplayFault (setting_of documents))
