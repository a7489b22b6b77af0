-- What a reply tells: by which words, of which documents.
use Rattle.std.proofs.Common.{◌≡◌, ℕ, true, List, [], ◌∷◌, Option, Some, None, ap, sym, ◌∙◌, subst, ◌⊎◌, inl, inr, arith}
use Rattle.std.specs.Prelude.{codes}
use Rattle.clap.specs.Words.{Text, takes}
use Rattle.program_command.specs.declared.command.Command.{Command}
use Rattle.program_command.specs.declared.command.Command.TheVariants.{Answer, Check, Replay, Trace, DrawRun}
use Rattle.program_command.specs.declared.command.Question.TheVariants.{Bound, Report, Walk, Waits, Table, Size, Graph, Outline, Draw, Ceiling}
use Rattle.program_command.specs.declared.refused.Refused.{Refused}
use Rattle.program_command.specs.Line.{drum650, said_by}
use Rattle.read_documents.specs.declared.documents.Documents.{Documents}
use Rattle.read_toml.specs.declared.notes.read.NotesRead.TheVariants.{Short}
use Rattle.print_lines.specs.declared.fault.Fault.{Fault}
use Rattle.print_lines.specs.declared.fault.Fault.TheVariants as faults
use Rattle.program_limits.specs.Limits.{IsAnalysisFault, IsBound}
use Rattle.read_documents.specs.Asked.{files_sought, named, named_in}
use Rattle.read_documents.specs.Files.{AreHeld, AreNotHeld, AreTold, FilesTold, Contents}
use Rattle.print_lines.specs.declared.part.Part.TheVariants as part
use Rattle.program_run.specs.Commands.{AnswersCommand, Replies}
use Rattle.print_lines.specs.Reply.{Reply, bound_reply, fault_reply}
use Rattle.program_answers.specs.Says.{SaysBound}
use Rattle.program_run.specs.BoundOfFiles.{IsBoundOfFiles}
use Rattle.program_run.specs.Words.{AreRefused, refused_reply}

-- a reply to `bound` is the line of documents that are given, or a fault's
pub reply_of_bound : (Are : Documents → Type 0) (No : Fault → Type 0) (failures : ℕ) (reply : Reply)
    → Replies Are No SaysBound IsAnalysisFault failures reply
    → ((documents : Documents) × Are documents × (bound : ℕ) × IsBound documents bound × (reply ≡ bound_reply bound))
    ⊎ ((fault : Fault) × (reply ≡ fault_reply fault))
reply_of_bound Are No failures reply (inl (documents, are, none, (bound, is, so))) = inl (documents, are, bound, is, so)
reply_of_bound Are No failures reply (inr (fault, is, none, so)) = inr (fault, so)

-- what a command says, by its parts
abbrev name_in : Option (Text × List (Option Text)) → Text
name_in None = []
name_in (Some said) = said.0

abbrev files_in : Option (Text × List (Option Text)) → List (Option Text)
files_in None = []
files_in (Some said) = said.1

abbrev first_byte : Text → ℕ
first_byte [] = 0
first_byte (byte ∷ bytes) = byte

abbrev file_in : List (Option Text) → Text
file_in (Some file ∷ files) = file
file_in _ = []

abbrev behind_file : List (Option Text) → List (Option Text)
behind_file [] = []
behind_file (file ∷ files) = files

-- words that clap takes are refused by a fault's line
pub refused_line : (words : List Text) (refused : Refused) (reply : Reply) → AreRefused words refused
    → takes drum650 words ≡ true → reply ≡ refused_reply refused → reply ≡ fault_reply faults.Memory
refused_line words refused reply are taken is = is ∙ ap refused_reply (are.taken taken)

-- names that are the same begin with the same byte
same_first : (said other : Option (Text × List (Option Text))) → said ≡ other
    → first_byte (name_in said) ≡ first_byte (name_in other)
same_first said other same = ap (λ (s : Option (Text × List (Option Text))). first_byte (name_in s)) same

-- the command of these words is `bound`, with these names
pub of_files : (told_of : FilesTold) (held : Contents) (deck times notes : Text)
    (command : Command) (failures : ℕ) (reply : Reply)
    → AreTold told_of held (named deck times notes) → Some (said_by command) ≡ Some (codes "bound", Some deck ∷ Some times ∷ Some notes ∷ [])
    → (AreTold told_of held (files_sought command) → AnswersCommand held command failures reply)
    → ((bound : ℕ) × IsBoundOfFiles (held part.Deck) (held part.Times) (held part.Notes) bound
    × (reply ≡ bound_reply bound))
    ⊎ ((fault : Fault) × (reply ≡ fault_reply fault))
of_files told_of held deck times notes (Answer Bound files) failures reply told said answers =
    let names = ap files_in said in
    let deck_is : files.deck.now ≡ deck = ap file_in names in
    let times_is : files.times.now ≡ times = ap (λ (files : List (Option Text)). file_in (behind_file files)) names in
    let notes_is : files.notes.now ≡ notes =
    ap (λ (files : List (Option Text)). file_in (behind_file (behind_file files))) names in
    let told_so : AreTold told_of held (named_in files) = (
      subst (λ (name : Text). told_of 0 name ≡ Some (held part.Deck)) (sym deck_is) told.0,
      (
        subst (λ (name : Text). told_of 1 name ≡ Some (held part.Times)) (sym times_is) told.1.0,
        (subst (λ (name : Text). told_of 2 name ≡ Some (held part.Notes)) (sym notes_is) told.1.1.0, tt),
      ),
    ) in
    elim (reply_of_bound (AreHeld Short held) (AreNotHeld Short held) failures reply (answers told_so)) [
      | inl (documents, are, bound, is, so) ↦ inl (
        bound,
        record {
          documents = documents;
          of_deck = are.deck;
          of_times = are.times;
          of_notes = are.notes;
          is_bound = is;
        },
        so,
      )
      | inr line ↦ inr line
    ]
of_files told_of held deck times notes (Check files inputs) failures reply told said answers =
    absurd (let bad : 99 ≡ 98 = same_first _ _ said in omega (arith, bad))
of_files told_of held deck times notes (Answer Report files) failures reply told said answers =
    absurd (let bad : 114 ≡ 98 = same_first _ _ said in omega (arith, bad))
of_files told_of held deck times notes (Answer Walk files) failures reply told said answers =
    absurd (let bad : 119 ≡ 98 = same_first _ _ said in omega (arith, bad))
of_files told_of held deck times notes (Answer Waits files) failures reply told said answers =
    absurd (let bad : 119 ≡ 98 = same_first _ _ said in omega (arith, bad))
of_files told_of held deck times notes (Answer Table files) failures reply told said answers =
    absurd (let bad : 116 ≡ 98 = same_first _ _ said in omega (arith, bad))
of_files told_of held deck times notes (Answer Size files) failures reply told said answers =
    absurd (let bad : 115 ≡ 98 = same_first _ _ said in omega (arith, bad))
of_files told_of held deck times notes (Answer Graph files) failures reply told said answers =
    absurd (let bad : 103 ≡ 98 = same_first _ _ said in omega (arith, bad))
of_files told_of held deck times notes (Answer Outline files) failures reply told said answers =
    absurd (let bad : 111 ≡ 98 = same_first _ _ said in omega (arith, bad))
of_files told_of held deck times notes (Answer Draw files) failures reply told said answers =
    absurd (let bad : 100 ≡ 98 = same_first _ _ said in omega (arith, bad))
of_files told_of held deck times notes (Answer Ceiling files) failures reply told said answers =
    absurd (let bad : 99 ≡ 98 = same_first _ _ said in omega (arith, bad))
of_files told_of held deck times notes (Replay files inputs) failures reply told said answers =
    absurd (let bad : 114 ≡ 98 = same_first _ _ said in omega (arith, bad))
of_files told_of held deck times notes (Trace files inputs) failures reply told said answers =
    absurd (let bad : 116 ≡ 98 = same_first _ _ said in omega (arith, bad))
of_files told_of held deck times notes (DrawRun files inputs) failures reply told said answers =
    absurd (let bad : 100 ≡ 98 = same_first _ _ said in omega (arith, bad))
