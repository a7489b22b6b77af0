-- Replies, and how many failed reads they tell of.
use Rattle.std.proofs.Common.{◌≡◌, ℕ, ◌+◌, List, Option, Some, None, Result, Ok, Err, IfOk, IfErr, IfSome, refl, inl}
use Rattle.std.proofs.Common.{◌≢◌, ◌⊎◌, inr, ap, sym, ◌∙◌, subst, arith}
use Rattle.std.specs.Prelude.{string_bytes}
use Rattle.read_decks.specs.declared.deck.fault.DeckFault.{DeckFault}
use Rattle.read_decks.specs.declared.deck.fault.DeckFault.TheVariants as of_deck
use Rattle.base_notes.specs.declared.fault.NoteFault.{NoteFault}
use Rattle.base_notes.specs.declared.fault.NoteFault.TheVariants as of_note
use Rattle.read_replays.specs.declared.fault.InputFault.{InputFault}
use Rattle.read_replays.specs.declared.fault.InputFault.TheVariants as of_input
use Rattle.flow_graph.specs.declared.refusal.Refusal.{Refusal}
use Rattle.flow_graph.specs.declared.refusal.Refusal.TheVariants as refusal
use Rattle.program_command.specs.declared.command.Command.{Command}
use Rattle.program_command.specs.declared.refused.Refused.{Refused}
use Rattle.program_command.specs.declared.refused.Refused.TheVariants.{Help, Usage, Memory}
use Rattle.print_lines.specs.declared.status.Status as statuses
use Rattle.print_lines.specs.declared.status.Status.TheVariants as status
use Rattle.print_lines.specs.declared.fault.Fault.{Fault}
use Rattle.print_lines.specs.declared.fault.Fault.TheVariants as faults
use Rattle.print_lines.specs.declared.part.Part.TheVariants as part
use Rattle.print_lines.specs.declared.part.PartFault.TheVariants as what
use Rattle.print_lines.specs.FaultStatus.{after_deck, after_input, after_note, after_refusal, reads_failed}
use Rattle.print_lines.specs.FaultStatus.{status_after}
use Rattle.read_documents.specs.Asked.{files_sought}
use Rattle.read_documents.specs.Files.{AreTold, FilesTold, Contents}
use Rattle.read_documents.specs.Joined.{IsPastLimit}
use Rattle.program_run.specs.Commands.{AnswersCommand}
use Rattle.print_lines.specs.Reply.{Reply, TellsOfReads}
use Rattle.print_lines.specs.Reply.{breaks_off, complains, fault_reply, lists, says}
use Rattle.program_run.specs.Words.{refused_reply}

-- what holds of a value holds of what it is known as
pub ok_map : {A E : Type 0} (P Q : A → Type 0) (result : Result A E) → IfOk result P → ((a : A) → P a → Q a)
    → IfOk result Q
ok_map P Q (Ok a) p f = f a p
ok_map P Q (Err e) p f = tt

pub err_map : {A E : Type 0} (P Q : E → Type 0) (result : Result A E) → IfErr result P → ((e : E) → P e → Q e)
    → IfErr result Q
err_map P Q (Ok a) p f = tt
err_map P Q (Err e) p f = f e p

-- what holds where bytes are known
pub some_map : (left : Option (List ℕ)) (P Q : List ℕ → Type 0) → IfSome left P → ((bytes : List ℕ) → P bytes → Q bytes)
    → IfSome left Q
some_map None P Q p f = tt
some_map (Some bytes) P Q p f = f bytes p

pub known : (left : Option (List ℕ)) (P : List ℕ → Type 0) (bytes : List ℕ) → left ≡ Some bytes → IfSome left P
    → P bytes
known left P bytes is p = subst (λ (l : Option (List ℕ)). IfSome l P) is p

-- what holds of a number of failures, counted twice
pub counted : (P : ℕ → Type 0) (old new failures n : ℕ) → new ≡ old + n → new ≡ old + failures → P n → P failures
counted P old new failures n first second p =
    let same : n ≡ failures = omega (arith, first, second) in subst P same p

-- a fault that is past the limit is, whatever there would be without it
pub past_limit : {A B : Type 0} (fault : Fault) → IsPastLimit {A = A} (Err fault) → IsPastLimit {A = B} (Err fault)
past_limit fault (inl is) =
    let same : fault ≡ faults.Part part.Joined what.TooLong = cc in inl (ap (λ (f : Fault). Err f) same)
past_limit fault (inr is) = let same : fault ≡ faults.Memory = cc in inr (ap (λ (f : Fault). Err f) same)

-- a result is no fault's line
pub result_of_no_read : (text : List ℕ) (ends : statuses.Status) → TellsOfReads 0 (says text ends)
result_of_no_read text ends = inr (refl, λ fault is. cc)

-- a fault's line tells of as many as the fault does
pub fault_of_reads : (fault : Fault) → TellsOfReads (reads_failed fault) (fault_reply fault)
fault_of_reads fault = inl (fault, refl, refl)

-- after a fault the program ends as after a refusal or as one that failed
abbrev IsBad : statuses.Status → Type 0
IsBad ends = (ends ≡ status.Refused) ⊎ (ends ≡ status.Failed)

after_deck_fault : (fault : DeckFault) → IsBad (after_deck fault)
after_deck_fault of_deck.Read = inr refl
after_deck_fault of_deck.Memory = inr refl
after_deck_fault (of_deck.Card line) = inl refl
after_deck_fault (of_deck.Twice location) = inl refl
after_deck_fault of_deck.NoStart = inl refl
after_deck_fault (of_deck.TwoStarts line) = inl refl
after_deck_fault (of_deck.PastDrum line) = inl refl
after_deck_fault of_deck.TooLong = inl refl

after_note_fault : (fault : NoteFault) → IsBad (after_note fault)
after_note_fault of_note.Toml = inl refl
after_note_fault of_note.Memory = inr refl
after_note_fault (of_note.Missing key) = inl refl
after_note_fault (of_note.Unknown key) = inl refl
after_note_fault (of_note.Range key) = inl refl
after_note_fault (of_note.Kind key) = inl refl
after_note_fault (of_note.TwoMarks from onto) = inl refl
after_note_fault (of_note.TwoLists location) = inl refl

after_input_fault : (fault : InputFault) → IsBad (after_input fault)
after_input_fault of_input.Read = inr refl
after_input_fault of_input.Memory = inr refl
after_input_fault (of_input.Line line) = inl refl
after_input_fault (of_input.Repeated line) = inl refl
after_input_fault (of_input.PastDrum line) = inl refl
after_input_fault of_input.TooLong = inl refl

after_refusal_fault : (fault : Refusal) → IsBad (after_refusal fault)
after_refusal_fault refusal.Memory = inr refl
after_refusal_fault (refusal.NotInProfile location op) = inl refl
after_refusal_fault (refusal.NotLoaded location) = inl refl
after_refusal_fault (refusal.Alters writer word) = inl refl
after_refusal_fault (refusal.Unbounded cycle) = inl refl
after_refusal_fault (refusal.TooLarge product) = inl refl
after_refusal_fault refusal.TooMany = inl refl
after_refusal_fault refusal.HasCalls = inl refl

after_fault : (fault : Fault) → IsBad (status_after fault)
after_fault faults.NoPart = inl refl
after_fault (faults.Part part what) = inr refl
after_fault faults.Memory = inr refl
after_fault (faults.Deck fault) = after_deck_fault fault
after_fault (faults.Times fault) = after_note_fault fault
after_fault (faults.Notes fault) = after_note_fault fault
after_fault (faults.Inputs fault) = after_input_fault fault
after_fault (faults.Refused refused) = after_refusal_fault refused
after_fault (faults.Loaded location) = inl refl

-- which is neither as where the words are wrong, nor as after a result that is done
no_usage : (ends : statuses.Status) → IsBad ends → ends ≢ status.Usage
no_usage ends (inl bad) is = let clash : status.Refused ≡ status.Usage = sym bad ∙ is in cc
no_usage ends (inr bad) is = let clash : status.Failed ≡ status.Usage = sym bad ∙ is in cc

pub not_done : (fault : Fault) → status_after fault ≢ status.Done
not_done fault is = go (status_after fault) (after_fault fault) is
  where
    go : (ends : statuses.Status) → IsBad ends → ends ≢ status.Done
    go ends (inl bad) is = let clash : status.Refused ≡ status.Done = sym bad ∙ is in cc
    go ends (inr bad) is = let clash : status.Failed ≡ status.Done = sym bad ∙ is in cc

abbrev status_in : Reply → statuses.Status
status_in (says text ends) = ends
status_in (complains text ends) = ends
status_in (lists text) = status.Refused
status_in (breaks_off text) = status.Failed

-- so what is wrong with words is no fault's line
pub usage_of_no_read : (text : List ℕ) → TellsOfReads 0 (complains text status.Usage)
usage_of_no_read text = inr (refl, λ fault clash. no_usage (status_after fault) (after_fault fault) (sym (ap status_in clash)))

pub refused_of_no_read : (refused : Refused) → TellsOfReads 0 (refused_reply refused)
refused_of_no_read (Help text) = result_of_no_read (string_bytes text) status.Done
refused_of_no_read (Usage text) = usage_of_no_read (string_bytes text)
refused_of_no_read Memory = fault_of_reads faults.Memory

-- what holds of the reply to a command where `failures` reads failed
abbrev pub Replied : FilesTold → Command → Reply → ℕ → Type 0
Replied files command reply failures =
    TellsOfReads failures reply
    × ((held : Contents) → AreTold files held (files_sought command)
    → AnswersCommand held command failures reply)
