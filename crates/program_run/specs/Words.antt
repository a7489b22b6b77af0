-- What the program says to its words.
use Rattle.std.specs.Prelude.{◌≡◌, ◌≢◌, ℕ, ◌+◌, true, List, [], ◌∷◌, Option, Some, string_bytes}
use Rattle.std.specs.Prelude.{◌⊎◌}
use Rattle.clap.specs.Words.{Text, fault_of, takes}
use Rattle.program_command.specs.declared.command.Command.{Command}
use Rattle.program_command.specs.declared.refused.Refused.{Refused}
use Rattle.program_command.specs.declared.refused.Refused.TheVariants.{Help, Usage, Memory}
use Rattle.program_command.specs.Line.{drum650, said_by, said_by_words}
use Rattle.program_command.specs.Refusal.{FitsAmong}
use Rattle.print_lines.specs.declared.fault.Fault.{Fault}
use Rattle.print_lines.specs.declared.fault.Fault.TheVariants as fault
use Rattle.print_lines.specs.declared.part.Part.TheVariants as part
use Rattle.print_lines.specs.declared.part.PartFault.TheVariants as what
use Rattle.print_lines.specs.declared.status.Status.TheVariants as status
use Rattle.print_lines.specs.Reply.{IsLineOfFault, Reply, says, complains, fault_reply}
use Rattle.read_documents.specs.Asked.{Asked, AsksFor, Looks, NamedFile, files_sought}
use Rattle.read_documents.specs.Files.{AreTold, FilesTold, Contents}
use Rattle.program_run.specs.Commands.{AnswersCommand, AnswersJoined}

-- the reply to words that name no command: help, or what is wrong with them
abbrev pub refused_reply : Refused → Reply
refused_reply (Help text) = says (string_bytes text) status.Done
refused_reply (Usage text) = complains (string_bytes text) status.Usage
refused_reply Memory = fault_reply fault.Memory

-- Words are refused for a fault that clap states of them, and a command line that it takes is
-- refused for lack of memory alone.
pub record AreRefused (words : List Text) (refused : Refused) : Type 0 where
  pub fits : FitsAmong (fault_of drum650 words) refused
  pub taken : takes drum650 words ≡ true → refused ≡ Memory

-- clap finds no fault in the words, and finds this command in them
pub record AreOf (words : List Text) (command : Command) : Type 0 where
  pub faultless : fault_of drum650 words ≡ []
  pub said : said_by_words words ≡ Some (said_by command)

-- The reply to words, where this is known of the input and of files, and this number of reads of
-- them failed. With no words it is the reply to the joined form, if the input's bytes are known.
-- With words that are a command it is the reply to that command, if what its files hold is known.
-- With other words it is why they are refused.
abbrev pub Answers : List Text → Option (List ℕ) → FilesTold → ℕ → Reply → Type 0
Answers [] input files failures reply =
    (bytes : List ℕ) → input ≡ Some bytes → AnswersJoined bytes failures reply
Answers (word ∷ words) input files failures reply =
    ((command : Command) × AreOf (word ∷ words) command
    × ((held : Contents) → AreTold files held (files_sought command)
    → AnswersCommand held command failures reply))
    ⊎ ((refused : Refused) × AreRefused (word ∷ words) refused
    × (failures ≡ 0) × (reply ≡ refused_reply refused))

-- these files are looked at up to the fault that the reply tells, else all
abbrev pub LooksAsTold : List NamedFile → Reply → List Asked → Type 0
LooksAsTold files reply asked =
    (told : Option Fault) × IsLineOfFault told reply × Looks files told asked

-- What is asked of a source for words. With no words nothing is. With words that are a command its
-- files are, in its order and up to the fault that is told. With other words nothing is.
abbrev pub Asks : List Text → Option (List Asked) → Option (List Asked) → Reply → Type 0
Asks [] before after reply = after ≡ before
Asks (word ∷ words) before after reply =
    ((command : Command) × AreOf (word ∷ words) command
    × AsksFor before after (LooksAsTold (files_sought command) reply))
    ⊎ ((refused : Refused) × AreRefused (word ∷ words) refused
    × (reply ≡ refused_reply refused) × (after ≡ before))

-- The numbers are how many reads of the input met its end, and how many bytes it gave, each before
-- and after. Unless the reply tells that a read failed, or that there is no memory, the input was
-- read to its end, or to one byte past the limit; and if to that byte, the reply tells that it is
-- too long, or that there is no memory.
abbrev pub ReadsAll : Reply → ℕ → ℕ → ℕ → ℕ → Type 0
ReadsAll reply ended ended' given given' =
    (reply ≢ fault_reply (fault.Part part.Joined what.Read) → reply ≢ fault_reply fault.Memory
    → (ended' ≡ ended + 1) ⊎ (given' ≡ given + 16777217))
    × (given' ≡ given + 16777217 → (reply ≡ fault_reply (fault.Part part.Joined what.TooLong))
    ⊎ (reply ≡ fault_reply fault.Memory))
