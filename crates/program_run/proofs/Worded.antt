-- Replies to words.
use Rattle.std.proofs.Common.{◌≡◌, ℕ, ◌==◌, true, false, List, [], ◌∷◌, Option, Some, Bor, length, inl, inr, arith, refl, sym}
use Rattle.std.proofs.lemmas.Bool.{eqb-true}
use Rattle.clap.specs.Walk.{texts}
use Rattle.clap.specs.Words.{Text}
use Rattle.program_command.specs.declared.command.Command.{Command}
use Rattle.program_command.specs.declared.refused.Refused.{Refused}
use Rattle.read_documents.specs.Asked.{Asked, AsksFor, files_sought}
use Rattle.read_documents.specs.Files.{AreTold, FilesTold, Contents}
use Rattle.print_lines.specs.Reply.{Reply}
use Rattle.program_run.specs.Words.{LooksAsTold}
use Rattle.program_run.specs.Commands.{AnswersCommand, AnswersJoined}
use Rattle.program_run.specs.Words.{AreOf, AreRefused, Answers, Asks, refused_reply}

-- where there are words, there are some
pub some_words : (words : List (Bor Text)) → false ≡ (length words == 0) → length words ≡ 0 → ⊥
some_words [] some none = let bad : false ≡ true = some in cc
some_words (word ∷ words) some none = omega (arith, none)

module _ (input : Option (List ℕ)) (files : FilesTold) (failures : ℕ) (reply : Reply) where
  pub without_words : (words : List (Bor Text)) → true ≡ (length words == 0)
      → ((bytes : List ℕ) → input ≡ Some bytes → AnswersJoined bytes failures reply)
      → Answers (texts words) input files failures reply
  without_words [] none is = is
  without_words (word ∷ words) none is =
      absurd (let zero_length : length (word ∷ words) ≡ 0 = eqb-true _ _ (sym none) in omega (arith, zero_length))

  pub with_command : (words : List (Bor Text)) → false ≡ (length words == 0) → (command : Command)
      → AreOf (texts words) command
      → ((held : Contents) → AreTold files held (files_sought command)
      → AnswersCommand held command failures reply)
      → Answers (texts words) input files failures reply
  with_command [] some command said is = absurd (let bad : false ≡ true = some in cc)
  with_command (word ∷ words) some command said is = inl (command, said, is)

  pub with_refused : (words : List (Bor Text)) → false ≡ (length words == 0) → (refused : Refused)
      → AreRefused (texts words) refused → failures ≡ 0 → reply ≡ refused_reply refused
      → Answers (texts words) input files failures reply
  with_refused [] some refused are none is = absurd (let bad : false ≡ true = some in cc)
  with_refused (word ∷ words) some refused are none is = inr (refused, are, none, is)

-- what is asked of a source for words
module _ (before : Option (List Asked)) (reply : Reply) where
  pub nothing_asked : (words : List (Bor Text)) → true ≡ (length words == 0) → Asks (texts words) before before reply
  nothing_asked [] none = refl
  nothing_asked (word ∷ words) none =
      absurd (let zero_length : length (word ∷ words) ≡ 0 = eqb-true _ _ (sym none) in omega (arith, zero_length))

  pub refused_unasked : (words : List (Bor Text)) → false ≡ (length words == 0) → (refused : Refused)
      → AreRefused (texts words) refused → reply ≡ refused_reply refused → Asks (texts words) before before reply
  refused_unasked [] some refused are is = absurd (let bad : false ≡ true = some in cc)
  refused_unasked (word ∷ words) some refused are is = inr (refused, are, is, refl)

  pub command_asked : (after : Option (List Asked)) (words : List (Bor Text)) → false ≡ (length words == 0)
      → (command : Command) → AreOf (texts words) command
      → AsksFor before after (LooksAsTold (files_sought command) reply) → Asks (texts words) before after reply
  command_asked after [] some command said asks = absurd (let bad : false ≡ true = some in cc)
  command_asked after (word ∷ words) some command said asks = inl (command, said, asks)
