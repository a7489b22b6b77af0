-- How much of an instruction a word that alters it keeps.
use Rattle.std.specs.Prelude.{ℕ, ◌==◌, if◌then◌else◌, Option, Some, None}
use Rattle.std.specs.Option.{option_and}
use Rattle.base_words.specs.declared.instruction.Instruction.{Instruction}
use Rattle.base_words.specs.declared.word.Word.{Word}
use Rattle.base_words.specs.Instruction.{instruction_of}
use Rattle.base_notes.specs.Allowed.{Notes, is_listed}
use Rattle.check_findings.specs.declared.unchanged_parts.UnchangedParts.{UnchangedParts}

-- nothing of it; `loaded` is the word as it is loaded
abbrev pub nothing_kept : Option Word → UnchangedParts
nothing_kept loaded = record { op = None; d = None; i = None; loaded = loaded }

-- What an operation that writes a word keeps of the instruction there: 22 all but the data address,
-- 23 all but the address of the next instruction, any other nothing.
abbrev pub kept_by_op : ℕ → Instruction → Option Word → UnchangedParts
kept_by_op op ins loaded =
    if op == 22 then record { op = Some ins.op; d = None; i = Some ins.i; loaded = loaded }
    else if op == 23 then record { op = Some ins.op; d = Some ins.d; i = None; loaded = loaded }
    else nothing_kept loaded

-- what the word of a writer keeps of a word, where both are loaded
abbrev pub kept_by_word : Option Word → Option Word → UnchangedParts
kept_by_word None loaded = nothing_kept loaded
kept_by_word (Some writer) None = nothing_kept None
kept_by_word (Some writer) (Some word) =
    kept_by_op (instruction_of writer).op (instruction_of word) (Some word)

-- What the writer at one location keeps of the instruction that is loaded at another. A writer that
-- has a list may keep nothing; and where the writer or the word isn't loaded, nothing is sure.
abbrev pub kept_of : (ℕ → Option Word) → Notes → ℕ → ℕ → UnchangedParts
kept_of loads notes writer word =
    if is_listed notes writer then nothing_kept (loads word)
    else kept_by_word (loads writer) (loads word)

-- what two writers of a word both keep of it
abbrev pub both_keep : UnchangedParts → UnchangedParts → UnchangedParts
both_keep one other = record {
  op = option_and other.op one.op;
  d = option_and other.d one.d;
  i = option_and other.i one.i;
  loaded = one.loaded;
}
