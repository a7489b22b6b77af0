-- How an instruction alters an executed location without a list.
use Rattle.std.specs.Prelude.{ℕ, List, Option, Contains}
use Rattle.base_words.specs.declared.instruction.Instruction.{Instruction}
use Rattle.base_words.specs.declared.word.Word.{Word}
use Rattle.base_notes.specs.Allowed.{Notes, allowed}
use Rattle.flow_graph.specs.declared.refusal.Refusal.{Refusal}
use Rattle.flow_graph.specs.declared.refusal.Refusal.TheVariants.{Alters}
use Rattle.flow_graph.specs.Accepted as said
use Rattle.flow_graph.specs.Accepted.{IsFixed, IsFirstIn, IsLowestAltered, IsAltered}
use Rattle.flow_acceptance.specs.declared.fixed.Fixed.{Fixed}
use Rattle.flow_acceptance.specs.Fixed.{IsFlagged}

-- the flags are those of the executed locations without a list
pub record FlagsFixed (loads : ℕ → Option Word) (notes : Notes) (start : ℕ)
    (fixed : Fixed) : Type 0 where
  pub only : (place : ℕ) → IsFlagged fixed place → IsFixed loads notes start place
  pub all : (place : ℕ) → IsFixed loads notes start place → IsFlagged fixed place

-- of the first of the instructions that alters a word, this is the lowest that it alters
pub record IsFirstAltered (loads : ℕ → Option Word) (notes : Notes) (start : ℕ)
    (instructions : List Instruction) (word : ℕ) : Type 0 where
  pub ins : Instruction
  pub first : IsFirstIn instructions (said.Alters loads notes start) ins
  pub lowest : IsLowestAltered loads notes start ins word

-- none of the instructions alters
abbrev pub NoneAlters : (ℕ → Option Word) → Notes → ℕ → List Instruction → Type 0
NoneAlters loads notes start instructions = (ins : Instruction) → Contains instructions ins
    → ¬ said.Alters loads notes start ins

-- no instruction of a place alters
abbrev pub AltersNone : (ℕ → Option Word) → Notes → ℕ → ℕ → Type 0
AltersNone loads notes start place = NoneAlters loads notes start (allowed loads notes place)

-- the refusal of a deck that alters
abbrev pub IsAlteredBy : (ℕ → Option Word) → Notes → ℕ → Refusal → Type 0
IsAlteredBy loads notes start (Alters writer word) =
    IsAltered loads notes start writer.number word.number
IsAlteredBy loads notes start _ = ⊥
