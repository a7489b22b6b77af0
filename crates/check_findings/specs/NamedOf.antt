-- The words that executed instructions name, as they are held: a flag for each word of the drum.
use Rattle.std.specs.Prelude.{◌≡◌, ◌≤◌, ◌<◌, ◌↔◌, ◌⊎◌, ℕ, Bool, true, Some, Contains, slice_get}
use Rattle.base_words.specs.Instruction.{instruction}
use Rattle.read_decks.specs.InDeck.{loads_in}
use Rattle.base_notes.specs.declared.notes.pattern.Pattern.{Pattern}
use Rattle.flow_graph.specs.declared.flow_graph.Flow.{Flow}
use Rattle.flow_graph.specs.Flow.{executed_in}
use Rattle.check_findings.specs.declared.named.Named.{Named}
use Rattle.check_findings.specs.Idle.{is_idle, named, names}

-- the flag of a word is set
abbrev pub IsFlagged : Named → ℕ → Type 0
IsFlagged held word = slice_get held.flags.items word ≡ Some true

-- beside the flags that were set before, those of the words with a property are
abbrev pub FlagsMore : (ℕ → Type 0) → Named → Named → Type 0
FlagsMore IsMore before after =
    (word : ℕ) → IsFlagged after word ↔ (IsFlagged before word ⊎ IsMore word)

-- the word is one of those from a number on and below another one
abbrev pub IsBetween : ℕ → ℕ → ℕ → Type 0
IsBetween from below word = (from ≤ word) × (word < below)

-- an instruction of a pattern names a word, one with a data address from one on and below another
abbrev pub IsNamedIn : Pattern → ℕ → ℕ → ℕ → Type 0
IsNamedIn pattern from below word =
    (d : ℕ) × (from ≤ d) × (d < below) × (d ≤ pattern.d_to)
    × Contains (names (instruction pattern.op d pattern.i)) word

-- the flags are those of the words that executed instructions name
abbrev pub AreNamed : Flow → Named → Type 0
AreNamed flow held =
    (word : ℕ) → IsFlagged held word
    ↔ Contains (named (loads_in flow.deck.now) flow.notes.now (executed_in flow)) word

-- whether nothing comes to a word that the flow graph's deck loads
abbrev pub is_idle_in : Flow → ℕ → Bool
is_idle_in flow = is_idle (loads_in flow.deck.now) flow.notes.now (executed_in flow)
