-- When a deck with its notes is accepted, and why another isn't.
use Rattle.std.specs.Prelude.{◌≡◌, ℕ, ◌+◌, ◌*◌, ◌^◌, ◌<◌, ◌≤◌, min, IsTrue, IsSome, IsNone, List}
use Rattle.std.specs.Prelude.{[], ◌∷◌, ◌++◌, length, map, slice_get, Option, Some, Contains, ◌⊎◌}
use Rattle.base_words.specs.declared.instruction.Instruction.{Instruction}
use Rattle.base_words.specs.declared.word.Word.{Word}
use Rattle.base_words.specs.Op.{op_of}
use Rattle.base_notes.specs.declared.notes.mark.Mark.{Mark}
use Rattle.base_notes.specs.Allowed.{Notes, is_listed, allowed}
use Rattle.base_notes.specs.Marks.{mark_on}
use Rattle.machine_steps.specs.Writes.{writes}
use Rattle.base_graphs.specs.Graph.{AreDifferent, IsClosed}
use Rattle.flow_graph.specs.Executed.{IsOrder, found_after}
use Rattle.flow_graph.specs.Hops.{IsEdge, IsExecuted, IsLink, IsNode, Node}

-- the counts that there can be: the product of `most + 1` over the marks
abbrev pub counts_of : List Mark → ℕ
counts_of [] = 1
counts_of (mark ∷ marks) = (mark.most + 1) * counts_of marks

-- the location is loaded or listed
abbrev pub IsThere : (ℕ → Option Word) → Notes → ℕ → Type 0
IsThere loads notes place = IsSome (loads place) ⊎ IsTrue (is_listed notes place)

-- each operation that is allowed there is in the profile
abbrev pub IsInProfile : (ℕ → Option Word) → Notes → ℕ → Type 0
IsInProfile loads notes place = (ins : Instruction) → Contains (allowed loads notes place) ins
    → IsSome (op_of ins.op)

-- an executed location without a list
abbrev pub IsFixed : (ℕ → Option Word) → Notes → ℕ → ℕ → Type 0
IsFixed loads notes start place =
    IsExecuted loads notes start place × ¬ IsTrue (is_listed notes place)

-- an edge that no mark stands on
abbrev pub IsFree : (ℕ → Option Word) → Notes → ℕ → ℕ → Type 0
IsFree loads notes place next =
    IsEdge loads notes place next × IsNone (mark_on notes.marks place next)

-- an edge of nodes that no mark stands on
abbrev pub IsFreeLink : (ℕ → Option Word) → Notes → Node → Node → Type 0
IsFreeLink loads notes node next =
    IsLink loads notes node next × IsNone (mark_on notes.marks node.place next.place)

-- executed words times counts
abbrev pub product_of : List ℕ → List Mark → ℕ
product_of executed marks = length executed * counts_of marks

-- a number as it is counted: 2^127 in place of any that is more
abbrev pub capped : ℕ → ℕ
capped product = min product (2 ^ 127)

-- Admitted, whatever the size: each executed location is loaded or listed, has operations of the
-- profile alone, and is written by an executed instruction only if it has a list; the flow graph
-- has 65,536 nodes at most; and from none of them do edges free of marks lead round. These are the
-- executed locations, in the order of discovery.
pub record IsAdmitted (loads : ℕ → Option Word) (notes : Notes) (start : ℕ)
    (executed : List ℕ) : Type 0 where
  pub order : IsOrder loads notes start executed
  pub few : length order.nodes ≤ 65536
  pub there : (place : ℕ) → IsExecuted loads notes start place → IsThere loads notes place
  pub profile : (place : ℕ) → IsExecuted loads notes start place → IsInProfile loads notes place
  pub unaltered : (place : ℕ) (ins : Instruction) (at : ℕ) → IsExecuted loads notes start place
      → Contains (allowed loads notes place) ins
      → Contains (writes ins) at → ¬ IsFixed loads notes start at
  pub bounded : (first : Node) (others : List Node) → IsNode loads notes start first
      → ¬ IsClosed (IsFreeLink loads notes) (first ∷ others)

-- The deck with its notes is accepted, for a bound: it is admitted, and small, and the notes have
-- no calls.
pub record IsAccepted (loads : ℕ → Option Word) (notes : Notes) (start : ℕ)
    (executed : List ℕ) : Type 0 where
  pub admitted : IsAdmitted loads notes start executed
  pub small : product_of executed notes.marks ≤ 4000000
  pub plain : notes.calls ≡ []

-- The location is loaded or listed, and each operation there is in the profile.
abbrev pub IsGood : (ℕ → Option Word) → Notes → ℕ → Type 0
IsGood loads notes place = IsThere loads notes place × IsInProfile loads notes place

-- Discovery meets the location, and all that it met before are good.
pub record IsMet (loads : ℕ → Option Word) (notes : Notes) (start : ℕ) (place : ℕ) : Type 0 where
  pub count : ℕ
  pub ways : List (Option ℕ)
  pub member : slice_get (found_after loads notes start count) count
      ≡ Some (record { place = place; ways = ways })
  pub before : (k : ℕ) (earlier : Node) → k < count
      → slice_get (found_after loads notes start count) k ≡ Some earlier
      → IsGood loads notes earlier.place

-- an instruction is the first in a list with a property
abbrev pub IsFirstIn : List Instruction → (Instruction → Type 0) → Instruction → Type 0
IsFirstIn list Property ins =
    (before : List Instruction) × (after : List Instruction) × (list ≡ before ++ ins ∷ after)
    × Property ins
    × ((other : Instruction) → Contains before other → ¬ Property other)

-- the operation is outside the profile
abbrev pub IsOutside : Instruction → Type 0
IsOutside ins = IsNone (op_of ins.op)

-- of the operations outside the profile that are allowed there, this is the first
abbrev pub IsFirstOutside : (ℕ → Option Word) → Notes → ℕ → ℕ → Type 0
IsFirstOutside loads notes place op =
    (ins : Instruction) × IsFirstIn (allowed loads notes place) IsOutside ins × (ins.op ≡ op)

-- the instruction writes an executed location without a list
abbrev pub Alters : (ℕ → Option Word) → Notes → ℕ → Instruction → Type 0
Alters loads notes start ins = (at : ℕ) × Contains (writes ins) at × IsFixed loads notes start at

-- NotLoaded: the first location in the order of discovery that isn't good is neither loaded nor
-- listed.
abbrev pub IsNotLoaded : (ℕ → Option Word) → Notes → ℕ → ℕ → Type 0
IsNotLoaded loads notes start place = IsMet loads notes start place × ¬ IsThere loads notes place

-- NotInProfile: the first location in the order of discovery that isn't good is loaded or listed,
-- and this is its first operation outside the profile.
abbrev pub IsNotInProfile : (ℕ → Option Word) → Notes → ℕ → ℕ → ℕ → Type 0
IsNotInProfile loads notes start place op =
    IsMet loads notes start place × IsThere loads notes place
    × IsFirstOutside loads notes place op

-- discovery meets more than 65,536 nodes
abbrev pub HasManyNodes : (ℕ → Option Word) → Notes → ℕ → Type 0
HasManyNodes loads notes start =
    (count : ℕ) × (65536 < length (found_after loads notes start count))

-- TooMany: discovery meets more than 65,536 nodes, and the locations of the first so many are good.
pub record IsTooMany (loads : ℕ → Option Word) (notes : Notes) (start : ℕ) : Type 0 where
  pub count : ℕ
  pub many : 65536 < length (found_after loads notes start count)
  pub good : (k : ℕ) (node : Node) → k < 65536
      → slice_get (found_after loads notes start count) k ≡ Some node
      → IsGood loads notes node.place

-- the word is the lowest that the instruction alters
pub record IsLowestAltered (loads : ℕ → Option Word) (notes : Notes) (start : ℕ) (ins : Instruction)
    (word : ℕ) : Type 0 where
  pub written : Contains (writes ins) word
  pub fixed : IsFixed loads notes start word
  pub lowest : (other : ℕ) → Contains (writes ins) other → IsFixed loads notes start other
      → word ≤ other

-- Alters: all executed locations are good, this is the first in the order of discovery with an
-- instruction that alters, and the word is the lowest that its first such instruction alters.
pub record IsAltered (loads : ℕ → Option Word) (notes : Notes)
    (start writer altered : ℕ) : Type 0 where
  pub executed : List ℕ
  pub order : IsOrder loads notes start executed
  pub good : (place : ℕ) → IsExecuted loads notes start place → IsGood loads notes place
  pub before : List ℕ
  pub behind : List ℕ
  pub split : executed ≡ before ++ writer ∷ behind
  pub none_before : (place : ℕ) (ins : Instruction) → Contains before place
      → Contains (allowed loads notes place) ins → ¬ Alters loads notes start ins
  pub ins : Instruction
  pub first : IsFirstIn (allowed loads notes writer) (Alters loads notes start) ins
  pub lowest : IsLowestAltered loads notes start ins altered

-- each executed location is good, and no instruction allowed there alters one without a list
pub record IsSound (loads : ℕ → Option Word) (notes : Notes) (start : ℕ) : Type 0 where
  pub good : (place : ℕ) → IsExecuted loads notes start place → IsGood loads notes place
  pub unaltered : (place : ℕ) (ins : Instruction) → IsExecuted loads notes start place
      → Contains (allowed loads notes place) ins → ¬ Alters loads notes start ins

-- TooLarge: the deck with its notes is sound, and this is its product, capped, above
-- 4,000,000.
abbrev pub IsTooLarge : (ℕ → Option Word) → Notes → ℕ → ℕ → Type 0
IsTooLarge loads notes start product =
    IsSound loads notes start × (4000000 < product)
    × ((executed : List ℕ) × IsOrder loads notes start executed
    × (product ≡ capped (product_of executed notes.marks)))

-- no member is smaller than the first
abbrev pub IsSmallestFirst : List ℕ → Type 0
IsSmallestFirst [] = ⊥
IsSmallestFirst (first ∷ places) = (place : ℕ) → Contains places place → first ≤ place

-- These are the locations of nodes of the flow graph, none of them twice, which edges free of marks
-- lead round. No location is smaller than the first. (One may be there twice, with something else
-- open.)
pub record IsFreeCycle (loads : ℕ → Option Word) (notes : Notes) (start : ℕ)
    (cycle : List ℕ) : Type 0 where
  pub nodes : List Node
  pub within : (node : Node) → Contains nodes node → IsNode loads notes start node
  pub closed : IsClosed (IsFreeLink loads notes) nodes
  pub different : AreDifferent nodes
  pub places : map (λ node. node.place) nodes ≡ cycle
  pub smallest : IsSmallestFirst cycle

-- It is sound, whatever its size; and edges free of marks lead round these.
pub record IsFreeRound (loads : ℕ → Option Word) (notes : Notes) (start : ℕ)
    (cycle : List ℕ) : Type 0 where
  pub sound : IsSound loads notes start
  pub round : IsFreeCycle loads notes start cycle

-- Unbounded: it is sound, its product is 4,000,000 at most, and these lead round.
pub record IsUnbounded (loads : ℕ → Option Word) (notes : Notes) (start : ℕ)
    (cycle : List ℕ) : Type 0 where
  pub small : (executed : List ℕ) → IsOrder loads notes start executed
      → product_of executed notes.marks ≤ 4000000
  pub round : IsFreeRound loads notes start cycle
