-- In which order the loops that lack a mark are listed, and inside which other mark a mark on each
-- stands. A mark is here the list of its edges.
use Rattle.std.specs.Prelude.{◌≡◌, ℕ, suc, ◌+◌, ◌==◌, ◌<◌, ◌≤◌, if◌then◌else◌, Bool, true, false}
use Rattle.std.specs.Prelude.{List, [], ◌∷◌, ◌++◌, ◌⊎◌, filter, flat_map, length, map, slice_get}
use Rattle.std.specs.Prelude.{Contains, Option, Some, None}
use Rattle.base_words.specs.declared.word.Word.{Word}
use Rattle.base_notes.specs.Allowed.{Notes}
use Rattle.base_notes.specs.Edges.{leads}
use Rattle.flow_graph.specs.Hops.{Node}
use Rattle.flow_graph.specs.Taken.{is_among}
use Rattle.flow_loops.specs.Nested.{IsNested}
use Rattle.check_findings.specs.declared.within.Within.{Within}
use Rattle.check_findings.specs.declared.within.Within.TheVariants as within
use Rattle.check_findings.specs.Edges.{has_edge, marked_edges, marks_of}
use Rattle.check_findings.specs.Finding.{Finding, closes}
use Rattle.check_deck.specs.Those.{AreThose}

-- The loop that the inner edge closes stands inside the one that the outer edge closes, and the
-- flow graph has both edges.
pub record IsLoopInside (loads : ℕ → Option Word) (notes : Notes) (start : ℕ)
    (nodes : List Node) (outer inner : ℕ × ℕ) : Type 0 where
  pub there : has_edge loads notes nodes outer.0 outer.1 ≡ true
  pub here : has_edge loads notes nodes inner.0 inner.1 ≡ true
  pub nested : IsNested loads notes start outer inner

-- one of a list has a property
abbrev pub HasOne : {X : Type 0} → (X → Type 0) → List X → Type 0
HasOne IsOne [] = ⊥
HasOne IsOne (x ∷ xs) = IsOne x ⊎ HasOne IsOne xs

-- the loop of an edge stands round that of one of a mark's
abbrev pub IsRound : (ℕ × ℕ → ℕ × ℕ → Type 0) → List (ℕ × ℕ) → ℕ × ℕ → Type 0
IsRound IsInside mark outer = HasOne (IsInside outer) mark

-- the loop of one of a mark's edges stands round that of one of another mark's
abbrev pub IsMarkRound : (ℕ × ℕ → ℕ × ℕ → Type 0) → List (ℕ × ℕ) → List (ℕ × ℕ) → Type 0
IsMarkRound IsInside mark outer = HasOne (IsRound IsInside mark) outer

-- of some edges `many` have a property
pub record AreSoMany (IsOne : ℕ × ℕ → Type 0) (edges : List (ℕ × ℕ)) (many : ℕ) : Type 0 where
  pub those : List (ℕ × ℕ)
  pub are : AreThose IsOne edges those
  pub counted : length those ≡ many

-- Of two edges of which the second follows the first, the first one's loop stands inside no more
-- loops of these edges than the second one's.
abbrev pub AreFewestFirst : (ℕ × ℕ → ℕ × ℕ → Type 0) → List (ℕ × ℕ) → Type 0
AreFewestFirst IsInside edges =
    (k i j : ℕ) (a b : ℕ × ℕ) → slice_get edges k ≡ Some a → slice_get edges (suc k) ≡ Some b
    → AreSoMany (λ outer. IsInside outer a) edges i
    → AreSoMany (λ outer. IsInside outer b) edges j → i ≤ j

-- The number, from 1, of the last of some marks that has a property; none where none has it.
abbrev pub IsLastNumber : (List (ℕ × ℕ) → Type 0) → List (List (ℕ × ℕ)) → Option ℕ → Type 0
IsLastNumber IsOne marks None = (mark : List (ℕ × ℕ)) → Contains marks mark → ¬ IsOne mark
IsLastNumber IsOne marks (Some number) =
    (before : List (List (ℕ × ℕ))) × (mark : List (ℕ × ℕ)) × (after : List (List (ℕ × ℕ)))
    × (marks ≡ before ++ mark ∷ after) × (number ≡ suc (length before)) × IsOne mark
    × ((other : List (ℕ × ℕ)) → Contains after other → ¬ IsOne other)

-- one of a mark's edges has a property, and goes back to the location
abbrev pub GoesBack : (ℕ × ℕ → Type 0) → ℕ → List (ℕ × ℕ) → Type 0
GoesBack IsOne head mark = HasOne (λ edge. IsOne edge × (edge.1 ≡ head)) mark

-- these are where those of a mark's edges go back to that have a property
pub record AreHeads (IsOne : ℕ × ℕ → Type 0) (mark : List (ℕ × ℕ)) (heads : List ℕ) : Type 0 where
  pub only : (head : ℕ) → Contains heads head → GoesBack IsOne head mark
  pub all : (head : ℕ) → GoesBack IsOne head mark → Contains heads head

-- Two marks, the first and another one or two of the others, go back to one location by edges that
-- have a property: of the loops that one loop stands inside of, two are ways back of one loop, and
-- have different marks.
abbrev pub HasSeveralWays : (ℕ × ℕ → Type 0) → List (List (ℕ × ℕ)) → Type 0
HasSeveralWays IsOne [] = ⊥
HasSeveralWays IsOne (mark ∷ marks) =
    ((head : ℕ) × GoesBack IsOne head mark × HasOne (GoesBack IsOne head) marks)
    ⊎ HasSeveralWays IsOne marks

-- Which of the marks before it a mark is to stand inside of: the last one inside whose loop its own
-- stands; and none where, of all marks, its loop stands inside several ways back of one loop.
abbrev pub IsWithin : (ℕ × ℕ → ℕ × ℕ → Type 0) → List (List (ℕ × ℕ)) → List (List (ℕ × ℕ))
    → List (ℕ × ℕ) → Within → Type 0
IsWithin IsInside all before mark within.SeveralWays =
    HasSeveralWays (IsRound IsInside mark) all
IsWithin IsInside all before mark within.Run =
    ¬ HasSeveralWays (IsRound IsInside mark) all
    × IsLastNumber (IsMarkRound IsInside mark) before None
IsWithin IsInside all before mark (within.Mark number) =
    ¬ HasSeveralWays (IsRound IsInside mark) all
    × IsLastNumber (IsMarkRound IsInside mark) before (Some number)
IsWithin IsInside all before mark within.Shared = ⊥

-- a mark on each of these edges alone
abbrev pub alone : List (ℕ × ℕ) → List (List (ℕ × ℕ))
alone edges = map (λ edge. edge ∷ []) edges

-- the edge goes back to the location
abbrev pub goes_onto : ℕ → ℕ × ℕ → Bool
goes_onto head edge = edge.1 == head

-- Those of some edges that go back to the location share a mark: with a mark on each, the loop of
-- one of the inner edges would stand inside several ways back of one loop.
abbrev pub ShareMark : (ℕ × ℕ → ℕ × ℕ → Type 0) → List (ℕ × ℕ) → List (ℕ × ℕ) → ℕ → Type 0
ShareMark IsInside inners edges head =
    HasOne (λ inner. HasSeveralWays (IsRound IsInside (inner ∷ []))
    (alone (filter (goes_onto head) edges))) inners

-- these are the locations that edges go back to which share a mark
pub record AreShared (IsInside : ℕ × ℕ → ℕ × ℕ → Type 0) (inners edges : List (ℕ × ℕ))
    (shared : List ℕ) : Type 0 where
  pub only : (head : ℕ) → Contains shared head → ShareMark IsInside inners edges head
  pub all : (edge : ℕ × ℕ) → Contains edges edge → ShareMark IsInside inners edges edge.1
      → Contains shared edge.1

-- the mark of one of some edges: on all of these that share it, or on this one alone
abbrev pub mark_on : List ℕ → List (ℕ × ℕ) → ℕ × ℕ → List (ℕ × ℕ)
mark_on shared edges edge =
    if is_among shared edge.1 then filter (goes_onto edge.1) edges else edge ∷ []

-- whether the edge is a mark's first
abbrev pub begins : List (ℕ × ℕ) → ℕ × ℕ → Bool
begins [] edge = false
begins (first ∷ others) edge = leads edge.0 edge.1 first

-- the mark that comes with one of some edges, if it is the mark's first
abbrev pub new_mark : List ℕ → List (ℕ × ℕ) → ℕ × ℕ → List (List (ℕ × ℕ))
new_mark shared edges edge =
    if begins (mark_on shared edges edge) edge then mark_on shared edges edge ∷ [] else []

-- the marks that come with some edges
abbrev pub new_marks : List ℕ → List (ℕ × ℕ) → List (ℕ × ℕ) → List (List (ℕ × ℕ))
new_marks shared edges those = flat_map (new_mark shared edges) those

-- Which mark the mark of an edge is to stand inside of, told where the edge is the mark's first;
-- any other one shares the mark.
abbrev pub IsTold : (ℕ × ℕ → ℕ × ℕ → Type 0) → List (List (ℕ × ℕ)) → List (List (ℕ × ℕ))
    → List (ℕ × ℕ) → ℕ × ℕ → Within → Type 0
IsTold IsInside all before mark edge told =
    ((begins mark edge ≡ true) × IsWithin IsInside all before mark told)
    ⊎ ((begins mark edge ≡ false) × (told ≡ within.Shared))

-- the same where all marks are those of the notes, and then those that come with these edges
abbrev pub IsToldBehind : (ℕ × ℕ → ℕ × ℕ → Type 0) → List (List (ℕ × ℕ)) → List ℕ
    → List (ℕ × ℕ) → List (ℕ × ℕ) → ℕ × ℕ → Within → Type 0
IsToldBehind IsInside marks shared edges before edge told =
    IsTold IsInside (marks ++ new_marks shared edges edges) (marks ++ new_marks shared edges before)
    (mark_on shared edges edge) edge told

-- Loops, each with the mark that a mark on its edge is to stand inside of, which goes by the edges
-- before it.
abbrev pub AreToldInside : (List (ℕ × ℕ) → ℕ × ℕ → Within → Type 0) → List (ℕ × ℕ)
    → List (ℕ × ℕ) → List Finding → Type 0
AreToldInside IsTold before [] loops = loops ≡ []
AreToldInside IsTold before (edge ∷ edges) loops =
    (within : Within) × (others : List Finding)
    × IsTold before edge within
    × (loops ≡ closes edge within ∷ others)
    × AreToldInside IsTold (before ++ edge ∷ []) edges others

-- the loops of these edges, each with the mark that a mark on it is to stand inside of
abbrev pub AreToldApart : (ℕ × ℕ → ℕ × ℕ → Type 0) → Notes → List (ℕ × ℕ) → List Finding → Type 0
AreToldApart IsInside notes edges loops =
    (shared : List ℕ) × AreShared IsInside (marked_edges notes ++ edges) edges shared
    × AreToldInside (IsToldBehind IsInside (marks_of notes) shared edges) [] edges loops

-- The loops of these edges, as they are listed. With more than 64 edges in all none is said to
-- stand inside another one: it would take too long.
abbrev pub AreLoops : (ℕ → Option Word) → Notes → ℕ → List Node → List (ℕ × ℕ) → List Finding
    → Type 0
AreLoops loads notes start nodes edges loops =
    ((length (marked_edges notes) + length edges ≤ 64)
    × AreFewestFirst (IsLoopInside loads notes start nodes) edges
    × AreToldApart (IsLoopInside loads notes start nodes) notes edges loops)
    ⊎ ((64 < length (marked_edges notes) + length edges)
    × (loops ≡ map (λ edge. closes edge within.Run) edges))
