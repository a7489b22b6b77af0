-- What the waits of a walk in rounds are, as the code has them.
use Rattle.std.specs.Prelude.{◌≡◌, ℕ, ◌*◌, ◌<◌, Bool, true, false, if◌then◌else◌, List, ◌++◌}
use Rattle.std.specs.Prelude.{flat_map, slice_get, slice_index, take, Option, Some, None}
use Rattle.base_words.specs.declared.op.Op.{Op}
use Rattle.base_notes.specs.declared.entry.Entry.{Entry}
use Rattle.machine_steps.specs.WaysLeft.{seen_way}
use Rattle.flow_graph.specs.Walk.{Setting}
use Rattle.flow_walks.specs.Visited.{Visited}
use Rattle.flow_walks.specs.declared.piece.Piece.{Piece}
use Rattle.flow_walks.specs.declared.piece.Piece.TheVariants as piece
use Rattle.flow_walks.specs.declared.piece.Placed.{Placed}
use Rattle.flow_walks.specs.Pieces.{seen_placed, PlacedHop}
use Rattle.ceiling_rounds.specs.declared.in_rounds.InRounds.{InRounds}
use Rattle.ceiling_rounds.specs.InRounds as walks
use Rattle.ceiling_rounds.specs.InRounds.{summed, takes}
use Rattle.ceiling_checked.specs.declared.bracket.Bracket.{Bracket}
use Rattle.print_hops.specs.declared.kind.Kind.{Kind}
use Rattle.print_hops.specs.declared.sums.Sums.{Sums}
use Rattle.print_hops.specs.declared.waited.Waited.{Waited}
use Rattle.print_hops.specs.TimedHop.{seen_timed}
use Rattle.print_hops.specs.Waits.{for_cards, for_data, for_instruction, is_alike}
use Rattle.print_hops.specs.Waits.{AreDearestFirst}
use Rattle.print_hops.specs.KindsOf.{waited_line, waited_of}
use Rattle.print_hops.specs.WaitsText.{kind_line, wait_line}
use Rattle.print_ceilings.specs.declared.waits.WaitsInRounds.{WaitsInRounds}
use Rattle.print_ceilings.specs.declared.waits.kind_row.KindRow.{KindRow}
use Rattle.print_ceilings.specs.CeilingText.{bracket_lines}
use Rattle.print_ceilings.specs.RoundsText.{from_to}
use Rattle.print_ceilings.specs.SpelledOut.{AreSpelledOut}

-- ---- hops of a kind

-- the kind of a hop of a piece
abbrev pub kind_of : Placed → Kind
kind_of one =
    record { place = one.location; instruction = one.hop.instruction; way = one.hop.way }

-- what hops of a kind have in common
abbrev pub seen_kind : Kind → Visited
seen_kind kind = record {
  place = kind.place.number;
  ins = kind.instruction;
  way = seen_way kind.way;
  begun = 0;
  ended = 0;
}

-- the hop is of this kind
abbrev pub is_of : Kind → PlacedHop → Bool
is_of kind one = is_alike (seen_kind kind) (from_to 0 0 one)

-- a hop alone, begun at time 0 on a drum with its angle
abbrev pub alone : (Op → Entry) → PlacedHop → Visited
alone times one = from_to 0 (takes times one) one

-- how long it waits for its instruction
abbrev pub waits_instruction : (Op → Entry) → PlacedHop → ℕ
waits_instruction times one = for_instruction times one.angle (alone times one)

-- and for its data
abbrev pub waits_data : (Op → Entry) → PlacedHop → ℕ
waits_data times one = for_data times one.angle (alone times one)

-- and for the card machine
abbrev pub waits_cards : (Op → Entry) → PlacedHop → ℕ
waits_cards times one = for_cards times (alone times one)

-- a number of each hop that passes a test, and 0 of the others
abbrev pub of_those : (PlacedHop → Bool) → (PlacedHop → ℕ) → PlacedHop → ℕ
of_those is what one = if is one then what one else 0

-- what those hops take that are these pieces, each as often as it comes
abbrev pub sums_over : (Op → Entry) → (PlacedHop → Bool) → List Piece → List ℕ → Sums
sums_over times is pieces often = record {
  visits = summed (of_those is (λ _. 1)) pieces often;
  time = summed (of_those is (takes times)) pieces often;
  instruction = summed (of_those is (waits_instruction times)) pieces often;
  operand = summed (of_those is (waits_data times)) pieces often;
}

-- the hop that a piece is, if it is one
abbrev pub hop_in : Piece → Option Placed
hop_in (piece.Hop one) = Some one
hop_in (piece.Row pieces) = None
hop_in (piece.Rounds rounds) = None

-- ---- rows

-- no piece with a number below this is one of those hops
abbrev pub AreNoneBelow : (PlacedHop → Bool) → List Piece → ℕ → Type 0
AreNoneBelow is pieces limit = (number : ℕ) (one : Placed) → number < limit
    → slice_get pieces number ≡ Some (piece.Hop one) → is (seen_placed one) ≡ false

-- A row of some hops has the first piece that is one of them, its hop alone, and what those take
-- that are pieces below a limit.
pub record IsRow (times : Op → Entry) (pieces : List Piece) (often : List ℕ) (limit : ℕ)
    (is : PlacedHop → Bool) (row : KindRow) : Type 0 where
  pub one : Placed
  pub here : slice_get pieces row.number ≡ Some (piece.Hop one)
  pub has : is (seen_placed one) ≡ true
  pub first : AreNoneBelow is pieces row.number
  pub told : seen_timed row.told ≡ alone times (seen_placed one)
  pub angle : row.angle ≡ one.angle
  pub sums : row.sums ≡ sums_over times is (take limit pieces) (take limit often)

-- the row of some hops; none, where no such piece is one of them
abbrev pub IsRowOf : (Op → Entry) → List Piece → List ℕ → ℕ → (PlacedHop → Bool)
    → Option KindRow → Type 0
IsRowOf times pieces often limit is None = AreNoneBelow is pieces limit
IsRowOf times pieces often limit is (Some row) = IsRow times pieces often limit is row

-- the row of one piece, as often as its hop comes
pub record IsOfPiece (times : Op → Entry) (often : List ℕ) (at : ℕ) (one : Placed)
    (row : KindRow) : Type 0 where
  pub number : row.number ≡ at
  pub told : seen_timed row.told ≡ alone times (seen_placed one)
  pub angle : row.angle ≡ one.angle
  pub visits : row.sums.visits ≡ slice_index often at
  pub time : row.sums.time ≡ slice_index often at * takes times (seen_placed one)
  pub instruction : row.sums.instruction
      ≡ slice_index often at * waits_instruction times (seen_placed one)
  pub operand : row.sums.operand
      ≡ slice_index often at * waits_data times (seen_placed one)

-- what all hops wait, by the pieces, each as often as it comes
abbrev pub waited_over : (Op → Entry) → List Piece → List ℕ → Waited
waited_over times pieces often = record {
  instruction = summed (waits_instruction times) pieces often;
  operand = summed (waits_data times) pieces often;
  cards = summed (waits_cards times) pieces often;
}

-- ---- the text of rows

-- the line of a row
abbrev pub row_text : (Op → Entry) → KindRow → List ℕ
row_text times row =
    kind_line times row.angle (seen_timed row.told) row.sums.visits row.sums.time
    row.sums.instruction row.sums.operand

-- the rows, in their order
abbrev pub rows_in : WaitsInRounds → List KindRow
rows_in waits = waits.rows.items

-- the lines of all rows, of all hops, of what the walk takes and of the ceiling
abbrev pub listed : (Op → Entry) → WaitsInRounds → Bracket → List ℕ
listed times waits bracket =
    flat_map (row_text times) (rows_in waits)
    ++ waited_line (walks.total_of bracket.walk) waits.waited
    ++ bracket_lines bracket

-- The lines are those of the kinds of a walk in rounds, the dearest first, and beside them is what
-- all its hops wait.
abbrev pub AreWaitsOf : (Op → Entry) → InRounds → WaitsInRounds → Type 0
AreWaitsOf times walk waits = (g : Setting) (visits : List Visited) → g.times ≡ times
    → AreSpelledOut g walk visits
    → (firsts : List Visited) × AreDearestFirst visits firsts
    × (flat_map (row_text times) (rows_in waits)
    ≡ flat_map (wait_line times (walks.angle_of walk) visits) firsts)
    × (waits.waited ≡ waited_of times (walks.angle_of walk) visits)
