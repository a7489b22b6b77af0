-- The lines of a walk in rounds, in the order in which the walk comes to its pieces. A hop is told
-- each time. Another piece that is named more than once is a part: it is told where it first comes,
-- and named where it comes again. Of rounds the first is told. A location has four digits, an
-- operation two, and other numbers are plain decimal.
use Rattle.std.specs.Prelude.{ℕ, suc, ◌+◌, ◌-◌, ◌*◌, ◌==◌, ◌&&◌, nat_lt, Bool, true, false}
use Rattle.std.specs.Prelude.{if◌then◌else◌, List, [], ◌∷◌, ◌++◌, length, filter, flat_map}
use Rattle.std.specs.Prelude.{slice_get, codes, decimal, Option, Some, None}
use Rattle.base_words.specs.declared.op.Op.{Op}
use Rattle.base_words.specs.Numeral.{digits_of}
use Rattle.base_notes.specs.declared.entry.Entry.{Entry}
use Rattle.flow_walks.specs.Visited.{Visited}
use Rattle.flow_walks.specs.declared.piece.Piece.{Piece}
use Rattle.flow_walks.specs.declared.piece.Piece.TheVariants as piece
use Rattle.flow_walks.specs.Pieces.{named, seen_placed, spelled_of, PlacedHop}
use Rattle.ceiling_rounds.specs.InRounds as walks
use Rattle.ceiling_rounds.specs.InRounds.{takes}
use Rattle.ceiling_checked.specs.declared.bracket.Bracket.{Bracket}
use Rattle.print_hops.specs.Moments.{later, moments_of}
use Rattle.print_hops.specs.MomentsText.{moments_text}
use Rattle.print_hops.specs.WalkText.{hop_text}
use Rattle.print_ceilings.specs.CeilingText.{bracket_lines}

-- ---- a hop

-- a hop of a piece, begun and ended with so many word times used
abbrev pub from_to : ℕ → ℕ → PlacedHop → Visited
from_to begun ended one = record {
  place = one.place;
  ins = one.hop.ins;
  way = one.hop.way;
  begun = begun;
  ended = ended;
}

-- its line; its moments are those of a begin at its angle, so much later
abbrev pub placed_line : (Op → Entry) → ℕ → ℕ → PlacedHop → List ℕ
placed_line times begun ended one =
    hop_text (from_to begun ended one) ++ codes " begun " ++ decimal begun
    ++ moments_text (later begun (moments_of times one.angle one.place one.hop.ins one.hop.way 0))
    ++ codes " ended " ++ decimal ended ++ codes "\n"

-- ---- other lines

-- the first line of a part, by its number, and the last
abbrev pub part_line : ℕ → List ℕ
part_line part = codes "part " ++ decimal part ++ codes "\n"

abbrev pub end_line : ℕ → List ℕ
end_line part = codes "end " ++ part_line part

-- the line of a part that comes again
abbrev pub again_line : ℕ → ℕ → ℕ → List ℕ
again_line part begun ended =
    codes "part " ++ decimal part ++ codes " again begun " ++ decimal begun ++ codes " ended "
    ++ decimal ended ++ codes "\n"

-- the first line of rounds: how many, and from which location they go on with which; and the last
abbrev pub rounds_line : ℕ → ℕ → ℕ → List ℕ
rounds_line times from onto =
    codes "rounds " ++ decimal times ++ codes " of " ++ digits_of 4 from ++ codes " "
    ++ digits_of 4 onto ++ codes "\n"

abbrev pub end_rounds_line : ℕ → ℕ → List ℕ
end_rounds_line each ended =
    codes "end rounds each " ++ decimal each ++ codes " ended " ++ decimal ended ++ codes "\n"

-- ---- how far a walk is told

-- another piece than a hop
abbrev pub is_composed : Option Piece → Bool
is_composed (Some (piece.Hop one)) = false
is_composed (Some _) = true
is_composed None = false

-- The piece with this number is a part: it is no hop, and is named more than once.
abbrev pub is_part : List Piece → ℕ → Bool
is_part pieces number =
    is_composed (slice_get pieces number)
    && nat_lt 1 (length (filter (λ other. other == number) (flat_map named pieces)))

-- how many parts have begun, the number of each, by that of its piece, and the word times used
pub record PartsSoFar : Type 0 where
  pub begun : ℕ
  pub part : ℕ → Option ℕ
  pub time : ℕ

-- lines, and how far the walk is told then
abbrev pub Telling : Type 0
Telling = PartsSoFar → List (List ℕ) × PartsSoFar

-- a line before and one behind
abbrev pub between : List ℕ → List (List ℕ) × PartsSoFar → List ℕ → List (List ℕ) × PartsSoFar
between first told last = (first ∷ told.0 ++ last ∷ [], told.1)

-- one and then the other
abbrev pub both : Telling → Telling → Telling
both one other told =
    let first = one told in
    let second = other first.1 in (first.0 ++ second.0, second.1)

abbrev pub nothing : Telling
nothing told = ([], told)

-- the same, with so many word times used
abbrev pub at_time : ℕ → PartsSoFar → PartsSoFar
at_time time told = record { begun = told.begun; part = told.part; time = time }

-- one part more has begun: the piece with this number
abbrev pub one_more : ℕ → PartsSoFar → PartsSoFar
one_more number told = record {
  begun = suc told.begun;
  part = λ other. if other == number then Some (suc told.begun) else told.part other;
  time = told.time;
}

-- ---- pieces

-- a part, where it first comes
abbrev pub first_part : ℕ → Telling → Telling
first_part number tell told =
    let part = suc told.begun in
    between (part_line part) (tell (one_more number told)) (end_line part)

-- and where it comes again
abbrev pub part_again : ℕ → Telling → Telling
part_again part tell told =
    let ended = (tell told).1.time in
    (again_line part told.time ended ∷ [], at_time ended told)

abbrev pub tell_part : ℕ → Option ℕ → Telling → Telling
tell_part number None = first_part number
tell_part number (Some part) = part_again part

-- a piece with this number, which may be a part; nothing is told of one that isn't there
abbrev pub tell_one : Bool → ℕ → Option Telling → Telling
tell_one part number None = nothing
tell_one false number (Some tell) = tell
tell_one true number (Some tell) = λ told. tell_part number (told.part number) tell told

-- the piece with this number, by how each is told
abbrev pub tell_named : List Piece → List Telling → ℕ → Telling
tell_named pieces tellings number =
    tell_one (is_part pieces number) number (slice_get tellings number)

-- pieces in a row, by how each is told
abbrev pub tell_row : (ℕ → Telling) → List ℕ → Telling
tell_row tell [] = nothing
tell_row tell (number ∷ numbers) = both (tell number) (tell_row tell numbers)

-- the place of the first of hops, and of the last
abbrev pub first_place : List PlacedHop → ℕ
first_place [] = 0
first_place (hop ∷ hops) = hop.place

abbrev pub last_place : List PlacedHop → ℕ
last_place [] = 0
last_place (hop ∷ []) = hop.place
last_place (hop ∷ hops) = last_place hops

-- So many rounds of these hops, told as they are once.
abbrev pub tell_rounds : ℕ → List PlacedHop → Telling → Telling
tell_rounds times hops tell told =
    let once = tell told in
    let each = once.1.time - told.time in
    let ended = told.time + times * each in
    between (rounds_line times (last_place hops) (first_place hops)) (once.0, at_time ended once.1)
    (end_rounds_line each ended)

-- a piece, by how those before it are told
abbrev pub tell_by : (Op → Entry) → List Piece → List Telling → Piece → Telling
tell_by times pieces before (piece.Hop one) told =
    let hop = seen_placed one in
    let ended = told.time + takes times hop in
    (placed_line times told.time ended hop ∷ [], at_time ended told)
tell_by times pieces before (piece.Row numbers) told =
    tell_row (tell_named pieces before) numbers.items told
tell_by times pieces before (piece.Rounds rounds) told =
    tell_rounds rounds.times (spelled_of pieces rounds.piece)
    (tell_named pieces before rounds.piece) told

-- all of these pieces, behind some
abbrev pub tell_behind : (Op → Entry) → List Piece → List Telling → List Piece → List Telling
tell_behind times pieces before [] = before
tell_behind times pieces before (one ∷ others) =
    tell_behind times pieces (before ++ tell_by times pieces before one ∷ []) others

-- the whole, which is the last of them, from the beginning
abbrev pub tell : (Op → Entry) → List Piece → List (List ℕ) × PartsSoFar
tell times pieces =
    tell_named pieces (tell_behind times pieces [] pieces) (length pieces - 1)
    (record { begun = 0; part = λ _. None; time = 0 })

-- lines, one after the other
abbrev pub joined : List (List ℕ) → List ℕ
joined lines = flat_map (λ line. line) lines

-- The walk beside a ceiling, and the lines of what it takes and of the ceiling.
abbrev pub rounds_text : (Op → Entry) → Bracket → List ℕ
rounds_text times bracket =
    joined (tell times (walks.pieces_of bracket.walk)).0
    ++ bracket_lines bracket
