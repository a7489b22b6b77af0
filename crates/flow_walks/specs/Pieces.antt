-- Walks in rounds: what numbered pieces spell out.
use Rattle.std.specs.Prelude.{ℕ, zero, suc, ◌+◌, ◌-◌, ◌%◌, List, [], ◌∷◌, ◌++◌, flat_map, length}
use Rattle.std.specs.Prelude.{slice_get, unwrap_or}
use Rattle.flow_graph.specs.Hops.{Hop}
use Rattle.flow_graph.specs.Seen.{seen_hop}
use Rattle.flow_graph.specs.Walk.{Taken}
use Rattle.flow_walks.specs.declared.piece.Piece.{Piece}
use Rattle.flow_walks.specs.declared.piece.Placed.{Placed}
use Rattle.flow_walks.specs.declared.piece.Piece.TheVariants as piece

-- a hop, the location that it is of, and the drum's angle when the search for that begins
pub record PlacedHop : Type 0 where
  pub place : ℕ
  pub angle : ℕ
  pub hop : Hop

-- a hop of a walk from this angle, with its own angle in place of its times
abbrev pub placed : ℕ → Taken → PlacedHop
placed start hop = record {
  place = hop.place;
  angle = (start + hop.begun) % 50;
  hop = record { ins = hop.ins; way = hop.way };
}

-- a hop as the code has it
abbrev pub seen_placed : Placed → PlacedHop
seen_placed one =
    record { place = one.location.number; angle = one.angle; hop = seen_hop one.hop }

-- the pieces that a piece names, by their numbers
abbrev pub named : Piece → List ℕ
named (piece.Hop one) = []
named (piece.Row pieces) = pieces.items
named (piece.Rounds rounds) = rounds.piece ∷ []

-- a list so many times over
abbrev pub repeated : {X : Type 0} → ℕ → List X → List X
repeated zero xs = []
repeated (suc times) xs = xs ++ repeated times xs

-- what the piece with this number spells out; nothing where there is none
abbrev pub spelled_at : List (List PlacedHop) → ℕ → List PlacedHop
spelled_at pieces number = unwrap_or (slice_get pieces number) []

-- What a piece spells out, by what those before it do: a hop itself; pieces in a row, one after the
-- other; rounds of a piece, the same so many times over.
abbrev pub spelled_by : List (List PlacedHop) → Piece → List PlacedHop
spelled_by before (piece.Hop one) = seen_placed one ∷ []
spelled_by before (piece.Row pieces) = flat_map (spelled_at before) pieces.items
spelled_by before (piece.Rounds rounds) = repeated rounds.times (spelled_at before rounds.piece)

-- what all pieces spell out, each by those before it; these stand behind some that spell out so
-- much
abbrev pub spelled_behind : List (List PlacedHop) → List Piece → List (List PlacedHop)
spelled_behind before [] = before
spelled_behind before (piece ∷ pieces) =
    spelled_behind (before ++ (spelled_by before piece ∷ [])) pieces

-- what each of these pieces spells out; that of the last is the whole
abbrev pub spelled_of : List Piece → ℕ → List PlacedHop
spelled_of pieces = spelled_at (spelled_behind [] pieces)

abbrev pub spelled : List Piece → List PlacedHop
spelled pieces = spelled_of pieces (length pieces - 1)
