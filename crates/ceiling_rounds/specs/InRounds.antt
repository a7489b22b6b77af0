-- When a walk in rounds is right.
use Rattle.std.specs.Prelude.{◌≡◌, ℕ, ◌+◌, ◌-◌, ◌*◌, ◌^◌, ◌<◌, ◌≤◌, List, [], ◌∷◌, map, length}
use Rattle.std.specs.Prelude.{slice_index, sum_by}
use Rattle.read_decks.specs.declared.deck.Deck.{Deck}
use Rattle.base_words.specs.declared.op.Op.{Op}
use Rattle.base_notes.specs.declared.entry.Entry.{Entry}
use Rattle.base_notes.specs.declared.times.Times.{Times}
use Rattle.base_notes.specs.Allowed.{Notes}
use Rattle.base_notes.specs.Entries.{entry_in}
use Rattle.machine_steps.specs.Since.{passes_of}
use Rattle.flow_graph.specs.Longest.{longest}
use Rattle.flow_graph.specs.Walk.{edges_taken}
use Rattle.flow_graph.specs.SettingOf.{setting}
use Rattle.flow_graph.specs.Walk.{Setting, Taken, IsWalk, time_of}
use Rattle.flow_walks.specs.Visited.{AreLongest, visited}
use Rattle.flow_walks.specs.declared.piece.Piece.{Piece}
use Rattle.flow_walks.specs.declared.piece.Piece.TheVariants as piece
use Rattle.flow_walks.specs.Pieces.{named, placed, seen_placed, spelled, spelled_of, PlacedHop}
use Rattle.ceiling_rounds.specs.declared.in_rounds.InRounds.{InRounds}
use Rattle.ceiling_rounds.specs.Order.{AreInOrder}

-- What the pieces spell out is a walk from this angle, each of its hops as long as it can be. It
-- takes the total, in word times, and passes each mark so often.
pub record SpellOut (g : Setting) (angle : ℕ) (pieces : List Piece) (passes : List ℕ)
    (total : ℕ) : Type 0 where
  pub order : AreInOrder pieces
  pub hops : List Taken
  pub same : map (placed angle) hops ≡ spelled pieces
  pub walk : IsWalk g angle hops
  pub longest : AreLongest g angle (map visited hops)
  pub time : time_of hops ≡ total
  pub each : length passes ≡ length g.notes.marks
  pub passed : (index : ℕ) → index < length g.notes.marks
      → slice_index passes index ≡ passes_of g.notes.marks index (edges_taken hops)

-- the word times that a hop takes at most
abbrev pub takes : (Op → Entry) → PlacedHop → ℕ
takes times one = longest times one.place one.hop.ins one.hop.way one.angle - one.angle

-- what is added up over the hops that are pieces, each as often as it comes
abbrev pub summed : (PlacedHop → ℕ) → List Piece → List ℕ → ℕ
summed what [] often = 0
summed what (piece ∷ pieces) [] = 0
summed what (piece.Hop one ∷ pieces) (times ∷ often) =
    times * what (seen_placed one) + summed what pieces often
summed what (_ ∷ pieces) (times ∷ often) = summed what pieces often

-- What is known of pieces one by one: how long each takes, and how often each hop comes in the
-- whole walk, so that whatever is added up over its hops is added up over pieces. All of them
-- together name few others.
pub record AreTold (times : Op → Entry) (pieces : List Piece) (lasting often : List ℕ) : Type 0
  where
    pub each : (length lasting ≡ length pieces) × (length often ≡ length pieces)
    pub lasts : (number : ℕ) → number < length pieces
        → slice_index lasting number ≡ sum_by (takes times) (spelled_of pieces number)
    pub adds : (what : PlacedHop → ℕ) → sum_by what (spelled pieces) ≡ summed what pieces often
    pub finite : length (spelled pieces) < 2 ^ 127
    pub few : length pieces + sum_by (λ one. length (named one)) pieces ≤ 2 ^ 32

-- where the drum stands when the walk begins
abbrev pub angle_of : InRounds → ℕ
angle_of walk = walk.angle

-- its pieces, of which the last is the whole walk
abbrev pub pieces_of : InRounds → List Piece
pieces_of walk = walk.pieces.items

-- how often it passes each mark, by its index in the notes
abbrev pub passes_in : InRounds → List ℕ
passes_in walk = walk.passes.items

-- what it takes, in word times
abbrev pub total_of : InRounds → ℕ
total_of walk = walk.total

-- how long each of its pieces takes, in word times
abbrev pub lasting_of : InRounds → List ℕ
lasting_of walk = walk.lasting.items

-- how often each of its pieces comes in the whole walk, where that is a hop
abbrev pub often_of : InRounds → List ℕ
often_of walk = walk.often.items

-- a walk in rounds of a deck with its timing table and notes is right
abbrev pub IsInRoundsOf : Deck → Times → Notes → InRounds → Type 0
IsInRoundsOf deck times notes walk =
    SpellOut (setting deck times notes) (angle_of walk) (pieces_of walk) (passes_in walk)
    (total_of walk)
    × AreTold (entry_in times) (pieces_of walk) (lasting_of walk) (often_of walk)
