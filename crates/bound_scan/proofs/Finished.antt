-- What a finished scan, as it is held, gives to the lemmas on its cells.
use Rattle.std.proofs.Common.{◌≡◌, ℕ, ◌+◌, ◌<◌, ◌≤◌, Some, sym, ◌∙◌, arith}
use Rattle.read_decks.specs.declared.deck.Deck.{Deck}
use Rattle.read_decks.specs.InDeck.{start_in}
use Rattle.machine_steps.specs.Timing.{longest_step}
use Rattle.flow_graph.specs.Flow.{deck_of}
use Rattle.flow_graph.proofs.LongestLaws.{longest_near}
use Rattle.bound_scan.specs.declared.key_hop.KeyHop.{KeyHop}
use Rattle.bound_scan.specs.declared.latest.Latest.{Latest}
use Rattle.bound_scan.specs.declared.scan.Scan.{Scan}
use Rattle.bound_scan.specs.Keys.{place_at, IsOrdered}
use Rattle.bound_scan.specs.ScanOf.{IsDone, order_of, setting_in, size_in}
use Rattle.bound_scan.specs.Scanned.{cell_at, IsEndOf}
use Rattle.bound_scan.specs.Table.{start_angle}
use Rattle.bound_scan.specs.InCells.{kept_in}
use Rattle.bound_scan.proofs.Walked.{not_before}

-- a deck starts on the drum
starts_there : (deck : Deck) → start_in deck < 2000
starts_there deck = deck.on_drum

-- and so does what its walks are in
pub starts_on_drum : {L : Type 0} (scan : Scan L) → (setting_in scan).start < 2000
starts_on_drum scan = starts_there (deck_of scan.keys.now.accepted.now.flow)

-- the order of its locations is one that keys can be made of
pub is_ordered : {L : Type 0} (scan : Scan L) → IsDone scan
    → IsOrdered (setting_in scan).loads (setting_in scan).notes (setting_in scan).start (order_of scan)
is_ordered scan done = done.keys.ordered.0

-- what it keeps is no earlier than the start
pub kept_after : {L : Type 0} (scan : Scan L) (key : ℕ) (kept : Latest) → IsDone scan → cell_at (kept_in scan.cells) key ≡ Some kept
    → start_angle (setting_in scan).start ≤ kept.clock
kept_after scan key kept done there =
    not_before (setting_in scan) (order_of scan) (kept_in scan.cells) scan.cells.last (is_ordered scan done)
    (starts_on_drum scan) done.scanned key kept there

-- an end of a hop comes soon behind what its key keeps
pub ends_soon : {L : Type 0} (scan : Scan L) (origin : KeyHop) (begin : Latest) (clock : ℕ)
    → IsEndOf (setting_in scan) (order_of scan) (size_in scan) (kept_in scan.cells) origin clock
    → cell_at (kept_in scan.cells) origin.key ≡ Some begin → clock ≤ begin.clock + longest_step
ends_soon scan origin begin clock end there =
    omega (
      arith,
      end.end,
      longest_near (setting_in scan).times (place_at (order_of scan) origin.key) end.hop.ins end.hop.way end.kept.clock,
      same end.kept begin (sym end.there ∙ there),
    )
  where
    same : (a b : Latest) → Some a ≡ Some b → a.clock ≡ b.clock
    same a b e = cc
