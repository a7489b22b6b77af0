-- The search for a key's instruction, as it is held, and the ends of the key's hops.
use Rattle.std.specs.Prelude.{◌≡◌, ℕ, List, Option, Some}
use Rattle.machine_rotation.specs.Available.{is_available}
use Rattle.machine_rotation.specs.Moment.{first}
use Rattle.machine_steps.specs.WaysLeft.{seen_way}
use Rattle.flow_graph.specs.Walk.{Setting}
use Rattle.bound_scan.specs.declared.key_hop.KeyHop.{KeyHop}
use Rattle.bound_scan.specs.declared.latest.Latest.{Latest}
use Rattle.bound_scan.specs.declared.leap.Leap.{Leap}
use Rattle.bound_scan.specs.declared.instruction_search.InstructionSearch.{InstructionSearch}
use Rattle.bound_scan.specs.Keys.{place_at}
use Rattle.flow_graph.specs.Longest.{longest}
use Rattle.bound_scan.specs.Scanned.{cell_at}

-- this clock is kept at a key
abbrev pub KeepsAt : List (Option Latest) → ℕ → ℕ → Type 0
KeepsAt cells key clock = (kept : Latest) × (cell_at cells key ≡ Some kept) × (kept.clock ≡ clock)

-- The search is for the location of its key, begins at the clock that is kept there, and finds the
-- instruction when that can first be had.
pub record IsSearch (order : List ℕ) (cells : List (Option Latest))
    (search : InstructionSearch) : Type 0 where
  pub there : search.location.number ≡ place_at order search.key
  pub begun : KeepsAt cells search.key search.begun
  pub found : search.found ≡ first (is_available search.location.number) search.begun

-- the hop of this number of the key whose instruction is sought
abbrev pub hop_sought : InstructionSearch → ℕ → KeyHop
hop_sought search number = record { key = search.key; number = number }

-- the latest end of that hop, from the clock at which the search begins
abbrev pub end_sought : Setting → InstructionSearch → ℕ → Leap → Latest
end_sought g search number leap = record {
  clock = longest g.times search.location.number leap.hop.instruction (seen_way leap.hop.way)
      search.begun;
  origin = Some (hop_sought search number);
}
