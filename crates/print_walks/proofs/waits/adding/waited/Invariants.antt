use Rattle.std.proofs.Common.{◌≡◌, ◌*◌, ◌≤◌, map, take}
use Rattle.base_notes.specs.Entries.{entry_in}
use Rattle.flow_walks.specs.Visited.{seen_visit}
use Rattle.print_hops.specs.KindsOf.{waited_of}
use Rattle.print_walks.proofs.waits.adding.waited.Given as goal

-- what the hops so far wait, each less than 2^64
abbrev pub invariant-loop-visit : goal.invariant-loop-visit
invariant-loop-visit l = record {
  so_far : l.waited ≡ waited_of (entry_in l.times) l.angle (map seen_visit (take l.visit-index l.walk));
  instruction : l.waited.instruction ≤ 18446744073709551616 * l.visit-index;
  operand : l.waited.operand ≤ 18446744073709551616 * l.visit-index;
  cards : l.waited.cards ≤ 18446744073709551616 * l.visit-index;
}
