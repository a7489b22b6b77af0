-- What one finding is, as it is held; and which flags are those of the locations without a list.
use Rattle.std.specs.Prelude.{ℕ}
use Rattle.base_notes.specs.EdgeOf.{edge_of}
use Rattle.flow_graph.specs.declared.flow_graph.Flow.{Flow}
use Rattle.flow_graph.specs.Flow.{executed_in, notes_of}
use Rattle.flow_acceptance.specs.declared.fixed.Fixed.{Fixed}
use Rattle.flow_acceptance.specs.Fixed.{AreFlagged}
use Rattle.check_findings.specs.declared.finding.Finding as held
use Rattle.check_findings.specs.declared.finding.Finding.TheVariants as finding
use Rattle.check_findings.specs.Finding.{Finding, not_loaded, not_in_profile, alters, too_large}
use Rattle.check_findings.specs.Finding.{closes, unused_mark, unused_list, unused_call, idle, inside}

-- a finding by its numbers
abbrev pub seen : held.Finding → Finding
seen (finding.NotLoaded location) = not_loaded location.number
seen (finding.NotInProfile location op) = not_in_profile location.number op
seen (finding.Alters writer word kept) = alters writer.number word.number kept
seen (finding.TooLarge product) = too_large product
seen (finding.Loop edge within) = closes (edge_of edge) within
seen (finding.UnusedMark edge) = unused_mark (edge_of edge)
seen (finding.UnusedList location) = unused_list location.number
seen (finding.UnusedCall edge) = unused_call (edge_of edge)
seen (finding.Idle first last) = idle first.number last.number
seen (finding.Inside inner outer) = inside (edge_of inner) (edge_of outer)

-- the flags are those of the flow graph's executed locations without a list
abbrev pub AreFixed : Flow → Fixed → Type 0
AreFixed flow fixed = AreFlagged (executed_in flow) (notes_of flow) fixed.flags.items
