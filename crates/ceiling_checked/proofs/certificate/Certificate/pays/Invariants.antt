use Rattle.std.proofs.Common.{take, ◌⊎◌}
use Rattle.std.specs.Prelude.{Contains}
use Rattle.ceiling_rows.specs.declared.site_row.SiteEdge.{SiteEdge}
use Rattle.ceiling_checked.specs.Paying.{IsEdgePaid, IsShut}
use Rattle.ceiling_checked.proofs.certificate.Certificate.pays.Given as goal

-- the edges so far are paid for
abbrev pub invariant-loop-edge : goal.invariant-loop-edge
invariant-loop-edge l = (edge : SiteEdge) → Contains (take l.edge-index l.edge-items) edge
    → IsShut l.marks edge ⊎ IsEdgePaid l.marks l.self l.number l.level edge
