use Rattle.std.proofs.Common.{◌≡◌, ℕ, ◌<◌, ◌⊎◌}
use Rattle.std.specs.Prelude.{Contains}
use Rattle.machine_steps.specs.Timing.{found}
use Rattle.ceiling_rows.specs.declared.sites.Site.{Site}
use Rattle.ceiling_rows.specs.Sites.{sites_in}
use Rattle.ceiling_rows.proofs.sites.Sites.add.Given as goal

-- the sites at the angles so far, and those from before
abbrev pub invariant-loop-angle : goal.invariant-loop-angle
invariant-loop-angle l = record {
  kept : (site : Site) → Contains (sites_in l.fn.self) site → Contains (sites_in l.self) site;
  added : (angle : ℕ) → angle < l.angle → found l.location.number angle ≡ angle
      → Contains (sites_in l.self) (record { node = l.node; angle = angle });
  only : (site : Site) → Contains (sites_in l.self) site → Contains (sites_in l.fn.self) site
      ⊎ ((site.node ≡ l.node) × (site.angle < 50) × (found l.location.number site.angle ≡ site.angle));
}
