use Rattle.std.proofs.Common.{sym, ◌∙◌}
use Rattle.ceiling_rows.specs.Sites.{sites_in}
use Rattle.ceiling_rows.proofs.SiteKeys.{if_some, key_found}
use Rattle.ceiling_rows.proofs.sites.Sites.number.Goals as goal

pub returns-clause-found : goal.returns-clause-found
returns-clause-found c =
    if_some c.index_of.result _
    (λ k e. key_found (sites_in c.args.self.now) (record { node = c.args.node; angle = c.args.angle }) k
    (sym c.index_of.ensures.index ∙ e))
