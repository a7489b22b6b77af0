use Rattle.ceiling_rows.specs.Sites.{sites_in}
use Rattle.ceiling_rows.proofs.SiteKeys.{keys_different}
use Rattle.ceiling_rows.proofs.sites.Sites.len.Goals as goal

pub returns-clause-different : goal.returns-clause-different
returns-clause-different c = keys_different (sites_in c.args.self.now) c.as_slice.ensures.apart
