-- Of site_rows: each row so far is made of that of its site's location.
use Rattle.std.proofs.Common.{◌≡◌, ◌∙◌, ℕ, ◌+◌, List, length, Some, sym, ap, subst, inl, inr, arith}
use Rattle.std.specs.Prelude.{slice_get}
use Rattle.std.proofs.lemmas.List.{length_push}
use Rattle.std.proofs.lemmas.Option.{same_Some, slice_get_within}
use Rattle.base_graphs.proofs.Lists.{contains_from_get}
use Rattle.flow_graph.specs.Flow.{deck_of, executed_in, nodes_of, notes_of}
use Rattle.flow_graph.specs.SettingOf.{setting}
use Rattle.ceiling_rows.specs.declared.site_row.SiteRow.{SiteRow}
use Rattle.ceiling_rows.specs.declared.sites.Site.{Site}
use Rattle.ceiling_rows.specs.SiteRows.{IsMadeOf}
use Rattle.ceiling_rows.specs.Sites.{sites_in}
use Rattle.ceiling_rows.proofs.Angles.{executed_location}
use Rattle.ceiling_rows.proofs.Pushed.{pushed}
use Rattle.ceiling_rows.proofs.SiteLaws.{made_row}
use Rattle.ceiling_rows.proofs.site_row.site_rows.Goals as goal

pub site_row-requires : goal.site_row-requires
site_row-requires c =
    let of = c.requires.sites.only c.at.result
    (contains_from_get (sites_in c.args.sites.now) c.loop-number.number c.at.result c.at.ensures) in
    slice_get_within (nodes_of c.args.flow.now) c.at.result.node of.0 of.1.0

pub loop-number-preserved : goal.loop-number-preserved
loop-number-preserved c =
    let made = c.loop-number.made.items in
    let row = c.in_ok-row.row in
    record {
      long =
          ap (λ (rows : List SiteRow). length rows) c.in_ok-push.ensures.items ∙ length_push made row
          ∙ ap (λ (n : ℕ). n + 1) c.loop-number.invariant.long;
      each = λ number one site at there.
          elim (pushed made row one number
          (subst (λ (rows : List SiteRow). slice_get rows number ≡ Some one) c.in_ok-push.ensures.items at)) [
            | inl before ↦ c.loop-number.invariant.each number one site before there
            | inr last ↦ (
                let number_is : c.loop-number.number ≡ number = omega (arith, last.0, c.loop-number.invariant.long) in
                let site_is : c.at.result ≡ site =
                same_Some c.at.result site
                (sym c.at.ensures ∙ ap (slice_get (sites_in c.args.sites.now)) number_is ∙ there) in
                subst (λ (s : Site). IsMadeOf (notes_of c.args.flow.now) (nodes_of c.args.flow.now)
                (sites_in c.args.sites.now) c.args.rows.now s one) site_is
                (subst (λ (r : SiteRow). IsMadeOf (notes_of c.args.flow.now) (nodes_of c.args.flow.now)
                (sites_in c.args.sites.now) c.args.rows.now c.at.result r) last.1 c.in_ok-row.ensures))
          ];
    }

pub returns : goal.returns
returns c times are =
    let flow = c.args.flow.now in
    let g = setting (deck_of flow) times (notes_of flow) in
    let long : length c.loop-number.made.items ≡ length (sites_in c.args.sites.now) =
    omega (
      arith,
      c.loop-number.invariant.long,
      c.loop-number-test.false,
      c.len-number-end.ensures.long,
      c.loop-number.auto.number-end,
    ) in
    record {
      long = long;
      each = λ number row node angle at is.
          made_row g (nodes_of flow) (sites_in c.args.sites.now) c.requires.nodes c.requires.sites (executed_in flow)
          c.args.rows.now number is.0 node angle row c.requires.found (executed_location flow) are is is.1
          (c.loop-number.invariant.each number row is.0 at is.1);
    }
