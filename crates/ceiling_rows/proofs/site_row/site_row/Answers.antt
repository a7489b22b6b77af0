-- Of site_row: the row of the location at its angle is the one that is there.
use Rattle.std.proofs.Common.{◌≡◌, ℕ, ◌%◌, List, Some, sym, ap, ◌∙◌, subst, arith}
use Rattle.std.specs.Prelude.{length, slice_get}
use Rattle.std.proofs.lemmas.Bool.{ltb-true}
use Rattle.std.proofs.lemmas.Option.{same_Some, slice_get-get_or}
use Rattle.flow_graph.specs.Flow.{nodes_of, notes_of}
use Rattle.flow_graph.specs.Hops.{Node}
use Rattle.ceiling_rows.specs.declared.row.Edge.{Edge}
use Rattle.ceiling_rows.specs.declared.row.Row.{Row}
use Rattle.ceiling_rows.specs.declared.site_row.SiteEdge.{SiteEdge}
use Rattle.ceiling_rows.specs.SiteRows.{HasAllOnward}
use Rattle.ceiling_rows.specs.Sites.{sites_in}
use Rattle.ceiling_rows.specs.Slot.{slot_of}
use Rattle.ceiling_rows.proofs.site_row.site_row.Goals as goal

pub returns : goal.returns
returns c from row at there =
    let rows = c.args.rows.now in
    let k = c.from.result in
    let node_is : c.location-location.ensures.0 ≡ from = same_Some c.location-location.ensures.0 from (sym c.location-location.ensures.1 ∙ at) in
    let number : k ≡ slot_of from.place (c.args.site.angle % 50) =
    c.from.ensures ∙ c.of-slot.ensures
    ∙ ap (λ (p : ℕ). slot_of p (c.args.site.angle % 50)) (c.location-location.ensures.2 ∙ ap (λ (n : Node). n.place) node_is) in
    let here : slice_get rows k ≡ Some (Some c.in-Some-Some.row) =
    slice_get-get_or rows k c.in-Some-Some.field-0.now (ltb-true k (length rows) (sym c.in-Some-Some.ensures.lookup.0))
    ∙ ap Some (sym c.in-Some-Some.ensures.lookup.1 ∙ c.in-Some-Some.field-0-is) in
    let both : Some (Some c.in-Some-Some.row) ≡ Some (Some row) = sym here ∙ ap (slice_get rows) number ∙ there in
    let same : c.in-Some-Some.row ≡ row =
    same_Some c.in-Some-Some.row row (same_Some (Some c.in-Some-Some.row) (Some row) both) in (
      omega (arith, ap (λ (r : Row). r.stop) same, c.of.ensures.own),
      c.of.ensures.within,
      subst (λ (edges : List SiteEdge). HasAllOnward (notes_of c.args.flow.now) (nodes_of c.args.flow.now)
          (sites_in c.args.sites.now) from row.edges.items edges) (sym c.of.ensures.edges)
          (subst (λ (edges : List Edge). HasAllOnward (notes_of c.args.flow.now) (nodes_of c.args.flow.now)
          (sites_in c.args.sites.now) from edges c.in_ok-edges.edges.items)
          (c.deref.ensures.value ∙ ap (λ (r : Row). r.edges.items) same) (c.in_ok-edges.ensures from at)),
    )
