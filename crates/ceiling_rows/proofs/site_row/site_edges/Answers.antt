-- Of site_edges: what an edge stands for stays, and that of one more is at its end.
use Rattle.std.proofs.Common.{◌≡◌, ℕ, ◌+◌, List, ◌++◌, Option, Some, take, ap, sym, ◌∙◌, subst, inl, inr}
use Rattle.std.specs.Prelude.{slice_get, Contains, option_to_list, Vec}
use Rattle.std.specs.declared.alloc.Global.{Global}
use Rattle.std.proofs.lemmas.List.{append-nil}
use Rattle.std.proofs.lemmas.Option.{slice_get-get_or}
use Rattle.std.proofs.lemmas.List.Elements.{Contains-append_left, Contains-append_right}
use Rattle.base_notes.specs.Allowed.{Notes}
use Rattle.flow_graph.specs.Flow.{nodes_of, notes_of}
use Rattle.flow_graph.specs.Hops.{Node}
use Rattle.ceiling_rows.specs.declared.row.Edge.{Edge}
use Rattle.ceiling_rows.specs.declared.site_row.SiteEdge.{SiteEdge}
use Rattle.ceiling_rows.specs.declared.sites.Site.{Site}
use Rattle.ceiling_rows.specs.SiteRows.{HasAllOnward, HasOnward}
use Rattle.ceiling_rows.specs.Sites.{sites_in}
use Rattle.ceiling_rows.proofs.Pushed.{all_taken, taken_cases}
use Rattle.ceiling_rows.proofs.site_row.site_edges.Goals as goal
use Rattle.ceiling_rows.proofs.site_row.site_edges.Goals.{in-Some+in_ok-push, in_default}

-- what one list has, a longer one has
onward_more : (notes : Notes) (nodes : List Node) (sites : List Site) (from : Node) (edge : Edge) (made more : List SiteEdge)
    → ((one : SiteEdge) → Contains made one → Contains more one) → HasOnward notes nodes sites from edge made
    → HasOnward notes nodes sites from edge more
onward_more notes nodes sites from edge made more grows has next index leads at there =
    let one = has next index leads at there in
    (one.0, grows one.0 one.1, one.2, one.3, one.4, one.5)

-- the edges of one more
all_more : (notes : Notes) (nodes : List Node) (sites : List Site) (from : Node) (edges : List Edge) (k : ℕ) (edge : Edge)
    (made more new : List SiteEdge) → slice_get edges k ≡ Some edge → more ≡ made ++ new
    → HasAllOnward notes nodes sites from (take k edges) made → HasOnward notes nodes sites from edge new
    → HasAllOnward notes nodes sites from (take (k + 1) edges) more
all_more notes nodes sites from edges k edge made more new here is before own other there =
    elim (taken_cases edges k edge other here there) [
      | inl had ↦ onward_more notes nodes sites from other made more
          (λ one at. subst (λ (all : List SiteEdge). Contains all one) (sym is) (Contains-append_left made new one at))
          (before other had)
      | inr same ↦ onward_more notes nodes sites from other new more
          (λ one at. subst (λ (all : List SiteEdge). Contains all one) (sym is) (Contains-append_right made new one at))
          (subst (λ (e : Edge). HasOnward notes nodes sites from e new) same own)
    ]

pub loop-edge-preserved : goal.loop-edge-preserved
loop-edge-preserved c from at =
    all_more (notes_of c.args.flow.now) (nodes_of c.args.flow.now) (sites_in c.args.sites.now) from c.args.edges.now
    c.loop-edge.edge-index c.edge-item.result c.loop-edge.made.items c.match-site_edge.made.items
    (option_to_list c.site_edge.result)
    (slice_get-get_or c.args.edges.now c.loop-edge.edge-index c.edge-item.result c.loop-edge-test.true
    ∙ ap Some (sym c.edge-item.is))
    (elim c.match-site_edge.branch [
      | in-Some+in_ok-push w ↦ ap (λ (all : Vec SiteEdge Global). all.items) w.made-is ∙ w.in_ok-push.ensures.items
          ∙ ap (λ (one : Option SiteEdge). c.loop-edge.made.items ++ option_to_list one) (sym w.in-Some.is)
      | in_default w ↦ ap (λ (all : Vec SiteEdge Global). all.items) w.made-is ∙ sym (append-nil c.loop-edge.made.items)
          ∙ ap (λ (one : Option SiteEdge). c.loop-edge.made.items ++ option_to_list one) (sym w.in_default.is)
    ])
    (c.loop-edge.invariant from at) (c.site_edge.ensures from at)

pub returns : goal.returns
returns c from at =
    subst (λ (edges : List Edge). HasAllOnward (notes_of c.args.flow.now) (nodes_of c.args.flow.now)
    (sites_in c.args.sites.now) from edges c.loop-edge.made.items)
    (all_taken c.args.edges.now c.loop-edge.edge-index c.loop-edge-test.false) (c.loop-edge.invariant from at)
