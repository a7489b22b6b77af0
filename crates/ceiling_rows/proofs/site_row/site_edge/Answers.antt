-- Of site_edge: where a step leads to a node that has its site, both are found.
use Rattle.std.proofs.Common.{◌≡◌, ℕ, ◌%◌, List, [], ◌∷◌, Some, refl, ap, sym, ◌∙◌, subst, inl, inr}
use Rattle.std.specs.Prelude.{slice_get, Contains}
use Rattle.std.proofs.lemmas.Option.{same_Some}
use Rattle.base_notes.specs.Allowed.{Notes}
use Rattle.base_graphs.specs.Graph.{AreDifferent}
use Rattle.base_graphs.proofs.Lists.{contains_cases, contains_from_get, contains_here, contains_none, one_place}
use Rattle.flow_graph.specs.Executed.{onward}
use Rattle.flow_graph.specs.Flow.{nodes_of, notes_of}
use Rattle.flow_graph.specs.Hops.{Node}
use Rattle.ceiling_rows.specs.declared.sites.Site.{Site}
use Rattle.ceiling_rows.specs.Sites.{sites_in}
use Rattle.ceiling_rows.specs.Slot.{place_of}
use Rattle.ceiling_rows.proofs.SiteKeys.{site_same}
use Rattle.ceiling_rows.proofs.site_row.site_edge.Goals as goal

-- a list of one has it alone
only_one : (one other : Node) (all : List Node) → all ≡ one ∷ [] → Contains all other → one ≡ other
only_one one other all is there =
    elim (contains_cases one other [] (subst (λ (ns : List Node). Contains ns other) is there))
    [ inl same ↦ same | inr none ↦ absurd (contains_none other none) ]

-- so the node that is found is the one that the step leads to
same_index : (notes : Notes) (nodes : List Node) (node : ℕ) (from next : Node) (place own index j : ℕ) → AreDifferent nodes
    → slice_get nodes node ≡ Some from → Contains (onward notes from place) next → slice_get nodes index ≡ Some next
    → own ≡ place → (one other : Node) × (slice_get nodes node ≡ Some one) × (slice_get nodes j ≡ Some other)
    × (onward notes one own ≡ other ∷ []) → j ≡ index
same_index notes nodes node from next place own index j different at leads here is found =
    let begins : found.0 ≡ from = same_Some found.0 from (sym found.2 ∙ at) in
    let ends : found.1 ≡ next =
    only_one found.1 next (onward notes found.0 own) found.4
    (subst (λ (n : Node). Contains (onward notes n own) next) (sym begins)
    (subst (λ (p : ℕ). Contains (onward notes from p) next) (sym is) leads)) in
    one_place nodes j index found.1 different found.3 (here ∙ ap Some (sym ends))

pub returns-in_err-next : goal.returns-in_err-next
returns-in_err-next c from at next index leads here there =
    absurd (c.in_err-next.ensures.none from next at (contains_from_get (nodes_of c.args.flow.now) index next here)
    (subst (λ (p : ℕ). Contains (onward (notes_of c.args.flow.now) from p) next) (sym c.location.ensures) leads))

pub returns-in_err-onto : goal.returns-in_err-onto
returns-in_err-onto c from at next index leads here there =
    absurd (c.in_err-onto.ensures.none
    (subst (λ (one : Site). Contains (sites_in c.args.sites.now) one)
    (site_same (record { node = index; angle = c.args.edge.now.onto.number % 50 })
    (record { node = c.in_ok-next.next; angle = c.angle.result })
    (sym (same_index (notes_of c.args.flow.now) (nodes_of c.args.flow.now) c.args.node from next
    (place_of c.args.edge.now.onto.number) c.location.result.number index c.in_ok-next.next
    c.in_ok-next.ensures.different at leads here c.location.ensures c.in_ok-next.ensures.found))
    (sym c.angle.ensures.told)) there))

pub returns : goal.returns
returns c from at next index leads here there =
    let same = same_index (notes_of c.args.flow.now) (nodes_of c.args.flow.now) c.args.node from next
    (place_of c.args.edge.now.onto.number) c.location.result.number index c.in_ok-next.next
    c.in_ok-next.ensures.different at leads here c.location.ensures c.in_ok-next.ensures.found in (
      _,
      contains_here _ [],
      (
        record { node = c.in_ok-next.next; angle = c.angle.result },
        c.in_ok-onto.ensures.found,
        ap (slice_get (nodes_of c.args.flow.now)) same ∙ here,
        c.angle.ensures.told,
      ),
      refl,
      refl,
      refl,
    )
