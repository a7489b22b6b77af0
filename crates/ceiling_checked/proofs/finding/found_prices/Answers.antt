-- Of found_prices: what the search finds is checked over the rows of all sites, from that of the start.
use Rattle.std.proofs.Common.{◌≡◌, ℕ, ◌%◌, Option, Some, None, refl, sym, ap, ◌∙◌, subst, arith}
use Rattle.std.specs.Prelude.{slice_get, IfSome}
use Rattle.read_decks.specs.InDeck.{loads_in, start_in}
use Rattle.base_notes.specs.Allowed.{Notes, AreSound}
use Rattle.flow_graph.specs.declared.flow_graph.Flow.{Flow}
use Rattle.flow_graph.specs.Flow.{deck_of, executed_in, nodes_of, notes_of}
use Rattle.flow_graph.specs.Hops.{first_node, Node}
use Rattle.flow_graph.specs.SettingOf.{setting}
use Rattle.flow_graph.proofs.Orders.{reached_different, stays_there}
use Rattle.flow_graph.proofs.Proper.{is_proper}
use Rattle.ceiling_rows.specs.Rows.{AreRows}
use Rattle.ceiling_rows.specs.SiteRows.{AreSiteRows}
use Rattle.ceiling_rows.specs.Sites.{sites_in, AreSites, IsSite}
use Rattle.ceiling_checked.specs.declared.prices.Prices.{Prices}
use Rattle.ceiling_checked.proofs.finding.found_prices.Goals as goal

mapped : {Is Other : Prices → Type 0} (made : Option Prices) → ((one : Prices) → Is one → Other one) → IfSome made Is
    → IfSome made Other
mapped None so is = is
mapped (Some one) so is = so one is

pub returns : goal.returns
returns c times are_rows =
    let flow = c.args.accepted.now.flow in
    let deck = deck_of flow in
    let notes = notes_of flow in
    let nodes = nodes_of flow in
    let g = setting deck times notes in
    let sites = sites_in c.in_ok-sites.sites in
    let same = c.flow-flow.ensures in
    let all_sites : AreSites nodes sites =
    subst (λ (one : Flow). AreSites (nodes_of one) sites) same c.in_ok-sites.ensures in
    let rows : AreSiteRows g nodes sites c.in_ok-rows.rows.items =
    subst (λ (one : Flow). AreRows (setting (deck_of one) times (notes_of one)) (executed_in one) c.args.rows.now
    → AreSiteRows (setting (deck_of one) times (notes_of one)) (nodes_of one) sites c.in_ok-rows.rows.items) same
    (c.in_ok-rows.ensures times) are_rows in
    let same_notes : c.notes.result.now ≡ notes = c.notes.ensures ∙ ap notes_of same in
    let marks : c.marks-marks.result.now ≡ notes.marks =
    c.marks-marks.ensures.all ∙ ap (λ (n : Notes). n.marks) same_notes in
    let proper = is_proper deck times notes (subst AreSound same_notes c.marks-marks.ensures.sound) in
    let start : c.start.result.number ≡ start_in deck =
    c.start.ensures.held ∙ ap start_in (c.deck.ensures ∙ ap deck_of same) in
    let first : Node = first_node notes (start_in deck) in
    let at : slice_get nodes 0 ≡ Some first =
    stays_there (loads_in deck) notes (start_in deck) nodes c.requires.nodes 0 0 first (omega arith) refl in
    let angle : c.from.result % 50 ≡ start_in deck % 50 = ap (λ (n : ℕ). n % 50) (c.from.ensures ∙ start) in
    let site : IsSite nodes sites c.in-Some.start first (start_in deck % 50) =
    (record { node = 0; angle = c.from.result % 50 }, c.in-Some.ensures.found, at, angle) in
    mapped c.checked.result
    (λ one right. right g nodes sites proper (sym marks)
    (reached_different (loads_in deck) notes (start_in deck) nodes c.requires.nodes) all_sites
    (subst (AreSiteRows g nodes sites) (sym c.deref-3.ensures.value) rows) site) c.checked.ensures
