-- Of prices_of: what the search found was checked over rows that are right, and the others are by the order; no price and
-- not the lower total is more than what no ceiling is above, whatever no step takes more than.
use Rattle.std.proofs.Common.{◌≡◌, ◌⊎◌, ℕ, ◌*◌, ◌^◌, ◌<◌, ◌≤◌, List, Option, Some, None, length, ap, sym, subst, ◌∙◌, inl, inr, arith}
use Rattle.std.specs.Prelude.{slice_get, All, IfNone, IfSome, MatchOption}
use Rattle.std.proofs.Math.Nat.{mul-le-mul_left, mul-le-mul_right}
use Rattle.std.proofs.lemmas.List.Elements.{All-weaker}
use Rattle.read_decks.specs.InDeck.{loads_in, start_in}
use Rattle.flow_graph.specs.declared.flow_graph.Flow.{Flow}
use Rattle.flow_graph.specs.Flow.{deck_of, nodes_of, notes_of, executed_in}
use Rattle.flow_graph.specs.Executed.{each_place}
use Rattle.flow_graph.specs.Hops.{Node}
use Rattle.flow_graph.specs.SettingOf.{setting}
use Rattle.flow_graph.specs.Walk.{Setting}
use Rattle.flow_graph.proofs.Orders.{order_found}
use Rattle.ceiling_rows.specs.declared.row.Row.{Row}
use Rattle.ceiling_rows.specs.Rows.{AreRows}
use Rattle.ceiling_rows.specs.Steps.{TakesAtMost}
use Rattle.ceiling_checked.specs.declared.prices.Prices.{Prices}
use Rattle.ceiling_checked.specs.Right.{ArePrices}
use Rattle.ceiling_checked.specs.Size.{size_of, IsWithinSize}
use Rattle.ceiling_rows.proofs.Angles.{executed_location}
use Rattle.ceiling_checked.proofs.CeilingLaws.{executed_places}
use Rattle.ceiling_checked.proofs.LongestRows.{takes_at_most}
use Rattle.ceiling_checked.proofs.finding.prices_of.Goals as goal

-- what is so of what there is
mapped : {Is Other : Prices → Type 0} (made : Option Prices) → ((one : Prices) → Is one → Other one) → IfSome made Is
    → IfSome made Other
mapped None so is = is
mapped (Some one) so is = so one is

module _ (g : Setting) (nodes : List Node) (longest : ℕ)
    (least : (most : ℕ) → TakesAtMost g (each_place nodes) most → longest ≤ most) where
  abbrev size : ℕ → ℕ
  size most = size_of g.notes.marks (length nodes) most

  -- what is no more than the size by the longest step is no more than it by what no step takes more than
  within_size : (number : ℕ) → number ≤ size longest → IsWithinSize g nodes number
  within_size number low most takes =
      let words : length nodes * longest ≤ length nodes * most =
      mul-le-mul_left (length nodes) (least most takes) in
      let grows : size longest ≤ size most = mul-le-mul_right _ words in
      omega (arith, low, grows)

  -- and of prices likewise
  all_within : (prices : List ℕ) → All (λ price. price ≤ size longest) prices → All (IsWithinSize g nodes) prices
  all_within prices low = All-weaker (λ price. price ≤ size longest) (IsWithinSize g nodes) within_size prices low

  -- prices of a certificate, none above the size
  abbrev pub Right : Prices → Type 0
  Right one = ArePrices g one.prices.items one.total × All (λ price. price ≤ size longest) one.prices.items

  -- and by the order, with a total that isn't above it
  abbrev pub ByOrder : Option Prices → Type 0
  ByOrder by_order = MatchOption by_order (2 ^ 127 ≤ size longest)
      (λ one. ArePrices g one.prices.items one.total × (one.total ≤ size longest)
      × All (λ price. price ≤ size longest) one.prices.items)

  -- those that were found, where they are within what the code has for the size
  pub kept : (whole : ℕ) → whole ≤ size longest → (found : Option Prices)
      → IfSome found (λ one. ArePrices g one.prices.items one.total) → (within : Option Prices)
      → IfSome within (λ one. (found ≡ Some one) × All (λ price. price ≤ whole) one.prices.items) → IfSome within Right
  kept whole low found right None is = is
  kept whole low found right (Some one) is = (
    subst (λ (given : Option Prices). IfSome given (λ one. ArePrices g one.prices.items one.total)) is.0 right,
    All-weaker (λ price. price ≤ whole) (λ price. price ≤ size longest) (λ price few. omega (arith, few, low))
        one.prices.items is.1,
  )

  -- the lower of two
  pub lower : (found by_order : Option Prices) → IfSome found Right → ByOrder by_order
      → (made : Option Prices) → IfNone made ((found ≡ None) × (by_order ≡ None))
      → IfSome made (λ one. (by_order ≡ Some one) ⊎ ((found ≡ Some one) × IfSome by_order (λ other. one.total ≤ other.total)))
      → MatchOption made (IsWithinSize g nodes (2 ^ 127))
      (λ one. ArePrices g one.prices.items one.total × IsWithinSize g nodes one.total
      × All (IsWithinSize g nodes) one.prices.items)
  lower found by_order right other None none some = within_size (2 ^ 127) (subst ByOrder none.1 other)
  lower found by_order right other (Some one) none (inl is) =
      let so = subst ByOrder is other in (so.0, within_size one.total so.1, all_within one.prices.items so.2)
  lower found by_order right other (Some one) none (inr is) =
      let so : Right one = subst (λ (given : Option Prices). IfSome given Right) is.0 right in
      (so.0, within_size one.total (low so.0 by_order other is.1), all_within one.prices.items so.1)
    where
      low : ArePrices g one.prices.items one.total → (given : Option Prices) → ByOrder given
          → IfSome given (λ other. one.total ≤ other.total) → one.total ≤ size longest
      low are None large no_more = omega (arith, large, are.small)
      low are (Some given) large no_more = omega (arith, large.1, no_more)

pub found_prices-requires-clause-found : goal.found_prices-requires-clause-found
found_prices-requires-clause-found c =
    let flow = c.args.accepted.now.flow in
    order_found (loads_in (deck_of flow)) (notes_of flow) (start_in (deck_of flow)) (executed_in flow)
    c.requires.admitted.order

pub returns-clause-few : goal.returns-clause-few
returns-clause-few c =
    subst (λ (one : Flow). length (nodes_of one) < 2 ^ 64) c.flow-flow.ensures c.in_ok-size.ensures.few

pub returns-clause-made : goal.returns-clause-made
returns-clause-made c =
    let flow = c.args.accepted.now.flow in
    let g = setting (deck_of flow) c.args.times.now (notes_of flow) in
    let executed = executed_in flow in
    let nodes = nodes_of flow in
    let places : executed ≡ each_place nodes =
    executed_places g.loads g.notes g.start executed nodes c.requires.admitted c.requires.nodes in
    let longest = c.longest_of-longest.result in
    let rows = c.in_ok-rows.rows.items in
    let are : AreRows g executed rows =
    subst (λ (one : Flow). AreRows (setting (deck_of one) c.args.times.now (notes_of one)) (executed_in one) rows)
    c.flow-flow.ensures c.in_ok-rows.ensures in
    let each : (slot : ℕ) (row : Row) → slice_get rows slot ≡ Some (Some row) → row.most ≤ longest =
    subst (λ (all : List (Option Row)). (slot : ℕ) (row : Row) → slice_get all slot ≡ Some (Some row) → row.most ≤ longest)
    c.deref.ensures.value c.longest_of-longest.ensures.each in
    let takes : TakesAtMost g executed longest =
    takes_at_most g executed rows longest (executed_location flow) are c.longest_of-longest.ensures.some each in
    let least : (most : ℕ) → TakesAtMost g (each_place nodes) most → longest ≤ most =
    λ most other. c.longest_of-longest.ensures.least most other.some
    (λ slot row at. (are.each slot row
    (ap (λ (all : List (Option Row)). slice_get all slot) (sym c.deref.ensures.value) ∙ at)).low most
    (subst (λ (ps : List ℕ). TakesAtMost g ps most) (sym places) other)) in
    let same_rows : AreRows g executed c.deref-2.result.now =
    subst (AreRows g executed) (sym c.deref-2.ensures.value) are in
    let checked : IfSome c.in_ok-found_prices.field-0 (λ one. ArePrices g one.prices.items one.total) =
    c.in_ok-found_prices.ensures c.args.times.now same_rows in
    let size = c.in_ok-size.size in
    let low : size.whole ≤ size_of (notes_of flow).marks (length nodes) longest =
    subst (λ (one : Flow). size.whole ≤ size_of (notes_of one).marks (length (nodes_of one)) longest)
    c.flow-flow.ensures c.in_ok-size.ensures.low in
    let within : IfSome c.within-found.result (Right g nodes longest least) =
    kept g nodes longest least size.whole low c.in_ok-found_prices.field-0 checked c.within-found.result
    c.within-found.ensures.some in
    lower g nodes longest least c.within-found.result c.in_ok-by_order.by_order within
    (c.in_ok-by_order.ensures c.args.times.now takes) c.lower_of.result c.lower_of.ensures.none c.lower_of.ensures.some
