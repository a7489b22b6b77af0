use Rattle.std.proofs.Common.{◌≡◌, List, map, ap, ◌∙◌, subst, rules}
use Rattle.std.proofs.lemmas.List.Sorted.{answers_always}
use Rattle.bound_scan.specs.RowOf.{row_in}
use Rattle.bound_scan.specs.Table.{Row}
use Rattle.print_walks.specs.TableText.{AreInOrder}
use Rattle.print_walks.proofs.TableRows.{sort_key, sorted_in_order}
use Rattle.print_walks.proofs.table.Table.of.Goals as goal

pub returns : goal.returns
returns c =
    let copied : c.in_ok-rows.rows.items ≡ c.table.result.now =
    c.in_ok-rows.ensures.items_if_clones_equal (λ x y same. same) in
    let rows = c.sort_unstable_by_key.new.self.items in
    subst (λ (all : List Row). AreInOrder all (map row_in rows)) (ap (map row_in) copied ∙ c.table.ensures)
    (sorted_in_order c.in_ok-rows.rows.items rows c.sort_unstable_by_key.ensures.permutation
    (c.sort_unstable_by_key.ensures.sorted sort_key (answers_always _ _ _ (λ f a r g h. search rules))))
