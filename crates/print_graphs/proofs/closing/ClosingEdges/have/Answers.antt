use Rattle.std.proofs.Common.{refl, ◌∙◌}
use Rattle.print_graphs.proofs.Edges.{found_in_set}
use Rattle.print_graphs.specs.contracts.closing.EndsPartialEq.TheImpl.{eq-value}
use Rattle.print_graphs.proofs.closing.ClosingEdges.have.Goals as goal

pub returns : goal.returns
returns c =
    c.contains.ensures
    ∙ found_in_set eq-value.it (λ a b. refl) (record { from = c.args.from; onto = c.args.onto })
    c.args.self.now.edges.keys.items
