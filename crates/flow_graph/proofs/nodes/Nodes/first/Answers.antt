use Rattle.std.proofs.Common.{ℕ, List, length, min, take, ap, ◌∙◌}
use Rattle.std.proofs.lemmas.List.{take_min}
use Rattle.flow_graph.specs.declared.node.Node as held
use Rattle.flow_graph.proofs.nodes.Nodes.first.Goals as goal

pub returns : goal.returns
returns c =
    let keys = c.args.self.now.nodes.keys.items in
    ap (λ (n : ℕ). take n c.as_slice.result.now) (c.min-count.ensures ∙ ap (min 65536) c.len.ensures.len)
    ∙ ap (λ (ns : List held.Node). take (min 65536 (length keys)) ns) c.as_slice.ensures.keys
    ∙ take_min 65536 keys
