-- Of Nesting::of: the graph is that of all links.
use Rattle.check_deck.proofs.nesting.Nesting.of.Goals as goal

pub add_known-requires-clause-links : goal.add_known-requires-clause-links
add_known-requires-clause-links c = record {
  nodes = c.requires;
  size = c.in_ok-graph.ensures.size;
  rows = c.in_ok-graph.ensures.rows;
}

pub returns-clause-known : goal.returns-clause-known
returns-clause-known c = record {
  links = record {
    nodes = c.requires;
    size = c.in_ok-graph.ensures.size;
    rows = c.in_ok-graph.ensures.rows;
  };
  known = c.loop-outer.invariant;
}
