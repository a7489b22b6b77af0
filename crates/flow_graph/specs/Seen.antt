-- The hops that the code has, as the definitions have them.
use Rattle.machine_steps.specs.WaysLeft.{seen_way}
use Rattle.flow_graph.specs.declared.hops.Hop as held
use Rattle.flow_graph.specs.Hops.{Hop}

abbrev pub seen_hop : held.Hop → Hop
seen_hop hop = record { ins = hop.instruction; way = seen_way hop.way }
