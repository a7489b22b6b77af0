use Rattle.flow_graph.proofs.Founds.{number_at}
use Rattle.flow_graph.specs.Found.{places_of}
use Rattle.print_graphs.proofs.Outlines.{added_so_far}
use Rattle.print_graphs.proofs.node.Node.write_all.Goals as goal

pub loop-location-preserved : goal.loop-location-preserved
loop-location-preserved c =
    let words = places_of c.args.other.now.written in
    let k = c.loop-location.location-index in
    let location = c.location-item.result in
    record {
      written =
          added_so_far (places_of c.args.self.now.written) (places_of c.loop-location.self.written)
          (places_of c.add.new.self) words k location.number
          (number_at c.locations-location-items.result.now words k location c.locations-location-items.ensures.all
          c.loop-location-test.true c.location-item.is)
          c.loop-location.invariant.written c.in_ok-add.ensures;
      same = c.loop-location.invariant.same;
    }
