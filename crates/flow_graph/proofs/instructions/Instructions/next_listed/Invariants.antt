use Rattle.std.proofs.Common.{◌≡◌, length}
use Rattle.flow_graph.specs.Instructions.{listed_from}
use Rattle.flow_graph.proofs.instructions.Instructions.next_listed.Given as goal

-- the same instructions are left as at the beginning
abbrev pub invariant-loop-self : goal.invariant-loop-self
invariant-loop-self l = record {
  same : listed_from l.fn.self.place l.fn.self.patterns.now ≡ listed_from l.self.place l.self.patterns.now;
  loaded : l.self.loaded ≡ l.fn.self.loaded;
}

abbrev pub decreases-loop-self : goal.decreases-loop-self
decreases-loop-self l = length l.self.patterns.now
