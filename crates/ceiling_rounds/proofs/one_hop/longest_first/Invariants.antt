use Rattle.std.specs.Prelude.{◌≡◌, IfSome}
use Rattle.flow_graph.specs.HopsLeft.{hops_left}
use Rattle.flow_graph.specs.SettingOf.{setting}
use Rattle.flow_walks.specs.Pieces.{seen_placed}
use Rattle.ceiling_rounds.specs.FirstHop.{longest_time, IsFirst}
use Rattle.ceiling_rounds.proofs.OneHops.{AreLookedAt}
use Rattle.ceiling_rounds.proofs.one_hop.longest_first.Given as goal

-- the longest so far is such a hop, and none that was looked at takes longer
abbrev pub invariant-loop-hop : goal.invariant-loop-hop
invariant-loop-hop l = record {
  first : IfSome l.longest (λ one. IsFirst (setting l.by.deck.now l.by.times.now l.by.notes.now) (seen_placed one));
  time : longest_time (setting l.by.deck.now l.by.times.now l.by.notes.now) l.longest ≡ l.most;
  looked : AreLookedAt (setting l.by.deck.now l.by.times.now l.by.notes.now) (hops_left l.hop-iterator) l.most;
}
