-- The hops of a walk, as the analysis takes them: each for the longest.
use Rattle.std.specs.Prelude.{ℕ, List}
use Rattle.base_words.specs.Op.{op_of}
use Rattle.flow_graph.specs.Hops.{Hop}
use Rattle.flow_graph.specs.Walk.{Setting, Taken}
use Rattle.bound_scan.specs.Keys.{place_at}
use Rattle.flow_graph.specs.Longest.{units_by, wait_by}

-- a hop of a key as it is taken for the longest, between these times
abbrev pub taken_of : Setting → List ℕ → ℕ → Hop → ℕ → ℕ → Taken
taken_of g order key hop begun ended = record {
  place = place_at order key;
  ins = hop.ins;
  way = hop.way;
  units = units_by hop.ins.d (op_of hop.ins.op);
  wait = wait_by g.times (op_of hop.ins.op);
  begun = begun;
  ended = ended;
}
