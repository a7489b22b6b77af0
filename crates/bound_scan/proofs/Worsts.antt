-- The latest of all that a finished scan keeps is the bound.
use Rattle.std.proofs.Common.{ℕ, ◌-◌, ◌<◌, ◌≤◌, List, [], ◌∷◌, Option, Some, None, arith}
use Rattle.machine_steps.proofs.Returning.{none_to_keep}
use Rattle.flow_graph.specs.Walk.{Setting, Taken, IsWalk, edges_taken, time_of}
use Rattle.flow_walks.specs.Worst.{IsWorst}
use Rattle.bound_scan.specs.declared.latest.Latest.{Latest}
use Rattle.bound_scan.specs.declared.key_hop.KeyHop.{KeyHop}
use Rattle.bound_scan.specs.Keys.{keys_of, IsOrdered}
use Rattle.bound_scan.specs.Scanned.{IsLastBy, Scanned}
use Rattle.bound_scan.specs.Table.{start_angle}
use Rattle.bound_scan.proofs.Unpassed.{no_walk_passes}
use Rattle.bound_scan.specs.TakenOf.{taken_of}
use Rattle.bound_scan.proofs.Walked.{hop_last, comes_from_start}

module _ (g : Setting) (order : List ℕ) (cells : List (Option Latest)) (last : Latest)
    (ordered : IsOrdered g.loads g.notes g.start order) (starts : g.start < 2000)
    (s : Scanned g order (keys_of g.notes.marks order) (keys_of g.notes.marks order) cells last) where
  -- The time from the start to the latest of all is the bound: the hop that it comes from ends a walk, and where it
  -- comes from none the walk is empty.
  pub is_worst : IsWorst g (last.clock - start_angle g.start)
  is_worst = go last.origin s.ends
    where
      bounded : (angle : ℕ) (hops : List Taken) → IsWalk g angle hops → time_of hops ≤ last.clock - start_angle g.start
      bounded angle hops walk = omega (arith, no_walk_passes g order cells last ordered starts s angle hops walk)

      go : (origin : Option KeyHop) → IsLastBy g order (keys_of g.notes.marks order) cells last.clock origin
          → IsWorst g (last.clock - start_angle g.start)
      go None is = record {
        angle = start_angle g.start;
        hops = [];
        walk = record { on_drum = omega arith; from_start = tt; back = tt };
        time = omega (arith, is);
        most = bounded;
      }
      go (Some origin) is =
          let angle : ℕ = start_angle g.start in
          let e = is.0 in
          let comes = comes_from_start g order cells last ordered starts s origin.key e.kept e.there
          (taken_of g order origin.key e.hop (e.kept.clock - angle) (last.clock - angle) ∷ [])
          (hop_last g order cells last ordered starts s origin last.clock e is.1) in
          record {
            angle = angle;
            hops = comes.0;
            walk = record {
              on_drum = omega arith;
              from_start = comes.1;
              back = none_to_keep g.notes.calls _ (edges_taken comes.0) ordered.plain;
            };
            time =
                comes.2;
            most = bounded;
          }
