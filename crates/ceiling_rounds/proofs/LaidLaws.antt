-- Hops that are laid one after the other, each as long as it can be.
use Rattle.std.proofs.Common.{◌≡◌, ℕ, ◌+◌, List, [], ◌∷◌, ◌++◌, map, refl, ap, arith}
use Rattle.machine_steps.specs.Since.{Edge}
use Rattle.flow_graph.specs.Walk.{edge_taken, edges_taken}
use Rattle.flow_graph.specs.Walk.{Setting, Taken, time_from}
use Rattle.flow_graph.proofs.LongestLaws.{longest_later}
use Rattle.flow_walks.specs.Visited.{visited, AreLongest}
use Rattle.flow_walks.specs.Pieces.{PlacedHop}
use Rattle.ceiling_rounds.specs.Stretch.{edges_placed, laid, laid_one}

pub time_append : (time : ℕ) (xs ys : List Taken) → time_from time (xs ++ ys) ≡ time_from (time_from time xs) ys
time_append time [] ys = refl
time_append time (x ∷ xs) ys = time_append x.ended xs ys

module _ (g : Setting) (angle : ℕ) where
  pub laid_append : (time : ℕ) (xs ys : List PlacedHop)
      → laid g angle time (xs ++ ys) ≡ laid g angle time xs ++ laid g angle (time_from time (laid g angle time xs)) ys
  laid_append time [] ys = refl
  laid_append time (x ∷ xs) ys =
      ap (λ (rest : List Taken). laid_one g angle time x ∷ rest) (laid_append (laid_one g angle time x).ended xs ys)

  pub longest_laid : (time : ℕ) (hops : List PlacedHop) → AreLongest g angle (map visited (laid g angle time hops))
  longest_laid time [] = tt
  longest_laid time (x ∷ xs) = (
    omega (arith, longest_later g.times x.place x.hop.ins x.hop.way (angle + time)),
    longest_laid (laid_one g angle time x).ended xs,
  )

  pub edges_laid : (time : ℕ) (hops : List PlacedHop) → edges_taken (laid g angle time hops) ≡ edges_placed hops
  edges_laid time [] = refl
  edges_laid time (x ∷ xs) =
      ap (λ (rest : List Edge). edge_taken x.place x.hop.way ++ rest) (edges_laid (laid_one g angle time x).ended xs)
