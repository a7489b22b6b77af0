-- That nothing is there twice has one proof at most, as a ghost field wants it.
use Rattle.std.specs.Prelude.{List, [], ◌∷◌}
use Rattle.std.proofs.Props.{props}
use Rattle.base_graphs.specs.Graph.{AreDifferent}

pub AreDifferent-prop : {X : Type 0} (xs : List X) → IsProp (AreDifferent xs)
AreDifferent-prop [] = Prim.hlevel props
AreDifferent-prop (x ∷ xs) =
    let others : IsProp (AreDifferent xs) = AreDifferent-prop xs in
    Prim.hlevel (others, props)

pub ruleset one_proof = (AreDifferent-prop, props)
