use Rattle.std.proofs.Common.{◌≡◌, map, drop}
use Rattle.flow_graph.specs.Taken.{is_among}
use Rattle.check_deck.proofs.several.is_one_of.Given as goal

-- none of the locations so far is this one
abbrev pub invariant-loop-one : goal.invariant-loop-one
invariant-loop-one l =
    is_among (map (λ one. one.number) (drop l.one-index l.places)) l.place.number
    ≡ is_among (map (λ one. one.number) l.places) l.place.number
