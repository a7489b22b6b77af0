use Rattle.std.proofs.Common.{◌≡◌, map, drop}
use Rattle.std.specs.List.{list_any}
use Rattle.flow_graph.specs.Taken.{is_among}
use Rattle.check_deck.proofs.several.have_common.Given as goal

-- none of the locations so far is one of these
abbrev pub invariant-loop-place : goal.invariant-loop-place
invariant-loop-place l =
    list_any (is_among (map (λ one. one.number) l.these)) (map (λ one. one.number) (drop l.place-index l.those))
    ≡ list_any (is_among (map (λ one. one.number) l.these)) (map (λ one. one.number) l.those)
