use Rattle.std.proofs.Common.{◌≡◌, ◌<◌, List, length, get_or, ap, ◌∙◌, subst, arith}
use Rattle.std.proofs.lemmas.List.{length-map}
use Rattle.std.proofs.lemmas.Option.{slice_get-get_or}
use Rattle.base_words.specs.declared.location.Location.{Location}
use Rattle.flow_graph.specs.Turned.{IsLeastAt}
use Rattle.flow_graph.proofs.Founds.{numbers}
use Rattle.flow_graph.proofs.Turns.{numbers_turned}
use Rattle.flow_graph.proofs.cycle.Cycle.turned.Goals as goal

pub returns : goal.returns
returns c =
    let locations = c.args.locations.items in
    let k = c.place_of_smallest-smallest.result in
    let long : length c.deref.result.now ≡ length locations =
    ap (λ (all : List Location). length all) c.deref.ensures.value in
    let inside : k < length (numbers locations) =
    omega (
      arith,
      c.place_of_smallest-smallest.ensures.within,
      long,
      length-map locations
          (λ (one : Location). one.number),
    ) in
    record {
      place = k;
      member = (get_or (numbers locations) k 0, slice_get-get_or (numbers locations) k 0 inside);
      least =
          subst (λ (all : List Location). IsLeastAt (numbers all) k) c.deref.ensures.value
          c.place_of_smallest-smallest.ensures.least;
      parts = ap numbers c.rotate_left.ensures.items ∙ numbers_turned locations k;
    }
