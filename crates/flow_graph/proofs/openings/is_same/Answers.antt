use Rattle.std.proofs.Common.{◌≡◌, List, [], ◌∷◌, ◌&&◌, Bool, Option, Some, None, map, refl, ap, ◌∙◌, take, length}
use Rattle.std.specs.Prelude.{nat_eq}
use Rattle.std.specs.Cmp.Lexicographic.{pointwise}
use Rattle.std.specs.Option.{option_eq}
use Rattle.base_words.specs.declared.location.Location.{Location}
use Rattle.base_words.specs.contracts.location.LocationPartialEq.TheImpl.{eq-value}
use Rattle.machine_steps.specs.OpenIn.{number_of}
use Rattle.flow_graph.proofs.openings.is_same.Goals as goal

one_way : (a b : Option Location) → option_eq eq-value.it a b ≡ option_eq nat_eq (number_of a) (number_of b)
one_way None None = refl
one_way None (Some b) = refl
one_way (Some a) None = refl
one_way (Some a) (Some b) = refl

all_ways : (xs ys : List (Option Location))
    → pointwise (option_eq eq-value.it) xs ys ≡ pointwise (option_eq nat_eq) (map number_of xs) (map number_of ys)
all_ways [] [] = refl
all_ways [] (y ∷ ys) = refl
all_ways (x ∷ xs) [] = refl
all_ways (x ∷ xs) (y ∷ ys) =
    ap (λ (b : Bool). b && pointwise (option_eq eq-value.it) xs ys) (one_way x y)
    ∙ ap (λ (b : Bool). option_eq nat_eq (number_of x) (number_of y) && b) (all_ways xs ys)

pub returns : goal.returns
returns c =
    let size = length c.args.calls.now in
    c.eq.ensures ∙ all_ways (take size c.args.one.now.ways) (take size c.args.other.now.ways)
