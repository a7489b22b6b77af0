-- All the findings, put together.
use Rattle.std.proofs.Common.{◌≡◌, List, [], ◌++◌, refl, ap, ◌∙◌}
use Rattle.std.specs.List.{range_with_len}
use Rattle.std.proofs.lemmas.List.{append_assoc}
use Rattle.check_findings.specs.Finding.{Finding}
use Rattle.check_findings.specs.FoundAt.{all_locations}
use Rattle.check_findings.specs.Idle.{drum_locations}

-- three lists that were added in turn to none
pub in_turn : (none first second third xs ys zs : List Finding) → none ≡ [] → first ≡ none ++ xs
    → second ≡ first ++ ys → third ≡ second ++ zs → third ≡ xs ++ ys ++ zs
in_turn none first second third xs ys zs empty x y z =
    z ∙ ap (λ (all : List Finding). all ++ zs)
    (y ∙ ap (λ (all : List Finding). all ++ ys) (x ∙ ap (λ (all : List Finding). all ++ xs) empty))

-- and to some
pub three_in_turn : (before first second third xs ys zs : List Finding) → first ≡ before ++ xs
    → second ≡ first ++ ys → third ≡ second ++ zs → third ≡ before ++ (xs ++ ys ++ zs)
three_in_turn before first second third xs ys zs x y z =
    z ∙ ap (λ (all : List Finding). all ++ zs)
    (y ∙ ap (λ (all : List Finding). all ++ ys) x ∙ append_assoc before xs ys)
    ∙ append_assoc before (xs ++ ys) zs

-- four lists that were added in turn
pub loose_in_turn : (before first second third fourth ws xs ys zs : List Finding) → first ≡ before ++ ws
    → second ≡ first ++ xs → third ≡ second ++ ys → fourth ≡ third ++ zs → fourth ≡ before ++ (ws ++ xs ++ ys ++ zs)
loose_in_turn before first second third fourth ws xs ys zs w x y z =
    z ∙ ap (λ (all : List Finding). all ++ zs)
    (y ∙ ap (λ (all : List Finding). all ++ ys)
    (x ∙ ap (λ (all : List Finding). all ++ xs) w ∙ append_assoc before ws xs)
    ∙ append_assoc before (ws ++ xs) ys)
    ∙ append_assoc before (ws ++ xs ++ ys) zs

-- All locations, in their two parts.
pub two_parts : all_locations ≡ range_with_len 0 2000 ++ range_with_len 8000 4
unfolding all_locations
two_parts = refl

-- The locations on the drum.
pub on_drum : drum_locations ≡ range_with_len 0 2000
unfolding drum_locations
on_drum = refl
