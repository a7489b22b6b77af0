-- Where hops begin that stand one behind the other.
use Rattle.std.proofs.Common.{◌≡◌, ℕ, zero, suc, ◌<◌, List, ◌∷◌, ◌++◌, length, length-append, refl, ap, sym, ◌∙◌, []}
use Rattle.std.proofs.Common.{subst, arith, Option, Some, None, inl, inr}
use Rattle.std.proofs.lemmas.Bool.{cases_lt}
use Rattle.std.proofs.lemmas.List.{append-nil}
use Rattle.std.proofs.lemmas.Option.{slice_get_within}
use Rattle.std.specs.Prelude.{slice_get, unwrap_or}
use Rattle.flow_walks.specs.Pieces.{repeated, spelled_at, PlacedHop}
use Rattle.ceiling_rounds.proofs.SpelledLaws.{spelled_before, spelled_last}
use Rattle.print_ceilings.proofs.Lists.{at_before, at_last}
use Rattle.print_ceilings.specs.declared.ends.Ends.{Ends}
use Rattle.print_ceilings.specs.EndsOf.{first_of, last_of, AreAllEnds, AreEnds}
use Rattle.print_ceilings.specs.RoundsText.{last_place}

first_joined : (xs ys : List PlacedHop) (place : ℕ) → first_of xs ≡ Some place → first_of (xs ++ ys) ≡ Some place
first_joined [] ys place is = absurd (cc)
first_joined (x ∷ xs) ys place is = is

last_joined : (xs ys : List PlacedHop) (place : ℕ) → last_of ys ≡ Some place → last_of (xs ++ ys) ≡ Some place
last_joined [] ys place is = is
last_joined (x ∷ xs) ys place is = ap (λ (o : Option ℕ). Some (unwrap_or o x.place)) (last_joined xs ys place is)

pub both_ends : (one other both : Ends) (xs ys : List PlacedHop) → both.first.number ≡ one.first.number
    → both.last.number ≡ other.last.number → AreEnds (Some one) xs → AreEnds (Some other) ys
    → AreEnds (Some both) (xs ++ ys)
both_ends one other both xs ys first last p q = (
  first_joined xs ys both.first.number (p.0 ∙ ap Some (sym first)),
  last_joined xs ys both.last.number (q.1 ∙ ap Some (sym last)),
)

last_is : (hop : PlacedHop) (hops : List PlacedHop) → last_place (hop ∷ hops) ≡ unwrap_or (last_of hops) hop.place
last_is hop [] = refl
last_is hop (other ∷ hops) = last_is other hops

pub last_told : (ends : Ends) (hops : List PlacedHop) → AreEnds (Some ends) hops → ends.last.number ≡ last_place hops
last_told ends [] are = absurd (cc)
last_told ends (hop ∷ hops) are =
    let same : unwrap_or (last_of hops) hop.place ≡ ends.last.number = cc in
    sym same ∙ sym (last_is hop hops)

-- rounds of hops begin where the hops do
repeated_none : (times : ℕ) (hops : List PlacedHop) → hops ≡ [] → repeated times hops ≡ []
repeated_none zero hops none = refl
repeated_none (suc times) hops none =
    ap (λ (xs : List PlacedHop). xs ++ repeated times hops) none ∙ repeated_none times hops none

last_repeated : (times : ℕ) (hops : List PlacedHop) (place : ℕ) → last_of hops ≡ Some place
    → last_of (repeated (suc times) hops) ≡ Some place
last_repeated zero hops place is = ap last_of (append-nil hops) ∙ is
last_repeated (suc times) hops place is =
    last_joined hops (repeated (suc times) hops) place (last_repeated times hops place is)

pub repeated_ends : (ends : Option Ends) (times : ℕ) (hops : List PlacedHop) → 0 < times → AreEnds ends hops
    → AreEnds ends (repeated times hops)
repeated_ends ends zero hops some are = absurd (omega (arith, some))
repeated_ends None (suc times) hops some are = repeated_none (suc times) hops are
repeated_ends (Some ends) (suc times) hops some are = (
  first_joined hops (repeated times hops) ends.first.number are.0,
  last_repeated times hops ends.last.number are.1,
)

-- one piece more
pub more_ends : (ends : List (Option Ends)) (spells : List (List PlacedHop)) (one : Option Ends)
    (hops : List PlacedHop) → AreAllEnds ends spells → AreEnds one hops
    → AreAllEnds (ends ++ one ∷ []) (spells ++ hops ∷ [])
more_ends ends spells one hops are is = record {
  each = omega (arith, are.each, length-append ends (one ∷ []), length-append spells (hops ∷ []));
  ends_of = λ number other at. elim (cases_lt number (length ends)) [
    | inl less ↦
        subst (AreEnds other) (sym (spelled_before spells hops number (omega (arith, are.each, less))))
        (are.ends_of number other (sym (at_before ends one number less) ∙ at))
    | inr more ↦
        let within = slice_get_within (ends ++ one ∷ []) number other at in
        let here : number ≡ length ends = omega (arith, more, within, length-append ends (one ∷ [])) in
        let there : number ≡ length spells = omega (arith, here, are.each) in
        let found : slice_get (ends ++ one ∷ []) number ≡ Some one =
        ap (slice_get (ends ++ one ∷ [])) here ∙ at_last ends one in
        let same : one ≡ other = cc (sym found ∙ at) in
        let spelled : spelled_at (spells ++ hops ∷ []) number ≡ hops =
        ap (spelled_at (spells ++ hops ∷ [])) there ∙ spelled_last spells hops in
        subst (λ (o : Option Ends). AreEnds o (spelled_at (spells ++ hops ∷ []) number)) same
        (subst (AreEnds one) (sym spelled) is)
  ];
}
