-- What is found first of a deck that the analysis refuses: just what refuses it; where edges free
-- of marks lead round, an edge that closes a loop. Where there are too many nodes, there are no
-- findings; and no deck is refused for its calls, since for a bound short notes are read alone.
use Rattle.std.specs.Prelude.{◌≡◌, ℕ, List, ◌∷◌}
use Rattle.flow_graph.specs.declared.refusal.Refusal.{Refusal}
use Rattle.flow_graph.specs.declared.refusal.Refusal.TheVariants.{Memory, NotLoaded, NotInProfile}
use Rattle.flow_graph.specs.declared.refusal.Refusal.TheVariants.{HasCalls, TooMany, Alters}
use Rattle.flow_graph.specs.declared.refusal.Refusal.TheVariants.{Unbounded, TooLarge}
use Rattle.check_findings.specs.declared.unchanged_parts.UnchangedParts.{UnchangedParts}
use Rattle.check_findings.specs.declared.within.Within.{Within}
use Rattle.check_findings.specs.Finding.{Finding, not_loaded, not_in_profile, alters, too_large}
use Rattle.check_findings.specs.Finding.{closes}

abbrev pub BeginsWith : {X : Type 0} → List X → X → Type 0
BeginsWith {X} found first = (others : List X) × (found ≡ first ∷ others)

abbrev pub IsFoundFirst : Refusal → List Finding → Type 0
IsFoundFirst (NotLoaded location) found = BeginsWith found (not_loaded location.number)
IsFoundFirst (NotInProfile location op) found =
    BeginsWith found (not_in_profile location.number op)
IsFoundFirst HasCalls found = ⊥
IsFoundFirst TooMany found = ⊥
IsFoundFirst (Alters writer word) found =
    (kept : UnchangedParts) × BeginsWith found (alters writer.number word.number kept)
IsFoundFirst (TooLarge product) found = BeginsWith found (too_large product)
IsFoundFirst (Unbounded cycle) found =
    (edge : ℕ × ℕ) × (mark : Within) × BeginsWith found (closes edge mark)
IsFoundFirst Memory found = Unit {0}
