use Rattle.std.proofs.Common.{◌≡◌, ℕ, ap, ◌∙◌, refl, Option, Some, None}
use Rattle.std.specs.Prelude.{is_some}
use Rattle.std.specs.Option.{option_map}
use Rattle.base_notes.specs.declared.notes.edge.Edge.{Edge}
use Rattle.base_notes.specs.EdgeOf.{edge_of}
use Rattle.check_findings.proofs.finding.Finding.is_shared_onto.Goals as goal

pub returns : goal.returns
returns c =
    c.is_some.ensures ∙ kept c.shared_onto.result
    ∙ ap (λ (edge : Option (ℕ × ℕ)). is_some edge) c.shared_onto.ensures
  where
    kept : (edge : Option Edge) → is_some edge ≡ is_some (option_map edge_of edge)
    kept (Some edge) = refl
    kept None = refl
