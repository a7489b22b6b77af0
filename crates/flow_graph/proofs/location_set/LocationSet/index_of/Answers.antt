use Rattle.std.proofs.Common.{◌≡◌, ℕ, false, Option, Some, None, IfSome, IfNone, refl, sym, ◌∙◌}
use Rattle.std.specs.Prelude.{is_some}
use Rattle.base_words.specs.contracts.location.LocationPartialEq.TheImpl.{eq-value}
use Rattle.flow_graph.proofs.Founds.{none_found, one_found}
use Rattle.flow_graph.proofs.location_set.LocationSet.index_of.Goals as goal

if_some : (found : Option ℕ) (P : ℕ → Type 0) → ((place : ℕ) → found ≡ Some place → P place) → IfSome found P
if_some None P all = tt
if_some (Some place) P all = all place refl

if_none : (found : Option ℕ) (P : Type 0) → (is_some found ≡ false → P) → IfNone found P
if_none None P all = all refl
if_none (Some place) P all = tt

pub returns-clause-found : goal.returns-clause-found
returns-clause-found c =
    if_some c.index_of.result _
    (λ place e. one_found eq-value.it (λ a b. refl) c.args.self.now.locations.keys.items c.args.location place
    (sym c.index_of.ensures.index ∙ e))

pub returns-clause-none : goal.returns-clause-none
returns-clause-none c =
    if_none c.index_of.result _
    (λ e. none_found eq-value.it (λ a b. refl) c.args.self.now.locations.keys.items c.args.location
    (sym c.index_of.ensures.found ∙ e))
