use Rattle.std.proofs.Common.{◌≡◌, ℕ, sym, ◌∙◌, subst, inl, inr}
use Rattle.base_words.specs.declared.location.Kind.{Kind}
use Rattle.base_words.specs.declared.location.Kind.TheVariants.{Switches, Distributor}
use Rattle.machine_rotation.specs.Available.{is_had}
use Rattle.machine_rotation.specs.Moment.{first}
use Rattle.machine_rotation.proofs.Firsts.{first_at_once}
use Rattle.machine_rotation.proofs.seek.SeekClockwork.go.Goals as goal

-- what can be had at every angle is there at once
at_once : (kind here : Kind) (n clock : ℕ) → here ≡ kind → clock ≡ first (is_had here n) clock
    → clock ≡ first (is_had kind n) clock
at_once kind here n clock same h = subst (λ (k : Kind). clock ≡ first (is_had k n) clock) same h

pub returns-in-Switches-clause-moment : goal.returns-in-Switches-clause-moment
returns-in-Switches-clause-moment c =
    let n = c.args.self.now.location.number in
    elim c.in-Switches.is [
      | inl switches ↦ at_once _ Switches n c.args.clock (sym switches ∙ c.kind.ensures) (first_at_once c.args.clock)
      | inr distributor ↦ at_once _ Distributor n c.args.clock (sym distributor ∙ c.kind.ensures)
          (first_at_once c.args.clock)
    ]
