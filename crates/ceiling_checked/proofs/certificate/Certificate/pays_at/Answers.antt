use Rattle.std.proofs.Common.{ℕ, sym, subst, ◌∙◌}
use Rattle.std.proofs.lemmas.Option.{none-some, same_Some}
use Rattle.ceiling_checked.specs.Paying.{IsPaid}
use Rattle.ceiling_checked.proofs.certificate.Certificate.pays_at.Goals as goal

pub returns-in-Some : goal.returns-in-Some
returns-in-Some c paid level at =
    subst (λ (n : ℕ). IsPaid c.args.marks.now c.args.self.now c.args.number n c.args.row.now)
    (same_Some c.in-Some.level level (sym c.in-Some.is ∙ c.level.ensures ∙ at)) (c.pays.ensures paid)

pub returns-in-None : goal.returns-in-None
returns-in-None c paid level at = absurd (none-some level (sym c.in-None.is ∙ c.level.ensures ∙ at))
