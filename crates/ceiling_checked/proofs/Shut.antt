-- A mark that may never be passed has no passes left, so nothing is owed for it at any price: it may cost nothing, and then
-- no price is more than all passes of marks that may be passed cost together.
use Rattle.std.proofs.Common.{◌≡◌, ℕ, zero, suc, ◌+◌, ◌-◌, ◌*◌, ◌%◌, ◌≤◌, Bool, true, false, List, [], ◌∷◌, length, map}
use Rattle.std.proofs.Common.{Option, Some, None, refl, ap, sym, ◌∙◌, arith, mul-add}
use Rattle.std.specs.Prelude.{◌==◌, if◌then◌else◌, All}
use Rattle.std.proofs.Math.Nat.{mul-le-mul_left, mul-le-mul_right}
use Rattle.std.proofs.lemmas.Bool.{eqb-true, ne_eqb}
use Rattle.std.proofs.lemmas.List.Elements.{All-cons, All-nil}
use Rattle.base_notes.specs.declared.notes.mark.Mark.{Mark}
use Rattle.machine_steps.specs.Counts.{after_pass, no_counts}
use Rattle.flow_graph.specs.Accepted.{capped}
use Rattle.flow_graph.specs.Hops.{first_node, Node}
use Rattle.flow_graph.specs.Walk.{Setting}
use Rattle.ceiling_rows.specs.SiteRows.{node_behind}
use Rattle.ceiling_rows.specs.Steps.{arrival}
use Rattle.ceiling_checked.specs.Affine.{cost_left, owed_by, Affine}
use Rattle.ceiling_checked.specs.Certificate.{IsCertificate}
use Rattle.ceiling_checked.specs.InRounds.{passes_in_all, priced}

-- where as much is owed everywhere as by a certificate, that is one too
pub same_certificate : (g : Setting) (owed other : Node → ℕ → List ℕ → Option ℕ) (total : ℕ)
    → ((node : Node) (angle : ℕ) (counts : List ℕ) → other node angle counts ≡ owed node angle counts)
    → IsCertificate g owed total → IsCertificate g other total
same_certificate g owed other total same is = record {
  starts = same (first_node g.notes g.start) (g.start % 50) (no_counts g.notes.marks) ∙ is.starts;
  pays = λ node angle due counts on_drum few at hop has may.
      let paid = is.pays node angle due counts on_drum few (sym (same node angle counts) ∙ at) hop has may in
      record {
        ends = paid.ends;
        goes_on = λ next on.
            let later = paid.goes_on next on in (
              later.0,
              same (node_behind g.notes node next) (arrival g node.place angle hop next % 50)
                  (after_pass g.notes.marks node.place next counts) ∙ later.1,
              later.2,
            );
      };
}

-- what is left costs the same, whether the marks that may never be passed cost anything or not
left_same : (within : ℕ → Bool) (unit index : ℕ) (marks : List Mark) (rounds counts : List ℕ)
    → cost_left within index marks (priced capped unit marks rounds) counts
    ≡ cost_left within index marks (map (λ round. capped (unit * round)) rounds) counts
left_same within unit index [] rounds counts = refl
left_same within unit index (mark ∷ marks) [] counts = refl
left_same within unit index (mark ∷ marks) (round ∷ rounds) [] = refl
left_same within unit index (mark ∷ marks) (round ∷ rounds) (count ∷ counts) =
    ap (λ (n : ℕ). n + cost_left within (index + 1) marks (priced capped unit marks rounds) counts)
    (one (within index) (mark.most == 0) refl)
    ∙ ap (λ (n : ℕ). (if within index then capped (unit * round) * (mark.most - count) else 0) + n)
    (left_same within unit (index + 1) marks rounds counts)
  where
    one : (here shut : Bool) → (mark.most == 0) ≡ shut
        → (if here then (if shut then 0 else capped (unit * round)) * (mark.most - count) else 0)
        ≡ (if here then capped (unit * round) * (mark.most - count) else 0)
    one false shut is = refl
    one true false is = refl
    one true true is =
        let none : mark.most - count ≡ 0 = omega (arith, eqb-true mark.most 0 is) in
        rw none (omega arith)

-- and so is owed the same
pub owed_same : (unit : ℕ) (marks : List Mark) (rounds : List ℕ) (form : Affine) (node : Node) (angle : ℕ) (counts : List ℕ)
    → owed_by marks (priced capped unit marks rounds) form node angle counts
    ≡ owed_by marks (map (λ round. capped (unit * round)) rounds) form node angle counts
owed_same unit marks rounds form node angle counts =
    ap (λ (left : ℕ). elim (form.level node angle) [
      | None ↦ None
      | Some level ↦ Some (level + left - form.debt)
    ]) (left_same (λ k. form.region k node angle) unit 0 marks rounds counts)

-- each mark has a price
pub priced_long : (unit : ℕ) (marks : List Mark) (rounds : List ℕ) → length rounds ≡ length marks
    → length (priced capped unit marks rounds) ≡ length marks
priced_long unit [] rounds long = refl
priced_long unit (mark ∷ marks) [] long = absurd (omega (arith, long))
priced_long unit (mark ∷ marks) (round ∷ rounds) long =
    ap suc (priced_long unit marks rounds (omega (arith, long)))

-- a price is no more than what is more than all passes cost
pub prices_few : (unit bound : ℕ) (marks : List Mark) (rounds : List ℕ) → unit * passes_in_all marks rounds ≤ bound
    → All (λ price. price ≤ bound) (priced capped unit marks rounds)
prices_few unit bound [] rounds few = All-nil (λ price. price ≤ bound)
prices_few unit bound (mark ∷ marks) [] few = All-nil (λ price. price ≤ bound)
prices_few unit bound (mark ∷ marks) (round ∷ rounds) few =
    let split : unit * (mark.most * round + passes_in_all marks rounds)
    ≡ unit * (mark.most * round) + unit * passes_in_all marks rounds = mul-add unit (mark.most * round) (passes_in_all marks rounds) in
    All-cons (λ price. price ≤ bound) (if mark.most == 0 then 0 else capped (unit * round)) (priced capped unit marks rounds)
    (one mark.most (omega (arith, few, split)))
    (prices_few unit bound marks rounds (omega (arith, few, split)))
  where
    one : (most : ℕ) → unit * (most * round) ≤ bound → (if most == 0 then 0 else capped (unit * round)) ≤ bound
    one zero low = omega arith
    one (suc more) low =
        let once : 1 * round ≤ suc more * round = mul-le-mul_right round (omega arith) in
        let each : unit * round ≤ unit * (suc more * round) = mul-le-mul_left unit (omega (arith, once)) in
        rw (ne_eqb (suc more) 0 (λ same. omega (arith, same))) (omega (arith, each, low))
