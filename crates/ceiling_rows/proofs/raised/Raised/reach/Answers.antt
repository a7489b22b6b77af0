-- Of Raised::reach: what is put at the number is no less than what stood there, and the others stay.
use Rattle.std.proofs.Common.{◌≡◌, ℕ, ◌≤◌, Bool, true, false, List, Option, Some, refl, ap, sym, ◌∙◌, subst, eqb, arith}
use Rattle.std.proofs.Math.ListN.{set}
use Rattle.std.specs.Prelude.{slice_get, IfSome}
use Rattle.std.proofs.lemmas.Bool.{eqb-true, eqb-false}
use Rattle.std.proofs.lemmas.Option.{slice_get-get_or, slice_get_within}
use Rattle.read_decks.proofs.Puts.{slice_get-set_other, slice_get-set_same}
use Rattle.ceiling_rows.specs.declared.raised.Onward.{Onward}
use Rattle.ceiling_rows.proofs.raised.Raised.reach.Goals as goal

-- no less stands there than before
abbrev Grows : List (Option Onward) → List (Option Onward) → Type 0
Grows before after = (slot : ℕ) (hop : Onward) → slice_get before slot ≡ Some (Some hop)
    → (later : Onward) × (slice_get after slot ≡ Some (Some later)) × (hop.time ≤ later.time) × (hop.stop ≤ later.stop)

put_longer : (onward : List (Option Onward)) (at : ℕ) (got : Option Onward) (most : Onward)
    → ((hop : Onward) → slice_get onward at ≡ Some (Some hop) → got ≡ Some hop)
    → IfSome got (λ one. (one.time ≤ most.time) × (one.stop ≤ most.stop))
    → Grows onward (set onward at (Some most))
put_longer onward at got most read longer slot hop there = go (eqb at slot) refl
  where
    go : (here : Bool) → eqb at slot ≡ here → (later : Onward)
        × (slice_get (set onward at (Some most)) slot ≡ Some (Some later)) × (hop.time ≤ later.time)
        × (hop.stop ≤ later.stop)
    go true is =
        let same : at ≡ slot = eqb-true at slot is in
        let own : slice_get onward at ≡ Some (Some hop) = ap (slice_get onward) same ∙ there in
        let longer_than : (hop.time ≤ most.time) × (hop.stop ≤ most.stop) =
        subst (λ (one : Option Onward). IfSome one (λ one. (one.time ≤ most.time) × (one.stop ≤ most.stop)))
        (read hop own) longer in (
          most,
          ap (slice_get (set onward at (Some most))) (sym same)
              ∙ slice_get-set_same onward at (Some most) (slice_get_within onward at (Some hop) own),
          longer_than.0,
          longer_than.1,
        )
    go false is =
        let other : at ≡ slot → ⊥ = eqb-false at slot is in (
          hop,
          slice_get-set_other onward at slot (Some most) other ∙ there,
          omega arith,
          omega arith,
        )

pub returns-clause-grown : goal.returns-clause-grown
returns-clause-grown c =
    let onward = c.args.self.now.onward.items in
    let at = c.from-at.result in
    record {
      stop = omega arith;
      most = omega arith;
      onward = put_longer onward at c.index.result.now c.or_longer.result
          (λ hop there.
          let got : slice_get onward at ≡ Some c.index.result.now =
          slice_get-get_or onward at c.index.result.now (slice_get_within onward at (Some hop) there)
          ∙ ap Some (sym c.index.ensures) in
          let both : Some c.index.result.now ≡ Some (Some hop) = sym got ∙ there in
          cc)
          c.or_longer.ensures.other;
    }

pub returns-clause-there : goal.returns-clause-there
returns-clause-there c =
    let onward = c.args.self.now.onward.items in
    let at = c.from-at.result in
    let most = Some c.or_longer.result in (
      c.or_longer.result,
      ap (slice_get (set onward at most)) (sym c.from-at.ensures)
          ∙ slice_get-set_same onward at most
          (omega (arith, c.from-at.ensures, c.args.slot.within, c.args.self.now.long, c.args.self.now.onward.ok.0)),
      c.or_longer.ensures.time,
      c.or_longer.ensures.stop,
    )
