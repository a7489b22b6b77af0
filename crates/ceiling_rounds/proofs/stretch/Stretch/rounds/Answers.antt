use Rattle.std.proofs.Common.{◌≡◌, ℕ, suc, ◌-◌, ◌*◌, List, sym, ap, ◌∙◌, subst, arith, map}
use Rattle.flow_walks.specs.Pieces.{repeated}
use Rattle.ceiling_rounds.specs.declared.change.Change.{Change}
use Rattle.ceiling_rounds.specs.declared.opening.Opening.{Opening}
use Rattle.ceiling_rounds.specs.Change.{over_rounds}
use Rattle.ceiling_rounds.specs.Opening.{AreBoth}
use Rattle.ceiling_rounds.specs.Stretch.{number_of, span_of, ComeTo}
use Rattle.ceiling_rounds.proofs.Comings.{rounds_come}
use Rattle.ceiling_rounds.proofs.stretch.Stretch.rounds.Goals as goal

pub returns : goal.returns
returns c g hops one =
    let own = c.args.self.now in
    let times = c.args.times in
    let leads = c.leads_to.ensures c.if-not-leads_to.false in
    let some : suc (times - 1) ≡ times = omega (arith, c.requires) in
    let made = rw c.in-Some-2.is at c.in_ok-changes.ensures in
    let changes : c.in-Some-2.changes.items ≡ map (over_rounds times) own.changes.items =
    made ∙ ap (map (over_rounds times)) c.deref.ensures.value in
    let time : c.in-Some.time ≡ times * own.time =
    c.in-Some.ensures.1 ∙ ap (λ (n : ℕ). n * own.time) c.from.ensures in
    let openings = c.in-Some-3.openings.items in
    let joined = rw c.in-Some-3.is at c.in_ok-openings.ensures in
    let are : AreBoth own.openings.items own.openings.items openings =
    subst (λ (os : List Opening). AreBoth own.openings.items os openings) c.deref-3.ensures.value
    (subst (λ (os : List Opening). AreBoth os c.deref-3.result.now openings) c.deref-2.ensures.value joined) in
    subst (λ (cs : List Change). ComeTo g (repeated times hops) (record {
      from = own.from.number;
      angle = own.angle;
      onto = number_of own.onto;
      time = c.in-Some.time;
      changes = cs;
      openings = openings;
    })) (sym changes)
    (subst (λ (t : ℕ). ComeTo g (repeated times hops) (record {
      from = own.from.number;
      angle = own.angle;
      onto = number_of own.onto;
      time = t;
      changes = map (over_rounds times) own.changes.items;
      openings = openings;
    })) (sym time)
    (subst (λ (n : ℕ). ComeTo g (repeated n hops) (record {
      from = own.from.number;
      angle = own.angle;
      onto = number_of own.onto;
      time = n * own.time;
      changes = map (over_rounds n) own.changes.items;
      openings = openings;
    })) some
    (rounds_come g hops (span_of own) leads.0 leads.1 one openings are (times - 1))))
