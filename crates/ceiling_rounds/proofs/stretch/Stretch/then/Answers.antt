use Rattle.std.proofs.Common.{◌≡◌, ℕ, ◌+◌, List, ◌++◌, sym, ap, ◌∙◌, subst}
use Rattle.ceiling_rounds.specs.declared.change.Change.{Change}
use Rattle.ceiling_rounds.specs.declared.opening.Opening.{Opening}
use Rattle.ceiling_rounds.specs.Change.{all_followed}
use Rattle.ceiling_rounds.specs.Opening.{AreBoth}
use Rattle.ceiling_rounds.specs.Stretch.{number_of, span_of, ComeTo}
use Rattle.ceiling_rounds.proofs.Comings.{then_comes}
use Rattle.ceiling_rounds.proofs.stretch.Stretch.then.Goals as goal

pub returns : goal.returns
returns c g hops others first second =
    let own = c.args.self.now in
    let next = c.args.next.now in
    let leads = c.leads_to.ensures c.if-not-leads_to.false in
    let made = rw c.in-Some-2.is at c.in_ok-changes.ensures in
    let changes : c.in-Some-2.changes.items ≡ all_followed own.changes.items next.changes.items =
    made ∙ ap (λ (cs : List Change). all_followed cs c.deref-2.result.now) c.deref.ensures.value
    ∙ ap (λ (cs : List Change). all_followed own.changes.items cs) c.deref-2.ensures.value in
    let time : c.in-Some.time ≡ own.time + next.time = c.in-Some.ensures.1 in
    let openings = c.in-Some-3.openings.items in
    let joined = rw c.in-Some-3.is at c.in_ok-openings.ensures in
    let are : AreBoth own.openings.items next.openings.items openings =
    subst (λ (os : List Opening). AreBoth own.openings.items os openings) c.deref-4.ensures.value
    (subst (λ (os : List Opening). AreBoth os c.deref-4.result.now openings) c.deref-3.ensures.value joined) in
    subst (λ (cs : List Change). ComeTo g (hops ++ others) (record {
      from = own.from.number;
      angle = own.angle;
      onto = number_of next.onto;
      time = c.in-Some.time;
      changes = cs;
      openings = openings;
    })) (sym changes)
    (subst (λ (t : ℕ). ComeTo g (hops ++ others) (record {
      from = own.from.number;
      angle = own.angle;
      onto = number_of next.onto;
      time = t;
      changes = all_followed own.changes.items next.changes.items;
      openings = openings;
    })) (sym time)
    (then_comes g hops others (span_of own) (span_of next) leads.0 leads.1 first second openings are))
