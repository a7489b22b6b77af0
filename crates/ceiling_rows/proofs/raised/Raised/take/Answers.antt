-- Of Raised::take: where the hop goes nowhere, its end alone is looked at; else it reaches where it
-- goes on.
use Rattle.std.proofs.Common.{◌≡◌, ℕ, ◌%◌, List, Option, refl, ap, sym, ◌∙◌, subst, arith}
use Rattle.std.specs.Prelude.{slice_get}
use Rattle.base_words.specs.declared.location.Location.{Location}
use Rattle.machine_steps.specs.declared.ways.Way as coded
use Rattle.machine_steps.specs.declared.ways.Way.TheVariants as way
use Rattle.base_words.specs.Location.{IsLocation}
use Rattle.machine_steps.specs.Timing.{found}
use Rattle.machine_steps.specs.Ways.{to}
use Rattle.machine_steps.specs.WaysLeft.{seen_way}
use Rattle.ceiling_rows.specs.declared.raised.Onward.{Onward}
use Rattle.ceiling_rows.specs.Raised.{latest, IsReachedBy}
use Rattle.ceiling_rows.specs.Slot.{slot_of}
use Rattle.ceiling_rows.proofs.raised.Raised.take.Goals as goal

no_next : (by : coded.Way) (next : ℕ) → ((x : Location) → by ≡ way.To x → ⊥) → seen_way by ≡ to next → ⊥
no_next (way.To x) next none is = none x refl
no_next way.Early next none is = cc
no_next way.Late next none is = cc

pub returns-in_default : goal.returns-in_default
returns-in_default c =
    let from = c.args.from.now in
    let own = seen_way c.args.hop.way in
    let ended : c.longest-ended.result ≡ latest from c.args.hop.instruction own = c.longest-ended.ensures.value in
    let later = c.longest-ended.ensures.later in
    record {
      taken = record {
        within = omega (arith, ended, later, c.end.ensures.most);
        ends = λ nowhere. omega (arith, ended, later, c.end.ensures.told);
        goes_on = λ next on. absurd (no_next c.args.hop.way next c.in_default.not-To on);
      };
      grown = record {
        stop = c.end.ensures.no_less;
        most = omega (arith, c.end.ensures.most);
        onward = λ slot hop there. (
          hop,
          ap (λ (all : List (Option Onward)). slice_get all slot) c.end.ensures.onward ∙ there,
          omega arith,
          omega arith,
        );
      };
      no_more = λ most low each. omega (arith, c.end.ensures.most, low, each, ended, later);
    }

pub returns-clause-taken : goal.returns-clause-taken
returns-clause-taken c =
    let from = c.args.from.now in
    let own = seen_way c.args.hop.way in
    let place = c.in-To.next.number in
    let items = c.reach.new.self.onward.items in
    let ended : c.longest-ended.result ≡ latest from c.args.hop.instruction own = c.longest-ended.ensures.value in
    let later = c.longest-ended.ensures.later in
    let arrives : c.go-found.result ≡ found place (latest from c.args.hop.instruction own) =
    c.go-found.ensures.moment ∙ ap (λ (one : Location). found one.number c.longest-ended.result) c.of.ensures
    ∙ ap (found place) ended in
    let there = c.reach.ensures.there in
    let reached : IsReachedBy items place from.angle (found place (latest from c.args.hop.instruction own))
    (latest from c.args.hop.instruction own) = (
      there.0,
      ap (λ (clock : ℕ). slice_get items (slot_of place (clock % 50))) (sym arrives)
          ∙ ap (slice_get items) (sym c.of-2.ensures) ∙ there.1,
      omega (arith, arrives, there.2, c.go-found.ensures.later, later),
      omega (arith, ended, there.3, later),
    ) in
    record {
      within = omega (arith, ended, later, c.reach.ensures.most);
      ends = λ nowhere. absurd (nowhere place (sym (sym (ap seen_way c.in-To.is))));
      goes_on = λ next on.
          let both : to place ≡ to next = sym (ap seen_way c.in-To.is) ∙ on in
          let same : place ≡ next = cc in
          subst (λ (n : ℕ). IsLocation n × IsReachedBy items n from.angle
          (found n (latest from c.args.hop.instruction own)) (latest from c.args.hop.instruction own)) same
          (c.in-To.next.exists, reached);
    }

pub returns-clause-grown : goal.returns-clause-grown
returns-clause-grown c = record {
  stop = omega (arith, c.reach.ensures.stop);
  most = omega (arith, c.max-self.ensures, c.reach.ensures.most);
  onward = λ slot hop there. c.reach.ensures.grown.onward slot hop there;
}
