-- Of Fixed::of: the flags are those of the executed locations so far. One more location changes
-- nothing where it is listed, and sets its flag where it isn't.
use Rattle.std.proofs.Common.{rules, ◌≡◌, ℕ, ◌<◌, true, false, length, take, List, [], Bool, replicate, sym, ◌∙◌, subst}
use Rattle.std.proofs.Common.{arith}
use Rattle.std.specs.Prelude.{slice_set}
use Rattle.std.proofs.lemmas.List.{take_all}
use Rattle.base_words.specs.declared.location.Location.{Location}
use Rattle.base_notes.specs.Allowed.{is_listed}
use Rattle.flow_graph.proofs.Founds.{numbers, numbers_more}
use Rattle.flow_acceptance.specs.Fixed.{AreFlagged}
use Rattle.flow_acceptance.proofs.Flags.{none_flagged, flag_more, flag_same}
use Rattle.flow_acceptance.proofs.fixed.Fixed.of.Goals as goal

pub loop-location-init : goal.loop-location-init
loop-location-init c =
    let flags : c.in_ok-flags.flags.items ≡ replicate 8004 false =
    c.in_ok-flags.ensures.items_if_clones_equal (λ y h. search rules) in
    record {
      long = c.in_ok-flags.ensures.len;
      flagged =
          subst (λ (all : List Bool). AreFlagged [] c.args.notes.now all) (sym flags)
          (none_flagged c.args.notes.now 8004);
    }

pub loop-location-preserved-then-is_listed : goal.loop-location-preserved-then-is_listed
loop-location-preserved-then-is_listed c =
    let executed = c.args.executed.now in
    let place = c.loop-location.location-index in
    let location = c.location-item.result in
    let notes = c.args.notes.now in
    record {
      long = c.loop-location.invariant.long;
      flagged =
          subst (λ (all : List ℕ). AreFlagged all notes c.loop-location.flags.items)
          (sym (numbers_more executed place location c.loop-location-test.true c.location-item.is))
          (flag_same (numbers (take place executed)) notes c.loop-location.flags.items location.number
          c.loop-location.invariant.flagged (sym c.is_listed.ensures ∙ c.if-is_listed.true));
    }

pub loop-location-preserved : goal.loop-location-preserved
loop-location-preserved c =
    let executed = c.args.executed.now in
    let place = c.loop-location.location-index in
    let location = c.location-item.result in
    let notes = c.args.notes.now in
    let flags = c.loop-location.flags in
    let inside : location.number < length flags.items =
    omega (arith, location.exists.0, c.loop-location.invariant.long, flags.ok.0) in
    let free : is_listed notes location.number ≡ true → ⊥ = λ e.
    let clash : ◌≡◌ {A = Bool} true false = sym e ∙ sym c.is_listed.ensures ∙ c.if-is_listed.false in
    cc in
    record {
      long = c.loop-location.invariant.long;
      flagged =
          subst (λ (all : List ℕ). AreFlagged all notes (slice_set flags.items location.number true))
          (sym (numbers_more executed place location c.loop-location-test.true c.location-item.is))
          (flag_more (numbers (take place executed)) notes flags.items location.number c.loop-location.invariant.flagged
          inside free);
    }

pub returns : goal.returns
returns c =
    subst (λ (all : List Location). AreFlagged (numbers all) c.args.notes.now c.loop-location.flags.items)
    (take_all c.loop-location.location-index c.args.executed.now c.loop-location-test.false)
    c.loop-location.invariant.flagged
