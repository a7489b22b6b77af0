-- Of Raised::take_alike: the data addresses have the same ways. Of each way so far all hops have
-- been looked at, and what was looked at stays so, since what is kept never falls.
use Rattle.std.proofs.Common.{◌≡◌, ℕ, ◌<◌, ◌≤◌, List, ap, sym, subst, inl, inr, ◌∙◌}
use Rattle.std.specs.Prelude.{Contains}
use Rattle.base_words.specs.Instruction.{instruction}
use Rattle.machine_steps.specs.Ways.{Way, ways}
use Rattle.machine_steps.specs.WaysLeft.{seen_way, ways_left}
use Rattle.base_graphs.proofs.Lists.{contains_cases, contains_here, contains_none, contains_there}
use Rattle.flow_graph.proofs.Profiles.{way_may_end}
use Rattle.ceiling_rows.specs.Raised.{IsRaised}
use Rattle.ceiling_rows.proofs.Raises.{grows_on, grows_same, raised_more}
use Rattle.ceiling_rows.proofs.raised.Raised.take_alike.Goals as goal

pub loop-way-init : goal.loop-way-init
loop-way-init c =
    let notes = c.args.from.now.notes.now in
    let all : ways_left c.into_iter-way-iterator.result ≡ ways notes (instruction c.args.pattern.op c.args.start c.args.pattern.i) =
    ap ways_left c.into_iter-way-iterator.ensures.into_iter_gives ∙ c.of-way-items.ensures
    ∙ ap (ways notes) c.instruction_of.ensures in
    record {
      within = λ way there. subst (λ (some : List Way). Contains some way) all there;
      taken = λ way there. inr (subst (λ (some : List Way). Contains some way) (sym all) there);
      grown = grows_same c.args.self.now;
      no_more = λ most low each. low;
    }

pub take_way-requires-clause-may_end : goal.take_way-requires-clause-may_end
take_way-requires-clause-may_end c d low high =
    let notes = c.args.from.now.notes.now in
    let way = seen_way c.in-Some.way in
    let there : Contains (ways_left c.loop-way.way-iterator) way =
    subst (λ (left : List Way). Contains left way) (sym c.in-Some.ensures.steps)
    (contains_here way (ways_left c.next.new.self)) in
    way_may_end notes (instruction c.args.pattern.op d c.args.pattern.i) way
    (subst (λ (all : List Way). Contains all way) (sym (c.requires.alike.ways d low high))
    (c.loop-way.invariant.within way there))

pub loop-way-preserved : goal.loop-way-preserved
loop-way-preserved c =
    let from = c.args.from.now in
    let pattern = c.args.pattern in
    let own = seen_way c.in-Some.way in
    let rest = ways_left c.next.new.self in
    record {
      within = λ way there. c.loop-way.invariant.within way
          (subst (λ (left : List Way). Contains left way) (sym c.in-Some.ensures.steps)
          (contains_there own way rest there));
      taken = λ way there. elim (c.loop-way.invariant.taken way there) [
        | inl before ↦ inl (λ d low high. raised_more from c.loop-way.self c.take_way.new.self
            (instruction pattern.op d pattern.i) way c.take_way.ensures.grown (before d low high))
        | inr left ↦ elim (contains_cases own way rest
            (subst (λ (left : List Way). Contains left way) c.in-Some.ensures.steps left)) [
              | inl same ↦ inl (subst (λ (one : Way). (d : ℕ) → c.args.start ≤ d → d < c.args.end
                  → IsRaised from c.take_way.new.self (instruction pattern.op d pattern.i) one) same
                  c.take_way.ensures.taken)
              | inr later ↦ inr later
            ]
      ];
      grown = grows_on c.args.self.now c.loop-way.self c.take_way.new.self c.loop-way.invariant.grown
          c.take_way.ensures.grown;
      no_more = λ most low each. c.take_way.ensures.no_more most (c.loop-way.invariant.no_more most low each)
          (λ d from_start to_end. each d from_start to_end own
          (subst (λ (all : List Way). Contains all own) (sym (c.requires.alike.ways d from_start to_end))
          (c.loop-way.invariant.within own
          (subst (λ (left : List Way). Contains left own) (sym c.in-Some.ensures.steps) (contains_here own rest)))));
    }

pub returns-clause-taken : goal.returns-clause-taken
returns-clause-taken c d low high way there =
    elim (c.loop-way.invariant.taken way
    (subst (λ (all : List Way). Contains all way) (c.requires.alike.ways d low high) there)) [
      | inl taken ↦ taken d low high
      | inr left ↦ absurd (contains_none way
          (subst (λ (left : List Way). Contains left way) c.in-None.ensures.steps.0 left))
    ]
