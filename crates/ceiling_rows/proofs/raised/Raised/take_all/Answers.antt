use Rattle.std.proofs.Common.{◌≡◌, List, [], ◌∷◌, ◌++◌, subst, sym}
use Rattle.std.specs.Prelude.{Contains, flat_map}
use Rattle.std.proofs.lemmas.List.Elements.{Contains-append_left, Contains-append_right}
use Rattle.base_words.specs.declared.instruction.Instruction.{Instruction}
use Rattle.read_decks.specs.InDeck.{loads_in}
use Rattle.base_notes.specs.Allowed.{allowed, matching}
use Rattle.base_notes.specs.declared.notes.pattern.Pattern.{Pattern}
use Rattle.flow_graph.specs.Patterns.{patterns_left}
use Rattle.flow_graph.proofs.Matched.{each_in_more, patterns_all, patterns_taken}
use Rattle.ceiling_rows.specs.Raised.{HasTaken}
use Rattle.ceiling_rows.proofs.Raises.{taken_more}
use Rattle.ceiling_rows.proofs.raised.Raised.take_all.Goals as goal

-- an instruction of the next pattern is one of all
in_next : (yielded : List Pattern) (pattern : Pattern) (left after : List Pattern) → left ≡ pattern ∷ after
    → (ins : Instruction) → Contains (matching pattern) ins → Contains (flat_map matching (yielded ++ left)) ins
in_next [] pattern left after steps ins there =
    subst (λ (all : List Pattern). Contains (flat_map matching all) ins) (sym steps)
    (Contains-append_left (matching pattern) (flat_map matching after) ins there)
in_next (one ∷ yielded) pattern left after steps ins there =
    Contains-append_right (matching one) (flat_map matching (yielded ++ left)) ins
    (in_next yielded pattern left after steps ins there)

pub loop-pattern-preserved : goal.loop-pattern-preserved
loop-pattern-preserved c =
    let from = c.args.from.now in
    record {
      split = patterns_taken c.loop-pattern.yielded (patterns_left c.loop-pattern.pattern-iterator)
          (patterns_left c.next.new.self) c.in-Some.pattern
          (allowed (loads_in c.args.deck.now) from.notes.now from.location.number) c.loop-pattern.invariant.split
          c.in-Some.ensures.steps;
      taken = each_in_more (HasTaken from c.take_pattern.new.self) c.loop-pattern.yielded c.in-Some.pattern
          (λ ins there. taken_more from c.loop-pattern.self c.take_pattern.new.self ins c.take_pattern.ensures.grown
          (c.loop-pattern.invariant.taken ins there))
          c.take_pattern.ensures.taken;
      no_more = λ most low each. c.take_pattern.ensures.no_more most (c.loop-pattern.invariant.no_more most low each)
          (λ ins there. each ins
          (subst (λ (all : List Instruction). Contains all ins) c.loop-pattern.invariant.split
          (in_next (c.loop-pattern.yielded) c.in-Some.pattern
          (patterns_left c.loop-pattern.pattern-iterator) (patterns_left c.next.new.self) c.in-Some.ensures.steps ins
          there)));
    }

pub returns : goal.returns
returns c = record {
  taken = λ ins there.
      let from = c.args.from.now in
      let all =
      patterns_all c.loop-pattern.yielded (patterns_left c.loop-pattern.pattern-iterator)
      (allowed (loads_in c.args.deck.now) from.notes.now from.location.number) c.loop-pattern.invariant.split
      c.in-None.ensures.steps.0 in
      c.loop-pattern.invariant.taken ins (subst (λ (list : List Instruction). Contains list ins) (sym all) there);
  no_more = c.loop-pattern.invariant.no_more;
}
