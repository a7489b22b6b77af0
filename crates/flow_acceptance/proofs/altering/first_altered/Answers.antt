-- Of first_altered: no instruction of the patterns so far alters a word. So the first that alters
-- one in the pattern at hand is the first of the location.
use Rattle.std.proofs.Common.{Contains, List, sym, subst}
use Rattle.base_words.specs.declared.instruction.Instruction.{Instruction}
use Rattle.read_decks.specs.InDeck.{loads_in, start_in}
use Rattle.base_notes.specs.Allowed.{allowed}
use Rattle.flow_graph.specs.Flow.{deck_of, notes_of}
use Rattle.flow_graph.specs.Accepted as said
use Rattle.flow_graph.specs.Patterns.{patterns_left}
use Rattle.flow_graph.proofs.Matched.{first_in_all, none_in_more, patterns_taken, patterns_all}
use Rattle.flow_acceptance.proofs.altering.first_altered.Goals as goal

pub returns-in-Some-first_altered_in-clause-some : goal.returns-in-Some-first_altered_in-clause-some
returns-in-Some-first_altered_in-clause-some c =
    let flow = c.args.flow.now in
    let first = c.in-Some-first_altered_in.ensures.some in
    record {
      ins = first.ins;
      first =
          first_in_all (said.Alters (loads_in (deck_of flow)) (notes_of flow) (start_in (deck_of flow)))
          c.loop-pattern.yielded (patterns_left c.next.new.self)
          (patterns_left c.loop-pattern.pattern-iterator) c.in-Some.pattern
          (allowed (loads_in (deck_of flow)) (notes_of flow) c.args.location.number) first.ins
          c.loop-pattern.invariant.split c.in-Some.ensures.steps c.loop-pattern.invariant.none first.first;
      lowest = first.lowest;
    }

pub loop-pattern-preserved : goal.loop-pattern-preserved
loop-pattern-preserved c =
    let flow = c.args.flow.now in
    record {
      split =
          patterns_taken c.loop-pattern.yielded (patterns_left c.loop-pattern.pattern-iterator)
          (patterns_left c.next.new.self) c.in-Some.pattern
          (allowed (loads_in (deck_of flow)) (notes_of flow) c.args.location.number) c.loop-pattern.invariant.split
          c.in-Some.ensures.steps;
      none =
          none_in_more (said.Alters (loads_in (deck_of flow)) (notes_of flow) (start_in (deck_of flow)))
          c.loop-pattern.yielded c.in-Some.pattern c.loop-pattern.invariant.none
          c.in_default.ensures.none;
    }

pub returns-clause-none : goal.returns-clause-none
returns-clause-none c ins there =
    let flow = c.args.flow.now in
    let all =
    patterns_all c.loop-pattern.yielded (patterns_left c.loop-pattern.pattern-iterator)
    (allowed (loads_in (deck_of flow)) (notes_of flow) c.args.location.number)
    c.loop-pattern.invariant.split c.in-None.ensures.steps.0 in
    c.loop-pattern.invariant.none ins (subst (λ (list : List Instruction). Contains list ins) (sym all) there)
