-- Of Named::add_location: what the next pattern's instructions name is set, and what those of the
-- patterns behind it name is left.
use Rattle.std.proofs.Common.{◌≡◌, List, ap, ◌∙◌, subst, Contains}
use Rattle.std.specs.Prelude.{flat_map, ◌↔◌}
use Rattle.base_words.specs.declared.instruction.Instruction.{Instruction}
use Rattle.read_decks.specs.InDeck.{loads_in}
use Rattle.base_notes.specs.declared.notes.pattern.Pattern.{Pattern}
use Rattle.base_notes.specs.Allowed.{allowed, matching}
use Rattle.base_graphs.proofs.Lists.{contains_none}
use Rattle.flow_graph.specs.declared.patterns.Patterns.{Patterns}
use Rattle.flow_graph.specs.Patterns.{patterns_left}
use Rattle.check_findings.specs.Idle.{named_at, names}
use Rattle.check_findings.proofs.NamedFlags.{left_first, left_more, left_none, patterns_first}
use Rattle.check_findings.proofs.named.Named.add_location.Goals as goal

pub loop-pattern-init : goal.loop-pattern-init
loop-pattern-init c =
    let loads = loads_in c.args.deck.now in
    let all : flat_map matching (patterns_left c.into_iter-pattern-iterator.result)
    ≡ allowed loads c.args.notes.now c.args.location.number =
    ap (λ (patterns : Patterns). flat_map matching (patterns_left patterns))
    c.into_iter-pattern-iterator.ensures.into_iter_gives ∙ c.at-pattern-items.ensures in
    left_first (Contains (named_at loads c.args.notes.now c.args.location.number)) c.args.self.now.flags.items
    (Contains (flat_map names (flat_map matching (patterns_left c.into_iter-pattern-iterator.result))))
    (λ word. subst (λ (instructions : List Instruction). Contains (flat_map names
    (flat_map matching (patterns_left c.into_iter-pattern-iterator.result))) word
    ↔ Contains (flat_map names instructions) word) all (λ x. x, λ x. x))

pub loop-pattern-preserved : goal.loop-pattern-preserved
loop-pattern-preserved c =
    let pattern = c.in-Some.pattern in
    let left = patterns_left c.loop-pattern.pattern-iterator in
    let rest = patterns_left c.next.new.self in
    left_more (Contains (named_at (loads_in c.args.deck.now) c.args.notes.now c.args.location.number)) c.args.self.now.flags.items
    (Contains (flat_map names (flat_map matching left))) (Contains (flat_map names (matching pattern)))
    (Contains (flat_map names (flat_map matching rest))) c.loop-pattern.self.flags.items c.add_pattern.new.self.flags.items
    c.loop-pattern.invariant c.add_pattern.ensures
    (λ word. patterns_first pattern left rest word c.in-Some.ensures.steps)

pub returns : goal.returns
returns c =
    left_none (Contains (named_at (loads_in c.args.deck.now) c.args.notes.now c.args.location.number))
    c.args.self.now.flags.items
    (Contains (flat_map names (flat_map matching (patterns_left c.loop-pattern.pattern-iterator))))
    c.loop-pattern.self.flags.items c.loop-pattern.invariant
    (λ word there. contains_none word (subst (λ (patterns : List Pattern).
    Contains (flat_map names (flat_map matching patterns)) word) c.in-None.ensures.steps.0 there))
