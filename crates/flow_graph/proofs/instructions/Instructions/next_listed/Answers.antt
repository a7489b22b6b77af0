use Rattle.std.proofs.Common.{sym, ◌∙◌, arith}
use Rattle.std.proofs.lemmas.Option.{slice_get_within}
use Rattle.std.proofs.lemmas.List.{take_rest}
use Rattle.base_notes.specs.Allowed.{matching}
use Rattle.flow_graph.proofs.Instructed.{few_match, listed_first, listed_behind}
use Rattle.flow_graph.proofs.instructions.Instructions.next_listed.Goals as goal

pub overflow_add-self : goal.overflow_add-self
overflow_add-self c =
    let pattern = c.pattern-item.result in
    omega (
      arith,
      few_match pattern,
      slice_get_within (matching pattern) c.loop-self.self.place c.in-Some.instruction
          (sym c.in-Some.ensures),
    )

pub returns-in-Some-clause-first : goal.returns-in-Some-clause-first
returns-in-Some-clause-first c =
    let left = c.loop-self.self in
    c.loop-self.invariant.same
    ∙ listed_first left.patterns.now left.place c.pattern-item.result c.in-Some.instruction
    c.in-len1-up.len_at_least c.pattern-item.is (sym c.in-Some.ensures)

pub loop-self-preserved : goal.loop-self-preserved
loop-self-preserved c =
    let left = c.loop-self.self in
    record {
      same =
          c.loop-self.invariant.same
          ∙ listed_behind left.patterns.now _ left.place c.pattern-item.result c.in-len1-up.len_at_least
          c.pattern-item.is (take_rest left.patterns.now 1) (sym c.at.ensures ∙ c.in_default-at.is);
      loaded = c.loop-self.invariant.loaded;
    }
