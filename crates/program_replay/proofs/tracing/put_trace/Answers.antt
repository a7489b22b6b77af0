use Rattle.std.proofs.Common.{[]}
use Rattle.print_lines.proofs.Passing.{passes_none}
use Rattle.read_documents.specs.Documents.{setting_of}
use Rattle.program_replay.proofs.Traced.{either_map, traced_before, traced_followed}
use Rattle.program_replay.proofs.tracing.put_trace.Goals as goal

pub returns-in-Some-clause-passes : goal.returns-in-Some-clause-passes
returns-in-Some-clause-passes g c given is = (
  [],
  traced_before (setting_of c.args.documents.now) given c.args.begun is c.in-Some.verdict c.in-Some.is,
  passes_none (g.O.Output.device c.args.out.now) c.args.sheet.now,
  c.requires.fresh,
)

pub returns-clause-passes : goal.returns-clause-passes
returns-clause-passes g c given is =
    let passes = c.put_steps.ensures.passes in (
      passes.0,
      either_map c.put_steps.result passes.1
          (λ under_way. record {
            before = under_way.0;
            last = under_way.1;
            all = under_way.2;
            under_way = under_way.3 given is.are;
          })
          (λ verdict followed. traced_followed (setting_of c.args.documents.now) given c.args.begun is passes.0 verdict
          followed),
      passes.2,
      passes.3,
    )
