use Rattle.std.proofs.Common.{◌∙◌, sym}
use Rattle.program_replay.specs.Given.{given}
use Rattle.program_replay.proofs.TraceBegun.{trace_begun}
use Rattle.program_replay.proofs.replaying.begin_trace.Goals as goal

pub returns-clause-begun : goal.returns-clause-begun
returns-clause-begun c =
    trace_begun c.args.documents.now (given c.args.inputs) c.in_ok-limit.limit c.in_ok-limit.most c.in_ok-begun.begun
    c.in-Ok.coverage (sym c.loaded_by.ensures ∙ c.in_default.is) c.in_ok-limit.ensures.limit
    c.in_ok-begun.ensures.begun c.in_ok-begun.ensures.limited c.in-Ok.ensures
