-- What is said of a run that is traced is no fault's line.
use Rattle.std.proofs.Common.{◌≡◌, ℕ, None, inl, inr, sym, ◌∙◌}
use Rattle.flow_graph.specs.Walk.{Setting}
use Rattle.print_lines.specs.declared.limit.Limit.{Limit}
use Rattle.print_lines.specs.Reply.{IsLineOfFault, Reply, fault_reply}
use Rattle.read_documents.specs.declared.documents.Documents.{Documents}
use Rattle.read_documents.specs.Documents.{setting_of}
use Rattle.program_replay.specs.Replay.{Given}
use Rattle.program_replay.specs.RunReply.{SaysStrides, SaysTrace, cut_reply, trace_reply}

no_line_of_strides : (g : Setting) (by : Limit) (most : ℕ) (given : Given) (reply : Reply)
    → SaysStrides g by most given reply → IsLineOfFault None reply
no_line_of_strides g by most given reply (inl (strides, verdict, traced, is)) fault clash =
    let bad : trace_reply g by strides verdict ≡ fault_reply fault = sym is ∙ clash in cc
no_line_of_strides g by most given reply (inr (strides, replayed, is)) fault clash =
    let bad : cut_reply g strides ≡ fault_reply fault = sym is ∙ clash in cc

pub no_line_of_trace : (documents : Documents) (given : Given) (reply : Reply) → SaysTrace documents given reply
    → IsLineOfFault None reply
no_line_of_trace documents given reply traced =
    no_line_of_strides (setting_of documents) traced.1.0 traced.1.1 given reply traced.1.3
