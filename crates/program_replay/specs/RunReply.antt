-- What the program has to say of a run.
use Rattle.std.specs.Prelude.{◌≡◌, ℕ, List, ◌++◌, ◌⊎◌}
use Rattle.machine_steps.specs.Run.{Stride}
use Rattle.machine_steps.specs.declared.verdict.Verdict.{Verdict}
use Rattle.flow_graph.specs.Walk.{Setting}
use Rattle.print_lines.specs.declared.limit.Limit as limits
use Rattle.print_lines.specs.declared.limit.Limit.TheVariants as limit
use Rattle.print_lines.specs.Reply.{Reply, breaks_off, says}
use Rattle.print_lines.specs.Status.{status_of}
use Rattle.print_lines.specs.VerdictText.{verdict_text}
use Rattle.print_hops.specs.TraceText.{stride_lines}
use Rattle.read_documents.specs.declared.documents.Documents.{Documents}
use Rattle.read_documents.specs.Documents.{setting_of}
use Rattle.program_limits.specs.Limits.{IsLimit}
use Rattle.program_replay.specs.Coverage.{coverage_lines}
use Rattle.program_replay.specs.Replay.{Given, HasOwnWords, IsReplay, IsTraced, IsTracedInPart}

-- a verdict; the strides of its run, what these came to of the notes, and the verdict; and strides
-- alone, on which a write fails
abbrev pub verdict_reply : Verdict → Reply
verdict_reply verdict = says (verdict_text limit.Bound verdict) (status_of verdict)

abbrev pub trace_reply : Setting → limits.Limit → List Stride → Verdict → Reply
trace_reply g by strides verdict =
    says (stride_lines g.times 1 strides ++ coverage_lines g.notes strides verdict
    ++ verdict_text by verdict) (status_of verdict)

abbrev pub cut_reply : Setting → List Stride → Reply
cut_reply g strides = breaks_off (stride_lines g.times 1 strides)

-- the verdict on the run that is fixed by what is given
abbrev pub SaysVerdict : Documents → Given → Reply → Type 0
SaysVerdict documents given reply =
    (verdict : Verdict) × IsReplay (setting_of documents) given verdict
    × (reply ≡ verdict_reply verdict)

-- a picture of that run, and the status of the verdict; which picture isn't said
abbrev pub SaysRunPicture : Documents → Given → Reply → Type 0
SaysRunPicture documents given reply =
    (verdict : Verdict) × IsReplay (setting_of documents) given verdict
    × (picture : List ℕ) × (reply ≡ says picture (status_of verdict))

-- the strides of a run that is limited so, and its verdict; or its first strides alone, where a
-- write fails
abbrev pub SaysStrides : Setting → limits.Limit → ℕ → Given → Reply → Type 0
SaysStrides g by most given reply =
    ((strides : List Stride) × (verdict : Verdict) × IsTraced g given most strides verdict
    × (reply ≡ trace_reply g by strides verdict))
    ⊎ ((strides : List Stride) × IsTracedInPart g given strides × (reply ≡ cut_reply g strides))

-- the strides of the run that is fixed by what is given, limited by the bound or by a ceiling
abbrev pub SaysTrace : Documents → Given → Reply → Type 0
SaysTrace documents given reply =
    HasOwnWords (setting_of documents) given
    × ((by : limits.Limit) × (most : ℕ) × IsLimit documents by most
    × SaysStrides (setting_of documents) by most given reply)
