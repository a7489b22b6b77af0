-- How a trace begins.
use Rattle.std.proofs.Common.{◌≡◌, ℕ, [], sym, subst}
use Rattle.print_lines.specs.declared.limit.Limit as limits
use Rattle.base_notes.specs.declared.times.Times.{Times}
use Rattle.flow_graph.specs.SettingOf.{setting}
use Rattle.flow_graph.specs.Bounded.{IsBounded}
use Rattle.read_documents.specs.declared.documents.Documents.{Documents}
use Rattle.read_documents.specs.Documents.{setting_of}
use Rattle.program_limits.specs.Limits.{IsLimit}
use Rattle.program_limits.proofs.Limiting.{bounded_by}
use Rattle.program_replay.specs.declared.coverage.Coverage.{Coverage}
use Rattle.program_replay.specs.declared.replaying.Begun.{Begun}
use Rattle.program_replay.specs.Begun.{IsBegun, IsTraceBegun}
use Rattle.program_replay.specs.CoverageOf.{HasSeen}
use Rattle.program_replay.specs.Replay.{Given, HasOwnWords}

-- a trace begins, whatever limits its run
pub trace_begun : (documents : Documents) (given : Given) (by : limits.Limit) (most : ℕ) (begun : Begun)
    (coverage : Coverage) → HasOwnWords (setting_of documents) given → IsLimit documents by most
    → ((times : Times) → IsBounded (setting documents.deck times documents.notes) most
    → IsBegun (setting documents.deck times documents.notes) given begun)
    → (begun.limit ≡ by) × (begun.most ≡ most) → HasSeen documents.notes [] coverage
    → IsTraceBegun documents given (record { begun = begun; coverage = coverage })
trace_begun documents given by most begun coverage own is begins same fresh = record {
  begun_of = begins documents.times (bounded_by documents by most is);
  own_words = own;
  limited =
      subst (λ (one : limits.Limit). IsLimit documents one begun.most) (sym same.0)
      (subst (λ (n : ℕ). IsLimit documents by n) (sym same.1) is);
  fresh = fresh;
}
