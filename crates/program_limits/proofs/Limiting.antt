-- What limits a run, and why nothing does.
use Rattle.std.proofs.Common.{ℕ, ◌≤◌, Bool, true, false, arith}
use Rattle.std.specs.Prelude.{IsTrue, not}
use Rattle.flow_graph.specs.declared.refusal.Refusal.TheVariants as refusal
use Rattle.flow_graph.specs.Bounded.{IsBounded}
use Rattle.print_lines.specs.declared.fault.Fault.{Fault}
use Rattle.print_lines.specs.declared.fault.Fault.TheVariants as faults
use Rattle.print_lines.specs.declared.limit.Limit as limits
use Rattle.print_lines.specs.declared.limit.Limit.TheVariants as limit
use Rattle.ceiling_checked.specs.declared.answer.Ceiling.{Ceiling}
use Rattle.ceiling_checked.specs.CeilingOf.{total_of}
use Rattle.ceiling_checked.specs.Right.{IsTooDear}
use Rattle.read_documents.specs.declared.documents.Documents.{Documents}
use Rattle.read_documents.specs.Documents.{setting_of}
use Rattle.base_notes.specs.Allowed.{Notes}
use Rattle.base_notes.specs.Short.{is_short}
use Rattle.program_limits.specs.Limits.{AreLong, AreShort, HaveNoBound, IsCeiling, IsCeilingFault}
use Rattle.program_limits.specs.Limits.{IsLimit, IsLimitFault}

-- the fault that the code has for no ceiling says why there is none
pub no_ceiling : (documents : Documents) (fault : Fault) → HaveNoBound documents
    → IsCeilingFault documents fault → IsLimitFault documents fault
no_ceiling documents (faults.Refused (refusal.NotLoaded location)) none is = is
no_ceiling documents (faults.Refused (refusal.NotInProfile location op)) none is = is
no_ceiling documents (faults.Refused (refusal.Alters writer word)) none is = is
no_ceiling documents (faults.Refused (refusal.Unbounded cycle)) none is = is
no_ceiling documents (faults.Refused (refusal.TooLarge product)) none is = (
  none,
  is.0.2,
  record {
    nodes = is.1.nodes;
    reached = is.1.reached;
    admitted = is.1.admitted;
    large = λ most takes. omega (arith, is.1.large most takes);
  },
)
no_ceiling documents (faults.Refused refusal.TooMany) none is = is
no_ceiling documents (faults.Refused refusal.HasCalls) none is = is
no_ceiling documents (faults.Refused refusal.Memory) none is = is
no_ceiling documents faults.NoPart none is = absurd is
no_ceiling documents (faults.Part part what) none is = absurd is
no_ceiling documents faults.Memory none is = absurd is
no_ceiling documents (faults.Deck fault) none is = absurd is
no_ceiling documents (faults.Times fault) none is = absurd is
no_ceiling documents (faults.Notes fault) none is = absurd is
no_ceiling documents (faults.Inputs fault) none is = absurd is
no_ceiling documents (faults.Loaded location) none is = absurd is

-- a ceiling that comes to so much
pub too_dear : (documents : Documents) (ceiling : Ceiling) (least : ℕ) → IsCeiling documents ceiling
    → least ≤ total_of ceiling → IsTooDear (setting_of documents) least
too_dear documents ceiling least is large = record {
  nodes = is.nodes;
  reached = is.reached;
  admitted = is.admitted;
  large = λ most takes. omega (arith, is.low most takes, large);
}

-- no kept run uses more than what limits it
pub bounded_by : (documents : Documents) (by : limits.Limit) (most : ℕ) → IsLimit documents by most
    → IsBounded (setting_of documents) most
bounded_by documents limit.Bound most is = is.1.bounded
bounded_by documents limit.Ceiling most is =
    λ s steps first run kept. omega (arith, is.1.1.kept s steps first run kept, is.1.2)

-- notes aren't both short and long
pub short_or_long : (documents : Documents) → AreShort documents → AreLong documents → ⊥
short_or_long documents short long = go (is_short documents.notes) short long
  where
    go : (b : Bool) → IsTrue b → IsTrue (not b) → ⊥
    go true short long = cc
    go false short long = cc
