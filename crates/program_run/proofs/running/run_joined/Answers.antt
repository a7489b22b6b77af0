-- Of run_joined: the bound or the fault of the joined form is the reply, which answers the input's
-- bytes; it goes out to the one output or the other, and tells of a failed read exactly where there
-- was one.
use Rattle.std.proofs.Common.{◌≡◌, ℕ, List, Err, refl, inl, inr, ap, sym, ◌∙◌, subst}
use Rattle.print_lines.specs.declared.fault.Fault.{Fault}
use Rattle.print_lines.specs.declared.fault.Fault.TheVariants as faults
use Rattle.print_lines.specs.declared.part.Part.TheVariants as part
use Rattle.print_lines.specs.declared.part.PartFault.TheVariants as what
use Rattle.print_lines.specs.declared.status.Status.TheVariants.{Done, Failed}
use Rattle.print_lines.specs.BoundText.{bound_text}
use Rattle.print_lines.specs.FaultStatus.{reads_failed, status_after}
use Rattle.read_documents.specs.Joined.{IsPastLimit}
use Rattle.program_run.specs.Commands.{AnswersJoined}
use Rattle.print_lines.specs.Reply.{TellsOfReads, bound_reply, fault_reply}
use Rattle.program_run.proofs.Replies.{fault_of_reads, known, result_of_no_read}
use Rattle.program_run.proofs.running.run_joined.Goals as goal

pub returns-in-Ok-clause-told : goal.returns-in-Ok-clause-told
returns-in-Ok-clause-told g c =
    let reply = bound_reply c.in-Ok.bound in (
      reply,
      (c.tell_bound.ensures, refl),
      (λ failures failed.
          let none = sym (c.in-Ok.ensures.counted failures failed) in (
            subst (λ (n : ℕ). TellsOfReads n reply) none (result_of_no_read (bound_text c.in-Ok.bound) Done),
            (λ bytes left. subst (λ (n : ℕ). AnswersJoined bytes n reply) none
                (known _ (λ (bytes : List ℕ). AnswersJoined bytes 0 reply) bytes left c.in-Ok.ensures.bound)),
          )),
      (
        (λ not_read not_memory. c.in-Ok.ensures.whole (λ is. cc) (λ is. cc)),
        (λ given. absurd (elim (c.in-Ok.ensures.full given) [ inl is ↦ cc | inr is ↦ cc ])),
      ),
    )

pub returns-in-Err-clause-told : goal.returns-in-Err-clause-told
returns-in-Err-clause-told g c =
    let fault = c.in-Err.fault in (
      fault_reply fault,
      (refl, c.tell_fault.ensures.line, c.tell_fault.ensures.status),
      (λ failures failed.
          let many = sym (c.in-Err.ensures.counted failures failed) in (
            subst (λ (n : ℕ). TellsOfReads n (fault_reply fault)) many (fault_of_reads fault),
            (λ bytes left. subst (λ (n : ℕ). AnswersJoined bytes n (fault_reply fault)) many
                (known _ (λ (bytes : List ℕ). AnswersJoined bytes (reads_failed fault) (fault_reply fault)) bytes left
                c.in-Err.ensures.fault)),
          )),
      (
        (λ not_read not_memory. c.in-Err.ensures.whole
            (λ is. let same : fault ≡ faults.Part part.Joined what.Read = cc in not_read (ap fault_reply same))
            (λ is. let same : fault ≡ faults.Memory = cc in not_memory (ap fault_reply same))),
        (λ given. elim (c.in-Err.ensures.full given) [
          | inl is ↦ let same : fault ≡ faults.Part part.Joined what.TooLong = cc in inl (ap fault_reply same)
          | inr is ↦ let same : fault ≡ faults.Memory = cc in inr (ap fault_reply same)
        ]),
      ),
    )

pub returns-in-Ok-clause-full : goal.returns-in-Ok-clause-full
returns-in-Ok-clause-full g c given = absurd (elim (c.in-Ok.ensures.full given) [ inl is ↦ cc | inr is ↦ cc ])

pub returns-in-Err-clause-full : goal.returns-in-Err-clause-full
returns-in-Err-clause-full g c given =
    c.tell_fault.ensures.status ∙ failed c.in-Err.fault (c.in-Err.ensures.full given)
  where
    failed : (fault : Fault) → IsPastLimit {A = ℕ} (Err fault) → status_after fault ≡ Failed
    failed fault (inl is) = let same : fault ≡ faults.Part part.Joined what.TooLong = cc in ap status_after same
    failed fault (inr is) = let same : fault ≡ faults.Memory = cc in ap status_after same
