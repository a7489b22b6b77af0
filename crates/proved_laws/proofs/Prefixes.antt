-- Prefixes of runs.
use Rattle.std.specs.Prelude.{ℕ, zero, suc, List, [], ◌∷◌, take, Option}
use Rattle.std.proofs.Common.{◌≡◌, refl, ap, ◌∙◌}
use Rattle.base_words.specs.declared.op.Op.{Op}
use Rattle.base_words.specs.declared.word.Word.{Word}
use Rattle.base_notes.specs.declared.entry.Entry.{Entry}
use Rattle.base_notes.specs.Allowed.{Notes}
use Rattle.machine_steps.specs.Calls.{none_open}
use Rattle.machine_steps.specs.Counts.{no_counts}
use Rattle.machine_steps.specs.Keeps.{AreKept, IsKept, counts_after}
use Rattle.machine_steps.specs.Run.{Stride, IsRun, FollowStep}
use Rattle.machine_steps.specs.Step.{State, Stepped, on, stopped}
use Rattle.machine_steps.proofs.Returning.{back_prefix}

nothing_taken : (n : ℕ) → take {A = Stride} n [] ≡ []
nothing_taken zero = refl
nothing_taken (suc n) = refl

prefix_follows : (outcome : Stepped) (Right Prefix : State → Type 0) (strides : List Stride) (n : ℕ)
    → ((next : State) → Right next → Prefix next)
    → FollowStep outcome Right strides → FollowStep outcome Prefix (take n strides)
prefix_follows (on next) Right Prefix strides n prefix follows = prefix next follows
prefix_follows (stopped held because moment) Right Prefix strides n prefix follows = ap (take n) follows ∙ nothing_taken n

pub run_prefix : (times : Op → Entry) (s : State) (strides : List Stride) (n : ℕ) → IsRun times s strides
    → IsRun times s (take n strides)
run_prefix times s strides zero is_run = tt
run_prefix times s [] (suc n) is_run = tt
run_prefix times s (stride ∷ strides) (suc n) is_run = (
  is_run.0,
  prefix_follows stride.outcome (λ next. IsRun times next strides) (λ next. IsRun times next (take n strides)) strides n
      (λ next runs. run_prefix times next strides n runs) is_run.1,
)

kept_from : (loads : ℕ → Option Word) (notes : Notes) (counts : List ℕ) (strides : List Stride) (n : ℕ)
    → AreKept loads notes counts strides → AreKept loads notes counts (take n strides)
kept_from loads notes counts strides zero kept = tt
kept_from loads notes counts [] (suc n) kept = tt
kept_from loads notes counts (stride ∷ strides) (suc n) kept =
    (kept.0, kept_from loads notes (counts_after notes counts stride) strides n kept.1)

pub kept_prefix : (loads : ℕ → Option Word) (notes : Notes) (s : State) (strides : List Stride) (n : ℕ)
    → IsKept loads notes s strides → IsKept loads notes s (take n strides)
kept_prefix loads notes s strides n kept =
    record {
      declared = kept.declared;
      kept = kept_from loads notes (no_counts notes.marks) strides n kept.kept;
      back = back_prefix notes.calls (none_open notes.calls) strides n kept.back;
    }
