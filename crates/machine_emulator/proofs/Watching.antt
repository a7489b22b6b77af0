-- What a monitor has seen, one stride later.
use Rattle.std.proofs.Common.{◌≡◌, ℕ, List, [], ◌∷◌, ◌++◌, Option, Some, None}
use Rattle.std.proofs.Common.{refl, sym, ap, subst, ◌∙◌, arith}
use Rattle.std.specs.Prelude.{MatchOption}
use Rattle.base_words.specs.declared.word.Word.{Word}
use Rattle.base_notes.specs.declared.notes.mark.Mark.{Mark}
use Rattle.base_notes.specs.Allowed.{Notes}
use Rattle.machine_steps.specs.declared.left.Left.{Left}
use Rattle.machine_emulator.specs.declared.monitor.Monitor.{Monitor}
use Rattle.machine_steps.specs.Counts.{no_counts, AreWithin}
use Rattle.machine_steps.specs.Calls.{none_open, open_along, GoBack}
use Rattle.machine_steps.specs.Keeps.{AreKept, IsKeptStride, Leaves, counts_after, open_behind, ways_after, GoesBack}
use Rattle.machine_steps.specs.Since.{edge_by, edges_of}
use Rattle.machine_steps.proofs.Returning.{along_joined, back_joined, edges_more}
use Rattle.machine_emulator.specs.Monitor.{counts_in, open_in, HasSeenKept}
use Rattle.machine_steps.specs.Keeps.{counts_over}
use Rattle.machine_steps.specs.Run.{Stride}

pub zeros_within : (marks : List Mark) → AreWithin marks (no_counts marks)
zeros_within [] = tt
zeros_within (mark ∷ marks) = (omega arith, zeros_within marks)

pub kept_within : (loads : ℕ → Option Word) (notes : Notes) (counts : List ℕ) (strides : List Stride)
    → AreKept loads notes counts strides → AreWithin notes.marks counts
    → AreWithin notes.marks (counts_over notes counts strides)
kept_within loads notes counts [] kept within = within
kept_within loads notes counts (stride ∷ strides) kept within =
    kept_within loads notes (counts_after notes counts stride) strides kept.1 kept.0.marks

kept_more : (loads : ℕ → Option Word) (notes : Notes) (counts : List ℕ) (strides : List Stride) (stride : Stride)
    → AreKept loads notes counts strides
    → IsKeptStride loads notes (counts_over notes counts strides) stride → AreKept loads notes counts (strides ++ stride ∷ [])
kept_more loads notes counts [] stride kept one = (one, tt)
kept_more loads notes counts (first ∷ strides) stride kept one =
    (kept.0, kept_more loads notes (counts_after notes counts first) strides stride kept.1 one)

pub over_more : (notes : Notes) (counts : List ℕ) (strides : List Stride) (stride : Stride)
    → counts_over notes counts (strides ++ stride ∷ []) ≡ counts_after notes (counts_over notes counts strides) stride
over_more notes counts [] stride = refl
over_more notes counts (first ∷ strides) stride = over_more notes (counts_after notes counts first) strides stride

-- what is open behind one stride more
open_more : (notes : Notes) (strides : List Stride) (stride : Stride)
    → open_behind notes (strides ++ stride ∷ []) ≡ ways_after notes (open_behind notes strides) stride
open_more notes strides stride =
    let none = none_open notes.calls in
    ap (open_along notes.calls none) (edges_more strides stride)
    ∙ along_joined notes.calls none (edges_of strides) (edge_by stride.origin.sought stride.outcome)

back_more : (notes : Notes) (strides : List Stride) (stride : Stride)
    → GoBack notes.calls (none_open notes.calls) (edges_of strides)
    → GoesBack notes (open_behind notes strides) stride
    → GoBack notes.calls (none_open notes.calls) (edges_of (strides ++ stride ∷ []))
back_more notes strides stride back one =
    subst (GoBack notes.calls (none_open notes.calls)) (sym (edges_more strides stride))
    (back_joined notes.calls (none_open notes.calls) (edges_of strides)
    (edge_by stride.origin.sought stride.outcome) back one)

-- one stride more is seen, or leaves the notes
pub seen_more : (loads : ℕ → Option Word) (notes : Notes) (m n : Monitor) (strides : List Stride) (stride : Stride)
    (left : Option Left) → HasSeenKept loads notes m strides
    → MatchOption left (AreWithin notes.marks (counts_in m notes) → IsKeptStride loads notes (counts_in m notes) stride
    × (counts_in n notes ≡ counts_after notes (counts_in m notes) stride)
    × GoesBack notes (open_in m notes) stride × (open_in n notes ≡ ways_after notes (open_in m notes) stride))
    (λ l. Leaves loads notes (counts_in m notes) (open_in m notes) stride l)
    → MatchOption left (HasSeenKept loads notes n (strides ++ stride ∷ []))
    (λ l. Leaves loads notes (counts_over notes (no_counts notes.marks) strides) (open_behind notes strides) stride l)
seen_more loads notes m n strides stride None seen judged =
    let within : AreWithin notes.marks (counts_in m notes) =
    subst (AreWithin notes.marks) (sym seen.counts)
    (kept_within loads notes (no_counts notes.marks) strides seen.kept (zeros_within notes.marks)) in
    let one = judged within in
    record {
      counts =
          one.1 ∙ ap (λ (counts : List ℕ). counts_after notes counts stride) seen.counts
          ∙ sym (over_more notes (no_counts notes.marks) strides stride);
      kept =
          kept_more loads notes (no_counts notes.marks) strides stride seen.kept
          (subst (λ (counts : List ℕ). IsKeptStride loads notes counts stride) seen.counts one.0);
      open_now =
          one.3 ∙ ap (λ (ways : List (Option ℕ)). ways_after notes ways stride) seen.open_now
          ∙ sym (open_more notes strides stride);
      back =
          back_more notes strides stride seen.back
          (subst (λ (ways : List (Option ℕ)). GoesBack notes ways stride) seen.open_now one.2);
    }
seen_more loads notes m n strides stride (Some l) seen judged =
    subst (λ (counts : List ℕ). Leaves loads notes counts (open_behind notes strides) stride l) seen.counts
    (subst (λ (ways : List (Option ℕ)). Leaves loads notes (counts_in m notes) ways stride l) seen.open_now judged)
