-- The lines of a coverage.
use Rattle.std.proofs.Common.{◌≡◌, ℕ, ◌+◌, ◌<◌, List, ◌∷◌, ◌++◌, length, get_or, map, ap, sym, ◌∙◌, arith, []}
use Rattle.std.proofs.Common.{suc, Bool, refl, subst, flat_map}
use Rattle.std.specs.Prelude.{count_by}
use Rattle.std.specs.List.{enumerate_from}
use Rattle.base_notes.specs.declared.notes.listing.Listing.{Listing}
use Rattle.base_notes.specs.declared.notes.mark.Mark.{Mark}
use Rattle.base_notes.specs.declared.notes.pattern.Pattern.{Pattern}
use Rattle.base_notes.specs.Allowed.{Listed, Notes}
use Rattle.base_notes.specs.Listed.{listed}
use Rattle.machine_steps.specs.Run.{Stride}
use Rattle.program_replay.specs.declared.coverage.Coverage.{Coverage}
use Rattle.program_replay.specs.Coverage.{is_met, list_line, mark_line, mark_line_at, most_passed, patterns_met}
use Rattle.program_replay.specs.CoverageOf.{HasSeen, flags_of, list_line_at, met_at, passed_at}
use Rattle.program_replay.proofs.Flags.{count_set, map_at}
use Rattle.program_replay.proofs.Seen.{row, rows_listed}

-- ---- the lines are those of the strides that were seen

same_marks : (passed passed' : ℕ → ℕ) (from : ℕ) (marks : List Mark)
    → ((k : ℕ) → k < length marks → passed (from + k) ≡ passed' (from + k))
    → flat_map (mark_line_at passed) (enumerate_from from marks) ≡ flat_map (mark_line_at passed') (enumerate_from from marks)
same_marks passed passed' from [] same = refl
same_marks passed passed' from (mark ∷ marks) same =
    let first : from + 0 ≡ from = omega arith in
    let here : passed from ≡ passed' from =
    subst (λ (n : ℕ). passed n ≡ passed' n) first (same 0 (omega arith)) in
    let rest = same_marks passed passed' (from + 1) marks (λ k inside.
    let next : from + suc k ≡ from + 1 + k = omega arith in
    subst (λ (n : ℕ). passed n ≡ passed' n) next (same (suc k) (omega (arith, inside)))) in
    ap (λ (n : ℕ). mark_line mark n ++ flat_map (mark_line_at passed) (enumerate_from (from + 1) marks)) here
    ∙ ap (λ (xs : List ℕ). mark_line mark (passed' from) ++ xs) rest

same_lists : (coverage : Coverage) (met : Listed → ℕ) (from : ℕ) (lists : List Listing)
    → ((k : ℕ) (d : Listing) → k < length lists → met_at coverage (from + k) ≡ met (listed (get_or lists k d)))
    → flat_map (list_line_at coverage) (enumerate_from from lists) ≡ flat_map (λ list. list_line list (met list)) (map listed lists)
same_lists coverage met from [] same = refl
same_lists coverage met from (list ∷ lists) same =
    let first : from + 0 ≡ from = omega arith in
    let here : met_at coverage from ≡ met (listed list) =
    subst (λ (n : ℕ). met_at coverage n ≡ met (listed list)) first (same 0 list (omega arith)) in
    let rest = same_lists coverage met (from + 1) lists (λ k d inside.
    let next : from + suc k ≡ from + 1 + k = omega arith in
    subst (λ (n : ℕ). met_at coverage n ≡ met (listed (get_or lists k d))) next (same (suc k) d (omega (arith, inside)))) in
    ap (λ (n : ℕ). list_line (listed list) n ++ flat_map (list_line_at coverage) (enumerate_from (from + 1) lists)) here
    ∙ ap (λ (xs : List ℕ). list_line (listed list) (met (listed list)) ++ xs) rest

module _ (notes : Notes) (strides : List Stride) (coverage : Coverage) (seen : HasSeen notes strides coverage) where
  pub marks_seen : (marks : List Mark) → marks ≡ notes.marks
      → flat_map (mark_line_at (passed_at coverage)) (enumerate_from 0 marks)
      ≡ flat_map (mark_line_at (most_passed notes strides)) (enumerate_from 0 notes.marks)
  marks_seen marks all =
      ap (λ (some : List Mark). flat_map (mark_line_at (passed_at coverage)) (enumerate_from 0 some)) all
      ∙ same_marks (passed_at coverage) (most_passed notes strides) 0 notes.marks (λ k inside.
      let same : k ≡ 0 + k = omega arith in
      subst (λ (n : ℕ). passed_at coverage n ≡ most_passed notes strides n) same (seen.highest k inside))

  -- how many patterns of a list were met
  met_seen : (lists : List Listing) → map listed lists ≡ notes.lists → (k : ℕ) (d : Listing) → k < length lists
      → met_at coverage k ≡ patterns_met strides (listed (get_or lists k d))
  met_seen lists all k d inside =
      let flag : Listed → Pattern → Bool = λ list pattern. is_met strides list.location pattern in
      let list = get_or lists k d in
      let rows : coverage.met.items ≡ map (row flag) lists =
      seen.met ∙ ap (flags_of flag) (sym all) ∙ rows_listed flag lists in
      let here : get_or coverage.met.items k [] ≡ row flag list =
      ap (λ (some : List (List Bool)). get_or some k []) rows ∙ map_at (row flag) lists k d [] inside in
      ap (count_by (λ (met : Bool). met)) here ∙ count_set (is_met strides list.location.number) list.patterns.items

  pub lists_seen : (lists : List Listing) → map listed lists ≡ notes.lists
      → flat_map (list_line_at coverage) (enumerate_from 0 lists)
      ≡ flat_map (λ list. list_line list (patterns_met strides list)) notes.lists
  lists_seen lists all =
      same_lists coverage (patterns_met strides) 0 lists (λ k d inside.
      let same : k ≡ 0 + k = omega arith in
      subst (λ (n : ℕ). met_at coverage n ≡ patterns_met strides (listed (get_or lists k d))) same
      (met_seen lists all k d inside))
      ∙ ap (flat_map (λ list. list_line list (patterns_met strides list))) all
