-- The entries of the table that a finished scan holds are raised by the ends of their hops.
use Rattle.std.proofs.Common.{◌≡◌, ℕ, zero, suc, ◌+◌, ◌-◌, ◌*◌, ◌%◌, ◌<◌, ◌≤◌, ◌⊎◌, List, [], ◌∷◌, refl, ap, sym, ◌∙◌}
use Rattle.std.proofs.Common.{subst, inl, inr, Option, Some, None, arith}
use Rattle.std.specs.Prelude.{Contains}
use Rattle.base_notes.specs.declared.notes.mark.Mark.{Mark}
use Rattle.machine_steps.specs.Counts.{after_pass, no_counts, AreWithin}
use Rattle.machine_steps.specs.Ways.{Way, to}
use Rattle.base_graphs.proofs.Lists.{contains_from_get}
use Rattle.flow_graph.specs.Hops.{Hop, hops}
use Rattle.flow_graph.specs.Walk.{Setting}
use Rattle.flow_graph.specs.Longest.{longest}
use Rattle.bound_scan.specs.declared.latest.Latest.{Latest}
use Rattle.bound_scan.specs.declared.key_hop.KeyHop.{KeyHop}
use Rattle.bound_scan.proofs.DigitsLaws.{number_injective}
use Rattle.bound_scan.specs.Ends.{HopEnd, IsHop, LeadsTo, start_row, AreRaised}
use Rattle.bound_scan.proofs.EntryEnds.{latest_end, end_of, ends_of, IsEndIn, end_in, has_in}
use Rattle.bound_scan.specs.Keys.{keys_of, place_at, counts_at, IsKey, IsOrdered}
use Rattle.bound_scan.proofs.KeyLaws.{counts_within, one_key}
use Rattle.bound_scan.specs.RowOf.{row_of}
use Rattle.bound_scan.proofs.Rows.{AreRowsOf, IsRowOf, one_row, one_kept, is_inside}
use Rattle.bound_scan.specs.Scanned.{cell_at, end_from, IsBackedBy, Arrives, IsTakenBy, Scanned}
use Rattle.bound_scan.specs.Table.{start_angle, number_of, Row}
use Rattle.bound_scan.proofs.Walked.{not_before}

-- no pass has the number 0
pub number_none : (marks : List Mark) → number_of marks (no_counts marks) ≡ 0
number_none [] = refl
number_none (mark ∷ marks) =
    let others : (mark.most + 1) * number_of marks (no_counts marks) ≡ (mark.most + 1) * 0 =
    ap (λ (n : ℕ). (mark.most + 1) * n) (number_none marks) in
    omega (arith, others)

-- an entry is the start's, or has the time of an end of these entries' that leads to it
abbrev IsRaised : Setting → List Row → Row → Type 0
IsRaised g rows row =
    (row ≡ start_row g) ⊎ ((end : HopEnd) × Contains (ends_of g rows) end × LeadsTo g end row × (row.time ≡ end.ended))

-- no end of a hop of one entry that leads to another is later than that
abbrev IsNoLater : Setting → Row → Row → Type 0
IsNoLater g row next =
    (number : ℕ) (hop : Hop) → IsHop g row.place number hop → LeadsTo g (end_of g row number hop) next
    → latest_end g row.place hop row.time ≤ next.time

module _ (g : Setting) (order : List ℕ) (cells : List (Option Latest)) (last : Latest)
    (ordered : IsOrdered g.loads g.notes g.start order) (starts : g.start < 2000)
    (s : Scanned g order (keys_of g.notes.marks order) (keys_of g.notes.marks order) cells last) (rows : List Row)
    (are : AreRowsOf g order cells (keys_of g.notes.marks order) rows) where
  -- a key of the start with no mark passed is the one that the scan begins at
  is_start : (key : ℕ) → IsKey g.notes.marks order key g.start (no_counts g.notes.marks) → key ≡ s.begins.key
  is_start key is = one_key g.notes.marks order g.start (no_counts g.notes.marks) key s.begins.key ordered.different is
      s.begins.is

  -- none of the first keys that something is kept at is before it
  not_first_below : (bound key : ℕ) (kept : Latest) → key < bound → cell_at cells key ≡ Some kept → s.begins.key ≤ key
  not_first_below zero key kept below there = absurd (omega (arith, below))
  not_first_below (suc bound) key kept below there =
      go kept.origin (s.backed key kept there)
      (λ earlier one before at. not_first_below bound earlier one (omega (arith, before, below)) at)
    where
      go : (origin : Option KeyHop) → IsBackedBy g order (keys_of g.notes.marks order) cells key kept.clock origin
          → ((earlier : ℕ) (one : Latest) → earlier < key → cell_at cells earlier ≡ Some one → s.begins.key ≤ earlier)
          → s.begins.key ≤ key
      go None is further = omega (arith, is_start key is.0)
      go (Some origin) is further = omega (arith, is.1.later, further origin.key is.0.kept is.1.later is.0.there)

  -- what is kept for the start is the moment of the start
  start_now : s.begins.kept.clock ≡ start_angle g.start
  start_now = go s.begins.kept.origin (s.backed s.begins.key s.begins.kept s.begins.there)
    where
      go : (origin : Option KeyHop)
          → IsBackedBy g order (keys_of g.notes.marks order) cells s.begins.key s.begins.kept.clock origin
          → s.begins.kept.clock ≡ start_angle g.start
      go None is = is.1
      go (Some origin) is =
          absurd (omega (
            arith,
            is.1.later,
            not_first_below (origin.key + 1) origin.key is.0.kept (omega arith)
                is.0.there,
          ))

  -- a key of the start with no mark passed has the start's row, where the moment of the start is kept
  as_start : (key : ℕ) (kept : Latest) → IsKey g.notes.marks order key g.start (no_counts g.notes.marks)
      → kept.clock ≡ start_angle g.start
      → row_of g order key kept ≡ start_row g
  as_start key kept is now =
      let row : ℕ → ℕ → ℕ → ℕ → Row =
      λ place angle counts time. record { place = place; angle = angle; counts = counts; time = time } in
      let clock : ℕ = kept.clock in
      let number : ℕ = number_of g.notes.marks (counts_at g.notes.marks order key) in
      let none : number ≡ 0 = ap (number_of g.notes.marks) is.passed ∙ number_none g.notes.marks in
      let angle : clock % 50 ≡ (g.start + 1) % 50 = omega (arith, now) in
      let time : clock - start_angle g.start ≡ 0 = omega (arith, now) in
      ap (λ (n : ℕ). row n (clock % 50) number (clock - start_angle g.start)) is.at
      ∙ ap (λ (n : ℕ). row g.start n number (clock - start_angle g.start)) angle
      ∙ ap (λ (n : ℕ). row g.start ((g.start + 1) % 50) n (clock - start_angle g.start)) none
      ∙ ap (λ (n : ℕ). row g.start ((g.start + 1) % 50) 0 n) time

  -- so the start's row is there
  has_start : Contains rows (start_row g)
  has_start =
      subst (Contains rows) (as_start s.begins.key s.begins.kept s.begins.is start_now)
      (are.has s.begins.key s.begins.kept s.begins.is.below s.begins.there)

  -- the latest end of a hop from what is kept at a key, as word times used
  ends_from : (key : ℕ) (kept : Latest) (hop : Hop) → cell_at cells key ≡ Some kept
      → end_from g order key hop kept.clock - start_angle g.start
      ≡ latest_end g (place_at order key) hop (kept.clock - start_angle g.start)
  ends_from key kept hop there =
      let angle : ℕ = start_angle g.start in
      let same : kept.clock ≡ angle + (kept.clock - angle) =
      omega (arith, not_before g order cells last ordered starts s key kept there) in
      ap (λ (clock : ℕ). longest g.times (place_at order key) hop.ins hop.way clock - angle) same

  -- a key's row is the start's, or raised by an end that leads to it
  row_raised : (key : ℕ) (kept : Latest) → cell_at cells key ≡ Some kept
      → IsRaised g rows (row_of g order key kept)
  row_raised key kept there = go kept.origin (s.backed key kept there)
    where
      go : (origin : Option KeyHop) → IsBackedBy g order (keys_of g.notes.marks order) cells key kept.clock origin
          → IsRaised g rows (row_of g order key kept)
      go None is = inl (as_start key kept is.0 is.1)
      go (Some origin) is =
          let marks : List Mark = g.notes.marks in
          let hop : Hop = is.0.hop in
          let from : ℕ = origin.key in
          let row : Row = row_of g order from is.0.kept in
          let leads : LeadsTo g (end_of g row origin.number hop) (row_of g order key kept) = record {
            hop = hop;
            of = is.0.is;
            onto = is.1.onto;
            passes = counts_at marks order from;
            within = counts_within marks order from is.0.below;
            before = refl;
            unbarred = subst (AreWithin marks) is.1.passed is.1.within;
            after = ap (number_of marks) (sym is.1.passed);
          } in
          inr (
            end_of g row origin.number hop,
            has_in g rows row origin.number hop (are.has from is.0.kept is.0.below is.0.there) is.0.is,
            leads,
            ap (λ (clock : ℕ). clock - start_angle g.start) is.0.end ∙ ends_from from is.0.kept hop is.0.there,
          )

  -- two hops of one number of a location are one
  one_hop : (place number : ℕ) (hop other : Hop) → IsHop g place number hop → IsHop g place number other → hop ≡ other
  one_hop place number hop other is same = go (sym is ∙ same)
    where
      go : Some hop ≡ Some other → hop ≡ other
      go e = cc

  -- and by none is it passed
  row_no_later : (from : ℕ) (one : Latest) (key : ℕ) (kept : Latest) → cell_at cells from ≡ Some one
      → cell_at cells key ≡ Some kept
      → IsNoLater g (row_of g order from one) (row_of g order key kept)
  row_no_later from one key kept at there number hop is leads =
      let marks : List Mark = g.notes.marks in
      let inside : from < keys_of marks order = is_inside g order cells last ordered starts s from one at in
      let passed : List ℕ → List ℕ = λ counts. after_pass marks (place_at order from) (place_at order key) counts in
      let end : ℕ = end_from g order from hop one.clock in
      let passes : leads.passes ≡ counts_at marks order from =
      number_injective marks leads.passes (counts_at marks order from) leads.within
      (counts_within marks order from inside) leads.before in
      let within : AreWithin marks (passed (counts_at marks order from)) =
      subst (λ (counts : List ℕ). AreWithin marks (passed counts)) passes leads.unbarred in
      let counts : number_of marks (passed (counts_at marks order from)) ≡ number_of marks (counts_at marks order key) =
      subst (λ (counts : List ℕ). number_of marks (passed counts) ≡ number_of marks (counts_at marks order key)) passes
      leads.after in
      let onto : hop.way ≡ to (place_at order key) =
      ap (λ (h : Hop). h.way) (one_hop (place_at order from) number hop leads.hop is leads.of) ∙ leads.onto in
      let has : Contains (hops g.loads g.notes (place_at order from)) hop =
      contains_from_get (hops g.loads g.notes (place_at order from)) number hop is in
      let took : IsTakenBy g order cells last.clock from end (to (place_at order key)) =
      subst (λ (way : Way). IsTakenBy g order cells last.clock from end way) onto (s.took from one hop inside at has) in
      let came : Arrives marks order cells (place_at order key) (passed (counts_at marks order from)) end =
      (took within).1 in
      let same : came.key ≡ key =
      one_row g order cells came.key key ordered.different came.is.below
      (is_inside g order cells last ordered starts s key kept there)
      came.is.at (ap (number_of marks) came.is.passed ∙ counts) in
      omega (
        arith,
        came.after,
        one_kept g order cells last ordered starts s came.key key came.kept kept same came.there
            there,
        ends_from from one hop at,
      )

  -- so with all rows
  raised_row : (row : Row) → IsRowOf g order cells (keys_of g.notes.marks order) row
      → IsRaised g rows row
  raised_row row of = subst (IsRaised g rows) of.is
      (row_raised of.key of.kept of.there)

  no_later_row : (row next : Row) → IsRowOf g order cells (keys_of g.notes.marks order) row
      → IsRowOf g order cells (keys_of g.notes.marks order) next
      → IsNoLater g row next
  no_later_row row next from of =
      subst (λ (one : Row). IsNoLater g one next) from.is
      (subst (λ (one : Row). IsNoLater g (row_of g order from.key from.kept) one) of.is
      (row_no_later from.key from.kept of.key of.kept from.there of.there))

  -- The rows of the keys are raised by the ends of their hops.
  pub are_raised : AreRaised g rows (ends_of g rows)
  are_raised = record {
    start = has_start;
    raised = λ row has. raised_row row (are.from row has);
    most = λ row end has made leads.
        let one : IsEndIn g rows end = end_in g rows end made in
        let none_later : IsNoLater g one.row row = no_later_row one.row row (are.from one.row one.there) (are.from row has) in
        subst (λ (e : HopEnd). LeadsTo g e row → e.ended ≤ row.time) one.same (none_later one.number one.hop one.of) leads;
  }
