-- That the rows of all kinds, sorted, are the waits of a walk in rounds.
use Rattle.std.proofs.Common.{◌≡◌, ℕ, zero, suc, ◌+◌, ◌-◌, ◌%◌, ◌<◌, ◌≤◌, ◌⊎◌, inl, inr, Bool, true, false, List, ◌∷◌, ◌++◌, []}
use Rattle.std.proofs.Common.{filter, flat_map, length, map, take, refl, ap, sym, ◌∙◌, subst, arith, Option, Some, None}
use Rattle.std.specs.Map.{values_of}
use Rattle.std.specs.Prelude.{codes, decimal, option_map, slice_get, sum_by, Contains}
use Rattle.std.proofs.lemmas.List.{take_all}
use Rattle.std.proofs.lemmas.Bool.{cases_lt}
use Rattle.std.proofs.lemmas.Map.Entries.{hash_map_get_place, place_from_lookup}
use Rattle.std.proofs.lemmas.Option.{slice_get-map, slice_get_within}
use Rattle.indexmap.specs.IndexMap.{IndexMap, get}
use Rattle.base_words.specs.declared.op.Op.{Op}
use Rattle.base_words.specs.Numeral.{digits_of}
use Rattle.base_notes.specs.declared.entry.Entry.{Entry}
use Rattle.base_graphs.proofs.Lists.{contains_at, contains_from_get, contains_here, contains_map, contains_there}
use Rattle.flow_graph.specs.Walk.{Setting}
use Rattle.flow_walks.specs.Visited.{Visited}
use Rattle.flow_walks.specs.declared.piece.Piece.{Piece}
use Rattle.flow_walks.specs.declared.piece.Piece.TheVariants as piece
use Rattle.flow_walks.specs.declared.piece.Placed.{Placed}
use Rattle.flow_walks.specs.Pieces.{seen_placed, spelled, PlacedHop}
use Rattle.ceiling_rounds.specs.InRounds.{summed, takes}
use Rattle.ceiling_rounds.specs.Order.{AreInOrder}
use Rattle.print_hops.specs.declared.kind.Kind.{Kind}
use Rattle.print_hops.specs.declared.sums.Sums.{Sums}
use Rattle.print_hops.specs.MomentsText.{moment_text}
use Rattle.print_hops.specs.TimedHop.{seen_timed}
use Rattle.print_hops.specs.Waits.{alike, data_at, for_data, for_instruction, is_alike, next_at, time_alike, time_of}
use Rattle.print_hops.specs.Waits.{AreDearestFirst, ComesBefore, IsFirst}
use Rattle.print_hops.specs.KindsOf.{same_kind}
use Rattle.print_hops.specs.WaitsText.{kind_line, wait_line}
use Rattle.print_hops.specs.WalkText.{hop_text, way_text}
use Rattle.print_hops.proofs.DataAngles.{same_data_at}
use Rattle.print_hops.proofs.KindRows.{entry_of, key_at, one_place, AreDearest}
use Rattle.print_hops.proofs.LaterMoments.{at_once, data_at_once, next_at_once}
use Rattle.print_hops.proofs.Lines.{flat_map_map, same_texts}
use Rattle.print_hops.proofs.NextAngles.{same_next_at}
use Rattle.print_hops.proofs.SameKinds.{alike_equiv, in_common, same_kind_equiv}
use Rattle.print_ceilings.specs.declared.waits.kind_row.KindRow.{KindRow}
use Rattle.print_ceilings.specs.RoundsText.{from_to}
use Rattle.print_ceilings.specs.KindRows.{AreRows}
use Rattle.print_ceilings.specs.RoundsWaitsOf.{is_of, kind_of, of_those, row_text, seen_kind}
use Rattle.print_ceilings.specs.RoundsWaitsOf.{waits_data, waits_instruction, IsRow, IsRowOf}
use Rattle.print_ceilings.proofs.FirstComings.{comes, comes_before, of_piece}
use Rattle.print_ceilings.proofs.FirstVisits.{first_of, head_is, head_within, parted, IsHead}
use Rattle.print_ceilings.proofs.KindSums.{all_count, at_angle, laid_hop, laid_visit, once_alone, same_data}
use Rattle.print_ceilings.proofs.KindSums.{same_instruction, same_kinds, same_time, sum_laid, those_at_most}
use Rattle.print_ceilings.proofs.Laid.{AreLaid, IsLaid}
use Rattle.print_ceilings.proofs.RowSteps.{summed_part}

-- ---- lines

-- a line by what it shows of a hop
same_line : (times : Op → Entry) (angle other : ℕ) (a b : Visited) (visits time instruction operand : ℕ)
    → hop_text a ≡ hop_text b → data_at times angle a ≡ data_at times other b → next_at angle a ≡ next_at other b
    → kind_line times angle a visits time instruction operand
    ≡ kind_line times other b visits time instruction operand
same_line times angle other a b visits time instruction operand p q r =
    λ j. p j ++ codes " visits " ++ decimal visits ++ codes " time " ++ decimal time
    ++ codes " instruction " ++ decimal instruction ++ codes " data " ++ decimal operand
    ++ codes " work " ++ decimal (time - instruction - operand)
    ++ moment_text (codes " data-at ") (q j) ++ moment_text (codes " next-at ") (r j) ++ codes "\n"

alike_text : (a b : Visited) → is_alike a b ≡ true → hop_text a ≡ hop_text b
alike_text a b so =
    let common = in_common a b so in
    λ j. digits_of 4 (common.place j) ++ codes " " ++ digits_of 2 (common.op j) ++ codes " "
    ++ digits_of 4 (common.d j) ++ codes " " ++ digits_of 4 (common.i j) ++ codes " " ++ way_text (common.way j)

-- a row whose first visit this is
row_at : (first : KindRow → Visited) (rows : List KindRow) (i : ℕ) (hop : Visited)
    → slice_get (map first rows) i ≡ Some hop
    → (row : KindRow) × (slice_get rows i ≡ Some row) × (first row ≡ hop)
row_at first [] i hop at = absurd (cc)
row_at first (row ∷ rows) zero hop at =
    let same : first row ≡ hop = cc in
    (row, refl, same)
row_at first (row ∷ rows) (suc i) hop at = row_at first rows i hop at

in_middle : (before after : List Visited) (one : Visited) → Contains (before ++ one ∷ after) one
in_middle [] after one = contains_here one after
in_middle (front ∷ before) after one =
    contains_there front one (before ++ one ∷ after) (in_middle before after one)

-- hops that one is alike to are alike to it
pub alike_on : (a b c : Visited) → is_alike a b ≡ true → is_alike b c ≡ is_alike a c
alike_on a b c so = sym (alike_equiv.congr a b c so)

-- what a row sorts by
abbrev pub time_in : KindRow → ℕ
time_in row = row.sums.time

abbrev pub number_in : KindRow → ℕ
number_in row = row.number

-- ---- the first visit of a row's kind

abbrev pub test : KindRow → Visited → Bool
test row visit = is_alike (seen_timed row.told) visit

abbrev pub first_visit : List Visited → KindRow → Visited
first_visit visits row = first_of (test row) visits (seen_timed row.told)

module _ (g : Setting) (angle : ℕ) (visits : List Visited) (pieces : List Piece) (often : List ℕ)
    (each : length often ≡ length pieces) (order : AreInOrder pieces)
    (adds : (what : PlacedHop → ℕ) → sum_by what (spelled pieces) ≡ summed what pieces often)
    (laid : AreLaid g.times angle 0 visits (spelled pieces)) where
  module _ (is : PlacedHop → Bool) (seen : Visited) (tests : (hop : PlacedHop) → is hop ≡ is_alike seen (from_to 0 0 hop))
      (row : KindRow) (its : IsRow g.times pieces often (length pieces) is row) where
    -- the kind is that of its hop
    of_seen : is_alike seen (seen_timed row.told) ≡ true
    of_seen = ap (is_alike seen) its.told ∙ sym (tests (seen_placed its.one)) ∙ its.has

    -- a visit that its first piece's hop is
    some_visit : (visit : Visited) × Contains visits visit
        × ((at : ℕ) × IsLaid g.times angle at visit (seen_placed its.one))
    some_visit =
        laid_hop g.times angle 0 visits (spelled pieces) laid (seen_placed its.one)
        (comes pieces order row.number its.one its.here)

    passes_test : (at : ℕ) (visit : Visited) (hop : PlacedHop) → IsLaid g.times angle at visit hop
        → test row visit ≡ is hop
    passes_test at visit hop it =
        alike_on seen (seen_timed row.told) visit of_seen
        ∙ same_kinds g.times angle at visit hop it seen ∙ sym (tests hop)

    pub head : IsHead (test row) visits (first_visit visits row)
    head =
        head_is (test row) visits (seen_timed row.told) some_visit.0 some_visit.1
        (passes_test some_visit.2.0 some_visit.0 (seen_placed its.one) some_visit.2.1 ∙ its.has)

    -- the visits of its kind
    those : filter (test row) visits ≡ alike (first_visit visits row) visits
    those =
        ap (λ (t : Visited → Bool). filter t visits)
        (λ j visit. alike_equiv.congr (seen_timed row.told) (first_visit visits row) visit head.passes j)

    all_taken : (what : PlacedHop → ℕ) → summed what (take (length pieces) pieces) (take (length pieces) often)
        ≡ summed what pieces often
    all_taken what =
        ap (λ (ps : List Piece). summed what ps (take (length pieces) often))
        (take_all (length pieces) pieces (omega arith))
        ∙ ap (summed what pieces) (take_all (length pieces) often (omega (arith, each)))

    summed_up : (f : Visited → ℕ) (what : PlacedHop → ℕ)
        → ((at : ℕ) (visit : Visited) (one : PlacedHop) → IsLaid g.times angle at visit one → f visit ≡ what one)
        → summed (of_those is what) (take (length pieces) pieces) (take (length pieces) often)
        ≡ sum_by f (alike (first_visit visits row) visits)
    summed_up f what same =
        all_taken (of_those is what) ∙ sym (adds (of_those is what))
        ∙ sym (sum_laid g.times angle (test row) is f what passes_test same 0 visits (spelled pieces) laid)
        ∙ ap (sum_by f) those

    pub its_time : row.sums.time ≡ time_alike visits (first_visit visits row)
    its_time =
        ap (λ (s : Sums). s.time) its.sums
        ∙ summed_up time_of (takes g.times) (same_time g.times angle)

    its_visits : row.sums.visits ≡ length (alike (first_visit visits row) visits)
    its_visits =
        ap (λ (s : Sums). s.visits) its.sums
        ∙ summed_up (λ _. 1) (λ _. 1) (λ at visit one it. refl)
        ∙ all_count (alike (first_visit visits row) visits)

    its_instruction : row.sums.instruction
        ≡ sum_by (for_instruction g.times angle) (alike (first_visit visits row) visits)
    its_instruction =
        ap (λ (s : Sums). s.instruction) its.sums
        ∙ summed_up (for_instruction g.times angle) (waits_instruction g.times) (same_instruction g.times angle)

    its_data : row.sums.operand ≡ sum_by (for_data g.times angle) (alike (first_visit visits row) visits)
    its_data =
        ap (λ (s : Sums). s.operand) its.sums
        ∙ summed_up (for_data g.times angle) (waits_data g.times) (same_data g.times angle)

    -- what its hop's visit and the first have in common
    both : is_alike (first_visit visits row) some_visit.0 ≡ true
    both =
        alike_on (seen_timed row.told) (first_visit visits row) some_visit.0 head.passes
        ∙ passes_test some_visit.2.0 some_visit.0 (seen_placed its.one) some_visit.2.1 ∙ its.has

    first_laid : (hop : PlacedHop) × Contains (spelled pieces) hop
        × ((at : ℕ) × IsLaid g.times angle at (first_visit visits row) hop)
    first_laid =
        laid_visit g.times angle 0 visits (spelled pieces) laid (first_visit visits row)
        (subst (λ (vs : List Visited). Contains vs (first_visit visits row)) (sym head.split)
        (in_middle head.before head.after (first_visit visits row)))

    alone_told : at_once some_visit.0 ≡ seen_timed row.told
    alone_told =
        once_alone g.times angle some_visit.2.0 some_visit.0 (seen_placed its.one) some_visit.2.1 ∙ sym its.told

    at_its_angle : row.angle ≡ (angle + some_visit.0.begun) % 50
    at_its_angle =
        its.angle ∙ at_angle g.times angle some_visit.2.0 some_visit.0 (seen_placed its.one) some_visit.2.1

    data_told : data_at g.times row.angle (seen_timed row.told) ≡ data_at g.times angle (first_visit visits row)
    data_told =
        ap (data_at g.times row.angle) (sym alone_told)
        ∙ sym (data_at_once g.times angle row.angle some_visit.0 at_its_angle)
        ∙ sym (same_data_at g.times angle (first_visit visits row) some_visit.0 both)

    next_told : next_at row.angle (seen_timed row.told) ≡ next_at angle (first_visit visits row)
    next_told =
        let it = some_visit.2.1 in
        ap (next_at row.angle) (sym alone_told)
        ∙ sym (next_at_once angle row.angle some_visit.0 at_its_angle (omega (arith, it.begun, it.ended)))
        ∙ sym (same_next_at g angle (first_visit visits row) some_visit.0 first_laid.2.1.op first_laid.2.1.longest
        it.longest both first_laid.2.1.known)

    -- its line is that of its kind
    pub its_line : row_text g.times row ≡ wait_line g.times angle visits (first_visit visits row)
    its_line =
        same_line g.times row.angle angle (seen_timed row.told) (first_visit visits row) row.sums.visits row.sums.time
        row.sums.instruction row.sums.operand (alike_text (seen_timed row.told) (first_visit visits row) head.passes)
        data_told next_told
        ∙ (λ j. kind_line g.times angle (first_visit visits row) (its_visits j) (its_time j) (its_instruction j)
        (its_data j))

    -- none of its kind comes before it
    pub its_first : IsFirst visits (first_visit visits row)
    its_first = (
      head.before,
      head.after,
      head.split,
      λ hop has.
          alike_on (seen_timed row.told) (first_visit visits row) hop head.passes ∙ head.none hop has,
    )

  -- ---- the rows of all kinds

  module _ {S : Type 0} (rows : IndexMap Kind KindRow S) (are : AreRows g.times pieces often (length pieces) rows) where
    entry_is : (i : ℕ) (row : KindRow) → slice_get (values_of rows.entries) i ≡ Some row
        → (key : Kind) × (slice_get rows.entries i ≡ Some (key, row))
        × IsRow g.times pieces often (length pieces) (is_of key) row
    entry_is i row at =
        let entry = entry_of rows.entries i row at in (
          entry.0,
          entry.1,
          subst (IsRowOf g.times pieces often (length pieces) (is_of entry.0))
              (hash_map_get_place same_kind_equiv rows i entry.0 row are.apart entry.1) (are.found entry.0),
        )

    head_at : (key : Kind) (row : KindRow) → IsRow g.times pieces often (length pieces) (is_of key) row
        → IsHead (test row) visits (first_visit visits row)
    head_at key row it = head (is_of key) (seen_kind key) (λ hop. refl) row it

    row_line : (row : KindRow) → Contains (values_of rows.entries) row
        → row_text g.times row ≡ wait_line g.times angle visits (first_visit visits row)
    row_line row has =
        let at = contains_at (values_of rows.entries) row has in
        let entry = entry_is at.0 row at.1 in
        its_line (is_of entry.0) (seen_kind entry.0) (λ hop. refl) row entry.2

    pub rows_lines : flat_map (row_text g.times) (values_of rows.entries)
        ≡ flat_map (wait_line g.times angle visits) (map (first_visit visits) (values_of rows.entries))
    rows_lines =
        same_texts (row_text g.times) (λ (row : KindRow). wait_line g.times angle visits (first_visit visits row))
        (values_of rows.entries) row_line
        ∙ flat_map_map (wait_line g.times angle visits) (first_visit visits) (values_of rows.entries)

    -- a visit's kind has its row
    has_row : (hop : Visited) → Contains visits hop
        → (row : KindRow) × Contains (values_of rows.entries) row
        × (is_alike (first_visit visits row) hop ≡ true)
    has_row hop has =
        let its = laid_visit g.times angle 0 visits (spelled pieces) laid hop has in
        let part = of_piece pieces order its.0 its.1 in
        go part.0 part.1 part.2 its.2.0
        (subst (IsLaid g.times angle its.2.0 hop) (sym part.3) its.2.1)
        (get same_kind rows (kind_of part.1)) refl (are.found (kind_of part.1))
      where
        clash : true ≡ false → ⊥
        clash e = cc

        go : (n : ℕ) (one : Placed) → slice_get pieces n ≡ Some (piece.Hop one) → (at : ℕ)
            → IsLaid g.times angle at hop (seen_placed one) → (found : Option KindRow)
            → get same_kind rows (kind_of one) ≡ found
            → IsRowOf g.times pieces often (length pieces) (is_of (kind_of one)) found
            → (row : KindRow) × Contains (values_of rows.entries) row
            × (is_alike (first_visit visits row) hop ≡ true)
        go n one here at it None is none =
            absurd (clash (sym (same_kind_equiv.refl (kind_of one))
            ∙ none n one (slice_get_within pieces n (piece.Hop one) here) here))
        go n one here at it (Some row) is row_is =
            let place = place_from_lookup (same_kind (kind_of one)) rows.entries row is in
            let passes = (head_at (kind_of one) row row_is).passes in (
              row,
              contains_from_get (values_of rows.entries) place.0 row
                  (slice_get-map (λ (e : Kind × KindRow). e.1) rows.entries place.0
                  ∙ ap (option_map (λ (e : Kind × KindRow). e.1)) place.2),
              alike_on (seen_timed row.told) (first_visit visits row) hop passes
                  ∙ passes_test (is_of (kind_of one)) (seen_kind (kind_of one)) (λ h. refl) row row_is at hop
                  (seen_placed one) it
                  ∙ same_kind_equiv.refl (kind_of one),
            )

    -- rows in the order of their pieces begin in that order
    begins_before : (a b : KindRow) (key other : Kind)
        → IsRow g.times pieces often (length pieces) (is_of key) a
        → IsRow g.times pieces often (length pieces) (is_of other) b → a.number < b.number
        → (first_visit visits a).begun ≤ (first_visit visits b).begun
    begins_before a b key other one_is other_is less =
        let last = head_at other b other_is in
        let apart = parted g.times angle 0 last.before (first_visit visits b) last.after (spelled pieces)
        (subst (λ (vs : List Visited). AreLaid g.times angle 0 vs (spelled pieces)) last.split laid) in
        let is_other : is_of other apart.one ≡ true =
        sym (passes_test (is_of other) (seen_kind other) (λ h. refl) b other_is apart.at (first_visit visits b)
        apart.one apart.laid)
        ∙ last.passes in
        let came : Contains apart.first (seen_placed one_is.one) =
        comes_before pieces order a.number one_is.one one_is.here (is_of other)
        (λ k o low at. other_is.first k o (omega (arith, low, less)) at) apart.first apart.one apart.second apart.split
        is_other in
        let seen = apart.found (seen_placed one_is.one) came in
        let so : test a seen.0 ≡ true =
        passes_test (is_of key) (seen_kind key) (λ h. refl) a one_is seen.2.0 seen.0 (seen_placed one_is.one) seen.2.1
        ∙ one_is.has in
        apart.earlier (first_visit visits a)
        (subst (λ (vs : List Visited). Contains last.before (first_of (test a) vs (seen_timed a.told))) (sym last.split)
        (head_within (test a) last.before (first_visit visits b ∷ last.after) (seen_timed a.told) seen.0 seen.1 so))

    -- rows of one piece are one
    one_piece : (i j : ℕ) (a b : KindRow) (key other : Kind) → slice_get rows.entries i ≡ Some (key, a)
        → slice_get rows.entries j ≡ Some (other, b)
        → IsRow g.times pieces often (length pieces) (is_of key) a
        → IsRow g.times pieces often (length pieces) (is_of other) b → a.number ≡ b.number → i ≡ j
    one_piece i j a b key other p q one_is other_is same =
        let pair : Some (piece.Hop one_is.one) ≡ Some (piece.Hop other_is.one) =
        sym one_is.here ∙ ap (slice_get pieces) same ∙ other_is.here in
        let hop : one_is.one ≡ other_is.one = cc in
        one_place rows are.apart i j key other (key_at rows.entries i key a p) (key_at rows.entries j other b q)
        (same_kind_equiv.congr key (kind_of one_is.one) other one_is.has
        ∙ same_kind_equiv.symm (kind_of one_is.one) other
        ∙ ap (λ (o : Placed). same_kind other (kind_of o)) hop ∙ other_is.has)

    comes_first : (k : ℕ) (a b : KindRow) → slice_get (values_of rows.entries) k ≡ Some a
        → slice_get (values_of rows.entries) (suc k) ≡ Some b
        → (b.sums.time < a.sums.time) ⊎ ((a.sums.time ≡ b.sums.time) × (a.number ≤ b.number))
        → ComesBefore visits (first_visit visits a) (first_visit visits b)
    comes_first k a b p q dearer =
        let one = entry_is k a p in
        let other = entry_is (suc k) b q in
        let took = its_time (is_of one.0) (seen_kind one.0) (λ h. refl) a one.2 in
        let takes_too = its_time (is_of other.0) (seen_kind other.0) (λ h. refl) b other.2 in
        elim dearer [
          | inl less ↦ inl (omega (arith, less, took, takes_too))
          | inr same ↦ inr (
            sym took ∙ same.0 ∙ takes_too,
            elim (cases_lt a.number b.number) [
              | inl less ↦ begins_before a b one.0 other.0 one.2 other.2 less
              | inr high ↦
                  let place : k ≡ suc k =
                  one_piece k (suc k) a b one.0 other.0 one.1 other.1 one.2 other.2 (omega (arith, same.1, high)) in
                  absurd (omega (arith, place))
            ],
          )
        ]

    pub dearest_first : AreDearest time_in number_in (values_of rows.entries)
        → AreDearestFirst visits (map (first_visit visits) (values_of rows.entries))
    dearest_first sorted = record {
      first = λ one has.
          let at = contains_at (map (first_visit visits) (values_of rows.entries)) one has in
          let row = row_at (first_visit visits) (values_of rows.entries) at.0 one at.1 in
          let entry = entry_is at.0 row.0 row.1 in
          subst (IsFirst visits) row.2 (its_first (is_of entry.0) (seen_kind entry.0) (λ h. refl) row.0 entry.2);
      all = λ hop has.
          let row = has_row hop has in (
            first_visit visits row.0,
            contains_map (first_visit visits) (values_of rows.entries) row.0 row.1,
            row.2,
          );
      apart = λ i j a b p q so.
          let first = row_at (first_visit visits) (values_of rows.entries) i a p in
          let second = row_at (first_visit visits) (values_of rows.entries) j b q in
          let one = entry_is i first.0 first.1 in
          let other = entry_is j second.0 second.1 in
          one_kind i j first.0 second.0 one.0 other.0 one.1 other.1 one.2 other.2
          (ap (λ (hop : Visited). is_alike hop (first_visit visits second.0)) first.2 ∙ ap (is_alike a) second.2 ∙ so);
      order = λ k a b p q.
          let first = row_at (first_visit visits) (values_of rows.entries) k a p in
          let second = row_at (first_visit visits) (values_of rows.entries) (suc k) b q in
          subst (λ (hop : Visited). ComesBefore visits hop b) first.2
          (subst (ComesBefore visits (first_visit visits first.0)) second.2
          (comes_first k first.0 second.0 first.1 second.1 (sorted k first.0 second.0 first.1 second.1)));
    }
      where
        one_kind : (i j : ℕ) (a b : KindRow) (key other : Kind) → slice_get rows.entries i ≡ Some (key, a)
            → slice_get rows.entries j ≡ Some (other, b)
            → IsRow g.times pieces often (length pieces) (is_of key) a
            → IsRow g.times pieces often (length pieces) (is_of other) b
            → is_alike (first_visit visits a) (first_visit visits b) ≡ true → i ≡ j
        one_kind i j a b key other p q one_is other_is so =
            let first : is_alike (seen_kind key) (first_visit visits a) ≡ true =
            sym (alike_on (seen_kind key) (seen_timed a.told) (first_visit visits a)
            (of_seen (is_of key) (seen_kind key) (λ h. refl) a one_is))
            ∙ (head_at key a one_is).passes in
            let second : is_alike (seen_kind other) (first_visit visits b) ≡ true =
            sym (alike_on (seen_kind other) (seen_timed b.told) (first_visit visits b)
            (of_seen (is_of other) (seen_kind other) (λ h. refl) b other_is))
            ∙ (head_at other b other_is).passes in
            one_place rows are.apart i j key other (key_at rows.entries i key a p) (key_at rows.entries j other b q)
            (sym (alike_on (seen_kind key) (first_visit visits a) (seen_kind other) first)
            ∙ sym (alike_on (first_visit visits a) (first_visit visits b) (seen_kind other) so)
            ∙ alike_equiv.symm (first_visit visits b) (seen_kind other) ∙ second)

    -- no row takes longer than the walk
    pub row_short : (row : KindRow) → Contains (values_of rows.entries) row
        → row.sums.time ≤ sum_by (takes g.times) (spelled pieces)
    row_short row has =
        let at = contains_at (values_of rows.entries) row has in
        let entry = entry_is at.0 row at.1 in
        let is = is_of entry.0 in
        omega (
          arith,
          ap (λ (s : Sums). s.time) entry.2.sums,
          summed_part (of_those is (takes g.times)) pieces often (length pieces),
          adds (of_those is (takes g.times)),
          those_at_most is (takes g.times) (spelled pieces),
        )
