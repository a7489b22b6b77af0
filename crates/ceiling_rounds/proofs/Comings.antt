-- What hops come to: none, one, one stretch behind another, and rounds of one.
use Rattle.std.proofs.Common.{◌≡◌, ◌≢◌, ℕ, zero, suc, ◌+◌, ◌-◌, ◌*◌, ◌%◌, ◌<◌, Bool, true, false, List, [], ◌∷◌, ◌++◌}
use Rattle.std.proofs.Common.{length, map, refl, ap, sym, ◌∙◌, subst, arith, Option, Some, None, append_assoc}
use Rattle.std.specs.Prelude.{◌==◌, if◌then◌else◌, nat_eq, slice_get, Contains}
use Rattle.std.specs.Option.{option_eq}
use Rattle.std.proofs.Math.Nat.{suc-mul}
use Rattle.std.proofs.lemmas.Bool.{eqb-true, eqb-false, eq-eqb, ne_eqb}
use Rattle.std.proofs.lemmas.Grind.{flat_map-append}
use Rattle.std.proofs.lemmas.List.{append-nil, length-map, map-append}
use Rattle.std.proofs.lemmas.List.Sums.{sum_by-append}
use Rattle.base_words.specs.declared.instruction.Instruction.{Instruction}
use Rattle.base_words.specs.declared.op.Op.{Op}
use Rattle.base_words.specs.Op.{op_of}
use Rattle.base_notes.specs.declared.notes.mark.Mark.{Mark}
use Rattle.base_notes.specs.Marks.{mark_on}
use Rattle.machine_steps.specs.Counts.{after_pass, is_inside, passed_from, AreWithin}
use Rattle.machine_steps.specs.Since.{passes_of, Edge}
use Rattle.machine_steps.specs.Ways.{Way, early, to, late}
use Rattle.flow_graph.specs.Hops.{hops}
use Rattle.flow_graph.specs.Longest.{longest}
use Rattle.flow_graph.specs.Walk.{edge_taken}
use Rattle.flow_graph.specs.Walk.{IsTimed, IsWalkFrom, Setting, Taken, time_from}
use Rattle.flow_graph.proofs.FromAngles.{leap_time}
use Rattle.flow_graph.proofs.LongestLaws.{longest_is_timed}
use Rattle.flow_graph.proofs.Profiles.{hop_may_end}
use Rattle.flow_graph.specs.Longest.{units_by, wait_by}
use Rattle.flow_walks.specs.Pieces.{placed, repeated, PlacedHop}
use Rattle.ceiling_rows.specs.Marked.{mark_by}
use Rattle.ceiling_rounds.specs.declared.change.Change.{Change}
use Rattle.ceiling_rounds.specs.declared.change.Change.TheVariants.{Rise, SetBack}
use Rattle.ceiling_rounds.specs.declared.opening.Opening.{Opening}
use Rattle.ceiling_rounds.specs.Change.{all_followed, counts_after, over_rounds, passes_by, peaks}
use Rattle.ceiling_rounds.specs.InRounds.{takes}
use Rattle.ceiling_rounds.specs.Opening.{AreBoth, AreRight}
use Rattle.ceiling_rounds.specs.Stretch.{changes_by, edges_placed, laid, laid_one, next_by, ComeTo, GoOn, Span}
use Rattle.ceiling_rounds.proofs.CountLaws.{at_followed, at_rounds, counts_followed, counts_once, counts_others, long_by}
use Rattle.ceiling_rounds.proofs.CountLaws.{long_followed, passes_followed, passes_rounds, within_first, within_followed}
use Rattle.ceiling_rounds.proofs.CountLaws.{within_none, within_others, within_passed}
use Rattle.ceiling_rounds.proofs.LaidLaws.{laid_append, time_append}
use Rattle.ceiling_rounds.proofs.OpeningLaws.{both_right, rounds_right}

-- how often a hop passes the mark with an index, by the index of the mark that it passes
passes_one : (all : List Mark) (found : Option ℕ) (index : ℕ) (marks : List Mark) (k at : ℕ) (change : Change)
    → index + k ≡ at → slice_get (changes_by all found index marks) k ≡ Some change
    → passes_by change ≡ (if option_eq nat_eq found (Some at) then 1 else 0)
passes_one all found index [] k at change sum is = cc
passes_one all None index (mark ∷ marks) zero at change sum is =
    let same : Rise 0 ≡ change = cc in
    ap passes_by (sym same)
passes_one all None index (mark ∷ marks) (suc k) at change sum is =
    passes_one all None (index + 1) marks k at change (omega (arith, sum)) is
passes_one all (Some passed) index (mark ∷ marks) zero at change sum is =
    one (index == passed) (is_inside all index passed) refl is
  where
    here : index ≡ at
    here = omega (arith, sum)

    one : (own inside : Bool) → (index == passed) ≡ own
        → Some (if own then Rise 1 else (if inside then SetBack 0 0 0 0 else Rise 0)) ≡ Some change
        → passes_by change ≡ (if nat_eq passed at then 1 else 0)
    one true inside own is =
        let same : Rise 1 ≡ change = cc in
        let test : nat_eq passed at ≡ true =
        eq-eqb passed at (sym (eqb-true index passed own) ∙ here) in
        ap passes_by (sym same) ∙ ap (λ (b : Bool). if b then 1 else 0) (sym test)
    one false inside own is =
        let differ : passed ≢ at = λ same. eqb-false index passed own (here ∙ sym same) in
        let test : nat_eq passed at ≡ false = ne_eqb passed at differ in
        none inside is ∙ ap (λ (b : Bool). if b then 1 else 0) (sym test)
      where
        none : (inside : Bool) → Some (if inside then SetBack 0 0 0 0 else Rise 0) ≡ Some change → passes_by change ≡ 0
        none true is =
            let same : SetBack 0 0 0 0 ≡ change = cc in
            ap passes_by (sym same)
        none false is =
            let same : Rise 0 ≡ change = cc in
            ap passes_by (sym same)
passes_one all (Some passed) index (mark ∷ marks) (suc k) at change sum is =
    passes_one all (Some passed) (index + 1) marks k at change (omega (arith, sum)) is

-- the edges of hops, one after the other
edges_append : (xs ys : List PlacedHop) → edges_placed (xs ++ ys) ≡ edges_placed xs ++ edges_placed ys
edges_append xs ys = flat_map-append (λ (one : PlacedHop). edge_taken one.place one.hop.way) xs ys

-- and over rounds
edges_repeated : (times : ℕ) (hops : List PlacedHop)
    → edges_placed (repeated times hops) ≡ repeated times (edges_placed hops)
edges_repeated zero hops = refl
edges_repeated (suc times) hops =
    edges_append hops (repeated times hops)
    ∙ ap (λ (es : List Edge). edges_placed hops ++ es) (edges_repeated times hops)

-- passes along hops, one after the other
passes_append : (marks : List Mark) (index : ℕ) (xs ys : List PlacedHop)
    → passes_of marks index (edges_placed (xs ++ ys))
    ≡ passes_of marks index (edges_placed xs) + passes_of marks index (edges_placed ys)
passes_append marks index xs ys =
    ap (passes_of marks index) (edges_append xs ys)
    ∙ sum_by-append _ (edges_placed xs) (edges_placed ys)

-- no hop
pub none_comes : (g : Setting) (place angle : ℕ) (openings : List Opening) → AreRight g.notes.calls [] openings
    → ComeTo g [] (record {
      from = place;
      angle = angle;
      onto = Some place;
      time = 0;
      changes = changes_by g.notes.marks None 0 g.notes.marks;
      openings = openings;
    })
none_comes g place angle openings right =
    let marks = g.notes.marks in
    record {
      each = long_by marks None 0 marks;
      passed = λ index change is. passes_one marks None 0 marks index index change (omega arith) is;
      lasts = refl;
      placed = λ from time at. refl;
      time = λ from time at. omega arith;
      walks = λ from time counts rest at within goes.
          let so = within_none marks 0 marks counts within in
          let same : time + 0 ≡ time = omega arith in
          subst (λ (cs : List ℕ). IsWalkFrom g from place time cs rest) so.1
          (subst (λ (t : ℕ). IsWalkFrom g from place t (counts_after (changes_by marks None 0 marks) counts) rest) same
          goes);
      opens = right;
    }

-- what a pass of a mark does to counts, if one is passed
within_by : (marks : List Mark) (found : Option ℕ) (counts : List ℕ)
    → AreWithin marks (peaks (changes_by marks found 0 marks) counts)
    → AreWithin marks (elim found [ None ↦ counts | Some passed ↦ passed_from marks passed 0 counts ])
    × (counts_after (changes_by marks found 0 marks) counts
    ≡ elim found [ None ↦ counts | Some passed ↦ passed_from marks passed 0 counts ])
within_by marks None counts within = within_none marks 0 marks counts within
within_by marks (Some passed) counts within = within_passed marks passed 0 marks counts within

-- a hop of a place
module _ (g : Setting) (place angle : ℕ) (ins : Instruction) (on_drum : angle < 50) (took : ℕ)
    (openings : List Opening) where
  abbrev pub one_hop : Way → PlacedHop
  one_hop way = record { place = place; angle = angle; hop = record { ins = ins; way = way } }

  abbrev pub one_span : Way → Span
  one_span way = record {
    from = place;
    angle = angle;
    onto = next_by way;
    time = took;
    changes = changes_by g.notes.marks (mark_by g.notes.marks place way) 0 g.notes.marks;
    openings = openings;
  }

  -- it ends so much later, from each clock of its angle
  ends_later : (way : Way) → longest g.times place ins way angle ≡ angle + took → (start time : ℕ)
      → (start + time) % 50 ≡ angle → (laid_one g start time (one_hop way)).ended ≡ time + took
  ends_later way is start time at =
      omega (arith, leap_time g.times place ins way angle (start + time) on_drum at, is)

  -- it is one of its location
  pub timed : (way : Way) → Contains (hops g.loads g.notes place) (record { ins = ins; way = way }) → (start time : ℕ)
      → IsTimed g.times start (laid_one g start time (one_hop way)) (op_of ins.op)
  timed way has start time =
      let may = hop_may_end g.loads g.notes place ins way has in
      subst (λ (o : Option Op). IsTimed g.times start (record {
        place = place;
        ins = ins;
        way = way;
        units = units_by ins.d o;
        wait = wait_by g.times o;
        begun = time;
        ended = longest g.times place ins way (start + time) - start;
      }) (op_of ins.op)) (sym may.1) (longest_is_timed g.times place ins way start time may.0 may.1)

  pub hop_passes : (way : Way) (index : ℕ) (change : Change) → slice_get (one_span way).changes index ≡ Some change
      → passes_by change ≡ passes_of g.notes.marks index (edges_placed (one_hop way ∷ []))
  hop_passes early index change is =
      passes_one g.notes.marks None 0 g.notes.marks index index change (omega arith) is
  hop_passes (to next) index change is =
      let one =
      passes_one g.notes.marks (mark_on g.notes.marks place next) 0 g.notes.marks index index change (omega arith) is in
      omega (arith, one)
  hop_passes late index change is =
      passes_one g.notes.marks None 0 g.notes.marks index index change (omega arith) is

  hop_walks : (way : Way) → Contains (hops g.loads g.notes place) (record { ins = ins; way = way })
      → longest g.times place ins way angle ≡ angle + took → (start time : ℕ) (counts : List ℕ) (rest : List Taken)
      → (start + time) % 50 ≡ angle → AreWithin g.notes.marks (peaks (one_span way).changes counts)
      → GoOn g start (time + took) (counts_after (one_span way).changes counts) rest (next_by way)
      → IsWalkFrom g start place time counts (laid g start time (one_hop way ∷ []) ++ rest)
  hop_walks early has is start time counts rest at within goes = (
    record { here = refl; allowed = has; begins = refl; timed = timed early has start time },
    goes,
  )
  hop_walks (to next) has is start time counts rest at within goes =
      let so = within_by g.notes.marks (mark_on g.notes.marks place next) counts within in
      let passed = after_pass g.notes.marks place next counts in
      let on : IsWalkFrom g start next (time + took) passed rest =
      subst (λ (cs : List ℕ). IsWalkFrom g start next (time + took) cs rest) so.1 goes in (
        record { here = refl; allowed = has; begins = refl; timed = timed (to next) has start time },
        (
          so.0,
          subst (λ (t : ℕ). IsWalkFrom g start next t passed rest) (sym (ends_later (to next) is start time at)) on,
        ),
      )
  hop_walks late has is start time counts rest at within goes = (
    record { here = refl; allowed = has; begins = refl; timed = timed late has start time },
    goes,
  )

  pub hop_comes : (way : Way) → Contains (hops g.loads g.notes place) (record { ins = ins; way = way })
      → longest g.times place ins way angle ≡ angle + took → AreRight g.notes.calls (edge_taken place way) openings
      → ComeTo g (one_hop way ∷ []) (one_span way)
  hop_comes way has is right = record {
    each = long_by g.notes.marks (mark_by g.notes.marks place way) 0 g.notes.marks;
    passed = hop_passes way;
    lasts = omega (arith, is);
    placed = λ start time at.
        ap (λ (a : ℕ). record { place = place; angle = a; hop = record { ins = ins; way = way } } ∷ []) at;
    time = λ start time at. ends_later way is start time at;
    walks = hop_walks way has is;
    opens =
        subst (λ (es : List Edge). AreRight g.notes.calls es openings) (sym (append-nil (edge_taken place way))) right;
  }

-- one stretch behind another
module _ (g : Setting) (xs ys : List PlacedHop) (a b : Span) (onto : a.onto ≡ Some b.from)
    (turn : (a.angle + a.time) % 50 ≡ b.angle) (first : ComeTo g xs a) (second : ComeTo g ys b)
    (all : List Opening) (are : AreBoth a.openings b.openings all) where
  abbrev both : Span
  both = record {
    from = a.from;
    angle = a.angle;
    onto = b.onto;
    time = a.time + b.time;
    changes = all_followed a.changes b.changes;
    openings = all;
  }

  long : length a.changes ≡ length b.changes
  long = first.each ∙ sym second.each

  then_turn : (start time : ℕ) → (start + time) % 50 ≡ a.angle → (start + (time + a.time)) % 50 ≡ b.angle
  then_turn start time at = omega (arith, at, turn)

  then_laid : (start time : ℕ) → (start + time) % 50 ≡ a.angle
      → laid g start time (xs ++ ys) ≡ laid g start time xs ++ laid g start (time + a.time) ys
  then_laid start time at =
      laid_append g start time xs ys
      ∙ ap (λ (t : ℕ). laid g start time xs ++ laid g start t ys) (first.time start time at)

  then_time : (start time : ℕ) → (start + time) % 50 ≡ a.angle
      → time_from time (laid g start time (xs ++ ys)) ≡ time + (a.time + b.time)
  then_time start time at =
      let parts : time_from time (laid g start time (xs ++ ys))
      ≡ time_from (time_from time (laid g start time xs)) (laid g start (time + a.time) ys) =
      ap (time_from time) (then_laid start time at)
      ∙ time_append time (laid g start time xs) (laid g start (time + a.time) ys) in
      let last : time_from (time_from time (laid g start time xs)) (laid g start (time + a.time) ys)
      ≡ time + a.time + b.time =
      ap (λ (t : ℕ). time_from t (laid g start (time + a.time) ys)) (first.time start time at)
      ∙ second.time start (time + a.time) (then_turn start time at) in
      omega (arith, parts, last)

  then_placed : (start time : ℕ) → (start + time) % 50 ≡ a.angle
      → map (placed start) (laid g start time (xs ++ ys)) ≡ xs ++ ys
  then_placed start time at =
      ap (map (placed start)) (then_laid start time at)
      ∙ map-append (placed start) (laid g start time xs) (laid g start (time + a.time) ys)
      ∙ ap (λ (hs : List PlacedHop). hs ++ map (placed start) (laid g start (time + a.time) ys))
      (first.placed start time at)
      ∙ ap (λ (hs : List PlacedHop). xs ++ hs) (second.placed start (time + a.time) (then_turn start time at))

  then_walks : (start time : ℕ) (counts : List ℕ) (rest : List Taken) → (start + time) % 50 ≡ a.angle
      → AreWithin g.notes.marks (peaks both.changes counts)
      → GoOn g start (time + both.time) (counts_after both.changes counts) rest b.onto
      → IsWalkFrom g start a.from time counts (laid g start time (xs ++ ys) ++ rest)
  then_walks start time counts rest at within goes =
      let so = within_followed g.notes.marks a.changes b.changes counts first.each second.each within in
      let sum : time + (a.time + b.time) ≡ time + a.time + b.time = omega arith in
      let onward : GoOn g start (time + a.time + b.time) (counts_after b.changes (counts_after a.changes counts)) rest b.onto =
      subst (λ (cs : List ℕ). GoOn g start (time + a.time + b.time) cs rest b.onto)
      (counts_followed a.changes b.changes counts long)
      (subst (λ (t : ℕ). GoOn g start t (counts_after both.changes counts) rest b.onto) sum goes) in
      let later : IsWalkFrom g start b.from (time + a.time) (counts_after a.changes counts)
      (laid g start (time + a.time) ys ++ rest) =
      second.walks start (time + a.time) (counts_after a.changes counts) rest (then_turn start time at) so.1 onward in
      let there : GoOn g start (time + a.time) (counts_after a.changes counts)
      (laid g start (time + a.time) ys ++ rest) a.onto =
      subst (GoOn g start (time + a.time) (counts_after a.changes counts) (laid g start (time + a.time) ys ++ rest))
      (sym onto) later in
      let whole : IsWalkFrom g start a.from time counts
      (laid g start time xs ++ (laid g start (time + a.time) ys ++ rest)) =
      first.walks start time counts (laid g start (time + a.time) ys ++ rest) at so.0 there in
      subst (λ (hs : List Taken). IsWalkFrom g start a.from time counts (hs ++ rest)) (sym (then_laid start time at))
      (subst (IsWalkFrom g start a.from time counts)
      (sym (append_assoc (laid g start time xs) (laid g start (time + a.time) ys) rest)) whole)

  pub then_comes : ComeTo g (xs ++ ys) both
  then_comes = record {
    each = long_followed a.changes b.changes long ∙ first.each;
    passed = λ index change is.
        let so = at_followed a.changes b.changes index change long is in
        ap passes_by so.1.3 ∙ passes_followed so.0 so.1.0
        ∙ ap (λ (n : ℕ). n + passes_by so.1.0) (first.passed index so.0 so.1.1)
        ∙ ap (λ (n : ℕ). passes_of g.notes.marks index (edges_placed xs) + n) (second.passed index so.1.0 so.1.2)
        ∙ sym (passes_append g.notes.marks index xs ys);
    lasts = omega (arith, first.lasts, second.lasts, sum_by-append (takes g.times) xs ys);
    placed = then_placed;
    time = then_time;
    walks = then_walks;
    opens =
        subst (λ (es : List Edge). AreRight g.notes.calls es all) (sym (edges_append xs ys))
        (both_right g.notes.calls (edges_placed xs) (edges_placed ys) a.openings b.openings all first.opens
        second.opens are);
  }

-- rounds of a stretch that ends where and as it begins
module _ (g : Setting) (hops : List PlacedHop) (a : Span) (onto : a.onto ≡ Some a.from)
    (turn : (a.angle + a.time) % 50 ≡ a.angle) (one : ComeTo g hops a) (all : List Opening)
    (are : AreBoth a.openings a.openings all) where
  abbrev rounds : ℕ → Span
  rounds times = record {
    from = a.from;
    angle = a.angle;
    onto = a.onto;
    time = times * a.time;
    changes = map (over_rounds times) a.changes;
    openings = all;
  }

  rounds_passes : (times : ℕ) (index : ℕ)
      → passes_of g.notes.marks index (edges_placed (repeated times hops))
      ≡ times * passes_of g.notes.marks index (edges_placed hops)
  rounds_passes zero index = omega arith
  rounds_passes (suc times) index =
      omega (
        arith,
        passes_append g.notes.marks index hops (repeated times hops),
        rounds_passes times index,
        suc-mul times (passes_of g.notes.marks index (edges_placed hops)),
      )

  rounds_passed : (times index : ℕ) (change : Change)
      → slice_get (map (over_rounds times) a.changes) index ≡ Some change
      → passes_by change ≡ passes_of g.notes.marks index (edges_placed (repeated times hops))
  rounds_passed times index change is =
      let so = at_rounds times a.changes index change is in
      ap passes_by so.2 ∙ passes_rounds times so.0
      ∙ ap (λ (n : ℕ). times * n) (one.passed index so.0 so.1) ∙ sym (rounds_passes times index)

  rounds_open : (more : ℕ) → AreRight g.notes.calls (edges_placed (repeated (suc more) hops)) all
  rounds_open more =
      subst (λ (es : List Edge). AreRight g.notes.calls es all) (sym (edges_repeated (suc more) hops))
      (rounds_right g.notes.calls (edges_placed hops) a.openings all one.opens are more)

  -- one round alone
  first_round : ComeTo g (hops ++ []) (rounds 1)
  first_round = record {
    each = length-map a.changes (over_rounds 1) ∙ one.each;
    passed = rounds_passed 1;
    lasts = omega (arith, same, one.lasts, sum_by-append (takes g.times) hops []);
    placed = λ start time at.
        ap (λ (hs : List PlacedHop). map (placed start) (laid g start time hs)) (append-nil hops)
        ∙ one.placed start time at ∙ sym (append-nil hops);
    time = λ start time at.
        ap (λ (hs : List PlacedHop). time_from time (laid g start time hs)) (append-nil hops)
        ∙ one.time start time at ∙ ap (λ (n : ℕ). time + n) same;
    walks = λ start time counts rest at within goes.
        let on : GoOn g start (time + a.time) (counts_after a.changes counts) rest a.onto =
        subst (λ (cs : List ℕ). GoOn g start (time + a.time) cs rest a.onto) (counts_once a.changes counts)
        (subst (λ (n : ℕ). GoOn g start (time + n) (counts_after (map (over_rounds 1) a.changes) counts) rest a.onto)
        (sym same) goes) in
        subst (λ (hs : List PlacedHop). IsWalkFrom g start a.from time counts (laid g start time hs ++ rest))
        (sym (append-nil hops))
        (one.walks start time counts rest at
        (within_first 0 g.notes.marks a.changes counts one.each within) on);
    opens = rounds_open 0;
  }
    where
      same : a.time ≡ 1 * a.time
      same = omega (arith, suc-mul 0 a.time)

  -- a round, and others behind it
  module _ (more : ℕ) (others : ComeTo g (repeated (suc more) hops) (rounds (suc more))) where
    sum : suc (suc more) * a.time ≡ a.time + suc more * a.time
    sum = omega (arith, suc-mul (suc more) a.time)

    again : (start time : ℕ) → (start + time) % 50 ≡ a.angle → (start + (time + a.time)) % 50 ≡ a.angle
    again start time at = omega (arith, at, turn)

    more_laid : (start time : ℕ) → (start + time) % 50 ≡ a.angle
        → laid g start time (hops ++ repeated (suc more) hops)
        ≡ laid g start time hops ++ laid g start (time + a.time) (repeated (suc more) hops)
    more_laid start time at =
        laid_append g start time hops (repeated (suc more) hops)
        ∙ ap (λ (t : ℕ). laid g start time hops ++ laid g start t (repeated (suc more) hops)) (one.time start time at)

    more_time : (start time : ℕ) → (start + time) % 50 ≡ a.angle
        → time_from time (laid g start time (hops ++ repeated (suc more) hops)) ≡ time + suc (suc more) * a.time
    more_time start time at =
        let parts : time_from time (laid g start time (hops ++ repeated (suc more) hops))
        ≡ time_from (time_from time (laid g start time hops))
        (laid g start (time + a.time) (repeated (suc more) hops)) =
        ap (time_from time) (more_laid start time at)
        ∙ time_append time (laid g start time hops) (laid g start (time + a.time) (repeated (suc more) hops)) in
        let last : time_from (time_from time (laid g start time hops))
        (laid g start (time + a.time) (repeated (suc more) hops)) ≡ time + a.time + suc more * a.time =
        ap (λ (t : ℕ). time_from t (laid g start (time + a.time) (repeated (suc more) hops))) (one.time start time at)
        ∙ others.time start (time + a.time) (again start time at) in
        omega (arith, parts, last, sum)

    more_placed : (start time : ℕ) → (start + time) % 50 ≡ a.angle
        → map (placed start) (laid g start time (hops ++ repeated (suc more) hops)) ≡ hops ++ repeated (suc more) hops
    more_placed start time at =
        ap (map (placed start)) (more_laid start time at)
        ∙ map-append (placed start) (laid g start time hops) (laid g start (time + a.time) (repeated (suc more) hops))
        ∙ ap (λ (hs : List PlacedHop). hs ++ map (placed start) (laid g start (time + a.time) (repeated (suc more) hops)))
        (one.placed start time at)
        ∙ ap (λ (hs : List PlacedHop). hops ++ hs) (others.placed start (time + a.time) (again start time at))

    more_walks : (start time : ℕ) (counts : List ℕ) (rest : List Taken) → (start + time) % 50 ≡ a.angle
        → AreWithin g.notes.marks (peaks (map (over_rounds (suc (suc more))) a.changes) counts)
        → GoOn g start (time + suc (suc more) * a.time)
        (counts_after (map (over_rounds (suc (suc more))) a.changes) counts) rest a.onto
        → IsWalkFrom g start a.from time counts (laid g start time (hops ++ repeated (suc more) hops) ++ rest)
    more_walks start time counts rest at within goes =
        let behind : List Taken = laid g start (time + a.time) (repeated (suc more) hops) in
        let whole_time : time + suc (suc more) * a.time ≡ time + a.time + suc more * a.time = omega (arith, sum) in
        let onward : GoOn g start (time + a.time + suc more * a.time)
        (counts_after (map (over_rounds (suc more)) a.changes) (counts_after a.changes counts)) rest a.onto =
        subst (λ (cs : List ℕ). GoOn g start (time + a.time + suc more * a.time) cs rest a.onto)
        (counts_others more a.changes counts)
        (subst (λ (t : ℕ). GoOn g start t (counts_after (map (over_rounds (suc (suc more))) a.changes) counts) rest a.onto)
        whole_time goes) in
        let later : IsWalkFrom g start a.from (time + a.time) (counts_after a.changes counts)
        (laid g start (time + a.time) (repeated (suc more) hops) ++ rest) =
        others.walks start (time + a.time) (counts_after a.changes counts) rest (again start time at)
        (within_others more g.notes.marks a.changes counts one.each within) onward in
        let there : GoOn g start (time + a.time) (counts_after a.changes counts) (behind ++ rest) a.onto =
        subst (GoOn g start (time + a.time) (counts_after a.changes counts) (behind ++ rest)) (sym onto) later in
        let whole : IsWalkFrom g start a.from time counts (laid g start time hops ++ (behind ++ rest)) =
        one.walks start time counts (behind ++ rest) at
        (within_first (suc more) g.notes.marks a.changes counts one.each within) there in
        subst (λ (hs : List Taken). IsWalkFrom g start a.from time counts (hs ++ rest)) (sym (more_laid start time at))
        (subst (IsWalkFrom g start a.from time counts) (sym (append_assoc (laid g start time hops) behind rest)) whole)

    more_rounds : ComeTo g (hops ++ repeated (suc more) hops) (rounds (suc (suc more)))
    more_rounds = record {
      each = length-map a.changes (over_rounds (suc (suc more))) ∙ one.each;
      passed = rounds_passed (suc (suc more));
      lasts = omega (arith, sum, one.lasts, others.lasts, sum_by-append (takes g.times) hops (repeated (suc more) hops));
      placed = more_placed;
      time = more_time;
      walks = more_walks;
      opens = rounds_open (suc more);
    }

  pub rounds_come : (more : ℕ) → ComeTo g (repeated (suc more) hops) (rounds (suc more))
  rounds_come zero = first_round
  rounds_come (suc more) = more_rounds more (rounds_come more)
