-- What the lines of a walk in rounds tell is so.
use Rattle.std.proofs.Common.{◌≡◌, ℕ, zero, suc, ◌+◌, ◌-◌, ◌*◌, ◌<◌, ◌≤◌, Bool, true, false, List, [], ◌∷◌, ◌++◌, length}
use Rattle.std.proofs.Common.{flat_map, refl, ap, sym, ◌∙◌, subst, inl, inr, arith, Option, Some, None}
use Rattle.std.specs.Prelude.{codes, decimal, slice_get, sum_by, Contains}
use Rattle.std.proofs.lemmas.List.Elements.{Contains-append_cases}
use Rattle.std.proofs.lemmas.List.Sums.{sum_by-cons}
use Rattle.std.proofs.Math.Nat.{suc-mul}
use Rattle.base_words.specs.declared.op.Op.{Op}
use Rattle.base_notes.specs.declared.entry.Entry.{Entry}
use Rattle.base_graphs.proofs.Lists.{contains_cases, contains_here, contains_none, contains_there}
use Rattle.flow_graph.specs.Walk.{Setting}
use Rattle.flow_walks.specs.Visited.{Visited}
use Rattle.flow_walks.specs.declared.piece.Piece.{Piece}
use Rattle.flow_walks.specs.declared.piece.Piece.TheVariants as piece
use Rattle.flow_walks.specs.Pieces.{repeated, seen_placed, spelled_at, spelled_behind, spelled_by, spelled_of, PlacedHop}
use Rattle.ceiling_rounds.specs.declared.in_rounds.InRounds.{InRounds}
use Rattle.ceiling_rounds.specs.InRounds.{angle_of, pieces_of, takes}
use Rattle.print_hops.specs.declared.moments.Moments.{Moments}
use Rattle.print_hops.specs.Moments.{later, moments_of}
use Rattle.print_hops.specs.MomentsText.{moments_text}
use Rattle.print_hops.specs.WalkText.{hop_text, visit_line}
use Rattle.print_hops.proofs.LaterMoments.{later_moments}
use Rattle.print_ceilings.specs.RoundsText.{again_line, end_line, end_rounds_line, first_place, from_to, is_part}
use Rattle.print_ceilings.specs.RoundsText.{last_place, one_more, part_line, placed_line, rounds_line, tell}
use Rattle.print_ceilings.specs.RoundsText.{tell_behind, tell_by, tell_named, tell_one, tell_part, tell_row, Telling, PartsSoFar}
use Rattle.print_ceilings.specs.SpelledOut.{AreSpelledOut}
use Rattle.proved_laws.specs.TellsOf.{a_hop, a_part, again, rounds_begin, rounds_end, IsMoment, IsToldOf}
use Rattle.print_ceilings.proofs.Laid.{are_laid, AreLaid, IsLaid}
use Rattle.print_ceilings.proofs.Tellings.{behind_lasts, more_last, named_lasts, none_last, one_more_has}
use Rattle.print_ceilings.proofs.Tellings.{AreLasting, Lasts}

-- ---- a hop's line

-- the line of a visit with these moments
abbrev line_with : Visited → Moments → List ℕ
line_with visit moments =
    hop_text visit ++ codes " begun " ++ decimal visit.begun ++ moments_text moments
    ++ codes " ended " ++ decimal visit.ended ++ codes "\n"

-- a hop of a piece has the line of its visit
line_is : (times : Op → Entry) (angle time : ℕ) (visit : Visited) (one : PlacedHop)
    → IsLaid times angle time visit one
    → placed_line times time (time + takes times one) one ≡ visit_line times angle visit
line_is times angle time visit one laid =
    let same : from_to time (time + takes times one) one ≡ visit =
    (λ i. record {
      place = sym laid.place i;
      ins = sym laid.ins i;
      way = sym laid.way i;
      begun = sym laid.begun i;
      ended = laid.ended i;
    }) in
    let here = later time (moments_of times one.angle one.place one.hop.ins one.hop.way 0) in
    let moved : here ≡ moments_of times angle one.place one.hop.ins one.hop.way time =
    sym (later_moments times angle one.place one.hop.ins one.hop.way time one.angle laid.at) in
    ap (λ (v : Visited). line_with v here) same ∙ ap (line_with visit) moved
    ∙ ap (λ (v : Visited). line_with visit (moments_of times angle v.place v.ins v.way v.begun)) same

-- ---- visits that are hops of pieces

-- each of the second visits is one of the first
abbrev AreOf : List Visited → List Visited → Type 0
AreOf visits others = (visit : Visited) → Contains others visit → Contains visits visit

-- the visits of some hops, and of those after them
record Split (times : Op → Entry) (angle time : ℕ) (visits : List Visited) (xs ys : List PlacedHop) : Type 0 where
  front : List Visited
  back : List Visited
  laid_front : AreLaid times angle time front xs
  laid_back : AreLaid times angle (time + sum_by (takes times) xs) back ys
  in_front : AreOf visits front
  in_back : AreOf visits back

split : (times : Op → Entry) (angle time : ℕ) (visits : List Visited) (xs ys : List PlacedHop)
    → AreLaid times angle time visits (xs ++ ys) → Split times angle time visits xs ys
unfolding AreLaid
split times angle time visits [] ys laid =
    let same : time ≡ time + sum_by (takes times) [] = omega arith in
    record {
      front = [];
      back = visits;
      laid_front = tt;
      laid_back = subst (λ (n : ℕ). AreLaid times angle n visits ys) same laid;
      in_front = λ visit has. absurd (contains_none visit has);
      in_back = λ visit has. has;
    }
split times angle time [] (one ∷ xs) ys laid = absurd laid
split times angle time (visit ∷ visits) (one ∷ xs) ys laid =
    let rest = split times angle visit.ended visits xs ys laid.1 in
    let same : visit.ended + sum_by (takes times) xs ≡ time + sum_by (takes times) (one ∷ xs) =
    omega (arith, laid.0.ended, sum_by-cons (takes times) one xs) in
    record {
      front = visit ∷ rest.front;
      back = rest.back;
      laid_front = (laid.0, rest.laid_front);
      laid_back = subst (λ (n : ℕ). AreLaid times angle n rest.back ys) same rest.laid_back;
      in_front = λ other has.
          elim (contains_cases visit other rest.front has) [
            | inl is ↦ subst (Contains (visit ∷ visits)) is (contains_here visit visits)
            | inr there ↦ contains_there visit other visits (rest.in_front other there)
          ];
      in_back = λ other has. contains_there visit other visits (rest.in_back other has);
    }

-- those of the first of rounds
split_rounds : (times : Op → Entry) (angle time : ℕ) (visits : List Visited) (count : ℕ) (hops : List PlacedHop)
    → 0 < count → AreLaid times angle time visits (repeated count hops)
    → (others : List PlacedHop) × Split times angle time visits hops others
split_rounds times angle time visits zero hops some laid = absurd (omega (arith, some))
split_rounds times angle time visits (suc count) hops some laid =
    (repeated count hops, split times angle time visits hops (repeated count hops) laid)

-- ---- the cases of a line

one_line : {P : Type 0} (only line : List ℕ) → Contains (only ∷ []) line → (only ≡ line → P) → P
one_line only line has its =
    elim (contains_cases only line [] has) [
      | inl same ↦ its same
      | inr none ↦ absurd (contains_none line none)
    ]

between_lines : {P : Type 0} (front : List ℕ) (lines : List (List ℕ)) (back line : List ℕ)
    → Contains (front ∷ lines ++ back ∷ []) line → (front ≡ line → P) → (Contains lines line → P)
    → (back ≡ line → P) → P
between_lines front lines back line has begins within ends =
    elim (contains_cases front line (lines ++ back ∷ []) has) [
      | inl same ↦ begins same
      | inr there ↦
          elim (Contains-append_cases lines (back ∷ []) line there) [
            | inl here ↦ within here
            | inr last ↦ one_line back line last ends
          ]
    ]

-- ---- tellings

module _ (times : Op → Entry) (angle : ℕ) (visits : List Visited) where
  -- hops that begin at a moment end at one
  moment_after : (time : ℕ) (vs : List Visited) (hops : List PlacedHop) → AreLaid times angle time vs hops
      → AreOf visits vs → IsMoment visits time → IsMoment visits (time + sum_by (takes times) hops)
  unfolding AreLaid
  moment_after time vs [] laid inside is =
      let same : time ≡ time + sum_by (takes times) [] = omega arith in
      subst (λ (n : ℕ). IsMoment visits n) same is
  moment_after time [] (one ∷ hops) laid inside is = absurd laid
  moment_after time (visit ∷ vs) (one ∷ hops) laid inside is =
      let same : visit.ended + sum_by (takes times) hops ≡ time + sum_by (takes times) (one ∷ hops) =
      omega (arith, laid.0.ended, sum_by-cons (takes times) one hops) in
      subst (λ (n : ℕ). IsMoment visits n) same
      (moment_after visit.ended vs hops laid.1 (λ other has. inside other (contains_there visit other vs has))
      (inr (visit, inside visit (contains_here visit vs), refl)))

  -- rounds that begin at a moment end at one each
  moment_of : (time : ℕ) (vs : List Visited) (count : ℕ) (hops : List PlacedHop)
      → AreLaid times angle time vs (repeated count hops) → AreOf visits vs → IsMoment visits time → (round : ℕ)
      → round ≤ count → IsMoment visits (time + round * sum_by (takes times) hops)
  moment_of time vs count hops laid inside is zero some =
      let same : time ≡ time + 0 * sum_by (takes times) hops = omega arith in
      subst (λ (n : ℕ). IsMoment visits n) same is
  moment_of time vs zero hops laid inside is (suc round) some = absurd (omega (arith, some))
  moment_of time vs (suc count) hops laid inside is (suc round) some =
      let each = sum_by (takes times) hops in
      let parts = split times angle time vs hops (repeated count hops) laid in
      let after = moment_after time parts.front hops parts.laid_front
      (λ visit has. inside visit (parts.in_front visit has)) is in
      let same : time + each + round * each ≡ time + suc round * each = omega (arith, suc-mul round each) in
      subst (λ (n : ℕ). IsMoment visits n) same
      (moment_of (time + each) parts.back count hops parts.laid_back
      (λ visit has. inside visit (parts.in_back visit has)) after round (omega (arith, some)))

  -- What a telling of hops tells is so, wherever in the walk they come.
  abbrev Tells : Telling → List PlacedHop → Type 0
  Tells tell hops = (told : PartsSoFar) (vs : List Visited) → AreLaid times angle told.time vs hops → AreOf visits vs
      → IsMoment visits told.time → (line : List ℕ) → Contains (tell told).0 line → IsToldOf times angle visits line

  abbrev AreTelling : List Telling → List (List PlacedHop) → Type 0
  AreTelling before spells = (k : ℕ) (tell : Telling) → slice_get before k ≡ Some tell → Tells tell (spelled_at spells k)

  hop_tells : (one : PlacedHop) (time : ℕ) (vs : List Visited) → AreLaid times angle time vs (one ∷ [])
      → AreOf visits vs → IsToldOf times angle visits (placed_line times time (time + takes times one) one)
  unfolding AreLaid
  hop_tells one time [] laid inside = absurd laid
  hop_tells one time (visit ∷ vs) laid inside =
      a_hop visit (inside visit (contains_here visit vs)) (line_is times angle time visit one laid.0)

  one_tells : (part : Bool) (number : ℕ) (hops : List PlacedHop) (o : Option Telling)
      → ((tell : Telling) → o ≡ Some tell → Lasts tell (sum_by (takes times) hops))
      → ((tell : Telling) → o ≡ Some tell → Tells tell hops) → Tells (tell_one part number o) hops
  one_tells part number hops None lasts tells told vs laid inside is line has = absurd (contains_none line has)
  one_tells false number hops (Some tell) lasts tells told vs laid inside is line has =
      tells tell refl told vs laid inside is line has
  one_tells true number hops (Some tell) lasts tells told vs laid inside is line has = go (told.part number) has
    where
      go : (o : Option ℕ) → Contains (tell_part number o tell told).0 line → IsToldOf times angle visits line
      go None has =
          let part = suc told.begun in
          between_lines (part_line part) (tell (one_more number told)).0 (end_line part) line has
          (λ same. a_part part (inl (sym same)))
          (λ within. tells tell refl (one_more number told) vs laid inside is line within)
          (λ same. a_part part (inr (sym same)))
      go (Some part) has =
          let ended = (tell told).1.time in
          let after : IsMoment visits ended =
          subst (λ (n : ℕ). IsMoment visits n) (sym (lasts tell refl told)) (moment_after told.time vs hops laid inside is) in
          one_line (again_line part told.time ended) line has
          (λ same. again part told.time ended is after (sym same))

  rows_tell : (tell : ℕ → Telling) (spells : ℕ → List PlacedHop)
      → ((number : ℕ) → Lasts (tell number) (sum_by (takes times) (spells number)))
      → ((number : ℕ) → Tells (tell number) (spells number)) → (numbers : List ℕ)
      → Tells (tell_row tell numbers) (flat_map spells numbers)
  rows_tell tell spells lasts tells [] told vs laid inside is line has = absurd (contains_none line has)
  rows_tell tell spells lasts tells (number ∷ numbers) told vs laid inside is line has =
      let parts = split times angle told.time vs (spells number) (flat_map spells numbers) laid in
      let next = (tell number told).1 in
      let front = λ (visit : Visited) (has : Contains parts.front visit). inside visit (parts.in_front visit has) in
      let after : IsMoment visits next.time =
      subst (λ (n : ℕ). IsMoment visits n) (sym (lasts number told))
      (moment_after told.time parts.front (spells number) parts.laid_front front is) in
      let laid_then : AreLaid times angle next.time parts.back (flat_map spells numbers) =
      subst (λ (n : ℕ). AreLaid times angle n parts.back (flat_map spells numbers)) (sym (lasts number told))
      parts.laid_back in
      elim (Contains-append_cases (tell number told).0 (tell_row tell numbers next).0 line has) [
        | inl here ↦ tells number told parts.front parts.laid_front front is line here
        | inr there ↦
            rows_tell tell spells lasts tells numbers next parts.back laid_then
            (λ visit has. inside visit (parts.in_back visit has)) after line there
      ]

  module _ (pieces : List Piece) where
    named_tells : (before : List Telling) (spells : List (List PlacedHop)) → AreLasting times before spells
        → AreTelling before spells → (number : ℕ) → Tells (tell_named pieces before number) (spelled_at spells number)
    named_tells before spells are tells number =
        one_tells (is_part pieces number) number (spelled_at spells number) (slice_get before number)
        (are.lasts number) (tells number)

    by_tells : (before : List Telling) (spells : List (List PlacedHop)) → AreLasting times before spells
        → AreTelling before spells → (one : Piece) → Tells (tell_by times pieces before one) (spelled_by spells one)
    by_tells before spells are tells (piece.Hop one) told vs laid inside is line has =
        let hop = seen_placed one in
        one_line (placed_line times told.time (told.time + takes times hop) hop) line has
        (λ same. subst (IsToldOf times angle visits) same (hop_tells hop told.time vs laid inside))
    by_tells before spells are tells (piece.Row numbers) told vs laid inside is line has =
        rows_tell (tell_named pieces before) (spelled_at spells) (named_lasts times pieces before spells are)
        (named_tells before spells are tells) numbers.items told vs laid inside is line has
    by_tells before spells are tells (piece.Rounds rounds) told vs laid inside is line has =
        let hops = spelled_at spells rounds.piece in
        let once = tell_named pieces before rounds.piece told in
        let each = once.1.time - told.time in
        let ended = told.time + rounds.times * each in
        let from = last_place (spelled_of pieces rounds.piece) in
        let onto = first_place (spelled_of pieces rounds.piece) in
        let parts = (split_rounds times angle told.time vs rounds.times hops rounds.some laid).1 in
        let same : sum_by (takes times) hops ≡ each =
        omega (arith, named_lasts times pieces before spells are rounds.piece told) in
        let after : (round : ℕ) → round ≤ rounds.times → IsMoment visits (told.time + round * each) =
        (λ round some. subst (λ (n : ℕ). IsMoment visits (told.time + round * n)) same
        (moment_of told.time vs rounds.times hops laid inside is round some)) in
        between_lines (rounds_line rounds.times from onto) once.0 (end_rounds_line each ended) line has
        (λ same. rounds_begin rounds.times from onto (sym same))
        (λ within. named_tells before spells are tells rounds.piece told parts.front parts.laid_front
        (λ visit has. inside visit (parts.in_front visit has)) is line within)
        (λ same. rounds_end told.time rounds.times each rounds.some after (sym same))

    behind_tells : (before : List Telling) (spells : List (List PlacedHop)) → AreLasting times before spells
        → AreTelling before spells → (others : List Piece)
        → AreTelling (tell_behind times pieces before others) (spelled_behind spells others)
    behind_tells before spells are tells [] = tells
    behind_tells before spells are tells (one ∷ others) =
        behind_tells (before ++ tell_by times pieces before one ∷ []) (spells ++ spelled_by spells one ∷ [])
        (more_last times pieces before spells are one)
        (one_more_has Tells before spells are.each tells (tell_by times pieces before one) (spelled_by spells one)
        (by_tells before spells are tells one)) others

-- ---- the whole walk

-- Each line of a walk in rounds is so of the walk that its pieces spell out.
pub lines_told : (g : Setting) (walk : InRounds) (visits : List Visited) (line : List ℕ)
    → AreSpelledOut g walk visits → Contains (tell g.times (pieces_of walk)).0 line
    → IsToldOf g.times (angle_of walk) visits line
lines_told g walk visits line out has =
    let pieces = pieces_of walk in
    let none_tell : AreTelling g.times (angle_of walk) visits [] [] = (λ k tell at. absurd (cc)) in
    named_tells g.times (angle_of walk) visits pieces (tell_behind g.times pieces [] pieces) (spelled_behind [] pieces)
    (behind_lasts g.times pieces [] [] (none_last g.times) pieces)
    (behind_tells g.times (angle_of walk) visits pieces [] [] (none_last g.times) none_tell pieces) (length pieces - 1)
    (record { begun = 0; part = λ _. None; time = 0 }) visits (are_laid g walk visits out) (λ visit here. here) (inl refl)
    line has
