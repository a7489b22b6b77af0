-- How pieces are told, by the numbers of those that they name.
use Rattle.std.proofs.Common.{◌≡◌, ℕ, zero, suc, ◌+◌, ◌-◌, ◌*◌, ◌<◌, ◌≤◌, Bool, true, false, List, ◌∷◌, ◌++◌, []}
use Rattle.std.proofs.Common.{length, replicate, take, drop, get_or, flat_map, refl, ap, sym, ◌∙◌, subst, arith, Option, Some, None}
use Rattle.std.proofs.Common.{append_assoc, length-append, Vec, Global, inl, inr}
use Rattle.std.specs.Prelude.{slice_get, slice_index, sum_by, unwrap_or}
use Rattle.std.proofs.lemmas.List.{append-nil, at_drop_more, take-append-drop, take-take}
use Rattle.std.proofs.lemmas.List.{take_all, take_more}
use Rattle.std.proofs.Math.Nat.{mul-le-mul_right, suc-mul}
use Rattle.std.proofs.lemmas.Bool.{cases_lt}
use Rattle.std.proofs.lemmas.Option.{get_or_from_slice_get, slice_get_within}
use Rattle.std.proofs.lemmas.List.Sums.{sum_by-append, sum_by-cons}
use Rattle.base_words.specs.declared.op.Op.{Op}
use Rattle.base_notes.specs.declared.entry.Entry.{Entry}
use Rattle.base_notes.specs.Entries.{entry_in}
use Rattle.flow_walks.specs.declared.piece.Piece.{Piece}
use Rattle.flow_walks.specs.declared.piece.Piece.TheVariants as piece
use Rattle.flow_walks.specs.declared.piece.Placed.{Placed}
use Rattle.flow_walks.specs.declared.piece.Rounds.{Rounds}
use Rattle.flow_walks.specs.Pieces.{repeated, seen_placed, spelled, spelled_at, spelled_behind, spelled_by, spelled_of, PlacedHop}
use Rattle.ceiling_rounds.specs.InRounds.{takes}
use Rattle.ceiling_rounds.proofs.SpelledLaws.{spelled_before, spelled_last, spelled_piece}
use Rattle.print_ceilings.specs.declared.teller.Teller.{Teller}
use Rattle.print_ceilings.specs.RoundsText.{again_line, at_time, both, end_rounds_line, first_place, is_part}
use Rattle.print_ceilings.specs.RoundsText.{last_place, part_again, rounds_line}
use Rattle.print_ceilings.specs.RoundsText.{one_more, placed_line, tell, tell_behind, tell_by, tell_named, tell_one}
use Rattle.print_ceilings.specs.RoundsText.{tell_part, tell_rounds, tell_row, Telling, PartsSoFar}
use Rattle.print_ceilings.specs.TellerOf.{lasts_of, named_told, piece_told, pieces_in, row_told, tellings, IsTeller}
use Rattle.print_ceilings.proofs.Lists.{at_before, at_last, at_none, at_taken, long_taken, past, split_at}
use Rattle.print_ceilings.proofs.Passing.{begin_rounds, end_rounds}

-- ---- lists of tellings

module _ (times : Op → Entry) (pieces : List Piece) where
  behind_long : (before : List Telling) (others : List Piece)
      → length (tell_behind times pieces before others) ≡ length before + length others
  behind_long before [] = omega arith
  behind_long before (one ∷ others) =
      omega (
        arith,
        behind_long (before ++ tell_by times pieces before one ∷ []) others,
        length-append before (tell_by times pieces before one ∷ []),
      )

  -- more pieces leave those before as they are
  behind_kept : (before : List Telling) (others : List Piece) (k : ℕ) → k < length before
      → slice_get (tell_behind times pieces before others) k ≡ slice_get before k
  behind_kept before [] k less = refl
  behind_kept before (one ∷ others) k less =
      behind_kept (before ++ tell_by times pieces before one ∷ []) others k
      (omega (arith, less, length-append before (tell_by times pieces before one ∷ [])))
      ∙ at_before before (tell_by times pieces before one) k less

  behind_split : (before : List Telling) (xs ys : List Piece)
      → tell_behind times pieces before (xs ++ ys) ≡ tell_behind times pieces (tell_behind times pieces before xs) ys
  behind_split before [] ys = refl
  behind_split before (x ∷ xs) ys = behind_split (before ++ tell_by times pieces before x ∷ []) xs ys

  -- a piece by those before it
  behind_last : (all : List Piece) (number : ℕ) (one : Piece) → slice_get all number ≡ Some one
      → slice_get (tell_behind times pieces [] all) number
      ≡ Some (tell_by times pieces (tell_behind times pieces [] (take number all)) one)
  behind_last all number one at =
      let before = tell_behind times pieces [] (take number all) in
      let here : length before ≡ number =
      behind_long [] (take number all)
      ∙ omega (arith, long_taken all number (omega (arith, slice_get_within all number one at))) in
      let its = tell_by times pieces before one in
      ap (λ (ps : List Piece). slice_get (tell_behind times pieces [] ps) number) (split_at all number one at)
      ∙ ap (λ (ts : List Telling). slice_get ts number) (behind_split [] (take number all) (one ∷ drop (number + 1) all))
      ∙ behind_kept (before ++ its ∷ []) (drop (number + 1) all) number
      (omega (arith, here, length-append before (its ∷ [])))
      ∙ ap (slice_get (before ++ its ∷ [])) (sym here) ∙ at_last before its

  -- also among as many as are there
  behind_at : (all : List Piece) (limit number : ℕ) (one : Piece) → number < limit
      → slice_get all number ≡ Some one
      → slice_get (tell_behind times pieces [] (take limit all)) number
      ≡ Some (tell_by times pieces (tell_behind times pieces [] (take number all)) one)
  behind_at all limit number one less at =
      behind_last (take limit all) number one (at_taken all limit number less ∙ at)
      ∙ ap (λ (ps : List Piece). Some (tell_by times pieces (tell_behind times pieces [] ps) one))
      (take-take number limit all (omega (arith, less)))

-- ---- how pieces are told

-- nothing is told of a piece that isn't below the limit
pub named_beyond : (t : Teller) (limit number : ℕ) (told : PartsSoFar) → limit ≤ length (pieces_in t) → limit ≤ number
    → named_told t limit number told ≡ ([], told)
unfolding named_told tellings
named_beyond t limit number told within low =
    let times = entry_in t.times.now in
    let all = pieces_in t in
    let none : slice_get (tell_behind times all [] (take limit all)) number ≡ None =
    at_none (tell_behind times all [] (take limit all)) number
    (omega (arith, behind_long times all [] (take limit all), long_taken all limit within, low)) in
    ap (λ (o : Option Telling). tell_one (is_part all number) number o told) none

module _ (t : Teller) (limit number : ℕ) (one : Piece) (told : PartsSoFar) (less : number < limit)
    (at : slice_get (pieces_in t) number ≡ Some one) where
  found : named_told t limit number told
      ≡ tell_one (is_part (pieces_in t) number) number (Some (piece_told t number one)) told
  unfolding named_told tellings piece_told
  found =
      ap (λ (o : Option Telling). tell_one (is_part (pieces_in t) number) number o told)
      (behind_at (entry_in t.times.now) (pieces_in t) (pieces_in t) limit number one less at)

  pub named_plain : is_part (pieces_in t) number ≡ false → named_told t limit number told ≡ piece_told t number one told
  named_plain none =
      found ∙ ap (λ (b : Bool). tell_one b number (Some (piece_told t number one)) told) none

  pub named_part : (part : Option ℕ) → is_part (pieces_in t) number ≡ true → told.part number ≡ part
      → named_told t limit number told ≡ tell_part number part (piece_told t number one) told
  named_part part is begun =
      found ∙ ap (λ (b : Bool). tell_one b number (Some (piece_told t number one)) told) is
      ∙ ap (λ (o : Option ℕ). tell_part number o (piece_told t number one) told) begun

pub hop_told : (t : Teller) (number : ℕ) (one : Placed) (told : PartsSoFar)
    → piece_told t number (piece.Hop one) told
    ≡ (let ended = told.time + takes (entry_in t.times.now) (seen_placed one) in
    (placed_line (entry_in t.times.now) told.time ended (seen_placed one) ∷ [], at_time ended told))
unfolding piece_told
hop_told t number one told = refl

pub row_piece : (t : Teller) (number : ℕ) (names : Vec ℕ Global) (told : PartsSoFar)
    → piece_told t number (piece.Row names) told ≡ row_told t number names.items told
unfolding piece_told row_told named_told
row_piece t number names told = refl

pub row_is_told : (t : Teller) (number : ℕ) (one : Piece) (names : Vec ℕ Global) (read : List ℕ) (told : PartsSoFar)
    → one ≡ piece.Row names → read ≡ names.items → piece_told t number one told ≡ row_told t number read told
row_is_told t number one names read told is same =
    ap (λ (p : Piece). piece_told t number p told) is ∙ row_piece t number names told
    ∙ sym (ap (λ (ns : List ℕ). row_told t number ns told) same)

pub rounds_told : (t : Teller) (number : ℕ) (rounds : Rounds) (told : PartsSoFar)
    → piece_told t number (piece.Rounds rounds) told
    ≡ tell_rounds rounds.times (spelled_of (pieces_in t) rounds.piece) (named_told t number rounds.piece) told
unfolding piece_told named_told
rounds_told t number rounds told = refl

pub row_none : (t : Teller) (limit : ℕ) (told : PartsSoFar) → row_told t limit [] told ≡ ([], told)
unfolding row_told
row_none t limit told = refl

rows_split : (tell : ℕ → Telling) (xs ys : List ℕ) (told : PartsSoFar)
    → tell_row tell (xs ++ ys) told ≡ both (tell_row tell xs) (tell_row tell ys) told
rows_split tell [] ys told = refl
rows_split tell (x ∷ xs) ys told =
    let first = tell x told in
    let others = tell_row tell xs first.1 in
    let last = tell_row tell ys others.1 in
    ap (λ (t : List (List ℕ) × PartsSoFar). (first.0 ++ t.0, t.1)) (rows_split tell xs ys first.1)
    ∙ ap (λ (lines : List (List ℕ)). (lines, last.1)) (sym (append_assoc first.0 others.0 last.0))

pub row_split : (t : Teller) (limit : ℕ) (xs ys : List ℕ) (told : PartsSoFar)
    → row_told t limit (xs ++ ys) told ≡ both (row_told t limit xs) (row_told t limit ys) told
unfolding row_told
row_split t limit xs ys told = rows_split (named_told t limit) xs ys told

pub row_one : (t : Teller) (limit number : ℕ) (numbers : List ℕ) (told : PartsSoFar)
    → row_told t limit (number ∷ numbers) told ≡ both (named_told t limit number) (row_told t limit numbers) told
unfolding row_told
row_one t limit number numbers told = refl

-- ---- how long pieces take

some_same : {x y : Telling} → Some x ≡ Some y → x ≡ y
some_same e = cc

-- a telling takes so long
abbrev pub Lasts : Telling → ℕ → Type 0
Lasts tell time = (told : PartsSoFar) → (tell told).1.time ≡ told.time + time

-- each takes as long as what its piece spells out
pub record AreLasting (times : Op → Entry) (before : List Telling) (spells : List (List PlacedHop)) : Type 0 where
  pub each : length before ≡ length spells
  pub lasts : (k : ℕ) (tell : Telling) → slice_get before k ≡ Some tell → Lasts tell (sum_by (takes times) (spelled_at spells k))

-- what is so of each telling beside what its piece spells out, where it is so of one behind them
pub one_more_has : (P : Telling → List PlacedHop → Type 0) (before : List Telling) (spells : List (List PlacedHop))
    → length before ≡ length spells
    → ((k : ℕ) (tell : Telling) → slice_get before k ≡ Some tell → P tell (spelled_at spells k))
    → (last : Telling) (hops : List PlacedHop) → P last hops
    → (k : ℕ) (tell : Telling) → slice_get (before ++ last ∷ []) k ≡ Some tell → P tell (spelled_at (spells ++ hops ∷ []) k)
one_more_has P before spells each has last hops its k tell at =
    elim (cases_lt k (length before)) [
      | inl less ↦
          subst (P tell) (sym (spelled_before spells hops k (omega (arith, each, less))))
          (has k tell (sym (at_before before last k less) ∙ at))
      | inr other ↦
          let within = slice_get_within (before ++ last ∷ []) k tell at in
          let here : k ≡ length before = omega (arith, other, within, length-append before (last ∷ [])) in
          let there : k ≡ length spells = omega (arith, here, each) in
          let found : slice_get (before ++ last ∷ []) k ≡ Some last =
          ap (slice_get (before ++ last ∷ [])) here ∙ at_last before last in
          let is : last ≡ tell = some_same (sym found ∙ at) in
          let spelled : spelled_at (spells ++ hops ∷ []) k ≡ hops =
          ap (spelled_at (spells ++ hops ∷ [])) there ∙ spelled_last spells hops in
          subst (λ (t : Telling). P t (spelled_at (spells ++ hops ∷ []) k)) is (subst (P last) (sym spelled) its)
    ]

module _ (times : Op → Entry) (pieces : List Piece) where
  one_lasts : (part : Bool) (number time : ℕ) (o : Option Telling)
      → ((tell : Telling) → o ≡ Some tell → Lasts tell time) → (o ≡ None → time ≡ 0)
      → Lasts (tell_one part number o) time
  one_lasts part number time None some none told = omega (arith, none refl)
  one_lasts false number time (Some tell) some none told = some tell refl told
  one_lasts true number time (Some tell) some none told = part_lasts (told.part number)
    where
      part_lasts : (o : Option ℕ) → (tell_part number o tell told).1.time ≡ told.time + time
      part_lasts None = some tell refl (one_more number told)
      part_lasts (Some part) = some tell refl told

  pub named_lasts : (before : List Telling) (spells : List (List PlacedHop)) → AreLasting times before spells → (number : ℕ)
      → Lasts (tell_named pieces before number) (sum_by (takes times) (spelled_at spells number))
  named_lasts before spells are number =
      one_lasts (is_part pieces number) number (sum_by (takes times) (spelled_at spells number)) (slice_get before number)
      (are.lasts number)
      (λ none. ap (λ (o : Option (List PlacedHop)). sum_by (takes times) (unwrap_or o []))
      (at_none spells number (omega (arith, are.each, past before number none))))

  rows_last : (tell : ℕ → Telling) (spells : ℕ → List PlacedHop)
      → ((number : ℕ) → Lasts (tell number) (sum_by (takes times) (spells number))) → (numbers : List ℕ)
      → Lasts (tell_row tell numbers) (sum_by (takes times) (flat_map spells numbers))
  rows_last tell spells each [] told = omega arith
  rows_last tell spells each (number ∷ numbers) told =
      omega (
        arith,
        each number told,
        rows_last tell spells each numbers (tell number told).1,
        sum_by-append (takes times) (spells number) (flat_map spells numbers),
      )

  sum_repeated : (count : ℕ) (hops : List PlacedHop)
      → sum_by (takes times) (repeated count hops) ≡ count * sum_by (takes times) hops
  sum_repeated zero hops = omega arith
  sum_repeated (suc count) hops =
      omega (
        arith,
        sum_by-append (takes times) hops (repeated count hops),
        sum_repeated count hops,
        suc-mul count (sum_by (takes times) hops),
      )

  pub by_lasts : (before : List Telling) (spells : List (List PlacedHop)) → AreLasting times before spells → (one : Piece)
      → Lasts (tell_by times pieces before one) (sum_by (takes times) (spelled_by spells one))
  by_lasts before spells are (piece.Hop one) told = omega (arith, sum_by-cons (takes times) (seen_placed one) [])
  by_lasts before spells are (piece.Row numbers) told =
      rows_last (tell_named pieces before) (spelled_at spells) (named_lasts before spells are) numbers.items told
  by_lasts before spells are (piece.Rounds rounds) told =
      let each : (tell_named pieces before rounds.piece told).1.time - told.time
      ≡ sum_by (takes times) (spelled_at spells rounds.piece) =
      omega (arith, named_lasts before spells are rounds.piece told) in
      ap (λ (n : ℕ). told.time + rounds.times * n) each
      ∙ ap (λ (n : ℕ). told.time + n) (sym (sum_repeated rounds.times (spelled_at spells rounds.piece)))

  pub more_last : (before : List Telling) (spells : List (List PlacedHop)) → AreLasting times before spells → (one : Piece)
      → AreLasting times (before ++ tell_by times pieces before one ∷ []) (spells ++ spelled_by spells one ∷ [])
  more_last before spells are one = record {
    each =
        omega (
          arith,
          are.each,
          length-append before (tell_by times pieces before one ∷ []),
          length-append spells (spelled_by spells one ∷ []),
        );
    lasts =
        one_more_has (λ (tell : Telling) (hops : List PlacedHop). Lasts tell (sum_by (takes times) hops)) before spells
        are.each are.lasts (tell_by times pieces before one) (spelled_by spells one) (by_lasts before spells are one);
  }

  pub behind_lasts : (before : List Telling) (spells : List (List PlacedHop)) → AreLasting times before spells
      → (others : List Piece)
      → AreLasting times (tell_behind times pieces before others) (spelled_behind spells others)
  behind_lasts before spells are [] = are
  behind_lasts before spells are (one ∷ others) =
      behind_lasts (before ++ tell_by times pieces before one ∷ []) (spells ++ spelled_by spells one ∷ [])
      (more_last before spells are one) others

-- none of either
pub none_last : (times : Op → Entry) → AreLasting times [] []
none_last times = record { each = refl; lasts = λ k tell at. absurd (cc) }

module _ (t : Teller) where
  lasting : (limit : ℕ) → AreLasting (entry_in t.times.now) (tellings t limit) (spelled_behind [] (take limit (pieces_in t)))
  unfolding tellings
  lasting limit =
      behind_lasts (entry_in t.times.now) (pieces_in t) [] [] (none_last (entry_in t.times.now))
      (take limit (pieces_in t))

  -- the time goes on
  pub named_later : (limit number : ℕ) (told : PartsSoFar) → told.time ≤ (named_told t limit number told).1.time
  unfolding named_told
  named_later limit number told =
      omega (
        arith,
        named_lasts (entry_in t.times.now) (pieces_in t) (tellings t limit)
            (spelled_behind [] (take limit (pieces_in t))) (lasting limit) number told,
      )

  pub row_later : (limit : ℕ) (numbers : List ℕ) (told : PartsSoFar) → told.time ≤ (row_told t limit numbers told).1.time
  row_later limit [] told = omega (arith, ap (λ (x : List (List ℕ) × PartsSoFar). x.1.time) (row_none t limit told))
  row_later limit (number ∷ numbers) told =
      omega (
        arith,
        ap (λ (x : List (List ℕ) × PartsSoFar). x.1.time) (row_one t limit number numbers told),
        named_later limit number told,
        row_later limit numbers (named_told t limit number told).1,
      )

  -- a piece takes as long as is known of it
  pub piece_lasts : (number : ℕ) (one : Piece) (told : PartsSoFar) → IsTeller t → slice_get (pieces_in t) number ≡ Some one
      → (piece_told t number one told).1.time ≡ told.time + slice_index (lasts_of t) number
  unfolding piece_told
  piece_lasts number one told is at =
      let all = pieces_in t in
      let times = entry_in t.times.now in
      let within = slice_get_within all number one at in
      let spells = spelled_behind [] (take number all) in
      let hops : spelled_of all number ≡ spelled_by spells one =
      spelled_piece all number within one ∙ ap (spelled_by spells) (get_or_from_slice_get all number one one at) in
      by_lasts times all (tellings t number) spells (lasting number) one told
      ∙ ap (λ (xs : List PlacedHop). told.time + sum_by (takes times) xs) (sym hops)
      ∙ ap (λ (n : ℕ). told.time + n) (sym (is.lasts number within))

  -- a hop, by how long it takes
  pub hop_is_told : (number : ℕ) (one : Placed) (took : ℕ) (told : PartsSoFar) → IsTeller t
      → slice_get (pieces_in t) number ≡ Some (piece.Hop one) → took ≡ slice_index (lasts_of t) number
      → piece_told t number (piece.Hop one) told
      ≡ (
        placed_line (entry_in t.times.now) told.time (told.time + took) (seen_placed one) ∷ [],
        at_time (told.time + took) told,
      )
  hop_is_told number one took told is at so =
      let ended : told.time + takes (entry_in t.times.now) (seen_placed one) ≡ told.time + took =
      sym (ap (λ (x : List (List ℕ) × PartsSoFar). x.1.time) (hop_told t number one told))
      ∙ piece_lasts number (piece.Hop one) told is at ∙ ap (λ (n : ℕ). told.time + n) (sym so) in
      hop_told t number one told
      ∙ ap (λ (n : ℕ). (placed_line (entry_in t.times.now) told.time n (seen_placed one) ∷ [], at_time n told)) ended

  -- a part that comes again
  pub again_is_told : (number part : ℕ) (one : Piece) (took : ℕ) (told : PartsSoFar) → IsTeller t
      → slice_get (pieces_in t) number ≡ Some one → took ≡ slice_index (lasts_of t) number
      → part_again part (piece_told t number one) told
      ≡ (again_line part told.time (told.time + took) ∷ [], at_time (told.time + took) told)
  again_is_told number part one took told is at so =
      ap (λ (n : ℕ). (again_line part told.time n ∷ [], at_time n told))
      (piece_lasts number one told is at ∙ ap (λ (n : ℕ). told.time + n) (sym so))

-- ---- rounds

-- a line, what is told once, and a line
pub rounds_split : (t : Teller) (limit : ℕ) (rounds : Rounds) (told : PartsSoFar) (each ended : ℕ)
    → each ≡ (named_told t limit rounds.piece told).1.time - told.time → ended ≡ told.time + rounds.times * each
    → piece_told t limit (piece.Rounds rounds) told
    ≡ both (both (begin_rounds rounds.times (last_place (spelled_of (pieces_in t) rounds.piece))
    (first_place (spelled_of (pieces_in t) rounds.piece))) (named_told t limit rounds.piece)) (end_rounds each ended) told
rounds_split t limit rounds told each ended is so =
    let once = named_told t limit rounds.piece told in
    let hops = spelled_of (pieces_in t) rounds.piece in
    let begin = rounds_line rounds.times (last_place hops) (first_place hops) in
    let real = once.1.time - told.time in
    let end : told.time + rounds.times * real ≡ ended =
    ap (λ (n : ℕ). told.time + rounds.times * n) (sym is) ∙ sym so in
    rounds_told t limit rounds told
    ∙ ap (λ (n : ℕ). ((begin ∷ once.0) ++ end_rounds_line real n ∷ [], at_time n once.1)) end
    ∙ ap (λ (n : ℕ). ((begin ∷ once.0) ++ end_rounds_line n ended ∷ [], at_time ended once.1)) (sym is)

-- the rounds end no earlier than the first of them
pub rounds_later : (rounds : Rounds) (begun once each ended : ℕ) → each ≡ once - begun
    → ended ≡ begun + rounds.times * each → once ≤ ended
rounds_later rounds begun once each ended is so =
    let least : 1 * each ≤ rounds.times * each = mul-le-mul_right each (omega (arith, rounds.some)) in
    omega (arith, least, is, so)

-- so what is told once ends no later than all rounds
pub rounds_sooner : (t : Teller) (limit : ℕ) (rounds : Rounds) (told : PartsSoFar)
    → (named_told t limit rounds.piece told).1.time ≤ (piece_told t limit (piece.Rounds rounds) told).1.time
rounds_sooner t limit rounds told =
    let once = (named_told t limit rounds.piece told).1.time in
    let each = once - told.time in
    subst (λ (x : List (List ℕ) × PartsSoFar). once ≤ x.1.time) (sym (rounds_told t limit rounds told))
    (rounds_later rounds told.time once each (told.time + rounds.times * each) refl refl)

-- and the code's numbers are these
pub rounds_each : (t : Teller) (limit : ℕ) (rounds : Rounds) (told later : PartsSoFar) (each : ℕ)
    → later ≡ (named_told t limit rounds.piece told).1 → each ≡ later.time - told.time
    → each ≡ (named_told t limit rounds.piece told).1.time - told.time
rounds_each t limit rounds told later each now is = is ∙ ap (λ (u : PartsSoFar). u.time - told.time) now

pub rounds_fit : (t : Teller) (limit : ℕ) (rounds : Rounds) (told later : PartsSoFar) (count each : ℕ)
    → later ≡ (named_told t limit rounds.piece told).1 → count ≡ rounds.times → each ≡ later.time - told.time
    → (piece_told t limit (piece.Rounds rounds) told).1.time ≡ told.time + count * each
rounds_fit t limit rounds told later count each now often is =
    ap (λ (x : List (List ℕ) × PartsSoFar). x.1.time)
    (rounds_split t limit rounds told each (told.time + rounds.times * each)
    (rounds_each t limit rounds told later each now is) refl)
    ∙ ap (λ (n : ℕ). told.time + n * each) (sym often)

-- ---- pieces in a row

-- those so far, this one, and the others
pub row_at : (t : Teller) (limit : ℕ) (names : List ℕ) (i : ℕ) (told : PartsSoFar) → i < length names
    → row_told t limit names told
    ≡ both (row_told t limit (take i names)) (both (named_told t limit (get_or names i 0)) (row_told t limit (drop (i + 1) names)))
    told
row_at t limit names i told less =
    let others = drop (i + 1) names in
    let here = get_or names i 0 in
    let first = row_told t limit (take i names) told in
    ap (λ (ns : List ℕ). row_told t limit ns told)
    (sym (take-append-drop i names) ∙ at_drop_more (λ (ns : List ℕ). take i names ++ ns) names i 0 less)
    ∙ row_split t limit (take i names) (here ∷ others) told
    ∙ ap (λ (x : List (List ℕ) × PartsSoFar). (first.0 ++ x.0, x.1)) (row_one t limit here others first.1)

-- one more
pub row_more : (t : Teller) (limit : ℕ) (names : List ℕ) (i : ℕ) (told : PartsSoFar) → i < length names
    → row_told t limit (take (i + 1) names) told
    ≡ both (row_told t limit (take i names)) (named_told t limit (get_or names i 0)) told
row_more t limit names i told less =
    let here = get_or names i 0 in
    let first = row_told t limit (take i names) told in
    let next = named_told t limit here first.1 in
    ap (λ (ns : List ℕ). row_told t limit ns told) (take_more names i 0 less)
    ∙ row_split t limit (take i names) (here ∷ []) told
    ∙ ap (λ (x : List (List ℕ) × PartsSoFar). (first.0 ++ x.0, x.1))
    (row_one t limit here [] first.1 ∙ ap (λ (x : List (List ℕ) × PartsSoFar). (next.0 ++ x.0, x.1)) (row_none t limit next.1))
    ∙ ap (λ (xs : List (List ℕ)). (first.0 ++ xs, next.1)) (append-nil next.0)

-- which ends no later than the whole row
pub row_sooner : (t : Teller) (limit : ℕ) (names : List ℕ) (i : ℕ) (told between : PartsSoFar) → i < length names
    → between ≡ (row_told t limit (take i names) told).1
    → (named_told t limit (get_or names i 0) between).1.time ≤ (row_told t limit names told).1.time
row_sooner t limit names i told between less is =
    let here = get_or names i 0 in
    omega (
      arith,
      ap (λ (u : PartsSoFar). (named_told t limit here u).1.time) is,
      ap (λ (x : List (List ℕ) × PartsSoFar). x.1.time) (row_at t limit names i told less),
      row_later t limit (drop (i + 1) names) (named_told t limit here (row_told t limit (take i names) told).1).1,
    )

-- ---- the whole walk

-- it takes as long as what the last piece spells out
pub whole_lasts : (times : Op → Entry) (pieces : List Piece)
    → (tell times pieces).1.time ≡ sum_by (takes times) (spelled pieces)
whole_lasts times pieces =
    omega (
      arith,
      named_lasts times pieces (tell_behind times pieces [] pieces) (spelled_behind [] pieces)
          (behind_lasts times pieces [] [] (none_last times) pieces) (length pieces - 1)
          (record { begun = 0; part = λ _. None; time = 0 }),
    )

none_in : (count number : ℕ) → get_or {A = Option ℕ} (replicate count None) number None ≡ None
none_in zero number = refl
none_in (suc count) zero = refl
none_in (suc count) (suc number) = none_in count number

-- no part has begun
abbrev pub so_far : List (Option ℕ) → PartsSoFar
so_far parts = record { begun = 0; part = λ number. get_or parts number None; time = 0 }

pub at_start : (parts : List (Option ℕ)) (count : ℕ) → parts ≡ replicate count None
    → so_far parts ≡ record { begun = 0; part = λ _. None; time = 0 }
at_start parts count none =
    λ i. record {
      begun = 0;
      part = λ number. (ap (λ (all : List (Option ℕ)). get_or all number None) none ∙ none_in count number) i;
      time = 0;
    }

pub whole_told : (t : Teller) (count last : ℕ) (told : PartsSoFar) → count ≡ length (pieces_in t) → last ≡ count - 1
    → told ≡ record { begun = 0; part = λ _. None; time = 0 }
    → named_told t count last told ≡ tell (entry_in t.times.now) (pieces_in t)
unfolding named_told tellings
whole_told t count last told long is start =
    let times = entry_in t.times.now in
    let all = pieces_in t in
    let number : last ≡ length all - 1 = omega (arith, long, is) in
    ap (tell_named all (tell_behind times all [] (take count all)) last) start
    ∙ ap (λ (ps : List Piece). tell_named all (tell_behind times all [] ps) last
    (record { begun = 0; part = λ _. None; time = 0 })) (take_all count all (omega (arith, long)))
    ∙ ap (λ (n : ℕ). tell_named all (tell_behind times all [] all) n
    (record { begun = 0; part = λ _. None; time = 0 })) number
