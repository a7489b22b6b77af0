-- Of the functions that tell pieces: each tells as the definitions say, and no moment is too late.
use Rattle.std.proofs.Common.{ℕ, ◌+◌, ◌*◌, ◌≤◌, take, get_or, None, Some, ap, sym, ◌∙◌, subst, arith, rules, refl}
use Rattle.std.specs.Prelude.{length}
use Rattle.std.proofs.lemmas.Option.{slice_get_within}
use Rattle.flow_walks.specs.declared.piece.Piece.{Piece}
use Rattle.flow_walks.specs.Pieces.{spelled_of}
use Rattle.print_ceilings.specs.ProgressOf.{told_of, MayTell}
use Rattle.print_ceilings.specs.RoundsText.{at_time, both, end_rounds_line, first_place, last_place}
use Rattle.print_ceilings.specs.RoundsText.{rounds_line, Telling}
use Rattle.print_ceilings.specs.TellerOf.{named_told, piece_told, pieces_in, row_told}
use Rattle.print_lines.proofs.Passing.{passes_as}
use Rattle.print_ceilings.proofs.Tellings.{named_beyond, named_part, named_plain, row_is_told, rounds_each, rounds_fit}
use Rattle.print_ceilings.proofs.Tellings.{rounds_sooner, rounds_split, row_more, row_none, row_sooner}
use Rattle.print_ceilings.proofs.Passing.{begin_rounds, end_rounds}
use Rattle.print_ceilings.proofs.Passing.{told_as, told_line, told_none, told_then}
use Rattle.print_ceilings.proofs.teller.Teller.+telling.Goals as goal

-- ---- a piece by its number

pub named-returns-then-number-limit : goal.named-returns-then-number-limit
named-returns-then-number-limit g t c =
    told_as (sym (named_beyond c.args.self.now c.args.limit c.args.number (told_of c.args.progress.now)
    c.requires.within c.if-number-limit.true)) (told_none (g.O.Output.device c.args.writer.now) c.args.sheet.now c.args.progress.now)

pub named-piece-requires : goal.named-piece-requires
named-piece-requires g t c =
    let old = c.args.progress.now in
    let at = c.piece_at-piece.ensures in
    let is = named_plain c.args.self.now c.args.limit c.args.number c.piece_at-piece.result.now (told_of old)
    c.if-number-limit.false at (sym c.if-not-is_part.ensures) in
    let may = subst (MayTell (length (pieces_in c.args.self.now)) old) is c.requires.may in
    λ κs sub. (search rules, (search rules, (c.requires.teller, (at, may))))

pub named-returns-then-not-is_part : goal.named-returns-then-not-is_part
named-returns-then-not-is_part g t c =
    told_as (sym (named_plain c.args.self.now c.args.limit c.args.number c.piece_at-piece.result.now
    (told_of c.args.progress.now) c.if-number-limit.false c.piece_at-piece.ensures (sym c.if-not-is_part.ensures)))
    c.piece.ensures

pub named-first-requires : goal.named-first-requires
named-first-requires g t c =
    let old = c.args.progress.now in
    let at = c.piece_at-piece.ensures in
    let free = sym c.part.ensures ∙ c.in-None.is in
    let is = named_part c.args.self.now c.args.limit c.args.number c.piece_at-piece.result.now (told_of old)
    c.if-number-limit.false at None (sym c.if-not-is_part.ensures) free in
    let may = subst (MayTell (length (pieces_in c.args.self.now)) old) is c.requires.may in
    λ κs sub. (search rules, (search rules, (c.requires.teller, (at, (free, may)))))

pub named-again-requires-clause-may : goal.named-again-requires-clause-may
named-again-requires-clause-may g t c =
    let old = c.args.progress.now in
    subst (MayTell (length (pieces_in c.args.self.now)) old)
    (named_part c.args.self.now c.args.limit c.args.number c.piece_at-piece.result.now (told_of old)
    c.if-number-limit.false c.piece_at-piece.ensures (Some c.in-Some.part) (sym c.if-not-is_part.ensures)
    (sym c.part.ensures ∙ c.in-Some.is)) c.requires.may

pub named-returns-in-None : goal.named-returns-in-None
named-returns-in-None g t c =
    told_as (sym (named_part c.args.self.now c.args.limit c.args.number c.piece_at-piece.result.now
    (told_of c.args.progress.now) c.if-number-limit.false c.piece_at-piece.ensures None (sym c.if-not-is_part.ensures)
    (sym c.part.ensures ∙ c.in-None.is))) c.first.ensures

pub named-returns-in-Some : goal.named-returns-in-Some
named-returns-in-Some g t c =
    told_as (sym (named_part c.args.self.now c.args.limit c.args.number c.piece_at-piece.result.now
    (told_of c.args.progress.now) c.if-number-limit.false c.piece_at-piece.ensures (Some c.in-Some.part)
    (sym c.if-not-is_part.ensures) (sym c.part.ensures ∙ c.in-Some.is))) c.again.ensures

-- ---- a piece

pub piece-row-requires : goal.piece-row-requires
piece-row-requires g t c =
    let old = c.args.progress.now in
    let all = pieces_in c.args.self.now in
    let may = subst (MayTell (length all) old)
    (row_is_told c.args.self.now c.args.number c.args.piece.now c.in-Row.names c.deref.result.now (told_of old)
    c.in-Row.is c.deref.ensures.value) c.requires.may in
    let within : c.args.number ≤ length all =
    omega (arith, slice_get_within all c.args.number c.args.piece.now c.requires.is) in
    λ κs sub. (search rules, (search rules, (c.requires.teller, (within, may))))

pub piece-rounds-requires : goal.piece-rounds-requires
piece-rounds-requires g t c =
    let old = c.args.progress.now in
    let all = pieces_in c.args.self.now in
    let may = subst (λ (one : Piece). MayTell (length all) old
    (piece_told c.args.self.now c.args.number one (told_of old))) c.in-Rounds.is c.requires.may in
    let within : c.args.number ≤ length all =
    omega (arith, slice_get_within all c.args.number c.args.piece.now c.requires.is) in
    λ κs sub. (search rules, (search rules, (c.requires.teller, (within, may))))

pub piece-returns-in-Row : goal.piece-returns-in-Row
piece-returns-in-Row g t c =
    told_as (sym (row_is_told c.args.self.now c.args.number c.args.piece.now c.in-Row.names c.deref.result.now
    (told_of c.args.progress.now) c.in-Row.is c.deref.ensures.value)) c.row.ensures

-- ---- rounds

pub rounds-named-requires : goal.rounds-named-requires
rounds-named-requires g t c =
    let self = c.args.self.now in
    let old = c.args.progress.now in
    let sooner = rounds_sooner self c.args.limit c.args.rounds (told_of old) in
    let may : MayTell (length (pieces_in self)) old (named_told self c.args.limit c.args.rounds.piece (told_of old)) =
    record { parts = c.requires.may.parts; fits = omega (arith, sooner, c.requires.may.fits) } in
    λ κs sub. (search rules, (search rules, (c.requires.teller, (c.requires.within, may))))

pub rounds-overflow_mul-ended : goal.rounds-overflow_mul-ended
rounds-overflow_mul-ended g t c =
    omega (
      arith,
      rounds_fit c.args.self.now c.args.limit c.args.rounds (told_of c.args.progress.now) (told_of c.named.new.progress)
          c.from.result c.saturating_sub-each.result c.named.ensures.now c.from.ensures c.saturating_sub-each.ensures,
      c.requires.may.fits,
    )

pub rounds-overflow_add-ended : goal.rounds-overflow_add-ended
rounds-overflow_add-ended g t c =
    omega (
      arith,
      rounds_fit c.args.self.now c.args.limit c.args.rounds (told_of c.args.progress.now) (told_of c.named.new.progress)
          c.from.result c.saturating_sub-each.result c.named.ensures.now c.from.ensures c.saturating_sub-each.ensures,
      c.requires.may.fits,
    )

pub rounds-returns : goal.rounds-returns
rounds-returns g t c =
    let old = c.args.progress.now in
    let later = c.named.new.progress in
    let self = c.args.self.now in
    let rounds = c.args.rounds in
    let hops = spelled_of (pieces_in self) rounds.piece in
    let tell : Telling = named_told self c.args.limit rounds.piece in
    let each = c.saturating_sub-each.result in
    let ended = old.time + rounds.times * each in
    let begin : Telling = begin_rounds rounds.times (last_place hops) (first_place hops) in
    let real = rounds_each self c.args.limit rounds (told_of old) (told_of later) each c.named.ensures.now
    c.saturating_sub-each.ensures in
    told_as (sym (rounds_split self c.args.limit rounds (told_of old) each ended real refl))
    (told_then (both begin tell) (end_rounds each ended)
    (told_then begin tell
    (told_line (rounds_line rounds.times (last_place hops) (first_place hops)) (told_of old) old {new = old} refl refl
    (passes_as (ap (λ (n : ℕ). rounds_line rounds.times n c.last_and_first-last.result.1)
    c.last_and_first-last.ensures.last ∙ ap (rounds_line rounds.times (last_place hops))
    c.last_and_first-last.ensures.first) c.put_begin_rounds.ensures))
    c.named.ensures)
    (told_line (end_rounds_line each ended) (at_time ended (told_of later)) later
    (ap (λ (n : ℕ). at_time (old.time + n * each) (told_of later)) c.from.ensures) refl
    (passes_as (ap (λ (n : ℕ). end_rounds_line each (old.time + n * each)) c.from.ensures) c.put_end_rounds.ensures)))

-- ---- pieces in a row

pub row-loop-number-init : goal.row-loop-number-init
row-loop-number-init g t c =
    told_as (sym (row_none c.args.self.now c.args.limit (told_of c.args.progress.now)))
    (told_none (g.O.Output.device c.args.writer.now) c.args.sheet.now c.args.progress.now)

pub row-loop-number-preserved : goal.row-loop-number-preserved
row-loop-number-preserved g t c =
    let self = c.args.self.now in
    let names = c.args.names.now in
    let i = c.loop-number.number-index in
    told_as (sym (row_more self c.args.limit names i (told_of c.args.progress.now) c.loop-number-test.true))
    (told_then (row_told self c.args.limit (take i names)) (named_told self c.args.limit (get_or names i 0))
    c.loop-number.invariant c.named.ensures)

pub row-named-requires : goal.row-named-requires
row-named-requires g t c =
    let self = c.args.self.now in
    let between = c.loop-number.progress in
    let i = c.loop-number.number-index in
    let so_far = c.loop-number.invariant in
    let sooner = row_sooner self c.args.limit c.args.names.now i (told_of c.args.progress.now) (told_of between)
    c.loop-number-test.true so_far.now in
    let may : MayTell (length (pieces_in self)) between
    (named_told self c.args.limit (get_or c.args.names.now i 0) (told_of between)) =
    record { parts = so_far.parts ∙ c.requires.may.parts; fits = omega (arith, sooner, c.requires.may.fits) } in
    λ κs sub. (search rules, (search rules, (c.requires.teller, (c.requires.within, may))))
