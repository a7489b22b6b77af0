-- Of Scan::take_round: the keys of a round are as many in a row as there are locations, and are
-- taken in turn. Where no key of the round keeps anything, none has a hop to take.
use Rattle.std.proofs.Common.{◌≡◌, ℕ, suc, ◌+◌, ◌-◌, ◌*◌, ◌/◌, ◌%◌, ◌<◌, ◌≤◌, length, refl, ap, sym, ◌∙◌, subst, arith}
use Rattle.std.proofs.Math.Nat.{mul-le-mul_left}
use Rattle.std.proofs.lemmas.Nat.{div-mul-add, mod-mul-add}
use Rattle.flow_graph.specs.Accepted.{counts_of}
use Rattle.bound_scan.specs.declared.round.Round.{Round}
use Rattle.bound_scan.specs.declared.scan.Scan.{Scan}
use Rattle.bound_scan.specs.RoundOf.{IsRound}
use Rattle.bound_scan.specs.ScanOf.{setting_in, order_of, IsScanned}
use Rattle.bound_scan.proofs.KeysTaken.{skipped_all}
use Rattle.bound_scan.proofs.RoundLaws.{round_first}
use Rattle.bound_scan.specs.InCells.{size_of}
use Rattle.bound_scan.specs.Keys.{keys_of}
use Rattle.bound_scan.proofs.RowsHeld.{cells_size}
use Rattle.bound_scan.proofs.Nodes.{as_long}
use Rattle.bound_scan.proofs.scan.Scan.take_round.Goals as goal

-- the next round begins where this one ends
next_round : (counts words : ℕ) → counts * words + words ≡ (counts + 1) * words
next_round counts words = omega arith

-- a round's keys are keys
round_below : {L : Type 0} (scan : Scan L) (counts index first first' : ℕ) → IsScanned scan first → counts < scan.keys.now.counts
    → index < length (order_of scan) → first' ≡ counts * length (order_of scan)
    → first' + index < scan.keys.now.size
round_below scan counts index first first' is below inside at =
    let up : length (order_of scan) * suc counts ≤ length (order_of scan) * counts_of (setting_in scan).notes.marks =
    mul-le-mul_left (length (order_of scan)) (omega (arith, below, is.keys.counts)) in
    omega (arith, up, inside, at, is.keys.size)

-- the keys of a round are those whose counts are of its number
whole : {L : Type 0} (scan : Scan L) (counts key : ℕ) → scan.cells.words ≡ length (order_of scan)
    → counts * length (order_of scan) ≤ key → key < counts * length (order_of scan) + length (order_of scan)
    → key / scan.cells.words ≡ counts
whole scan counts key words from below =
    let n : ℕ = length (order_of scan) in
    let index : ℕ = key - counts * n in
    let same : key ≡ counts * n + index = omega (arith, from) in
    ap (λ (w : ℕ). key / w) words ∙ ap (λ (k : ℕ). k / n) same ∙ div-mul-add counts n index (omega (arith, from, below))

-- the first key of a round
first_is : {L : Type 0} (scan : Scan L) (counts first : ℕ) (round : Round) → IsScanned scan first → counts < scan.keys.now.counts
    → IsRound scan.keys.now.accepted.now counts round → round.own.first ≡ counts * length (order_of scan)
first_is scan counts first round is below of =
    round_first scan.keys.now.accepted.now counts round of (omega (arith, below, is.keys.counts))

pub returns-then-not-keeps_any-clause-scanned : goal.returns-then-not-keeps_any-clause-scanned
returns-then-not-keeps_any-clause-scanned g c =
    let scan = c.args.self.now in
    let n : ℕ = length (order_of scan) in
    let up : n * suc c.args.leading ≤ n * counts_of (setting_in scan).notes.marks =
    mul-le-mul_left n (omega (arith, c.requires.below, c.requires.scanned.keys.counts)) in
    let size : size_of scan.cells ≡ keys_of (setting_in scan).notes.marks (order_of scan) =
    cells_size (setting_in scan) (order_of scan) scan.cells c.requires.scanned.cells in
    subst (IsScanned scan) (next_round c.args.leading n)
    (skipped_all scan (c.args.leading * n) n c.requires.scanned
    (λ key from below. c.if-not-keeps_any.ensures refl key (omega (arith, below, up, size))
    (whole scan c.args.leading key c.requires.scanned.cells.words from below)))

pub loop-index-init : goal.loop-index-init
loop-index-init g c =
    let scan = c.args.self.now in
    let same : c.args.leading * length (order_of scan) ≡ c.args.leading * length (order_of scan) + 0 = omega arith in
    record { same = refl; scanned = subst (IsScanned scan) same c.requires.scanned }

pub take_key-requires-clause-scanned : goal.take_key-requires-clause-scanned
take_key-requires-clause-scanned g c =
    let scan = c.args.self.now in
    let first = first_is scan c.args.leading (c.args.leading * length (order_of scan)) c.round-round.result
    c.requires.scanned c.requires.below c.round-round.ensures in
    subst (λ (n : ℕ). IsScanned c.loop-index.self (n + c.loop-index.index)) (sym first) c.loop-index.invariant.scanned

pub take_key-requires-clause-below : goal.take_key-requires-clause-below
take_key-requires-clause-below g c =
    let scan = c.args.self.now in
    let n : ℕ = length (order_of scan) in
    let words : c.len-index-end.result ≡ n =
    as_long scan.keys.now c.len-index-end.result c.requires.scanned.keys c.len-index-end.ensures in
    let first = first_is scan c.args.leading (c.args.leading * n) c.round-round.result c.requires.scanned c.requires.below
    c.round-round.ensures in
    subst (λ (s : Scan _). c.round-round.result.own.first + c.loop-index.index < s.keys.now.size)
    (sym c.loop-index.invariant.same)
    (round_below scan c.args.leading c.loop-index.index (c.args.leading * n) c.round-round.result.own.first
    c.requires.scanned c.requires.below (omega (arith, c.loop-index-test.true, words)) first)

pub take_key-requires-clause-round : goal.take_key-requires-clause-round
take_key-requires-clause-round g c =
    let scan = c.args.self.now in
    let n : ℕ = length (order_of scan) in
    let words : c.len-index-end.result ≡ n =
    as_long scan.keys.now c.len-index-end.result c.requires.scanned.keys c.len-index-end.ensures in
    let first = first_is scan c.args.leading (c.args.leading * n) c.round-round.result c.requires.scanned c.requires.below
    c.round-round.ensures in
    let whole : (c.round-round.result.own.first + c.loop-index.index) / n ≡ c.args.leading =
    ap (λ (f : ℕ). (f + c.loop-index.index) / n) first
    ∙ div-mul-add c.args.leading n c.loop-index.index (omega (arith, c.loop-index-test.true, words)) in
    subst (λ (s : Scan _).
    IsRound s.keys.now.accepted.now ((c.round-round.result.own.first + c.loop-index.index) / length (order_of s))
    c.round-round.result) (sym c.loop-index.invariant.same)
    (subst (λ (k : ℕ). IsRound scan.keys.now.accepted.now k c.round-round.result) (sym whole) c.round-round.ensures)

pub take_key-requires-clause-rest : goal.take_key-requires-clause-rest
take_key-requires-clause-rest g c =
    let scan = c.args.self.now in
    let n : ℕ = length (order_of scan) in
    let words : c.len-index-end.result ≡ n =
    as_long scan.keys.now c.len-index-end.result c.requires.scanned.keys c.len-index-end.ensures in
    let first = first_is scan c.args.leading (c.args.leading * n) c.round-round.result c.requires.scanned c.requires.below
    c.round-round.ensures in
    let rest : (c.round-round.result.own.first + c.loop-index.index) % n ≡ c.loop-index.index =
    ap (λ (f : ℕ). (f + c.loop-index.index) % n) first
    ∙ mod-mul-add c.args.leading n c.loop-index.index (omega (arith, c.loop-index-test.true, words)) in
    subst (λ (s : Scan _). (c.round-round.result.own.first + c.loop-index.index) % length (order_of s)
    ≡ c.loop-index.index) (sym c.loop-index.invariant.same) rest

pub loop-index-preserved : goal.loop-index-preserved
loop-index-preserved g c =
    let scan = c.args.self.now in
    let n : ℕ = length (order_of scan) in
    let first = first_is scan c.args.leading (c.args.leading * n) c.round-round.result c.requires.scanned c.requires.below
    c.round-round.ensures in
    let next : c.round-round.result.own.first + c.loop-index.index + 1 ≡ c.args.leading * n + (c.loop-index.index + 1) =
    omega (arith, first) in
    record {
      same = c.in_ok-take_key.ensures.same
          ∙ ap (λ (one : Scan _). record one { cells = c.take_key.new.self.cells; steps = c.take_key.new.self.steps }) c.loop-index.invariant.same;
      scanned = subst (IsScanned c.take_key.new.self) next c.in_ok-take_key.ensures.scanned;
    }

pub returns-clause-scanned : goal.returns-clause-scanned
returns-clause-scanned g c =
    let scan = c.args.self.now in
    let n : ℕ = length (order_of scan) in
    let words : c.len-index-end.result ≡ n =
    as_long scan.keys.now c.len-index-end.result c.requires.scanned.keys c.len-index-end.ensures in
    let all : c.loop-index.index ≡ n = omega (arith, c.loop-index-test.false, c.loop-index.auto.index-end, words) in
    subst (IsScanned c.loop-index.self) (ap (λ (k : ℕ). c.args.leading * n + k) all ∙ next_round c.args.leading n)
    c.loop-index.invariant.scanned
