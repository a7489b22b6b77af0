-- Of Scan::go_on: where the round has no counts after the hop's mark, the mark is full and bars it.
-- Else the first key of these counts and the index of the target are the key that the hop leads to,
-- a later one, and its end is kept there if it is the latest.
use Rattle.std.proofs.Common.{◌≡◌, ℕ, ◌+◌, ◌<◌, ◌≤◌, Some, inl, inr, refl, ap, sym, ◌∙◌, subst, arith}
use Rattle.bound_scan.specs.declared.cells.Cells.{Cells}
use Rattle.bound_scan.specs.declared.key_hop.KeyHop.{KeyHop}
use Rattle.bound_scan.specs.declared.latest.Latest.{Latest}
use Rattle.bound_scan.specs.SearchOf.{hop_sought}
use Rattle.bound_scan.specs.Keys.{place_at}
use Rattle.bound_scan.specs.RowOf.{counts_number}
use Rattle.bound_scan.specs.Scanned.{later, raised}
use Rattle.bound_scan.specs.ScanOf.{setting_in, order_of, AreCells}
use Rattle.bound_scan.specs.InCells.{kept_in}
use Rattle.bound_scan.proofs.GoesOnto.{barred, few_marks, led_to, onto_counts, onto_key, onward}
use Rattle.bound_scan.proofs.Sought.{sought_after}
use Rattle.bound_scan.proofs.scan.Scan.go_on.Goals as goal

pub after-requires : goal.after-requires
after-requires g c = λ mark is.
    few_marks c.args.self.now c.args.round.now c.args.search.now c.args.number c.args.leap.now c.args.next.number
    c.requires.ready c.requires.round c.requires.next mark is

pub returns-in_default-clause-goes : goal.returns-in_default-clause-goes
returns-in_default-clause-goes g c =
    inl (
      barred c.args.self.now c.args.round.now c.args.search.now c.args.number c.args.leap.now c.args.next.number
          c.requires.ready c.requires.round c.requires.next (sym c.after.ensures ∙ c.in_default.is),
      ap (λ (cells : Cells). kept_in cells) c.bar.ensures,
      ap (λ (cells : Cells). cells.last) c.bar.ensures,
    )

pub returns-in_default-clause-cells : goal.returns-in_default-clause-cells
returns-in_default-clause-cells g c =
    let scan = c.args.self.now in
    subst (AreCells (setting_in scan) (order_of scan)) (sym c.bar.ensures) c.requires.ready.cells

pub overflow_add-onto : goal.overflow_add-onto
overflow_add-onto g c =
    let is = onto_key c.args.self.now c.args.round.now c.args.search.now c.args.number c.args.leap.now
    c.args.next.number c.requires.ready c.requires.round c.requires.next c.in-Some.counted
    (sym c.after.ensures ∙ c.in-Some.is) in
    omega (arith, is.below, c.requires.ready.keys.ordered.0.few)

pub raise-requires-clause-held : goal.raise-requires-clause-held
raise-requires-clause-held g c = c.requires.ready.cells.held

-- an end is of the key that it comes from
from : (a b : KeyHop) → Some a ≡ Some b → a.key ≡ b.key
from a b e = cc

pub raise-requires-clause-onward : goal.raise-requires-clause-onward
raise-requires-clause-onward g c =
    let is = onward c.args.self.now c.args.round.now c.args.search.now c.args.number c.args.leap.now c.args.next.number
    c.requires.ready c.requires.round c.requires.next c.in-Some.counted (sym c.after.ensures ∙ c.in-Some.is)
    c.args.next in
    record {
      there = is.there;
      round = is.round;
      later = subst (λ (from : ℕ). from < c.in-Some.counted.first + c.args.leap.now.index)
          (sym (from c.args.end.origin (hop_sought c.args.search.now c.args.number)
          (ap (λ (latest : Latest). latest.origin) c.requires.end))) is.later;
    }

pub raise-requires-clause-after : goal.raise-requires-clause-after
raise-requires-clause-after g c =
    let scan = c.args.self.now in
    subst (λ (latest : Latest). scan.cells.entries.angle ≤ latest.clock) (sym c.requires.end)
    (sought_after scan c.args.search.now c.args.number c.args.leap.now c.requires.ready)

pub returns-clause-goes : goal.returns-clause-goes
returns-clause-goes g c =
    let scan = c.args.self.now in
    let one = sym c.after.ensures ∙ c.in-Some.is in
    let ensures = c.in_ok-raise.ensures in
    let key = c.in-Some.counted.first + c.args.leap.now.index in
    inr (
      key,
      onto_key scan c.args.round.now c.args.search.now c.args.number c.args.leap.now c.args.next.number
          c.requires.ready c.requires.round c.requires.next c.in-Some.counted one,
      (led_to scan c.args.round.now c.args.search.now c.args.number c.args.leap.now c.args.next.number
          c.requires.ready c.requires.round c.requires.next c.in-Some.counted one).1,
      ensures.kept ∙ ap (raised (kept_in scan.cells) key) c.requires.end,
      ensures.last ∙ ap (later scan.cells.last) c.requires.end,
    )

pub returns-clause-cells : goal.returns-clause-cells
returns-clause-cells g c =
    let scan = c.args.self.now in
    let one = sym c.after.ensures ∙ c.in-Some.is in
    let are = c.requires.ready.cells in
    let ensures = c.in_ok-raise.ensures in
    let is = onto_key scan c.args.round.now c.args.search.now c.args.number c.args.leap.now c.args.next.number
    c.requires.ready c.requires.round c.requires.next c.in-Some.counted one in
    record {
      held = ensures.held;
      entries = ensures.entries (place_at (order_of scan)) (counts_number (setting_in scan).notes.marks (order_of scan))
          (sym is.at)
          (onto_counts scan c.args.round.now c.args.search.now c.args.number c.args.leap.now c.args.next.number
          c.requires.ready c.requires.round c.requires.next c.in-Some.counted one) are.entries;
      angle = ensures.same.angle ∙ are.angle;
      words = ensures.same.words ∙ are.words;
      counts = ensures.same.counts ∙ are.counts;
    }
