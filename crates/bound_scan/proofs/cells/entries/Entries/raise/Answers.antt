-- Of Entries::raise: an end that is no later leaves all as it is. A later one is put into the key's
-- entry, with where it comes from, and no other entry changes.
use Rattle.std.proofs.Common.{◌≡◌, ℕ, ◌+◌, ◌-◌, ◌%◌, Some, refl, ap, sym, ◌∙◌, subst, arith}
use Rattle.std.specs.Prelude.{slice_get}
use Rattle.std.specs.Map.{values_of}
use Rattle.std.specs.Vec.{with_item}
use Rattle.bound_scan.specs.declared.cells.entries.Entries.{Entries}
use Rattle.bound_scan.specs.declared.key_hop.KeyHop.{KeyHop}
use Rattle.bound_scan.specs.EndOf.{latest_in}
use Rattle.bound_scan.specs.InEntries.{pairs_of, Keeps}
use Rattle.bound_scan.proofs.Entering.{entry_read, raised_keeps, stays_kept}
use Rattle.bound_scan.proofs.InCellsLaws.{latest_of}
use Rattle.bound_scan.proofs.cells.entries.Entries.raise.Goals as goal

pub returns-then-time-was-clause-keeps : goal.returns-then-time-was-clause-keeps
returns-then-time-was-clause-keeps c =
    let old = c.args.self.now in
    let was = c.index-table-index.result in
    stays_kept old c.args.key c.args.index was c.args.end.now.origin c.requires.there c.requires.kept
    (entry_read (pairs_of old) c.args.index c.table.result.now was c.requires.inside c.table.ensures
    c.index-table-index.is) (latest_in c.args.end.now) c.args.index
    (omega (arith, c.if-time-was.true, c.clock.ensures))

pub returns-clause-keeps : goal.returns-clause-keeps
returns-clause-keeps c = λ location counts.
    let old = c.args.self.now in
    let was = c.index-table-index.result in
    let clock = c.args.end.now.clock in
    let new : Entries = record old {
      table = c.put.new.self;
      origins = with_item old.origins c.args.index c.origin.result;
      near = c.args.index;
    } in
    let there : slice_get (values_of (pairs_of old)) c.args.index ≡ Some was =
    entry_read (pairs_of old) c.args.index c.table.result.now was c.requires.inside c.table.ensures
    c.index-table-index.is in
    let now : old.angle + (c.clock.result - old.angle) ≡ clock = omega (arith, c.clock.ensures, c.requires.after) in
    subst (λ (origin : KeyHop). Keeps old c.args.key location counts (latest_of clock (Some origin)) new)
    c.origin.ensures
    (raised_keeps old new c.args.key c.args.index clock was _ c.origin.result refl c.requires.there there
    c.put.ensures.entries refl c.requires.kept refl refl refl
    (omega (arith, now, c.clock.ensures, c.clock.type_inv), c.angle.ensures.value ∙ ap (λ (n : ℕ). n % 50) (sym now))
    now (omega (arith, c.requires.onward, ap (λ (o : KeyHop). o.key) c.origin.ensures))
    (omega (arith, c.if-time-was.false, c.clock.ensures, c.requires.after)) location counts)
