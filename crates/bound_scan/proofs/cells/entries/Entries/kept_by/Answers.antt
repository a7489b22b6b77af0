-- Of Entries::kept_by: the entry at the index is the key's own, so its time from the start angle on
-- is the clock that the key keeps. It comes from its own key exactly where it is the start's.
use Rattle.std.proofs.Common.{◌≡◌, ℕ, ◌+◌, ◌<◌, List, length, get_or, Some, refl, ap, ◌∙◌, arith}
use Rattle.std.specs.Prelude.{slice_get}
use Rattle.std.specs.Map.{values_of}
use Rattle.std.proofs.lemmas.Option.{slice_get_read}
use Rattle.bound_scan.specs.declared.cells.entries.Entries.{Entries}
use Rattle.bound_scan.specs.declared.key_hop.KeyHop.{KeyHop}
use Rattle.bound_scan.specs.declared.latest.Latest.{Latest}
use Rattle.bound_scan.specs.declared.worst.Worst.{Worst}
use Rattle.bound_scan.specs.InEntries.{kept_of, latest_at, pairs_of, AreKept, IsEntryOf}
use Rattle.bound_scan.proofs.Entering.{entry_pair, entry_read, kept_found}
use Rattle.bound_scan.proofs.InCellsLaws.{latest_other, latest_start}
use Rattle.bound_scan.proofs.cells.entries.Entries.kept_by.Goals as goal

pub overflow_add-result : goal.overflow_add-result
overflow_add-result c =
    let entries = c.args.self.now in
    let entry = c.index-table-index.result in
    let here : entry ≡ get_or c.table.result.now c.args.index entry = c.index-table-index.is in
    let there : slice_get (values_of (pairs_of entries)) c.args.index ≡ Some entry =
    entry_read (pairs_of entries) c.args.index c.table.result.now entry c.requires.inside c.table.ensures here in
    let timed = c.requires.kept.timed c.args.key entry
    (entry_pair c.args.key (pairs_of entries) c.args.index entry c.requires.there there) in
    omega (arith, timed.0, ap (λ (e : Worst). e.time) here)

-- what the key keeps, where its entry was read
key_keeps : (entries : Entries) (key index : ℕ) (table : List Worst) (entry : Worst) (origin : KeyHop) → AreKept entries
    → IsEntryOf key (pairs_of entries) index → index < length (pairs_of entries) → table ≡ values_of (pairs_of entries)
    → entry ≡ get_or table index entry → origin ≡ get_or entries.origins.items index origin
    → kept_of entries key ≡ Some (latest_at entries.angle key (get_or table index entry) origin)
key_keeps entries key index table entry origin kept is inside all at from =
    kept_found entries.angle key (pairs_of entries) entries.origins.items index entry origin is
    (entry_read (pairs_of entries) index table entry inside all at)
    (slice_get_read entries.origins.items (length entries.origins.items) index origin refl
    (omega (arith, inside, kept.paired)) from)
    ∙ ap (λ (e : Worst). Some (latest_at entries.angle key e origin)) at

pub returns-then-origin-key : goal.returns-then-origin-key
returns-then-origin-key c =
    let entries = c.args.self.now in
    let entry = c.index-table-index.result in
    let origin = c.index-origin.result.now in
    let now : Worst = get_or c.table.result.now c.args.index entry in
    key_keeps entries c.args.key c.args.index c.table.result.now entry origin c.requires.kept c.requires.there
    c.requires.inside c.table.ensures c.index-table-index.is c.index-origin.ensures
    ∙ ap (λ (l : Latest). Some l)
    (latest_start entries.angle c.args.key (entries.angle + now.time) now origin refl c.if-origin-key.true)

pub returns-else-origin-key : goal.returns-else-origin-key
returns-else-origin-key c =
    let entries = c.args.self.now in
    let entry = c.index-table-index.result in
    let origin = c.index-origin.result.now in
    let now : Worst = get_or c.table.result.now c.args.index entry in
    key_keeps entries c.args.key c.args.index c.table.result.now entry origin c.requires.kept c.requires.there
    c.requires.inside c.table.ensures c.index-table-index.is c.index-origin.ensures
    ∙ ap (λ (l : Latest). Some l) (latest_other entries.angle c.args.key now origin c.if-origin-key.false)
