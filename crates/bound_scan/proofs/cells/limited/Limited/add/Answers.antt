-- Of Limited::add: one more entry, of a key that had none; or none, where there is no memory.
use Rattle.std.proofs.Common.{◌∙◌, inl, inr}
use Rattle.std.specs.Prelude.{nat_eq}
use Rattle.indexmap.proofs.CallerLemmas.{insert_entry-new}
use Rattle.bound_scan.proofs.Limits.{AreLimited, either, limited_as, limited_more}
use Rattle.bound_scan.proofs.cells.limited.Limited.add.Goals as goal

pub invariant_of-self : goal.invariant_of-self
invariant_of-self c =
    let old = c.args.self.now in
    let new = c.insert.new.self in
    let few : AreLimited new.entries old.keys =
    elim (either c.insert.result _ _ c.insert.ensures.entries c.insert.ensures.err) [
      | inl inserted ↦ limited_more old.map.entries new.entries c.args.key old.keys c.args.entry old.below c.requires.there
          (inserted ∙ insert_entry-new nat_eq old.map c.args.key c.args.entry c.requires.none) c.insert.ensures.unique
      | inr same ↦ limited_as new.entries old.map.entries old.keys same (record { below = old.below; limit = old.limit })
    ] in
    record { below = few.below; limit = few.limit }

pub returns-clause-added : goal.returns-clause-added
returns-clause-added c =
    c.in_ok-insert.ensures.entries
    ∙ insert_entry-new nat_eq c.args.self.now.map c.args.key c.args.entry c.requires.none
