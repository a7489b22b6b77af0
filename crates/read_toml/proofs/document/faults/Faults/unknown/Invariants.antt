use Rattle.std.proofs.Common.{map}
use Rattle.read_toml.specs.Document as document
use Rattle.toml.specs.View.{members_view}
use Rattle.read_toml.proofs.Adding.{Left}
use Rattle.read_toml.proofs.document.faults.Faults.unknown.Given as goal

-- those of the keys so far have been added
abbrev pub invariant-loop-key : goal.invariant-loop-key
invariant-loop-key l = record {
  next : (goal.iterator-loop-key).can_next l.key-iterator;
  finite : (goal.iterator-loop-key).is_finite l.key-iterator;
  so_far : Left l.initial.self.all.items l.self.all.items
      (document.unknown_in l.fields.at.now (map (λ key. key.now) l.known) (members_view l.key-iterator))
      (document.unknown_in l.fields.at.now (map (λ key. key.now) l.known) (members_view l.fields.table.now.entries));
}
