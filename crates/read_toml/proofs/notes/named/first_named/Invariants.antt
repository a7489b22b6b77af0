use Rattle.std.proofs.Common.{◌≡◌, drop}
use Rattle.toml.specs.View.{items_view}
use Rattle.read_toml.specs.LongMarks as said
use Rattle.read_toml.proofs.notes.named.first_named.Given as goal

-- what is left says the name where all do
abbrev pub invariant-loop-place : goal.invariant-loop-place
invariant-loop-place l =
    said.is_named (said.names_said (items_view (drop l.place l.items))) l.name
    ≡ said.is_named (said.names_said (items_view l.items)) l.name
