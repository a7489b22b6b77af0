use Rattle.std.proofs.Common.{◌≡◌, map, drop}
use Rattle.read_toml.specs.Document as document
use Rattle.read_toml.proofs.document.fields.is_one_of.Given as goal

abbrev pub invariant-loop-one : goal.invariant-loop-one
invariant-loop-one l =
    document.is_one_of l.key (map (λ one. one.now) (drop l.one-index l.keys))
    ≡ document.is_one_of l.key (map (λ one. one.now) l.keys)
