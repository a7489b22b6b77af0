use Rattle.std.proofs.Common.{◌≡◌, map, drop}
use Rattle.read_toml.specs.Document as document
use Rattle.read_toml.proofs.document.value.choice.Given as goal

abbrev pub invariant-loop-name : goal.invariant-loop-name
invariant-loop-name g l =
    document.is_one_of l.text (map (λ choice. choice.0.now) (drop l.name-index l.choices))
    ≡ document.is_one_of l.text (map (λ choice. choice.0.now) l.choices)
