-- The most word times that a wait takes.
use Rattle.std.specs.Prelude.{ℕ, ◌≤◌}
use Rattle.std.proofs.Common.{arith}
use Rattle.base_words.specs.declared.location.Kind.{Kind}
use Rattle.base_words.specs.declared.location.Kind.TheVariants.{Drum, Switches, Distributor, Lower}
use Rattle.base_words.specs.declared.location.Kind.TheVariants.{Upper}
use Rattle.base_words.specs.declared.parity.Parity.{Parity}
use Rattle.base_words.specs.declared.parity.Parity.TheVariants.{Any, Even, Odd}

-- the wait for an angle of a parity
abbrev pub parity_span : Parity → ℕ
parity_span Any = 0
parity_span Even = 1
parity_span Odd = 1

-- the wait for a word of a kind
abbrev pub kind_span : Kind → ℕ
kind_span Drum = 49
kind_span Switches = 0
kind_span Distributor = 0
kind_span Lower = 1
kind_span Upper = 1

-- no wait is longer than a revolution, less one
pub kind_span-≤ : (kind : Kind) → kind_span kind ≤ 49
kind_span-≤ Drum = omega arith
kind_span-≤ Switches = omega arith
kind_span-≤ Distributor = omega arith
kind_span-≤ Lower = omega arith
kind_span-≤ Upper = omega arith

pub parity_span-≤ : (parity : Parity) → parity_span parity ≤ 1
parity_span-≤ Any = omega arith
parity_span-≤ Even = omega arith
parity_span-≤ Odd = omega arith
