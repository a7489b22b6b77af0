-- The line of a bound.
use Rattle.std.specs.Prelude.{ℕ, List, ◌++◌, codes, decimal}

abbrev pub bound_text : ℕ → List ℕ
bound_text bound = codes "bound " ++ decimal bound ++ codes "\n"
