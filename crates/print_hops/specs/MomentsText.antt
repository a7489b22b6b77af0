-- The text of moments.
use Rattle.std.specs.Prelude.{ℕ, List, [], ◌++◌, codes, decimal, Option, Some, None}
use Rattle.print_hops.specs.declared.moments.Moments.{Moments}

-- a moment with its name, where there is one
abbrev pub moment_text : List ℕ → Option ℕ → List ℕ
moment_text name None = []
moment_text name (Some moment) = name ++ decimal moment

abbrev pub moments_text : Moments → List ℕ
moments_text moments =
    codes " found " ++ decimal moments.found ++ moment_text (codes " ready ") moments.ready
    ++ moment_text (codes " data ") moments.operand
