-- What a picture says in numbers at its end. Numbers are plain decimal.
use Rattle.std.specs.Prelude.{ℕ, List, ◌++◌, codes, decimal}
use Rattle.picture_scene.specs.declared.shares.Shares.{Shares}

-- a number of word times, in this column and at this height of the page
abbrev pub number_at : ℕ → ℕ → ℕ → List ℕ
number_at column base time =
    codes "<text x='" ++ decimal column ++ codes "' y='" ++ decimal base ++ codes "'>"
    ++ decimal time ++ codes "</text>\n"

-- the numbers below the bar, each below its name: how many word times go into work, and into
-- waiting for instructions, for data and for cards
abbrev pub numbers : ℕ → Shares → List ℕ
numbers base shares =
    number_at 48 base shares.work ++ number_at 348 base shares.instructions
    ++ number_at 648 base shares.data ++ number_at 948 base shares.cards
