-- The lines of how large an analysis is, in plain decimal.
use Rattle.std.specs.Prelude.{ℕ, List, ◌++◌, length, sum_by, codes, decimal, Option}
use Rattle.base_words.specs.declared.word.Word.{Word}
use Rattle.base_notes.specs.Allowed.{Notes}
use Rattle.flow_graph.specs.Hops.{hops}

-- how many hops these locations have in all
abbrev pub hops_among : (ℕ → Option Word) → Notes → List ℕ → ℕ
hops_among loads notes places = sum_by (λ place. length (hops loads notes place)) places

-- how many words are executed, how many hops they have, how many counts the marks can have, and how
-- many entries the table of worst times has
abbrev pub size_text : ℕ → ℕ → ℕ → ℕ → List ℕ
size_text words hops counts keys =
    codes "words " ++ decimal words ++ codes "\nhops " ++ decimal hops
    ++ codes "\ncounts " ++ decimal counts ++ codes "\nkeys " ++ decimal keys ++ codes "\n"
