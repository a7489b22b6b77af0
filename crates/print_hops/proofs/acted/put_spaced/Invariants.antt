use Rattle.std.proofs.Common.{◌∷◌, flat_map, take}
use Rattle.base_words.specs.declared.word.Word.{Word}
use Rattle.base_words.specs.Word.{spelling}
use Rattle.print_lines.specs.Stands.{Passes}
use Rattle.print_hops.proofs.acted.put_spaced.Given as goal

-- the words so far were put
abbrev pub invariant-loop-word : goal.invariant-loop-word
invariant-loop-word g l =
    Passes (g.O.Output.device l.fn.writer) l.fn.sheet (g.O.Output.device l.writer) l.sheet
    (flat_map (λ (word : Word). 32 ∷ spelling word) (take l.word-index l.words))
