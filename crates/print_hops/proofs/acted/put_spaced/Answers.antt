use Rattle.std.proofs.Common.{◌∷◌, ap, flat_map}
use Rattle.std.proofs.lemmas.List.{take_all}
use Rattle.base_words.specs.declared.word.Word.{Word}
use Rattle.base_words.specs.Word.{spelling}
use Rattle.print_lines.proofs.Passing.{◌⊳◌, passes_as, passes_more}
use Rattle.print_hops.proofs.acted.put_spaced.Goals as goal

pub loop-word-preserved : goal.loop-word-preserved
loop-word-preserved g c =
    passes_more (λ (word : Word). 32 ∷ spelling word) c.args.words.now c.loop-word.word-index c.word-item.result
    c.loop-word-test.true c.word-item.is c.loop-word.invariant
    (c.put.ensures ⊳ passes_as c.spelling_of.ensures c.put-in-loop-word.ensures)

pub returns : goal.returns
returns g c =
    passes_as (ap (flat_map (λ (word : Word). 32 ∷ spelling word))
    (take_all c.loop-word.word-index c.args.words.now c.loop-word-test.false)) c.loop-word.invariant
