-- The outcome of a number that the accumulator is to keep, where a word is taken before.
use Rattle.std.proofs.Common.{◌≡◌, ℕ, ℤ, ap, ◌∙◌}
use Rattle.base_words.specs.declared.word.Word.{Word}
use Rattle.machine_steps.specs.Contents.{Contents}
use Rattle.machine_steps.specs.Effect.{takes, keeps}

-- the same word and the same number have the same outcome
pub same_kept : (c : Contents) (w other : Word) (z number : ℤ) (next : ℕ) → w ≡ other → z ≡ number
    → keeps (takes c w) z next ≡ keeps (takes c other) number next
same_kept c w other z number next words numbers =
    ap (λ (v : Word). keeps (takes c v) z next) words ∙ ap (λ (v : ℤ). keeps (takes c other) v next) numbers
