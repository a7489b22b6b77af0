use Rattle.std.proofs.Common.{[], ◌∷◌, refl, inl, inr}
use Rattle.program_run.proofs.laws.faulty_words_are_refused.Goals as goal

pub returns : goal.returns
returns c [] input files failures reply some faulty answers = absurd (some refl)
returns c (word ∷ words) input files failures reply some faulty answers = elim answers [
  | inl (command, of, is) ↦ absurd (faulty of.faultless)
  | inr (refused, are, none, is) ↦ (refused, are, is)
]
