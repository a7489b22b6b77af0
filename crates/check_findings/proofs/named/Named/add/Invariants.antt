use Rattle.check_findings.specs.NamedOf.{IsBetween}
use Rattle.check_findings.proofs.NamedFlags.{AreLeft}
use Rattle.check_findings.proofs.named.Named.add.Given as goal

-- what is set, and the words that are left, is what was set, and all of the words
abbrev pub invariant-loop-word : goal.invariant-loop-word
invariant-loop-word l = AreLeft (IsBetween l.fn.from l.fn.below) l.fn.self.flags.items (IsBetween l.word l.below) l.self.flags.items
