use Rattle.std.proofs.Common.{◌≡◌, ◌++◌, map, take}
use Rattle.check_findings.specs.FindingOf.{seen}
use Rattle.check_deck.specs.FindingsOf.{found_in}
use Rattle.check_deck.proofs.findings.Findings.add_all.Given as goal

-- the findings so far were added
abbrev pub invariant-loop-finding : goal.invariant-loop-finding
invariant-loop-finding l = found_in l.self ≡ found_in l.fn.self ++ map seen (take l.finding-index l.findings)
