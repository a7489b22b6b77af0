use Rattle.std.proofs.Common.{◌≡◌, map, take}
use Rattle.flow_graph.specs.Found.{places_of}
use Rattle.check_findings.specs.FindingOf.{seen}
use Rattle.check_findings.specs.declared.lacking.Lack.{Lack}
use Rattle.check_findings.specs.Lacking.{words_altered}
use Rattle.check_findings.specs.LackingOf.{pair_of}
use Rattle.check_findings.proofs.lacking.Lacking.of.Given as goal

-- the words of the findings so far are there
abbrev pub invariant-loop-finding : goal.invariant-loop-finding
invariant-loop-finding l = record {
  same : places_of l.places ≡ map (λ (lack : Lack). lack.word.number) l.words.items;
  so_far : map pair_of l.words.items ≡ words_altered (map seen (take l.finding-index l.findings));
}
