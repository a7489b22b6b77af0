use Rattle.std.proofs.Common.{◌+◌, take, sym, arith}
use Rattle.std.proofs.lemmas.List.Folds.{flat_map-map}
use Rattle.print_lines.proofs.Passing.{passes_as, passes_more}
use Rattle.check_findings.specs.declared.lacking.Lack.{Lack}
use Rattle.check_findings.specs.Lacking.{list_text}
use Rattle.check_findings.specs.LackingOf.{pair_of}
use Rattle.check_findings.proofs.pasting.put_lists.Goals as goal

pub loop-lack-preserved : goal.loop-lack-preserved
loop-lack-preserved g c =
    let words = c.args.words.now in
    let index = c.loop-lack.lack-index in
    passes_as (sym (flat_map-map list_text pair_of (take (index + 1) words)))
    (passes_more (λ (lack : Lack). list_text (pair_of lack)) words index c.lack-item.result (omega arith) c.lack-item.is
    (passes_as (flat_map-map list_text pair_of (take index words)) c.loop-lack.invariant) c.put_list.ensures)
