-- Of marks: where there are as many faults as before, the marks have none.
use Rattle.std.proofs.Common.{arith}
use Rattle.std.proofs.lemmas.Bool.{eqb-false}
use Rattle.toml.specs.View.{table_view}
use Rattle.read_toml.specs.Kinds.{edges_of, marks_of}
use Rattle.read_toml.proofs.Adding.{some_more}
use Rattle.read_toml.proofs.Sound.{repeated_none}
use Rattle.read_toml.proofs.document.faults.Faults.marks.Goals as goal

pub returns-clause-wrong : goal.returns-clause-wrong
returns-clause-wrong c = λ other.
    let D = table_view c.args.top.now.table.now in
    repeated_none (edges_of c.args.read D) (marks_of c.args.read D) (λ none.
    some_more _ _ _ (λ same. eqb-false c.len.result c.len-before.result other (omega (
      arith,
      same,
      c.len.ensures,
      c.len-before.ensures,
      c.mark_tables.new.self.all.ok.0,
      c.args.self.now.all.ok.0,
    ))) c.in_ok-mark_tables.ensures none)
