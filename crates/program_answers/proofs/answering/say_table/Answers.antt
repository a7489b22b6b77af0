use Rattle.std.proofs.Common.{refl}
use Rattle.bound_scan.specs.AnalysisOf.{rows_of}
use Rattle.print_walks.specs.TableOf.{rows_in}
use Rattle.program_answers.specs.Says.{table_reply}
use Rattle.print_lines.proofs.NoLine.{no_line}
use Rattle.program_answers.proofs.answering.say_table.Goals as goal

pub returns-clause-does : goal.returns-clause-does
returns-clause-does g c err =
    let rows = rows_in c.in_ok-table.table in (
      table_reply c.args.documents.now rows,
      (rows_of c.in_ok-analysis.analysis, c.in_ok-analysis.ensures.table, rows, c.in_ok-table.ensures, refl),
      no_line _ _,
      (c.tell_table.ensures, refl),
    )
