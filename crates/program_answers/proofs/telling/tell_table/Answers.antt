use Rattle.std.proofs.Common.{[], List, subst}
use Rattle.print_lines.specs.declared.status.Status.TheVariants.{Done}
use Rattle.print_lines.specs.Output.{GetsResult}
use Rattle.print_walks.specs.TableOf.{rows_in}
use Rattle.print_walks.specs.TableText.{table_text}
use Rattle.base_notes.specs.declared.notes.mark.Mark.{Mark}
use Rattle.program_answers.proofs.telling.tell_table.Goals as goal

pub returns : goal.returns
returns g c =
    subst (λ (marks : List Mark). GetsResult (g.O.Output.device c.args.out.now) (g.O.Output.device c.end_result.new.out)
    (table_text marks (rows_in c.args.table.now)) Done c.end_result.result) c.marks.ensures.all
    (c.end_result.ensures _ _ (c.put_table.ensures.stands _ [] (c.new-sheet.ensures _)))
