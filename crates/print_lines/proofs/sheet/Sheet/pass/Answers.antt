use Rattle.print_lines.proofs.Turning.{passed_by}
use Rattle.print_lines.proofs.sheet.Sheet.pass.Goals as goal

pub returns : goal.returns
returns g c =
    passed_by (g.O.Output.device c.args.writer.now) (g.O.Output.device c.write_whole-written.new.output) c.args.self.now
    c.count.new.self c.args.bytes.now c.write_whole-written.result c.if-self.false c.requires
    c.write_whole-written.ensures.all c.write_whole-written.ensures.prefix c.write_whole-written.ensures.some
    c.write_whole-written.ensures.failures c.count.ensures.empty c.count.ensures.sent c.count.ensures.lost
