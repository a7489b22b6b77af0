-- Of turn: as many bytes are written as it holds.
use Rattle.std.proofs.Common.{◌≡◌, ℕ, ◌+◌, length, take, arith, subst}
use Rattle.std.proofs.lemmas.List.{length-take}
use Rattle.print_lines.specs.Stands.{counted, gone_of}
use Rattle.print_lines.proofs.Turning.{turned_by}
use Rattle.print_lines.proofs.sheet.Sheet.turn.Goals as goal

pub returns-clause-passes : goal.returns-clause-passes
returns-clause-passes g c =
    let sheet = c.args.self.now in
    let all : sheet.held ≡ length (take sheet.held sheet.bytes) =
    omega (arith, length-take sheet.held sheet.bytes, sheet.within, sheet.room) in
    turned_by (g.O.Output.device c.args.writer.now) (g.O.Output.device c.write_whole-written.new.output) sheet
    c.count.new.self c.write_whole-written.result c.if-self.false
    c.write_whole-written.ensures.all c.write_whole-written.ensures.prefix c.write_whole-written.ensures.some
    c.write_whole-written.ensures.failures c.count.ensures.empty
    (subst (λ (n : ℕ). c.count.new.self.sent ≡ counted (sheet.sent + gone_of n c.write_whole-written.result)) all
    c.count.ensures.sent) c.count.ensures.lost
