use Rattle.std.proofs.Common.{◌+◌, ◌≤◌, length, arith, rules}
use Rattle.std.proofs.lemmas.Grind.{common_steps}
use Rattle.base_devices.proofs.Bytes.{Appends-more}
use Rattle.base_devices.proofs.whole.write_whole.Goals as goal

pub loop-sent-preserved : goal.loop-sent-preserved
loop-sent-preserved g c =
    let bytes = c.args.bytes.now in
    let within : c.loop-sent.sent + c.in-Ok.count ≤ length bytes = search rules in
    record {
      within = within;
      prefix =
          Appends-more _ (g.O.Output.device c.loop-sent.output).written _ c.loop-sent.sent c.in-Ok.count bytes within
          c.loop-sent.invariant.prefix c.in-Ok.ensures.bytes;
      failed = grind (arith, common_steps);
    }
