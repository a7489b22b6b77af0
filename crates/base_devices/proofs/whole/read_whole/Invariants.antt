use Rattle.std.proofs.Common.{◌≡◌, ◌+◌, ◌-◌, ◌≤◌, vec_len}
use Rattle.std.specs.Io.KnownBytes.{Consumes}
use Rattle.base_devices.proofs.whole.read_whole.Given as goal

-- the text so far is what the input lost, each call gave some of it, and none failed or met the end
abbrev pub invariant-loop-chunk : goal.invariant-loop-chunk
invariant-loop-chunk g l = record {
  within : vec_len l.text ≤ l.limit + 1;
  prefix : Consumes (g.I.Input.unread l.fn.input) (g.I.Input.unread l.input) l.text.items;
  calls : g.I.Input.called l.input ≤ g.I.Input.called l.fn.input + vec_len l.text;
  failed : g.I.Input.failed l.input ≡ g.I.Input.failed l.fn.input;
  ended : g.I.Input.ended l.input ≡ g.I.Input.ended l.fn.input;
  idle : g.I.Input.idle l.input ≡ g.I.Input.idle l.fn.input;
  given : g.I.Input.given l.input ≡ g.I.Input.given l.fn.input + vec_len l.text;
}

abbrev pub decreases-loop-chunk : goal.decreases-loop-chunk
decreases-loop-chunk g l = l.limit + 1 - vec_len l.text
