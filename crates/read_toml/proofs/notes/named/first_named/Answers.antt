use Rattle.std.proofs.Common.{arith}
use Rattle.read_toml.proofs.Naming.{named_there}
use Rattle.read_toml.proofs.notes.named.first_named.Goals as goal

pub returns-then-says_name-clause-some : goal.returns-then-says_name-clause-some
returns-then-says_name-clause-some c = (
  omega (arith, c.loop-place-test.true),
  named_there c.args.items.now c.loop-place.place c.index-items-place.result c.args.name.now c.says_name.result
      c.loop-place-test.true c.index-items-place.is c.says_name.ensures c.if-says_name.true,
)
