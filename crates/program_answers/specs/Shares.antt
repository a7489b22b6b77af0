-- Where the word times of a walk go, as its picture says it.
use Rattle.std.specs.Prelude.{ℕ, ◌-◌}
use Rattle.print_hops.specs.declared.waited.Waited.{Waited}
use Rattle.picture_scene.specs.declared.shares.Shares.{Shares}

-- those of a walk that takes so many, of which its hops wait so many: the rest is work
abbrev pub shares_of : ℕ → Waited → Shares
shares_of time waited = record {
  instructions = waited.instruction;
  «data» = waited.operand;
  work = time - waited.instruction - waited.operand - waited.cards;
  cards = waited.cards;
}
