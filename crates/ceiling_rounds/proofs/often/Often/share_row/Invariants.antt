use Rattle.std.proofs.Common.{◌≡◌, ◌*◌, take}
use Rattle.std.specs.Prelude.{sum_by}
use Rattle.ceiling_rounds.specs.OftenOf.{HasShared}
use Rattle.ceiling_rounds.proofs.often.Often.share_row.Given as goal

-- the pieces so far come more often
abbrev pub invariant-loop-number : goal.invariant-loop-number
invariant-loop-number l = record {
  hops : l.self.hops ≡ l.fn.self.hops;
  shared : HasShared l.limit l.fn.self.often.items l.self.often.items
      (λ of_piece. l.more * sum_by of_piece (take l.number-index l.names));
}
