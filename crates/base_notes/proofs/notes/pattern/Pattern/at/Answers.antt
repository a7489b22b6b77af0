use Rattle.std.proofs.Common.{refl, arith}
use Rattle.base_notes.proofs.Matching.{how_many, one_at}
use Rattle.base_notes.proofs.notes.pattern.Pattern.at.Goals as goal

pub overflow_cast-result : goal.overflow_cast-result
overflow_cast-result c = omega (arith, how_many c.args.self, c.len.ensures, c.args.self.four)

pub overflow_add-result : goal.overflow_add-result
overflow_add-result c = omega (arith, how_many c.args.self, c.len.ensures, c.args.self.four, c.args.self.ordered)

pub invariant_of-result : goal.invariant_of-result
invariant_of-result c = record {
  two = c.args.self.two;
  four = omega (arith, how_many c.args.self, c.len.ensures, c.args.self.four, c.args.self.ordered);
  next_four = c.args.self.next_four;
}

pub returns : goal.returns
returns c = one_at c.args.self c.args.place (omega (arith, c.len.ensures)) refl refl refl
