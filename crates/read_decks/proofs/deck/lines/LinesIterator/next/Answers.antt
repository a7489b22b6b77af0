use Rattle.std.proofs.Common.{◌<◌, length, ap, arith}
use Rattle.std.proofs.lemmas.Bool.Decides.{nat_tests}
use Rattle.read_decks.proofs.LineLemmas.{lines_of-last, lines_of-behind}
use Rattle.read_decks.proofs.deck.lines.LinesIterator.next.Goals as goal

pub returns-in-Some-clause-steps : goal.returns-in-Some-clause-steps
returns-in-Some-clause-steps c =
    let found = c.in-Some.ensures in
    lines_of-behind c.args.self.now.rest.now c.in-Some.end found.within found.found found.first

pub returns-in-Some-clause-goes : goal.returns-in-Some-clause-goes
returns-in-Some-clause-goes c =
    let found = c.in-Some.ensures in
    let steps = lines_of-behind c.args.self.now.rest.now c.in-Some.end found.within found.found found.first in
    record { on = λ _. (tt, tt, omega (arith, ap length steps)); keeps = tt; rests = λ _. tt }

pub returns-in-None-clause-steps : goal.returns-in-None-clause-steps
returns-in-None-clause-steps c =
    let some : 0 < length c.args.self.now.rest.now = grind (arith, nat_tests) in
    lines_of-last c.args.self.now.rest.now some c.in-None.ensures.none
