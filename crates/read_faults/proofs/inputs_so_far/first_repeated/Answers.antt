use Rattle.std.proofs.Common.{rules}
use borrow.Author.Tests.{tests}
use Rattle.std.proofs.lemmas.Iterator.{IsFirst-from_position, YieldsList-from_slice}
use Rattle.read_replays.specs.Said.{said}
use Rattle.read_faults.proofs.PlacedInputs.{Again, Anew, first_found, none_found}
use Rattle.read_faults.proofs.inputs_so_far.first_repeated.Goals as goal

pub returns-clause-found : goal.returns-clause-found
returns-clause-found c =
    first_found c.args.before.now (said c.args.line.now) c.position.result
    (IsFirst-from_position _ _ _ (Again (said c.args.line.now)) (Anew (said c.args.line.now)) c.position.ensures.ran
    (YieldsList-from_slice c.args.before.now cc) (λ x q k. search (rules, tests)) (λ x q k. search (rules, tests)))

pub returns-clause-none : goal.returns-clause-none
returns-clause-none c =
    none_found c.args.before.now (said c.args.line.now) c.position.result
    (IsFirst-from_position _ _ _ (Again (said c.args.line.now)) (Anew (said c.args.line.now)) c.position.ensures.ran
    (YieldsList-from_slice c.args.before.now cc) (λ x q k. search (rules, tests)) (λ x q k. search (rules, tests)))
