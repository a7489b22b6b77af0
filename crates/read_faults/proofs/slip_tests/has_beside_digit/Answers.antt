use Rattle.std.proofs.Common.{rules}
use borrow.Author.Tests.{tests}
use Rattle.std.proofs.lemmas.Iterator.{YieldsList-from_slice, YieldsList-from_zip}
use Rattle.std.proofs.lemmas.Iterator.Adapters.{YieldsList-from_skip}
use Rattle.std.proofs.lemmas.Iterator.Consumers.{YieldsList-at}
use Rattle.std.proofs.lemmas.Iterator.Search.{any_from_yields_List}
use Rattle.read_faults.specs.SlipTests.{is_beside_digit}
use Rattle.read_faults.proofs.slip_tests.has_beside_digit.Goals as goal

pub returns : goal.returns
returns c =
    let line = c.args.line.now in
    any_from_yields_List (λ pair. is_beside_digit c.args.one c.args.other pair.0 pair.1) c.any.new.self _ _ c.any.ensures.ran
    (YieldsList-from_zip {s = c.zip.result}
    (YieldsList-at c.zip.ensures.first (YieldsList-from_slice line c.iter.ensures.rest))
    (YieldsList-at c.zip.ensures.second
    (YieldsList-from_skip {s = c.skip.result} 1
    (YieldsList-at c.skip.ensures.source (YieldsList-from_slice line c.iter-2.ensures.rest)) c.skip.ensures.count)))
    (λ x b q k. search (rules, tests))
