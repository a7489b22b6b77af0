use Rattle.std.proofs.Common.{rules, ◌≡◌, ◌∙◌, Bool, true, length, ap, sym}
use Rattle.std.specs.Prelude.{◌&&◌, nat_le}
use Rattle.std.specs.List.{list_all, zip}
use borrow.Author.Tests.{tests}
use Rattle.std.proofs.lemmas.Iterator.{YieldsList-from_slice, YieldsList-from_zip}
use Rattle.std.proofs.lemmas.Iterator.Consumers.{YieldsList-at}
use Rattle.std.proofs.lemmas.Iterator.Search.{all_from_yields_List}
use Rattle.read_faults.specs.SlipTests.{is_of}
use Rattle.read_faults.proofs.slip_tests.begins_as.Goals as goal

pub returns-then-form-bytes : goal.returns-then-form-bytes
returns-then-form-bytes c =
    let form = c.args.form.now in
    let bytes = c.args.bytes.now in
    let fits : nat_le (length form) (length bytes) ≡ true = search (rules, tests) in
    all_from_yields_List (λ pair. is_of pair.0 pair.1) c.all.new.self _ _ c.all.ensures.ran
    (YieldsList-from_zip {s = c.zip.result}
    (YieldsList-at c.zip.ensures.first (YieldsList-from_slice form c.iter.ensures.rest))
    (YieldsList-at c.zip.ensures.second (YieldsList-from_slice bytes c.iter-then-form-bytes.ensures.rest)))
    (λ x b q k. search (rules, tests))
    ∙ sym (ap (λ (b : Bool). b && list_all (λ pair. is_of pair.0 pair.1) (zip form bytes)) fits)
