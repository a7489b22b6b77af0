use Rattle.read_documents.proofs.Cuts.{no_prefix, no_line}
use Rattle.read_documents.proofs.joined.behind_line.Goals as goal

pub returns-in_default : goal.returns-in_default
returns-in_default c = no_prefix c.args.line.now c.args.text.now c.in_default.ensures

pub returns-in-Some-2 : goal.returns-in-Some-2
returns-in-Some-2 c =
    no_line c.args.line.now c.args.text.now c.in-Some.rest.now c.in-Some-split_first.next.now
    c.in-Some-split_first.feed.now c.in-Some.ensures c.in-Some-split_first.ensures.cases.0 c.if-feed-eq10.false
