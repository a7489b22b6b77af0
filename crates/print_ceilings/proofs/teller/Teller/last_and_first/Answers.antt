use Rattle.std.proofs.Common.{[]}
use Rattle.flow_walks.specs.Pieces.{spelled_behind, spelled_of}
use Rattle.print_ceilings.specs.TellerOf.{pieces_in}
use Rattle.print_ceilings.proofs.EndLaws.{last_told}
use Rattle.print_ceilings.proofs.teller.Teller.last_and_first.Goals as goal

pub returns-in-Some-clause-last : goal.returns-in-Some-clause-last
returns-in-Some-clause-last c =
    let pieces = pieces_in c.args.self.now in
    last_told c.in-Some.ends (spelled_of pieces c.args.number)
    (c.in-Some.ensures (spelled_behind [] pieces) c.requires.ends)
