-- Of Cells::raise: Entries::keep puts the end into the key's entry, if it is later, and changes no
-- other. With the key's round noted the cells stay in order, and there are never more entries than
-- keys.
use Rattle.std.proofs.Common.{◌*◌, true, ◌∙◌}
use Rattle.std.proofs.lemmas.List.{length-set}
use Rattle.bound_scan.specs.EndOf.{latest_in}
use Rattle.bound_scan.specs.InEntries.{pairs_of}
use Rattle.bound_scan.proofs.InCellsLaws.{raised_entries, raised_is, raised_noted}
use Rattle.bound_scan.proofs.cells.Cells.raise.Goals as goal

pub returns-clause-held : goal.returns-clause-held
returns-clause-held c =
    let cells = c.args.self.now in
    let onto = c.args.onto.now in
    let onward = c.requires.onward in
    record {
      kept = c.in_ok-kept.ensures.keeps.kept;
      rounds = length-set cells.rounds.items onto.round true ∙ c.requires.held.rounds;
      noted = raised_noted cells (pairs_of c.keep-kept.new.self) onto.key onto.round onto.location onto.counts
          c.requires.held c.in_ok-kept.ensures.keeps.adds onward.there onward.round;
      few = c.requires.held.few;
    }

pub returns-clause-kept : goal.returns-clause-kept
returns-clause-kept c =
    let cells = c.args.self.now in
    raised_is cells.entries c.keep-kept.new.self (cells.counts * cells.words) c.args.onto.now.key
    (latest_in c.args.end) c.requires.onward.there c.in_ok-kept.ensures.keeps.here c.in_ok-kept.ensures.keeps.others

pub returns-clause-entries : goal.returns-clause-entries
returns-clause-entries c = λ place_of counts_of at counted right.
    let onto = c.args.onto.now in
    raised_entries place_of counts_of (pairs_of c.args.self.now.entries) (pairs_of c.keep-kept.new.self) onto.key
    onto.location onto.counts c.in_ok-kept.ensures.keeps.adds at counted right
