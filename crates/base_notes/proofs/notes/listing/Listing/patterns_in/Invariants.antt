use Rattle.std.proofs.Common.{◌≡◌, map, drop}
use Rattle.base_notes.specs.Allowed as said
use Rattle.base_notes.specs.Listed.{listed}
use Rattle.base_notes.proofs.notes.listing.Listing.patterns_in.Given as goal

-- what is left says what all say
abbrev pub invariant-loop-list : goal.invariant-loop-list
invariant-loop-list l =
    said.patterns_in (map listed (drop l.list-index l.lists)) l.location.number
    ≡ said.patterns_in (map listed l.lists) l.location.number
