use Rattle.std.proofs.Common.{◌≡◌, map, take, vec_len}
use Rattle.base_words.specs.declared.location.Location.{Location}
use Rattle.flow_acceptance.specs.Fixed.{AreFlagged}
use Rattle.flow_acceptance.proofs.fixed.Fixed.of.Given as goal

-- the flags of the locations so far
abbrev pub invariant-loop-location : goal.invariant-loop-location
invariant-loop-location l = record {
  long : vec_len l.flags ≡ 8004;
  flagged : AreFlagged (map (λ (location : Location). location.number) (take l.location-index l.executed)) l.notes
      l.flags.items;
}
