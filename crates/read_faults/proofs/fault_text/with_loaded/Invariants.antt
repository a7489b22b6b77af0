use Rattle.std.proofs.Common.{◌≡◌, ◌++◌, flat_map, map, take}
use Rattle.read_faults.specs.FaultLines.{loaded_text}
use Rattle.read_faults.proofs.fault_text.with_loaded.Given as goal

-- the locations so far
abbrev pub invariant-loop-location : goal.invariant-loop-location
invariant-loop-location l =
    l.text.items
    ≡ l.fn.text.items ++ flat_map (loaded_text l.name) (map (λ location. location.number) (take l.location-index l.loaded))
