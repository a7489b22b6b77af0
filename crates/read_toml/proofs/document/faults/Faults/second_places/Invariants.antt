use Rattle.std.proofs.Common.{ℕ, ◌≡◌, ◌<◌, [], false, map, drop, take, get_or, vec_len}
use Rattle.read_toml.specs.NotesDocument as said
use Rattle.read_toml.proofs.Adding.{Left}
use Rattle.read_toml.proofs.document.faults.Faults.second_places.Given as goal

abbrev pub invariant-loop-place : goal.invariant-loop-place
invariant-loop-place l = record {
  size : vec_len l.seen ≡ 8004;
  -- which locations there have been
  flags : (n : ℕ) → n < 8004
      → get_or l.seen.items n false ≡ said.has_location (map (λ place. place.number) (take l.place-index l.places)) n;
  -- those of the locations so far have been added
  so_far : Left l.initial.self.all.items l.self.all.items
      (said.location_faults (map (λ place. place.number) (take l.place-index l.places))
      (map (λ place. place.number) (drop l.place-index l.places)))
      (said.location_faults [] (map (λ place. place.number) l.places));
}
