-- What is kept at a key, as entries hold it: the entry of the key, and where its time comes from.
use Rattle.std.specs.Prelude.{◌≡◌, ◌≢◌, ℕ, zero, suc, ◌+◌, ◌^◌, ◌%◌, ◌<◌, ◌≤◌, ◌==◌, nat_eq}
use Rattle.std.specs.Prelude.{if◌then◌else◌, List, [], ◌∷◌, length, Option, Some, None, Contains}
use Rattle.std.specs.Prelude.{◌⊎◌}
use Rattle.std.specs.List.{IsDistinct}
use Rattle.std.specs.Map.{keys_of}
use Rattle.base_words.specs.declared.location.Location.{Location}
use Rattle.bound_scan.specs.declared.cells.entries.Entries.{Entries}
use Rattle.bound_scan.specs.declared.key_hop.KeyHop.{KeyHop}
use Rattle.bound_scan.specs.declared.latest.Latest.{Latest}
use Rattle.bound_scan.specs.declared.worst.Worst.{Worst}
use Rattle.bound_scan.specs.Scanned.{later_than}

-- an entry's clock and where it comes from: the start's comes from its own key, and so from nowhere
abbrev pub latest_at : ℕ → ℕ → Worst → KeyHop → Latest
latest_at angle key entry origin =
    record { clock = angle + entry.time; origin = if origin.key == key then None else Some origin }

-- what is kept at a key, by the entries with their keys and where each comes from
abbrev pub kept_by : ℕ → ℕ → List (ℕ × Worst) → List KeyHop → Option Latest
kept_by angle key [] origins = None
kept_by angle key (pair ∷ pairs) [] = None
kept_by angle key (pair ∷ pairs) (origin ∷ origins) =
    if nat_eq key pair.0 then Some (latest_at angle key pair.1 origin)
    else kept_by angle key pairs origins

-- the entries with their keys
abbrev pub pairs_of : Entries → List (ℕ × Worst)
pairs_of entries = entries.table.map.entries

-- how many keys there are
abbrev pub keys_in : Entries → ℕ
keys_in entries = entries.table.keys

-- what is kept at a key
abbrev pub kept_of : Entries → ℕ → Option Latest
kept_of entries key = kept_by entries.angle key (pairs_of entries) entries.origins.items

-- the entry of the start
pub record IsFirst (start : Location) (at : ℕ) (entry : Worst) : Type 0 where
  pub place : entry.place ≡ start
  pub angle : entry.angle ≡ at
  pub counts : entry.counts ≡ 0
  pub time : entry.time ≡ 0

-- it alone, with this key
abbrev pub HasFirst : ℕ → Location → ℕ → List (ℕ × Worst) → Type 0
HasFirst key start angle pairs =
    (entry : Worst) × (pairs ≡ (key, entry) ∷ []) × IsFirst start angle entry

-- the entry of this index is the first of a key
abbrev pub IsEntryOf : ℕ → List (ℕ × Worst) → ℕ → Type 0
IsEntryOf key [] index = ⊥
IsEntryOf key (pair ∷ pairs) zero = key ≡ pair.0
IsEntryOf key (pair ∷ pairs) (suc index) = (key ≡ pair.0 → ⊥) × IsEntryOf key pairs index

-- An entry's clock is near, and its angle is that of its clock.
abbrev pub IsTimed : ℕ → Worst → Type 0
IsTimed angle entry =
    (angle + entry.time < 2 ^ 64) × (entry.angle ≡ (angle + entry.time) % 50)

-- The entries are in order: each has where it comes from, no key has two, none is beyond the
-- greatest, and each is timed.
pub record AreKept (entries : Entries) : Type 0 where
  pub paired : length entries.origins.items ≡ length (pairs_of entries)
  pub apart : IsDistinct nat_eq (keys_of (pairs_of entries))
  pub within : (key : ℕ) (entry : Worst) → Contains (pairs_of entries) (key, entry)
      → key ≤ entries.greatest
  pub timed : (key : ℕ) (entry : Worst) → Contains (pairs_of entries) (key, entry)
      → IsTimed entries.angle entry

-- Each of the new entries is for this key, location and counts, or for those of an old one.
abbrev pub Adds : List (ℕ × Worst) → ℕ → Location → ℕ → List (ℕ × Worst) → Type 0
Adds old key location counts new = (other : ℕ) (entry : Worst) → Contains new (other, entry)
    → ((other ≡ key) × (entry.place ≡ location) × (entry.counts ≡ counts))
    ⊎ ((was : Worst) × Contains old (other, was) × (entry.place ≡ was.place)
    × (entry.counts ≡ was.counts))

-- Of old entries came new ones by what is to be kept at a key, at this location and with these
-- counts: the key keeps the later of what it kept and what came, and the others what they did.
pub record Keeps (old : Entries) (key : ℕ) (location : Location) (counts : ℕ) (latest : Latest)
    (new : Entries) : Type 0 where
  pub kept : AreKept new
  pub here : kept_of new key ≡ Some (later_than (kept_of old key) latest)
  pub others : (other : ℕ) → other ≢ key → kept_of new other ≡ kept_of old other
  pub adds : Adds (pairs_of old) key location counts (pairs_of new)
  pub angle : new.angle ≡ old.angle
