-- Which locations of an image have a word.
use Rattle.std.specs.Prelude.{◌≡◌, ℕ, ◌+◌, ◌<◌, ◌≤◌, List, slice_get, Option, Some, None}

-- the location is the first that has one, of the `count` from `first` on
pub record IsFirstLoaded {A : Type 0} (image : List (Option A)) (first count location : ℕ) :
    Type 0 where
  pub low : first ≤ location
  pub high : location < first + count
  pub has : (one : A) × (slice_get image location ≡ Some (Some one))
  pub free : (other : ℕ) → first ≤ other → other < location → slice_get image other ≡ Some None
