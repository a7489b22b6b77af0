-- What a device tells of its calls.
use Rattle.std.specs.Prelude.{ℕ, ◌+◌, ◌-◌, ◌^◌, ◌==◌, ◌&&◌, min, Bool, true, false, List}
use Rattle.std.specs.Prelude.{length, not, Option, Result, Ok, Err}

-- what a device was given, where that is known, and how many writes to it failed
pub record Device : Type 0 where
  pub written : Option (List ℕ)
  pub failures : ℕ

abbrev pub device : Option (List ℕ) → ℕ → Device
device written failures = record { written = written; failures = failures }

-- one more, of a count that stays at the most that it can hold
unfoldable pub one_more : ℕ → ℕ
one_more count = min (count + 1) (2 ^ 64 - 1)

-- how many writes have failed after one that ended so, where so many had failed before it
abbrev pub failures_after : {T E : Type 0} → Result T E → ℕ → ℕ
failures_after (Ok done) failures = failures
failures_after (Err error) failures = one_more failures

-- a write that failed, or that took none of some bytes
abbrev pub took_none : {E : Type 0} → Result ℕ E → List ℕ → Bool
took_none (Ok n) bytes = n == 0 && not (length bytes == 0)
took_none (Err e) bytes = true

-- a read that gave nothing, though there was room: it met the end
abbrev pub met_end : {E : Type 0} → Result ℕ E → List ℕ → Bool
met_end (Ok n) buffer = n == 0 && not (length buffer == 0)
met_end (Err e) buffer = false

-- a read that gave no byte: it failed, met the end, or had no room
abbrev pub gave_none : {E : Type 0} → Result ℕ E → Bool
gave_none (Ok n) = n == 0
gave_none (Err e) = true

-- how many bytes a read gave
abbrev pub given_by : {E : Type 0} → Result ℕ E → ℕ
given_by (Ok n) = n
given_by (Err e) = 0
