-- Texts of things that are held otherwise, or that are numbered, put one behind the other.
use Rattle.std.proofs.Common.{◌≡◌, ℕ, ◌+◌, ◌<◌, ◌≤◌, ◌∙◌, List, length, map, flat_map, get_or, take, Some}
use Rattle.std.proofs.Common.{ap, sym, arith}
use Rattle.std.specs.Prelude.{option_map, slice_get}
use Rattle.std.proofs.lemmas.List.{length-map, take_all}
use Rattle.std.proofs.lemmas.List.FromFn.{get_or-enumerate_from, length-enumerate_from}
use Rattle.std.specs.List.{enumerate_from}
use Rattle.std.proofs.lemmas.Option.{get_or_from_slice_get, slice_get-get_or, slice_get-map, slice_get_within}
use Rattle.base_devices.specs.Device.{Device}
use Rattle.print_lines.specs.declared.sheet.Sheet.{Sheet}
use Rattle.print_lines.specs.Stands.{Passes}
use Rattle.print_lines.proofs.Passing.{passes_as, passes_more}

-- ---- of things that are held otherwise

module _ {X Y : Type 0} (told : X → Y) (line : Y → List ℕ) (xs : List X) (ys : List Y) (k : ℕ) {before after : Device}
    {sheet sheet' : Sheet} (same : map told xs ≡ ys) where
  -- one more line
  pub line_more : (x : X) {between : Device} {sheet″ : Sheet} → k < length xs → x ≡ get_or xs k x
      → Passes before sheet between sheet″ (flat_map line (take k ys))
      → Passes between sheet″ after sheet' (line (told x))
      → Passes before sheet after sheet' (flat_map line (take (k + 1) ys))
  line_more x within is =
      let at : slice_get ys k ≡ Some (told x) =
      ap (λ (zs : List Y). slice_get zs k) (sym same) ∙ slice_get-map told xs k
      ∙ ap (option_map told) (slice_get-get_or xs k x within ∙ ap Some (sym is)) in
      passes_more line ys k (told x) (slice_get_within ys k (told x) at)
      (sym (get_or_from_slice_get ys k (told x) (told x) at))

  -- the last was put
  pub line_last : length xs ≤ k → Passes before sheet after sheet' (flat_map line (take k ys))
      → Passes before sheet after sheet' (flat_map line ys)
  line_last past =
      passes_as (ap (flat_map line) (take_all k ys (omega (arith, past, ap length same, length-map xs told))))

-- ---- of things with their places

-- one more line
pub numbered_more : {X : Type 0} (line : ℕ × X → List ℕ) (xs : List X) (place : ℕ) (x : X)
    {before between after : Device} {sheet sheet' sheet″ : Sheet} → place < length xs → x ≡ get_or xs place x
    → Passes before sheet between sheet' (flat_map line (take place (enumerate_from 0 xs)))
    → Passes between sheet' after sheet″ (line (place, x))
    → Passes before sheet after sheet″ (flat_map line (take (place + 1) (enumerate_from 0 xs)))
numbered_more {X} line xs place x inside is p q =
    let numbered : 0 + place ≡ place = omega arith in
    passes_more line (enumerate_from 0 xs) place (place, x)
    (omega (arith, inside, length-enumerate_from 0 xs))
    (sym (get_or-enumerate_from 0 xs place (place, x) inside
    ∙ ap (λ (n : ℕ). (n, get_or xs place x)) numbered ∙ ap (λ (y : X). (place, y)) (sym is))) p q

-- the last was put
pub numbered_last : {X : Type 0} (line : ℕ × X → List ℕ) (xs : List X) (place : ℕ) {before after : Device}
    {sheet sheet' : Sheet} → length xs ≤ place
    → Passes before sheet after sheet' (flat_map line (take place (enumerate_from 0 xs)))
    → Passes before sheet after sheet' (flat_map line (enumerate_from 0 xs))
numbered_last line xs place past =
    passes_as (ap (flat_map line) (take_all place (enumerate_from 0 xs)
    (omega (arith, past, length-enumerate_from 0 xs))))

-- these laws together
pub ruleset lines = (line_more, line_last)
