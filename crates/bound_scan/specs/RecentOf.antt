-- Leaps that were made last, and hops that take as long as theirs.
use Rattle.std.specs.Prelude.{◌≡◌, ℕ, ◌%◌, List, slice_get, Option, Some}
use Rattle.base_words.specs.Kind.{kind_of}
use Rattle.machine_steps.specs.WaysLeft.{seen_way}
use Rattle.flow_graph.specs.declared.hops.Hop.{Hop}
use Rattle.flow_graph.specs.Walk.{Setting}
use Rattle.bound_scan.specs.declared.leap.Leap.{Leap}
use Rattle.bound_scan.specs.LeapOf.{IsLeap}

-- Two hops have one operation and one way, and words of one kind and angle at D.
pub record IsLike (a b : Hop) : Type 0 where
  pub op : a.instruction.op ≡ b.instruction.op
  pub angle : a.instruction.d % 50 ≡ b.instruction.d % 50
  pub kind : kind_of a.instruction.d ≡ kind_of b.instruction.d
  pub way : seen_way a.way ≡ seen_way b.way

-- Those that were made are leaps of this place, from when its instruction is found at this angle.
abbrev pub AreRecent : Setting → List ℕ → ℕ → ℕ → List (Option Leap) → Type 0
AreRecent g order place angle leaps = (k : ℕ) (leap : Leap) → slice_get leaps k ≡ Some (Some leap)
    → IsLeap g order place angle leap
