-- A walk that is told from its beginning.
use Rattle.std.proofs.Common.{◌≡◌, ℕ, ◌-◌, ◌^◌, ◌<◌, List, length, replicate, ap, arith, Option, None}
use Rattle.base_notes.specs.declared.times.Times.{Times}
use Rattle.base_notes.specs.Entries.{entry_in}
use Rattle.flow_graph.specs.SettingOf.{setting}
use Rattle.ceiling_rounds.specs.declared.in_rounds.InRounds.{InRounds}
use Rattle.ceiling_rounds.specs.InRounds.{angle_of, passes_in, pieces_of, total_of}
use Rattle.print_ceilings.specs.declared.teller.Teller.{Teller}
use Rattle.print_ceilings.specs.PieceIndexOf.{IsWalkWith}
use Rattle.print_ceilings.specs.RoundsText.{tell, PartsSoFar}
use Rattle.print_ceilings.specs.TellerOf.{named_told, pieces_in}
use Rattle.print_ceilings.proofs.Tellings.{at_start, so_far, whole_lasts, whole_told}
use Rattle.print_ceilings.proofs.Totals.{whole_takes}

-- the walk is told in less than so long
soon_told : (times : Times) (walk : InRounds) → IsWalkWith times walk → total_of walk < 2 ^ 127
    → (tell (entry_in times) (pieces_of walk)).1.time < 2 ^ 127
soon_told times walk right early =
    omega (
      arith,
      early,
      whole_lasts (entry_in times) (pieces_of walk),
      whole_takes (setting right.0 times right.1.0) (angle_of walk) (total_of walk) (pieces_of walk) (passes_in walk)
          right.1.1.0,
    )

module _ (t : Teller) (parts : List (Option ℕ)) (count last : ℕ) (long : count ≡ length (pieces_in t))
    (is : last ≡ count - 1) (none : parts ≡ replicate (length (pieces_in t)) None) where
  -- all is told
  pub all_told : named_told t count last (so_far parts) ≡ tell (entry_in t.times.now) (pieces_in t)
  all_told = whole_told t count last (so_far parts) long is (at_start parts (length (pieces_in t)) none)

  -- no moment is too late
  pub soon_enough : IsWalkWith t.times.now t.walk.now → total_of t.walk.now < 2 ^ 127
      → (named_told t count last (so_far parts)).1.time < 2 ^ 127
  soon_enough right early =
      omega (
        arith,
        ap (λ (x : List (List ℕ) × PartsSoFar). x.1.time) all_told,
        soon_told t.times.now t.walk.now right early,
      )
