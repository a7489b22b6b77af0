-- Leaps that were made last: one serves hops that are like its own, and one more is made.
use Rattle.std.proofs.Common.{◌≡◌, ℕ, ◌<◌, List, length, set, Option, Some, None, ap, sym, ◌∙◌, inl, inr}
use Rattle.std.proofs.Common.{subst, arith}
use Rattle.std.specs.Prelude.{slice_get, replicate}
use Rattle.std.proofs.lemmas.Bool.{cases_lt}
use Rattle.std.proofs.lemmas.List.{length-set}
use Rattle.std.proofs.lemmas.Option.{slice_get_within}
use Rattle.machine_steps.specs.Ways.{Way}
use Rattle.machine_steps.specs.WaysLeft.{seen_way}
use Rattle.base_graphs.proofs.Lists.{get_other, get_replicated, get_written}
use Rattle.flow_graph.specs.declared.hops.Hop.{Hop}
use Rattle.flow_graph.specs.Longest.{longest}
use Rattle.flow_graph.specs.Walk.{Setting}
use Rattle.flow_graph.proofs.DataAngles.{longest_alike}
use Rattle.bound_scan.specs.declared.leap.Leap.{Leap}
use Rattle.bound_scan.specs.LeapOf.{IsLeap}
use Rattle.bound_scan.specs.RecentOf.{AreRecent, IsLike}

module _ (g : Setting) (order : List ℕ) (place angle : ℕ) where
  -- a leap serves a hop that is like its own
  pub leap_like : (leap : Leap) (hop : Hop) → IsLeap g order place angle leap → IsLike leap.hop hop
      → IsLeap g order place angle (record leap { hop = hop })
  leap_like leap hop is like = record {
    time = λ clock at.
        ap (λ (way : Way). longest g.times place hop.instruction way clock) (sym like.way)
        ∙ sym (longest_alike g.times place clock leap.hop.instruction hop.instruction (seen_way leap.hop.way) like.op
        like.kind like.angle)
        ∙ is.time clock at;
    onto = λ next on. is.onto next (like.way ∙ on);
  }

  -- before any was made there is none
  pub recent_none : (n : ℕ) → AreRecent g order place angle (replicate n None)
  recent_none n k leap at = absurd (no_leap (get_replicated n k None (Some leap) at))
    where
      no_leap : None ≡ Some leap → ⊥
      no_leap e = cc

  -- one more is made
  pub recent_more : (leaps : List (Option Leap)) (at : ℕ) (leap : Leap)
      → AreRecent g order place angle leaps → IsLeap g order place angle leap
      → AreRecent g order place angle (set leaps at (Some leap))
  recent_more leaps at leap are is k one got = elim (cases_lt k at) [
    | inl below ↦ are k one (sym (get_other leaps at k (Some leap) (λ same. omega (arith, same, below))) ∙ got)
    | inr more ↦ (elim (cases_lt at k) [
      | inl above ↦ are k one (sym (get_other leaps at k (Some leap) (λ same. omega (arith, same, above))) ∙ got)
      | inr less ↦
          let here : k ≡ at = omega (arith, more, less) in
          let there : at < length leaps =
          omega (
            arith,
            here,
            slice_get_within (set leaps at (Some leap)) k (Some one) got,
            length-set leaps at (Some leap),
          ) in
          subst (IsLeap g order place angle)
          (own (sym (get_written leaps at (Some leap) there) ∙ ap (slice_get (set leaps at (Some leap))) (sym here) ∙ got))
          is
    ])
  ]
    where
      own : Some (Some leap) ≡ Some (Some one) → leap ≡ one
      own e = cc
