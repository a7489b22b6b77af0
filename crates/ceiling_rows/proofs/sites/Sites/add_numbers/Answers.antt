use Rattle.std.proofs.Common.{ℕ, ◌<◌, List, length, subst, inl, inr}
use Rattle.std.specs.Prelude.{Contains}
use Rattle.std.proofs.lemmas.List.Elements.{Contains-push_cases}
use Rattle.std.proofs.lemmas.Option.{slice_get_within}
use Rattle.ceiling_rows.specs.Sites.{sites_in}
use Rattle.ceiling_rows.proofs.sites.Sites.add_numbers.Goals as goal

pub loop-angle-preserved : goal.loop-angle-preserved
loop-angle-preserved c number there =
    let sites = sites_in c.args.self.now in
    elim (Contains-push_cases c.loop-angle.numbers.items c.in-Some.number number
    (subst (λ (all : List ℕ). Contains all number) c.in_ok-push.ensures.items there)) [
      | inl before ↦ c.loop-angle.invariant number before
      | inr same ↦ inr (subst (λ (n : ℕ). n < length sites) same
          (slice_get_within sites c.in-Some.number _ c.in-Some.ensures.found))
    ]
