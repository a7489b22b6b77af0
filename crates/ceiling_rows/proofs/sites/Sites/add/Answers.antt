use Rattle.std.proofs.Common.{◌≡◌, ℕ, ◌<◌, List, refl, sym, subst, inl, inr, arith}
use Rattle.std.specs.Prelude.{Contains}
use Rattle.std.proofs.lemmas.Bool.{cases_lt}
use Rattle.machine_steps.specs.Timing.{found}
use Rattle.ceiling_rows.specs.declared.sites.Site.{Site}
use Rattle.ceiling_rows.specs.Sites.{sites_in}
use Rattle.ceiling_rows.proofs.SiteKeys.{key_added, key_kept, key_only}
use Rattle.ceiling_rows.proofs.sites.Sites.add.Goals as goal

pub loop-angle-preserved : goal.loop-angle-preserved
loop-angle-preserved c =
    let before = sites_in c.loop-angle.self in
    let angle = c.loop-angle.angle in
    let key : Site = record { node = c.args.node; angle = angle } in
    let keys = c.in_ok-add.ensures.keys in
    let is = c.loop-angle.invariant in
    record {
      kept = λ site there. subst (λ (all : List Site). Contains all site) (sym keys) (key_kept before key site (is.kept site there));
      added = λ one high at. elim (cases_lt one angle) [
        | inl earlier ↦ subst (λ (all : List Site). Contains all (record { node = c.args.node; angle = one })) (sym keys)
            (key_kept before key (record { node = c.args.node; angle = one }) (is.added one earlier at))
        | inr last ↦ (
            let same : angle ≡ one = omega (arith, high, last) in
            subst (λ (a : ℕ). Contains c.add.new.self.keys.items (record { node = c.args.node; angle = a })) same
            (subst (λ (all : List Site). Contains all key) (sym keys) (key_added before key)))
      ];
      only = λ site there.
          elim (key_only before key site (subst (λ (all : List Site). Contains all site) keys there)) [
            | inl had ↦ is.only site had
            | inr same ↦ inr (subst (λ (s : Site). (s.node ≡ c.args.node) × (s.angle < 50)
                × (found c.args.location.number s.angle ≡ s.angle)) same
                (refl, c.loop-angle-test.true, c.is_found_at.ensures.0 c.if-not-is_found_at.false))
          ];
    }
