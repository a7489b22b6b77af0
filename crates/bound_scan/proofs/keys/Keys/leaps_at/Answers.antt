-- Of Keys::leaps_at: the leaps so far, followed by the hops that are left, are the hops of the
-- location, and each was made for the angle at which its instruction is found.
use Rattle.std.proofs.Common.{◌≡◌, ◌%◌, ℕ, List, [], ◌∷◌, ◌++◌, map, ap, sym, ◌∙◌, subst, inl, inr, arith}
use Rattle.std.specs.Prelude.{Contains}
use Rattle.std.proofs.lemmas.List.{append_assoc, map-append}
use Rattle.std.proofs.lemmas.List.Elements.{Contains-push_cases}
use Rattle.flow_graph.specs.declared.hops.Hop as code
use Rattle.flow_graph.specs.Hops.{Hop}
use Rattle.flow_graph.specs.HopsLeft.{hops_left}
use Rattle.flow_graph.specs.Seen.{seen_hop}
use Rattle.flow_acceptance.specs.OrderedFlow.{in_order}
use Rattle.bound_scan.specs.declared.leap.Leap.{Leap}
use Rattle.bound_scan.specs.KeysOf.{setting_of}
use Rattle.bound_scan.specs.LeapOf.{IsLeap, leap_hop}
use Rattle.bound_scan.proofs.keys.Keys.leaps_at.Goals as goal

-- the leaps with one more, and the hops that are left without it
more : (leaps : List Leap) (leap : Leap) (rest : List Hop)
    → map leap_hop (leaps ++ leap ∷ []) ++ rest ≡ map leap_hop leaps ++ leap_hop leap ∷ rest
more leaps leap rest =
    ap (λ (hops : List Hop). hops ++ rest) (map-append leap_hop leaps (leap ∷ []))
    ∙ append_assoc (map leap_hop leaps) (leap_hop leap ∷ []) rest

pub loop-hop-preserved : goal.loop-hop-preserved
loop-hop-preserved c =
    let accepted = c.args.self.now.accepted.now in
    let place = c.args.node.now.location.number in
    let rest = hops_left c.next.new.self in
    let leaps = c.loop-hop.leaps.items in
    let leap = c.leap.result in
    let angle : c.from-angle.result % 50 ≡ place % 50 =
    ap (λ (n : ℕ). n % 50) (c.from-angle.ensures ∙ c.number-2.ensures) in
    let hop : leap_hop leap ≡ seen_hop c.in-Some.hop = ap (λ (h : code.Hop). seen_hop h) c.leap.ensures.hop in
    let pushed : c.push.new.self.items ≡ leaps ++ leap ∷ [] = c.in_ok-push.ensures.items in
    record {
      hops = ap (λ (all : List Leap). map leap_hop all ++ rest) pushed
          ∙ more leaps leap rest
          ∙ ap (λ (h : Hop). map leap_hop leaps ++ h ∷ rest) hop
          ∙ ap (λ (left : List Hop). map leap_hop leaps ++ left) (sym c.in-Some.ensures.steps)
          ∙ c.loop-hop.invariant.hops;
      each = λ one has. elim (Contains-push_cases leaps leap one
          (subst (λ (all : List Leap). Contains all one) pushed has)) [
            | inl before ↦ c.loop-hop.invariant.each one before
            | inr same ↦ subst (IsLeap (setting_of accepted c.args.times.now) (in_order accepted) place (place % 50))
                same
                (subst (λ (angle : ℕ). IsLeap (setting_of accepted c.args.times.now) (in_order accepted) place angle
                leap) angle
                c.leap.ensures.leap)
          ];
      few = omega (arith, c.in_ok-push.ensures.len, c.if-len-room.false, c.len.ensures);
    }
