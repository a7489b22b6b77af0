use Rattle.std.proofs.Common.{◌≡◌, List, ◌∷◌, sym, ap, ◌∙◌, subst, refl, arith}
use Rattle.std.specs.Prelude.{Contains}
use Rattle.base_graphs.proofs.Lists.{contains_here}
use Rattle.flow_graph.specs.Hops.{hops, Hop}
use Rattle.flow_graph.specs.HopsLeft.{hops_left}
use Rattle.flow_graph.specs.Seen.{seen_hop}
use Rattle.flow_graph.specs.SettingOf.{setting}
use Rattle.flow_walks.specs.Pieces.{seen_placed}
use Rattle.ceiling_rounds.specs.FirstHop.{first_placed, IsFirst}
use Rattle.ceiling_rounds.specs.InRounds.{takes}
use Rattle.ceiling_rounds.proofs.OneHops.{one_looked_at, takes_so_long}
use Rattle.ceiling_rounds.proofs.one_hop.longest_first.Goals as goal
use Rattle.ceiling_rounds.proofs.one_hop.longest_first.Goals.{else-time-most-via-then-time-most+else-may_begin}
use Rattle.ceiling_rounds.proofs.one_hop.longest_first.Goals.{else-time-most-via-else-time-most}

pub loop-hop-preserved-then-may_begin : goal.loop-hop-preserved-then-may_begin
loop-hop-preserved-then-may_begin c =
    let own = c.args.by.now in
    let g = setting own.deck.now own.times.now own.notes.now in
    let hop = seen_hop c.in-Some.hop in
    let one = c.as_first-one.result in
    let time = c.longest-time.result in
    let left = hops_left c.loop-hop.hop-iterator in
    let rest = hops_left c.next.new.self in
    let is : left ≡ hop ∷ rest = c.in-Some.ensures.steps in
    let there : Contains (hops g.loads g.notes g.start) hop =
    c.loop-hop.invariant.looked.still hop
    (subst (λ (all : List Hop). Contains all hop) (sym is) (contains_here hop rest)) in
    let took : takes g.times (seen_placed one) ≡ time =
    takes_so_long g one hop time c.as_first-one.ensures there c.longest-time.ensures.value in
    let first : takes g.times (first_placed g hop) ≡ time = ap (takes g.times) (sym c.as_first-one.ensures) ∙ took in
    record {
      first =
          subst (IsFirst g) (sym c.as_first-one.ensures)
          (record { there = there; may = c.if-may_begin.ensures; placed = refl });
      time = took;
      looked =
          one_looked_at g left rest hop c.loop-hop.most time is c.loop-hop.invariant.looked (omega arith)
          (λ may. omega (arith, first));
    }

pub loop-hop-preserved : goal.loop-hop-preserved
loop-hop-preserved c =
    let own = c.args.by.now in
    let g = setting own.deck.now own.times.now own.notes.now in
    let hop = seen_hop c.in-Some.hop in
    let one = c.as_first-one.result in
    let time = c.longest-time.result in
    let most = c.loop-hop.most in
    let left = hops_left c.loop-hop.hop-iterator in
    let rest = hops_left c.next.new.self in
    let is : left ≡ hop ∷ rest = c.in-Some.ensures.steps in
    let there : Contains (hops g.loads g.notes g.start) hop =
    c.loop-hop.invariant.looked.still hop
    (subst (λ (all : List Hop). Contains all hop) (sym is) (contains_here hop rest)) in
    let took : takes g.times (seen_placed one) ≡ time =
    takes_so_long g one hop time c.as_first-one.ensures there c.longest-time.ensures.value in
    let first : takes g.times (first_placed g hop) ≡ time = ap (takes g.times) (sym c.as_first-one.ensures) ∙ took in
    record {
      first = c.loop-hop.invariant.first;
      time = c.loop-hop.invariant.time;
      looked =
          one_looked_at g left rest hop most most is c.loop-hop.invariant.looked (omega arith)
          (elim c.else-time-most.branch [
            | else-time-most-via-then-time-most+else-may_begin w ↦ (λ may. absurd (w.if-may_begin.ensures may))
            | else-time-most-via-else-time-most w ↦ (λ may. omega (arith, first, w.if-time-most))
          ]);
    }
