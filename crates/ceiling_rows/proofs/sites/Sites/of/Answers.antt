use Rattle.std.proofs.Common.{◌≡◌, ℕ, ap, sym, ◌∙◌, subst, inl, inr, arith}
use Rattle.std.specs.Prelude.{slice_get, Contains}
use Rattle.std.proofs.lemmas.Bool.{cases_lt}
use Rattle.std.proofs.lemmas.Option.{same_Some, slice_get_within}
use Rattle.machine_steps.specs.Timing.{found}
use Rattle.flow_graph.specs.Flow.{nodes_of}
use Rattle.flow_graph.specs.Hops.{Node}
use Rattle.ceiling_rows.specs.Sites.{sites_in}
use Rattle.ceiling_rows.proofs.sites.Sites.of.Goals as goal

pub loop-node-preserved : goal.loop-node-preserved
loop-node-preserved c =
    let nodes = nodes_of c.args.flow.now in
    let index = c.loop-node.node in
    let here = c.location.ensures in
    let is = c.loop-node.invariant in
    let done = c.in_ok-add.ensures in
    record {
      only = λ site there. elim (done.only site there) [
        | inl had ↦ is.only site had
        | inr new ↦ (
          here.0,
          (
            ap (slice_get nodes) new.0 ∙ here.1,
            new.1,
            ap (λ (p : ℕ). found p site.angle) (sym here.2) ∙ new.2,
          ),
        )
      ];
      all = λ site node high of. elim (cases_lt site.node index) [
        | inl earlier ↦ done.kept site (is.all site node earlier of)
        | inr last ↦ (
            let same : site.node ≡ index = omega (arith, high, last) in
            let node_is : here.0 ≡ node = same_Some here.0 node (sym here.1 ∙ ap (slice_get nodes) (sym same) ∙ of.0) in
            subst (λ (k : ℕ). Contains (sites_in c.add.new.self) (record { node = k; angle = site.angle })) (sym same)
            (done.added site.angle of.1 (ap (λ (p : ℕ). found p site.angle) (here.2 ∙ ap (λ (n : Node). n.place) node_is) ∙ of.2)))
      ];
    }

pub returns : goal.returns
returns c = record {
  only = c.loop-node.invariant.only;
  all = λ site node of. c.loop-node.invariant.all site node
      (omega (arith, slice_get_within (nodes_of c.args.flow.now) site.node node of.0, c.loop-node-test.false, c.size-node-end.ensures)) of;
  different = c.len-len.ensures.different;
}
