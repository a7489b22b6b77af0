use Rattle.std.proofs.Common.{rules, ◌≡◌, Bool, true, false, List, Some, replicate, subst}
use Rattle.std.specs.Prelude.{slice_get}
use Rattle.base_graphs.proofs.Lists.{get_replicated}
use Rattle.check_findings.proofs.named.Named.none.Goals as goal

pub returns : goal.returns
returns c word flag =
    let flags : c.in_ok-flags.flags.items ≡ replicate 2000 false =
    c.in_ok-flags.ensures.items_if_clones_equal (λ y h. search rules) in
    let clash : ◌≡◌ {A = Bool} false true = get_replicated 2000 word false true
    (subst (λ (all : List Bool). slice_get all word ≡ Some true) flags flag) in
    cc
