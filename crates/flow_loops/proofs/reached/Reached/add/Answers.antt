-- Of add: the flags say whether it is there.
use Rattle.std.proofs.Common.{◌≡◌, ◌⊎◌, ℕ, ◌<◌, Bool, true, false, List, ◌∷◌, [], ◌++◌, Some, Option, eqb, get_or, length}
use Rattle.std.proofs.Common.{refl, ap, sym, ◌∙◌, subst, inl, inr, arith}
use Rattle.std.specs.Prelude.{slice_set, Contains, if◌then◌else◌}
use Rattle.std.specs.List.{list_any}
use Rattle.std.proofs.lemmas.List.{get_or_read, length-set}
use Rattle.std.proofs.lemmas.List.Elements.{Contains-append_left, Contains-push, Contains-push_cases}
use Rattle.std.proofs.lemmas.Option.{slice_get-get_or}
use Rattle.flow_graph.specs.Executed.{with_new}
use Rattle.flow_graph.proofs.Orders.{any_contains, contains_any}
use Rattle.flow_loops.specs.Flags.{AreFlags}
use Rattle.flow_loops.proofs.Flags.{flags_more}
use Rattle.flow_loops.proofs.reached.Reached.add.Goals as goal

known : (nodes : List ℕ) (node : ℕ) → Contains nodes node → nodes ≡ with_new nodes (node ∷ [])
known nodes node there =
    sym (ap (λ (has : Bool). if has then nodes else nodes ++ node ∷ []) (contains_any nodes node there))

unknown : (nodes : List ℕ) (node : ℕ) → ¬ Contains nodes node → nodes ++ node ∷ [] ≡ with_new nodes (node ∷ [])
unknown nodes node new = go (list_any (λ one. eqb one node) nodes) refl
  where
    go : (has : Bool) → list_any (λ one. eqb one node) nodes ≡ has
        → nodes ++ node ∷ [] ≡ with_new nodes (node ∷ [])
    go true e = absurd (new (any_contains nodes node e))
    go false e = sym (ap (λ (has : Bool). if has then nodes else nodes ++ node ∷ []) e)

either : (nodes : List ℕ) (node one : ℕ) → Contains (nodes ++ node ∷ []) one → (node ≡ one) ⊎ Contains nodes one
either nodes node one there =
    elim (Contains-push_cases nodes node one there) [ inl before ↦ inr before | inr same ↦ inl same ]

pub returns-then-index-clause-added : goal.returns-then-index-clause-added
returns-then-index-clause-added c =
    let flags = c.args.self.now.flags.items in
    let inside : c.args.node < length flags = omega (arith, c.requires.within, c.requires.met.long) in
    let set : get_or flags c.args.node false ≡ true =
    sym (get_or_read flags _ _ inside c.index.ensures false) ∙ c.if-index.true in
    known c.args.self.now.nodes.items c.args.node
    (c.requires.met.flags.only c.args.node (slice_get-get_or flags c.args.node false inside ∙ ap Some set))

pub returns-clause-met : goal.returns-clause-met
returns-clause-met c =
    let flags = c.args.self.now.flags.items in
    let nodes = c.args.self.now.nodes.items in
    let inside : c.args.node < length flags = omega (arith, c.requires.within, c.requires.met.long) in
    record {
      long = length-set flags c.args.node true ∙ c.requires.met.long;
      flags =
          subst (λ (all : List ℕ). AreFlags (slice_set flags c.args.node true) all) (sym c.in_ok-push.ensures.items)
          (flags_more flags nodes (nodes ++ c.args.node ∷ []) c.args.node inside c.requires.met.flags
          (Contains-push nodes c.args.node)
          (λ one there. Contains-append_left nodes (c.args.node ∷ []) one there) (either nodes c.args.node));
    }

pub returns-clause-added : goal.returns-clause-added
returns-clause-added c =
    let flags = c.args.self.now.flags.items in
    let nodes = c.args.self.now.nodes.items in
    let inside : c.args.node < length flags = omega (arith, c.requires.within, c.requires.met.long) in
    let unset : get_or flags c.args.node false ≡ false =
    sym (get_or_read flags _ _ inside c.index.ensures false) ∙ c.if-index.false in
    c.in_ok-push.ensures.items
    ∙ unknown nodes c.args.node (λ there.
    let clash : ◌≡◌ {A = Option Bool} (Some false) (Some true) =
    sym (slice_get-get_or flags c.args.node false inside ∙ ap Some unset) ∙ c.requires.met.flags.all c.args.node there in cc)
