-- From which nodes a step may go along an edge of locations.
use Rattle.std.proofs.Common.{◌≡◌, ◌≢◌, ℕ, zero, suc, Bool, true, false, eqb, List, [], ◌∷◌, Option, Some, None}
use Rattle.std.proofs.Common.{refl, ap, sym, ◌∙◌, subst}
use Rattle.std.specs.Prelude.{◌||◌, ◌&&◌, Contains, IfNone, IfSome, if◌then◌else◌, is_some, slice_get}
use Rattle.std.specs.List.{list_any}
use Rattle.std.proofs.lemmas.Bool.Decides.{Decides-eqb}
use Rattle.std.proofs.lemmas.Option.{same_Some}
use Rattle.base_words.specs.declared.word.Word.{Word}
use Rattle.base_notes.specs.Allowed.{Notes}
use Rattle.machine_steps.specs.Calls.{open_after}
use Rattle.base_graphs.proofs.Lists.{contains_here}
use Rattle.flow_graph.specs.Executed.{may_go, onward, successors, with_new, AreAllNodes}
use Rattle.flow_graph.specs.Hops.{edge_between, IsLink, Node}
use Rattle.flow_graph.specs.Taken.{is_among, may_go_on}
use Rattle.flow_graph.proofs.Links.{in_all, node_linked}
use Rattle.flow_graph.proofs.Orders.{any_contains, has_reached, reached_next, reached_only, with_new_has}

-- one of a list passes a test, and none does
pub any_at : {X : Type 0} (p : X → Bool) (xs : List X) (k : ℕ) (x : X) → slice_get xs k ≡ Some x → p x ≡ true
    → list_any p xs ≡ true
any_at p [] k x at is = cc
any_at p (y ∷ xs) zero x at is = ap (λ (b : Bool). b || list_any p xs) (ap p (same_Some y x at) ∙ is)
any_at p (y ∷ xs) (suc k) x at is = ap (λ (b : Bool). p y || b) (any_at p xs k x at is) ∙ either (p y)
  where
    either : (b : Bool) → (b || true) ≡ true
    either true = refl
    either false = refl

pub none_any : {X : Type 0} (p : X → Bool) (xs : List X) → ((k : ℕ) (x : X) → slice_get xs k ≡ Some x → p x ≡ false)
    → list_any p xs ≡ false
none_any p [] fails = refl
none_any p (y ∷ xs) fails =
    ap (λ (b : Bool). b || list_any p xs) (fails 0 y refl) ∙ none_any p xs (λ k x at. fails (suc k) x at)

pub not_same : (a b : ℕ) → a ≢ b → eqb a b ≡ false
not_same a b other = go (eqb a b) refl
  where
    go : (same : Bool) → eqb a b ≡ same → eqb a b ≡ false
    go true e = absurd (other ((Decides-eqb a b).0 e))
    go false e = e

module _ (notes : Notes) (one : Node) (onto : ℕ) where
  abbrev may : Bool
  may = may_go notes.calls one.ways (edge_between one.place onto)

  abbrev made : Node
  made = record { place = onto; ways = open_after notes.calls (edge_between one.place onto) one.ways }

  -- a step that leads to a node may go
  step_goes : (next : Node) → onward notes one onto ≡ next ∷ [] → may ≡ true
  step_goes next leads = go may refl leads
    where
      go : (b : Bool) → may ≡ b → (if b then made ∷ [] else []) ≡ next ∷ [] → may ≡ true
      go true e here = e
      go false e here = cc

  module _ (loads : ℕ → Option Word) (start : ℕ) (nodes : List Node) (are : AreAllNodes loads notes start nodes)
      (there : Contains nodes one) (goes : is_among (successors loads notes one.place) onto ≡ true) where
    -- and one that leads to none may not, where instructions go on so
    step_none : ((next : Node) → Contains nodes next → ¬ Contains (onward notes one onto) next) → may ≡ false
    step_none none = go may refl
      where
        go : (b : Bool) → may ≡ b → may ≡ false
        go false e = e
        go true e =
            let here : onward notes one onto ≡ made ∷ [] = ap (λ (b : Bool). if b then made ∷ [] else []) e in
            let itself : Contains (onward notes one onto) made =
            subst (λ (ns : List Node). Contains ns made) (sym here) (contains_here made []) in
            let succ = successors loads notes one.place in
            let link : IsLink loads notes one made =
            node_linked loads notes one made
            (in_all (onward notes one) (with_new [] succ) onto made
            (with_new_has [] succ onto (any_contains succ onto goes)) itself) in
            absurd (none made
            (has_reached loads notes start nodes are made
            (reached_next loads notes start one made (reached_only loads notes start nodes are one there) link)) itself)

    -- so whether it leads to one tells whether it may
    pub step_told : (node : ℕ) → slice_get nodes node ≡ Some one → (found : Option ℕ)
        → IfSome found (λ index. (from next : Node) × (slice_get nodes node ≡ Some from)
        × (slice_get nodes index ≡ Some next) × (onward notes from onto ≡ next ∷ []))
        → IfNone found ((from next : Node) → slice_get nodes node ≡ Some from → Contains nodes next
        → ¬ Contains (onward notes from onto) next) → is_some found ≡ may
    step_told node at (Some index) leads none =
        let own : leads.0 ≡ one = same_Some leads.0 one (sym leads.2 ∙ at) in
        sym (step_goes leads.1 (subst (λ (n : Node). onward notes n onto ≡ leads.1 ∷ []) own leads.4))
    step_told node at None leads none = sym (step_none (λ next has. none one next at has))

  -- of a node that stands where the edge begins, and of one that doesn't
  pub stands_so : (from : ℕ) (answer : Bool) → one.place ≡ from → answer ≡ may → answer ≡ may_go_on notes from onto one
  stands_so from answer same is =
      is ∙ sym (ap (λ (b : Bool). b && may) ((Decides-eqb one.place from).1 same))

  pub stands_elsewhere : (from : ℕ) (answer : Bool) → one.place ≢ from → answer ≡ false
      → answer ≡ may_go_on notes from onto one
  stands_elsewhere from answer other is =
      is ∙ sym (ap (λ (b : Bool). b && may) (not_same one.place from other))
