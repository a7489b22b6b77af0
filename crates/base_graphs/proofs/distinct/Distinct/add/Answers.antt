use Rattle.std.proofs.Common.{◌≡◌, ◌++◌, ◌∷◌, [], Bool, true, false, List, Result, Ok, Err, OnOk, Option, Some, ℕ, cond, sym, ap, ◌∙◌, subst}
use Rattle.std.specs.Prelude.{is_some, is_err, if◌then◌else◌, position}
use Rattle.std.specs.HashMap.{get}
use Rattle.std.specs.List.{list_any, IsDistinct}
use Rattle.std.proofs.lemmas.Map.Keys.{IsDistinct-push}
use Rattle.base_graphs.proofs.Positions.{agree_more, there_by}
use Rattle.base_graphs.proofs.distinct.Distinct.add.Goals as goal

pub returns-then-contains_key-clause-keys : goal.returns-then-contains_key-clause-keys
returns-then-contains_key-clause-keys g c =
    let self = c.args.self.now in
    let eq = g.K.PartialEq.eq in
    let there = there_by (eq c.args.key) self.keys.items (get eq self.indices c.args.key) true (self.agree c.args.key)
    (sym c.contains_key.ensures ∙ c.if-contains_key.true) in
    sym (ap (λ (b : Bool). if b then self.keys.items else self.keys.items ++ c.args.key ∷ []) there)

ok_of : {A E P : Type 0} (result : Result A E) → is_err result ≡ false → OnOk result P → P
ok_of (Ok done) fine holds = holds
ok_of (Err error) fine holds = cc

pub invariant_of-self-else-is_err : goal.invariant_of-self-else-is_err
invariant_of-self-else-is_err g c =
    let self = c.args.self.now in
    let eq = g.K.PartialEq.eq in
    let absent : is_some (get eq self.indices c.args.key) ≡ false =
    sym c.contains_key.ensures ∙ c.if-contains_key.false in
    let none = there_by (eq c.args.key) self.keys.items (get eq self.indices c.args.key) false (self.agree c.args.key)
    absent in
    let updates = ok_of c.insert.result (sym c.is_err.ensures.value ∙ c.if-is_err.false) c.insert.ensures.updates in
    record {
      agree = λ one. subst (λ keys. get eq c.insert.new.self one ≡ position (eq one) keys) (sym c.in_ok-push.ensures.items)
          (agree_more g.met.K.Eq.laws self.keys.items c.args.key (get eq self.indices) (get eq c.insert.new.self)
          self.agree absent (λ other. updates.0 other ∙ ap (λ (n : ℕ). cond (eq c.args.key other) (Some n) (get eq self.indices other)) (c.len-index.ensures ∙ self.keys.ok.0)) one);
      apart = subst (IsDistinct eq) (sym c.in_ok-push.ensures.items)
          (IsDistinct-push g.met.K.Eq.laws self.keys.items c.args.key self.apart none);
    }

pub returns-clause-keys : goal.returns-clause-keys
returns-clause-keys g c =
    let self = c.args.self.now in
    let eq = g.K.PartialEq.eq in
    let none = there_by (eq c.args.key) self.keys.items (get eq self.indices c.args.key) false (self.agree c.args.key)
    (sym c.contains_key.ensures ∙ c.if-contains_key.false) in
    c.in_ok-push.ensures.items
    ∙ sym (ap (λ (b : Bool). if b then self.keys.items else self.keys.items ++ c.args.key ∷ []) none)
