use Rattle.std.proofs.Common.{◌≡◌, ℕ, ◌+◌, ◌-◌, ◌*◌, ◌/◌, ◌%◌, ◌<◌, ◌≤◌, length, ap, sym, ◌∙◌, arith}
use Rattle.std.proofs.Math.Nat.{div-add-mod, mul-mod_right, mul_comm}
use Rattle.std.proofs.lemmas.Nat.{mod-mul-add}
use Rattle.bound_scan.specs.KeysOf.{order_in}
use Rattle.bound_scan.proofs.Nodes.{as_long}
use Rattle.bound_scan.proofs.keys.Keys.index_at.Goals as goal

-- what is left of a number is how far it is past a multiple, where that is near
rest_near : (key first n : ℕ) → first % n ≡ 0 → first ≤ key → key - first < n → key - first ≡ key % n
rest_near key first n multiple from near =
    let same : key ≡ first / n * n + (key - first) =
    omega (arith, div-add-mod first n, multiple, mul_comm n (first / n), from) in
    sym (ap (λ (k : ℕ). k % n) same ∙ mod-mul-add (first / n) n (key - first) near)

-- without what is left of it, it is a multiple
no_rest : (key n : ℕ) → (key - key % n) % n ≡ 0
no_rest key n =
    let same : key - key % n ≡ n * (key / n) = omega (arith, div-add-mod key n) in
    ap (λ (k : ℕ). k % n) same ∙ mul-mod_right n (key / n)

pub returns-then-key-first-clause-value : goal.returns-then-key-first-clause-value
returns-then-key-first-clause-value c =
    let keys = c.args.self.now in
    rest_near c.args.key c.args.first (length (order_in keys)) c.requires.first c.if-first-key.true
    (omega (arith, c.if-key-first.true, as_long keys c.len-words.result c.requires.keys c.len-words.ensures))

pub returns-else-first-key-clause-first : goal.returns-else-first-key-clause-first
returns-else-first-key-clause-first c =
    let keys = c.args.self.now in
    ap (λ (words : ℕ). (c.args.key - c.args.key % words) % length (order_in keys))
    (as_long keys c.len-words.result c.requires.keys c.len-words.ensures)
    ∙ no_rest c.args.key (length (order_in keys))
