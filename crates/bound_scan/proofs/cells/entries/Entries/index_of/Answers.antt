use Rattle.std.proofs.Common.{◌≡◌, ℕ, ◌-◌, Option, Some, None, IfSome, refl, ◌∙◌, arith}
use Rattle.std.specs.Map.{keys_of}
use Rattle.bound_scan.specs.InEntries.{pairs_of, IsEntryOf}
use Rattle.bound_scan.proofs.Entering.{beyond_none, entry_found}
use Rattle.bound_scan.proofs.EntryKeys.{different_keys, entry_at}
use Rattle.bound_scan.proofs.cells.entries.Entries.index_of.Goals as goal

pub returns-then-key-self-clause-none : goal.returns-then-key-self-clause-none
returns-then-key-self-clause-none c = λ none.
    beyond_none c.args.key c.args.self.now.greatest (pairs_of c.args.self.now) c.requires.within
    (omega (arith, c.if-key-self.true))

pub returns-then-is_at-clause-found : goal.returns-then-is_at-clause-found
returns-then-is_at-clause-found c =
    let pairs = pairs_of c.args.self.now in
    entry_at c.args.key pairs c.args.near (different_keys (keys_of pairs) c.requires.apart) (c.if-is_at.ensures.key refl)

pub returns-then-is_at-2-clause-found : goal.returns-then-is_at-2-clause-found
returns-then-is_at-2-clause-found c =
    let pairs = pairs_of c.args.self.now in
    entry_at c.args.key pairs (c.args.near - 1) (different_keys (keys_of pairs) c.requires.apart)
    (c.if-is_at-2.ensures.key refl)

if_some : (found : Option ℕ) (P : ℕ → Type 0) → ((index : ℕ) → found ≡ Some index → P index) → IfSome found P
if_some None P all = tt
if_some (Some index) P all = all index refl

pub returns-clause-found : goal.returns-clause-found
returns-clause-found c =
    if_some c.index_of.result (IsEntryOf c.args.key (pairs_of c.args.self.now))
    (λ index is. entry_found c.args.key (pairs_of c.args.self.now) index (c.index_of.ensures.at ∙ is))
