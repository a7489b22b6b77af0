use Rattle.std.proofs.Common.{◌≡◌, ℕ, ◌+◌, ◌-◌, ◌%◌, Some, List, [], ◌∷◌, ◌++◌, ap, sym, ◌∙◌, subst, arith}
use Rattle.bound_scan.specs.declared.cells.entries.Entries.{Entries}
use Rattle.bound_scan.specs.declared.key_hop.KeyHop.{KeyHop}
use Rattle.bound_scan.specs.declared.worst.Worst.{Worst}
use Rattle.bound_scan.specs.InEntries.{IsTimed, Keeps}
use Rattle.bound_scan.proofs.Entering.{added_keeps}
use Rattle.bound_scan.proofs.InCellsLaws.{latest_of}
use Rattle.bound_scan.proofs.cells.entries.Entries.add.Goals as goal

-- one more than entries that are others
one_more : (mid old new : List (ℕ × Worst)) (pair : ℕ × Worst) → new ≡ mid ++ pair ∷ [] → mid ≡ old
    → new ≡ old ++ pair ∷ []
one_more mid old new pair added same = added ∙ ap (λ (all : List (ℕ × Worst)). all ++ pair ∷ []) same

-- the one that was added
abbrev pair_added : (mid new : List (ℕ × Worst)) (pair : ℕ × Worst) → new ≡ mid ++ pair ∷ [] → ℕ × Worst
pair_added mid new pair added = pair

timed_as : (angle other : ℕ) (entry : Worst) → angle ≡ other → IsTimed angle entry → IsTimed other entry
timed_as angle other entry same timed = subst (λ (n : ℕ). IsTimed n entry) same timed

pub returns-clause-keeps : goal.returns-clause-keeps
returns-clause-keeps c =
    let old = c.args.self.now in
    let key = c.args.key in
    let clock = c.args.end.now.clock in
    let mid = c.make_room.new.self in
    let new : Entries = record mid { table = c.add.new.self; origins = c.push.new.self } in
    let room = c.in_ok-make_room.ensures in
    let pairs = one_more _ _ _ _ c.in_ok-add.ensures.added room.pairs in
    let entry : Worst = (pair_added _ _ _ c.in_ok-add.ensures.added).1 in
    let now : old.angle + (c.clock.result - old.angle) ≡ clock = omega (arith, c.clock.ensures, c.requires.after) in
    subst (λ (origin : KeyHop). Keeps old key c.args.location c.args.counts (latest_of clock (Some origin)) new)
    c.origin.ensures
    (added_keeps old new key clock _ c.origin.result room.angle pairs
    (c.in_ok-push.ensures.items ∙ ap (λ (all : List KeyHop). all ++ c.origin.result ∷ []) room.origins) c.requires.kept
    c.requires.none room.grown room.within c.in_ok-add.ensures.apart
    (timed_as _ _ entry (sym room.angle)
    (omega (arith, now, c.clock.ensures, c.clock.type_inv), c.angle.ensures.value ∙ ap (λ (n : ℕ). n % 50) (sym now)))
    now (omega (arith, c.requires.onward, ap (λ (o : KeyHop). o.key) c.origin.ensures)))
