use Rattle.std.proofs.Common.{◌≡◌, ◌++◌, ◌∷◌, [], cond, map, arith}
use Rattle.std.proofs.lemmas.Grind.{common_steps}
use Rattle.read_toml.specs.Document as document
use Rattle.toml.specs.View.{members_view}
use Rattle.read_toml.proofs.Adding.{begun_at, one_step}
use Rattle.read_toml.proofs.document.faults.Faults.unknown.Goals as goal

pub loop-key-init : goal.loop-key-init
loop-key-init c =
    let same : document.unknown_in c.args.fields.now.at.now (map (λ key. key.now) c.args.known.now)
    (members_view c.into_iter-key-iterator.result)
    ≡ document.unknown_in c.args.fields.now.at.now (map (λ key. key.now) c.args.known.now)
    (members_view c.args.fields.now.table.now.entries) =
    grind (arith, common_steps) in
    record { next = tt; finite = tt; so_far = begun_at _ _ _ same }

pub loop-key-preserved : goal.loop-key-preserved
loop-key-preserved c =
    let steps : document.unknown_in c.args.fields.now.at.now (map (λ key. key.now) c.args.known.now)
    (members_view c.loop-key.key-iterator)
    ≡ cond (document.is_one_of c.as_str.result.now (map (λ key. key.now) c.args.known.now)) []
    (document.unknown (c.args.fields.now.at.now ++ c.as_str.result.now) ∷ [])
    ++ document.unknown_in c.args.fields.now.at.now (map (λ key. key.now) c.args.known.now)
    (members_view c.next.new.self) =
    grind (arith, common_steps) in
    record {
      next = tt;
      finite = tt;
      so_far = one_step _ _ _ _ _ _ _ c.loop-key.invariant.so_far steps c.in_ok-unknown_key.ensures;
    }
