use Rattle.std.proofs.Common.{◌≡◌, ◌%◌, Some, ap, ◌∙◌, arith}
use Rattle.std.specs.Prelude.{slice_get}
use Rattle.std.proofs.lemmas.Option.{slice_get-get_or}
use Rattle.bound_scan.specs.KeysOf.{order_in, setting_with}
use Rattle.bound_scan.proofs.Recents.{leap_like, recent_more}
use Rattle.bound_scan.proofs.recent.Recent.leap.Goals as goal

pub returns-then-is_like-clause-leap : goal.returns-then-is_like-clause-leap
returns-then-is_like-clause-leap c =
    let leaps = c.args.self.now.leaps in
    let at = c.from.result % 50 in
    let got : slice_get leaps at ≡ Some (Some c.in-Some.made) =
    slice_get-get_or leaps at _ (omega (arith, c.type_inv.self)) ∙ ap Some c.in-Some.is in
    leap_like (setting_with c.args.keys.now c.args.times.now) (order_in c.args.keys.now) c.args.location.number
    c.args.angle c.in-Some.made c.args.hop (c.requires.recent at c.in-Some.made got)
    (c.is_like.ensures c.if-is_like.true)

pub returns-clause-recent : goal.returns-clause-recent
returns-clause-recent c =
    recent_more (setting_with c.args.keys.now c.args.times.now) (order_in c.args.keys.now) c.args.location.number
    c.args.angle c.args.self.now.leaps (c.from.result % 50) c.leap-leap.result c.requires.recent
    c.leap-leap.ensures.leap
