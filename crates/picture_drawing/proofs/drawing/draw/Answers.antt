use Rattle.std.proofs.Common.{[], Result, Ok, Err}
use Rattle.std.specs.Prelude.{IfOk}
use Rattle.picture_drawing.proofs.Appending.{◌⊳◌}
use Rattle.picture_drawing.proofs.drawing.draw.Goals as goal

if_ok : {A E : Type 0} {P Q : A → Type 0} (result : Result A E) → ((whole : A) → P whole → Q whole)
    → IfOk result P → IfOk result Q
if_ok (Ok whole) each is = each whole is
if_ok (Err error) each is = tt

pub returns : goal.returns
returns c =
    let layout = c.of-layout.result in
    if_ok c.finish.result
    (λ whole is. (layout.width, layout.height, c.deref.result.now, c.saturating_add-base.result, is))
    (c.finish.ensures _
    ((c.begin.ensures ⊳ c.push.ensures ⊳ c.draw_numbers.ensures ⊳ c.push-2.ensures).says [] c.new-svg.ensures))
