use Rattle.std.proofs.Common.{◌≡◌, ap, sym, ◌∙◌, Some, length}
use Rattle.std.proofs.lemmas.Bool.{eqb-true, ltb-true}
use Rattle.std.proofs.lemmas.Option.{slice_get-get_or}
use Rattle.std.specs.Prelude.{slice_get}
use Rattle.ceiling_checked.proofs.certificate.is_shut.Goals as goal

pub returns-in-Some-get : goal.returns-in-Some-get
returns-in-Some-get c none =
    let marks = c.args.marks.now in
    let k = c.from.result in
    let here : slice_get marks k ≡ Some c.in-Some-get.mark.now =
    slice_get-get_or marks k c.in-Some-get.mark.now (ltb-true k (length marks) (sym c.in-Some-get.ensures.lookup.0))
    ∙ ap Some (sym c.in-Some-get.ensures.lookup.1) in (
      k,
      c.in-Some-get.mark.now,
      c.in-Some.is ∙ ap Some (sym c.from.ensures),
      here,
      eqb-true c.in-Some-get.mark.now.most 0 none,
    )
