-- Of add_known: what one more inner edge adds is right.
use Rattle.std.proofs.Common.{sym, subst}
use Rattle.std.specs.Prelude.{All}
use Rattle.std.proofs.lemmas.List.Elements.{All-push}
use Rattle.check_deck.specs.declared.nesting.Known.{Known}
use Rattle.check_deck.specs.KnownInside.{IsKnown}
use Rattle.check_deck.proofs.nesting.add_known.Goals as goal

pub loop-inner-preserved : goal.loop-inner-preserved
loop-inner-preserved c =
    let P : Known → Type 0 = IsKnown c.args.flow.now in
    let one : Known = record { outer = c.args.outer; inner = c.inner-item.result; stands = c.in_ok-stands.stands } in
    subst (All P) (sym c.in_ok-push.ensures.items)
    (All-push P c.loop-inner.known.items one c.loop-inner.invariant c.in_ok-stands.ensures)
