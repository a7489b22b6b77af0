use Rattle.std.proofs.Common.{◌≡◌, List, [], Some, None, sym, ap, ◌∙◌, subst}
use Rattle.base_notes.specs.declared.notes.mark.Mark.{Mark}
use Rattle.base_notes.specs.Allowed.{Notes}
use Rattle.base_notes.specs.declared.notes.call.Call.{Call}
use Rattle.ceiling_rounds.specs.declared.change.Change.{Change}
use Rattle.ceiling_rounds.specs.Opening.{AreRight}
use Rattle.ceiling_rounds.specs.Stretch.{changes_by, ComeTo}
use Rattle.ceiling_rounds.proofs.Comings.{none_comes}
use Rattle.ceiling_rounds.proofs.stretch.Stretch.none.Goals as goal

pub returns : goal.returns
returns c g same =
    let marks : g.notes.marks ≡ c.marks.result.now = ap (λ (n : Notes). n.marks) same ∙ sym c.marks.ensures.all in
    let calls : c.calls.result.now ≡ g.notes.calls = c.calls.ensures.all ∙ ap (λ (n : Notes). n.calls) (sym same) in
    let openings = c.in_ok-none_changed.field-0.items in
    let right : AreRight g.notes.calls [] openings =
    subst (λ (cs : List Call). AreRight cs [] openings) calls c.in_ok-none_changed.ensures in
    let all : changes_by g.notes.marks None 0 g.notes.marks ≡ c.in_ok-changes_by.field-0.items =
    ap (λ (ms : List Mark). changes_by ms None 0 ms) marks ∙ sym c.in_ok-changes_by.ensures in
    subst (λ (changes : List Change). ComeTo g [] (record {
      from = c.args.from.number;
      angle = c.args.angle;
      onto = Some c.args.from.number;
      time = 0;
      changes = changes;
      openings = openings;
    })) all (none_comes g c.args.from.number c.args.angle openings right)
