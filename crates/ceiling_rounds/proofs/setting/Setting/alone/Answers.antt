use Rattle.std.proofs.Common.{◌≡◌, ℕ, List, Option, map, sym, ap, ◌∙◌}
use Rattle.base_notes.specs.declared.notes.mark.Mark.{Mark}
use Rattle.base_notes.specs.Entries.{entry_in}
use Rattle.machine_steps.specs.WaysLeft.{seen_way}
use Rattle.flow_graph.specs.SettingOf.{setting}
use Rattle.flow_walks.specs.Pieces.{seen_placed}
use Rattle.ceiling_rows.specs.Marked.{mark_by}
use Rattle.ceiling_rounds.specs.Change.{passes_by}
use Rattle.ceiling_rounds.specs.InRounds.{takes}
use Rattle.ceiling_rounds.specs.Stretch.{changes_by}
use Rattle.ceiling_rounds.proofs.OneHops.{alone_right, takes_so_long}
use Rattle.ceiling_rounds.proofs.setting.Setting.alone.Goals as goal

pub returns-clause-time : goal.returns-clause-time
returns-clause-time c =
    let own = c.args.self.now in
    let one = c.args.one in
    c.from-time.ensures
    ∙ sym (takes_so_long (setting own.deck.now own.times.now own.notes.now) one (seen_placed one).hop c.longest.result
    (sym c.requires.placed) c.requires.there c.longest.ensures.value)

pub returns-clause-right : goal.returns-clause-right
returns-clause-right c =
    let own = c.args.self.now in
    let one = c.args.one in
    let g = setting own.deck.now own.times.now own.notes.now in
    let place = one.location.number in
    let way = seen_way one.hop.way in
    let marks : c.marks-marks.result.now ≡ own.notes.now.marks = c.marks-marks.ensures.all in
    let took : c.from-time.result ≡ takes (entry_in own.times.now) (seen_placed one) =
    c.from-time.ensures
    ∙ sym (takes_so_long g one (seen_placed one).hop c.longest.result (sym c.requires.placed) c.requires.there
    c.longest.ensures.value) in
    let passed : c.in_ok-passes_of.field-0.items
    ≡ map passes_by (changes_by own.notes.now.marks (mark_by own.notes.now.marks place way) 0 own.notes.now.marks) =
    c.in_ok-passes_of.ensures
    ∙ ap (map passes_by) (
    c.deref.ensures.value
    ∙ c.in_ok-changes_by.ensures
    ∙ ap (λ (k : Option ℕ). changes_by c.marks-marks.result.now k 0 c.marks-marks.result.now) c.mark_by-passed.ensures
    ∙ ap (λ (ms : List Mark). changes_by ms (mark_by ms place way) 0 ms) marks
    ) in
    alone_right g one c.requires c.in_ok-vec.field-0.items c.in_ok-passes_of.field-0.items c.from-time.result
    c.in_ok-vec-2.field-0.items c.in_ok-vec-3.field-0.items c.in_ok-vec.ensures.items passed took
    c.in_ok-vec-2.ensures.items c.in_ok-vec-3.ensures.items
