-- Of notes_in: the document has no fault, so it says what the values at its keys are.
use Rattle.std.proofs.Common.{true, false, ◌∷◌, [], map, refl, subst, sym}
use Rattle.std.specs.Prelude.{codes}
use Rattle.toml.specs.Data.{string}
use Rattle.toml.specs.View.{table_view}
use Rattle.base_notes.specs.declared.notes.programmed.Programmed.TheVariants.{Stop, Run, Any}
use Rattle.base_notes.specs.Listed.{listed}
use Rattle.read_toml.specs.LongNotes.{IsLongNotes}
use Rattle.read_toml.specs.NotesDocument as said
use Rattle.read_toml.proofs.Choices.{chosen_text}
use Rattle.read_toml.proofs.NotesThere.{all_hold, lists_said, load_stands, notes_there, programmed_stands}
use Rattle.read_toml.proofs.Sound.{sound_of}
use Rattle.read_toml.proofs.notes.read.notes_in.Goals as goal

pub chosen-programmed-requires : goal.chosen-programmed-requires
chosen-programmed-requires c =
    let there = notes_there (table_view c.args.table.now) c.requires in
    (string (said.text_of there.0.programmed), there.1.rest.programmed, (there.0.programmed, programmed_stands there.0.programmed))

pub chosen-load_cards-requires : goal.chosen-load_cards-requires
chosen-load_cards-requires c =
    let there = notes_there (table_view c.args.table.now) c.requires in
    (string (said.load_text_of there.0.load_cards), there.1.rest.load_cards, (there.0.load_cards, load_stands there.0.load_cards))

pub elements-requires : goal.elements-requires
elements-requires c = (all_hold (table_view c.args.table.now) c.requires).marks

pub elements-requires-2 : goal.elements-requires-2
elements-requires-2 c = (all_hold (table_view c.args.table.now) c.requires).lists

pub elements-requires-3 : goal.elements-requires-3
elements-requires-3 c = (all_hold (table_view c.args.table.now) c.requires).calls

pub new-requires : goal.new-requires
new-requires c =
    let D = table_view c.args.table.now in
    sound_of D _ _ _ (map listed c.in_ok-lists.lists.items) _ c.requires c.in_ok-marks.ensures
    (lists_said 0 (said.tables_at (codes "list") D) c.in_ok-lists.lists.items c.in_ok-lists.ensures) c.in_ok-calls.ensures

pub returns : goal.returns
returns c =
    let D = table_view c.args.table.now in
    let lists = lists_said 0 (said.tables_at (codes "list") D) c.in_ok-lists.lists.items c.in_ok-lists.ensures in
    subst (IsLongNotes D) (sym c.new.ensures)
    (record {
      faultless = c.requires;
      marks = c.in_ok-marks.ensures;
      calls = c.in_ok-calls.ensures;
      rest = record {
        programmed = chosen_text said.text_of ((codes "stop", Stop) ∷ (codes "run", Run) ∷ (codes "any", Any) ∷ [])
            (codes "programmed") D c.chosen-programmed.result (refl, (refl, (refl, tt))) c.chosen-programmed.ensures;
        load_cards = chosen_text said.load_text_of ((codes "none", false) ∷ (codes "any", true) ∷ []) (codes "load_cards") D
            c.chosen-load_cards.result (refl, (refl, tt)) c.chosen-load_cards.ensures;
        lists = lists;
        sound = sound_of D _ _ _ (map listed c.in_ok-lists.lists.items) _ c.requires c.in_ok-marks.ensures lists
            c.in_ok-calls.ensures;
      };
    })
