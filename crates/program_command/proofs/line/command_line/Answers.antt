use Rattle.std.proofs.Common.{arith}
use Rattle.std.proofs.lemmas.Grind.{common_steps}
use Rattle.std.proofs.Common.{◌≡◌, ◌∙◌, ◌<◌, ◌+◌, ℕ, Bool, ap, ap₂, sym, map, take, length, List, [], ◌∷◌, ◌++◌}
use Rattle.std.proofs.Common.{slice_index_or}
use Rattle.clap.specs.Words.{App, Shape, shape_of, with_subcommand}
use Rattle.program_command.specs.declared.entries.Entry.{Entry}
use Rattle.program_command.specs.Entry.{verb_of}
use Rattle.program_command.specs.Line.{program, verb_shape}
use Rattle.std.proofs.lemmas.Simd.{map-map}
use Rattle.program_command.proofs.Own.{map-take_more, is_empty-push}
use Rattle.program_command.proofs.line.command_line.Goals as goal

abbrev shape_for : Entry → Shape
shape_for entry = verb_shape (verb_of entry)

abbrev shapes : List Entry → List Shape
shapes entries = map verb_shape (map verb_of entries)

abbrev program_at : List Shape → Bool → App
program_at commands is_leaf = record (program commands) { top = record (program commands).top { is_leaf = is_leaf } }

-- a program with one command more
with_subcommand-program : (commands : List Shape) (s : Shape)
    → with_subcommand (program commands) s ≡ program (commands ++ s ∷ [])
with_subcommand-program commands s = ap (program_at (commands ++ s ∷ [])) (sym (is_empty-push commands s))

shapes-take_more : (entries : List Entry) (i : ℕ) (d : Entry) (s : Shape) → i < length entries
    → s ≡ shape_for (slice_index_or entries i d)
    → shapes (take i entries) ++ s ∷ [] ≡ shapes (take (i + 1) entries)
shapes-take_more entries i d s within is =
    ap₂ (λ (xs : List Shape) (x : Shape). xs ++ x ∷ []) (map-map verb_shape verb_of (take i entries)) is
    ∙ sym (map-take_more shape_for entries i d within) ∙ sym (map-map verb_shape verb_of (take (i + 1) entries))

pub loop-entry-preserved : goal.loop-entry-preserved
loop-entry-preserved c =
    let more =
    shapes-take_more c.entries-entry-items.result.now c.loop-entry.entry-index _ _ c.loop-entry-test.true
    c.in_ok-subcommand.ensures.shape in
    c.in_ok-line-2.ensures.shape c.in_ok-subcommand.ensures.local
    ∙ ap (λ (a : App). with_subcommand a (shape_of c.in_ok-subcommand.field-0)) c.loop-entry.invariant
    ∙ with_subcommand-program _ _ ∙ ap program more

pub returns : goal.returns
returns c = grind (arith, common_steps)

pub returns-in_err-subcommand : goal.returns-in_err-subcommand
returns-in_err-subcommand c = grind (arith, common_steps)
