use Rattle.std.proofs.Common.{rules, arith, ◌≡◌, ◌∙◌, ◌||◌, Bool, ap, ap₂, sym, map, take, List, []}
use Rattle.std.proofs.lemmas.List.{take_all}
use Rattle.std.proofs.lemmas.Simd.{map-map}
use Rattle.clap.specs.Words.{App, Rule, Text, with_rule}
use Rattle.clap.specs.Simple.{new_shape}
use Rattle.program_command.specs.declared.entries.FileWord.{FileWord}
use Rattle.program_command.specs.Entry.{file_of}
use Rattle.program_command.specs.Line.{file_rule}
use Rattle.program_command.proofs.Own.{map-take_more}
use Rattle.program_command.proofs.line.subcommand.Goals as goal

abbrev with_rules : Text → List Rule → App
with_rules name rules = record { top = record (new_shape name) { rules = rules }; subs = [] }

abbrev rule_for : FileWord → Rule
rule_for file = file_rule (file_of file)

pub loop-file-preserved : goal.loop-file-preserved
loop-file-preserved c =
    let before = c.loop-file.invariant in
    let added = c.in_ok-command.ensures in
    let more = map-take_more rule_for c.args.entry.files.now c.loop-file.file-index _ c.loop-file-test.true in
    let local = c.argument.ensures.local in (
      added.globals ∙ ap₂ (λ (a b : Bool). a || b) before.0 local,
      added.shape local ∙ ap₂ with_rule before.1 c.argument.ensures.rule
          ∙ ap (with_rules c.args.entry.name.now) (sym more),
    )

pub returns-clause-shape : goal.returns-clause-shape
returns-clause-shape c =
    let files = c.args.entry.files.now in
    let all : take c.loop-file.file-index files ≡ files = take_all c.loop-file.file-index files (omega arith) in
    ap (λ (a : App). a.top) c.loop-file.invariant.1
    ∙ ap (λ (rules : List Rule). record (new_shape c.args.entry.name.now) { rules = rules })
    (ap (map rule_for) all ∙ sym (map-map file_rule file_of files))
