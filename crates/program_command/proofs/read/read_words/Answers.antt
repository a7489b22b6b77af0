-- Of read_words: clap's contract is about the words and the command line that it is given, and that
-- line is drum650. So what clap finds, and the faults that it finds, are those of the definitions
-- (Accepted, Named, Refusals).
use Rattle.std.proofs.Common.{◌≡◌, ◌∙◌, ap, false, [], slice_index_or, subst, sym}
use Rattle.std.specs.Prelude.{option_map}
use Rattle.std.specs.Option.{option_map_or}
use Rattle.clap.specs.Kinds.{HasKind}
use Rattle.clap.specs.Walk.{texts}
use Rattle.clap.specs.Words.{App, fault_of, is_simple, is_simple_and_free, subcommand_of, takes}
use Rattle.program_command.specs.Line.{is_whole, said_in, verbs}
use Rattle.program_command.proofs.Accepted.{accepted_whole, drum650_is_free, drum650_is_simple}
use Rattle.program_command.proofs.Named.{all_lines, line_of}
use Rattle.program_command.proofs.Own.{some_same}
use Rattle.program_command.proofs.Refusals.{fits_among, fits_memory}
use Rattle.program_command.proofs.read.read_words.Goals as goal

pub command_in-requires : goal.command_in-requires
command_in-requires c =
    let words = texts c.args.words.now in
    let line_is = c.in-Ok.ensures in
    let parsed = c.in-Ok-try_get_matches_from.ensures in
    let none =
    subst (λ (a : App). fault_of a words ≡ []) line_is
    (parsed.kinds (ap is_simple_and_free line_is ∙ drum650_is_free)) in
    let found =
    (parsed.matches (ap is_simple line_is ∙ drum650_is_simple)).1
    ∙ ap (λ (a : App). subcommand_of a words) line_is in
    ap (λ o. option_map_or is_whole o false) found ∙ accepted_whole words none

pub returns-in-Err-clause-taken : goal.returns-in-Err-clause-taken
returns-in-Err-clause-taken c taken =
    let taken_line = ap (λ (a : App). takes a (texts c.args.words.now)) c.in-Ok.ensures ∙ taken in
    fits_memory _ _ c.refused_by.ensures (c.in-Err.ensures.passes taken_line)

pub returns-in-Err-clause-kinds : goal.returns-in-Err-clause-kinds
returns-in-Err-clause-kinds c =
    let line_is = c.in-Ok.ensures in
    let words = texts c.args.words.now in
    let has = c.in-Err.ensures.kinds (ap is_simple_and_free line_is ∙ drum650_is_free) in
    let here = subst (λ (a : App). HasKind (fault_of a words) c.in-Err.error) line_is has in
    fits_among _ c.in-Err.error _ here c.refused_by.ensures

pub returns-in-Ok-try_get_matches_from-clause-lines : goal.returns-in-Ok-try_get_matches_from-clause-lines
returns-in-Ok-try_get_matches_from-clause-lines c files k d within is =
    let words = texts c.args.words.now in
    let line_is = c.in-Ok.ensures in
    let found = (c.in-Ok-try_get_matches_from.ensures.matches (ap is_simple line_is ∙ drum650_is_simple)).1
    ∙ ap (λ (a : App). subcommand_of a words) line_is in
    let told = ap (option_map said_in) found in
    let line = (line_of words files (slice_index_or verbs k d) (all_lines k d within) is).1 in
    some_same _ _ (sym c.command_in.ensures ∙ told ∙ line)

pub returns-in-Ok-try_get_matches_from-clause-told : goal.returns-in-Ok-try_get_matches_from-clause-told
returns-in-Ok-try_get_matches_from-clause-told c =
    let line_is = c.in-Ok.ensures in
    let found = (c.in-Ok-try_get_matches_from.ensures.matches (ap is_simple line_is ∙ drum650_is_simple)).1
    ∙ ap (λ (a : App). subcommand_of a (texts c.args.words.now)) line_is in
    sym (ap (option_map said_in) found) ∙ c.command_in.ensures

pub returns-in-Ok-try_get_matches_from-clause-faultless : goal.returns-in-Ok-try_get_matches_from-clause-faultless
returns-in-Ok-try_get_matches_from-clause-faultless c =
    let line_is = c.in-Ok.ensures in
    subst (λ (a : App). fault_of a (texts c.args.words.now) ≡ []) line_is
    (c.in-Ok-try_get_matches_from.ensures.kinds (ap is_simple_and_free line_is ∙ drum650_is_free))

pub returns-in-Err-clause-lines : goal.returns-in-Err-clause-lines
returns-in-Err-clause-lines c files k d within is =
    let words = texts c.args.words.now in
    let taken = (line_of words files (slice_index_or verbs k d) (all_lines k d within) is).0 in
    let taken_line = ap (λ (a : App). takes a words) c.in-Ok.ensures ∙ taken in
    fits_memory _ _ c.refused_by.ensures (c.in-Err.ensures.passes taken_line)
