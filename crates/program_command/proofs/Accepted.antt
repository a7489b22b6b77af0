-- Words that clap accepts name a command and all of its files.
use Rattle.std.proofs.Common.{◌≡◌, ◌&&◌, ◌||◌, ℕ, Bool, cond, true, false, not, refl, length, map, List, [], ◌∷◌, ◌++◌}
use Rattle.std.proofs.Common.{Option, Some, None, is_some, nat_lt}
use Rattle.std.specs.Prelude.{find, option_and_then, option_map, slice_get}
use Rattle.std.specs.List.{list_all, list_any}
use Rattle.std.specs.Option.{option_map_or}
use Rattle.std.specs.Str.{bytes_eq}
use Rattle.clap.specs.Facts.{explicit_source}
use Rattle.clap.specs.Faults.{defaults_fault, entered_fault, fault_of, is_simple_and_free, level_fault, settle_fault}
use Rattle.clap.specs.Faults.{walk_fault}
use Rattle.clap.specs.Kinds.{Kinds, check_kinds, or_else}
use Rattle.clap.specs.Simple.{Shape, built, entered, filled_from, help_rule, is_simple, label_of, names_of, new_shape}
use Rattle.clap.specs.Simple.{rows_at, subcommand_of}
use Rattle.clap.specs.Takes.{is_given}
use Rattle.clap.specs.Walk.{Row, Rule, Text, answers_to, finished, first_of, nothing_held, rows_after, settled}
use Rattle.clap.specs.Walk.{stop_after, walk, walk_from}
use Rattle.clap.proofs.OnLiterals.{clap_on_literals}
use Rattle.program_command.specs.Line.{File, Verb, drum650, file_rule, is_there, is_whole}
use Rattle.program_command.specs.Line as line
use Rattle.program_command.proofs.Own.{and_both, and_of, find_passes}
use Rattle.program_command.proofs.Full.{are_full, is_file_or_request, is_full, rows_after-full}

pub drum650_is_simple : is_simple drum650 ≡ true
unfolding clap_on_literals
drum650_is_simple = refl

pub drum650_is_free : is_simple_and_free drum650 ≡ true
unfolding clap_on_literals
drum650_is_free = refl

-- the arguments of a built command with these files
abbrev pub leaf_rules : List File → List Rule
leaf_rules files = filled_from 1 (map file_rule files ++ help_rule ∷ [])

-- a command as it is built
abbrev pub leaf : Verb → Shape
leaf verb = record (new_shape verb.name) {
  rules = leaf_rules verb.files;
  no_binary_name = true;
  disable_help_subcommand = true;
  is_built = true;
}

abbrev pub leaves : List Shape
leaves = leaf line.bound ∷ leaf line.check ∷ leaf line.report ∷ leaf line.walk ∷ leaf line.waits ∷ leaf line.table
    ∷ leaf line.size ∷ leaf line.graph ∷ leaf line.outline ∷ leaf line.draw ∷ leaf line.ceiling ∷ leaf line.replay ∷ leaf line.trace ∷ []

-- ---- one command

rules_pass : (files : List File) (i : ℕ)
    → list_all is_file_or_request (filled_from i (map file_rule files ++ help_rule ∷ [])) ≡ true
rules_pass [] i = refl
rules_pass (file ∷ files) i = rules_pass files _

-- a required argument is missing
abbrev is_missing : List Row → Rule → Bool
is_missing rows rule = rule.required && not (is_given rule.id rows)

given_from : (needed given missing : Bool) → ((needed && not given) || missing) ≡ false
    → ((not needed || given) ≡ true) × (missing ≡ false)
given_from true true missing none = (refl, none)
given_from true false missing none = cc
given_from false given missing none = (refl, none)

-- a file is given, if it has to be named
abbrev is_given_if_needed : List Row → File → Bool
is_given_if_needed rows file = not file.needed || is_given file.name rows

all_given : (files : List File) (i : ℕ) (rows : List Row)
    → list_any (is_missing rows) (filled_from i (map file_rule files ++ help_rule ∷ [])) ≡ false
    → list_all (is_given_if_needed rows) files ≡ true
all_given [] i rows none = refl
all_given (file ∷ files) i rows none =
    let parts = given_from file.needed (is_given file.name rows) _ none in
    and_of _ _ parts.0 (all_given files _ rows parts.1)

-- a file that is given has a value
given_is_some : (rows : List Row) (file : Text) → are_full rows ≡ true → is_given file rows ≡ true
    → is_some (first_of file rows) ≡ true
given_is_some rows file full given = go (find named rows) (find_passes named is_full rows full) given
  where
    named : Row → Bool
    named row = bytes_eq row.id file

    value : (values : List Text) → nat_lt 0 (length values) ≡ true → is_some (slice_get values 0) ≡ true
    value [] some = cc
    value (v ∷ vs) some = refl

    go : (o : Option Row) → option_map_or (λ row. named row && is_full row) o true ≡ true
        → option_map_or (λ row. explicit_source row.source) o false ≡ true
        → is_some (option_and_then (λ row. slice_get row.values 0) o) ≡ true
    go None passes there = cc
    go (Some row) passes there = value row.values (and_both _ _ passes).1

there_if_needed : (rows : List Row) (name : Text) (needed : Bool) → are_full rows ≡ true
    → (not needed || is_given name rows) ≡ true → (not needed || is_some (first_of name rows)) ≡ true
there_if_needed rows name true full given = given_is_some rows name full given
there_if_needed rows name false full given = refl

all_some : (rows : List Row) (files : List File) → are_full rows ≡ true
    → list_all (is_given_if_needed rows) files ≡ true → list_all (is_there rows) files ≡ true
all_some rows [] full given = refl
all_some rows (file ∷ files) full given =
    let parts = and_both _ _ given in
    and_of _ _ (there_if_needed rows file.name file.needed full parts.0) (all_some rows files full parts.1)

or_else_none : (first second : Kinds) → or_else first second ≡ [] → (first ≡ []) × (second ≡ [])
or_else_none [] second none = (refl, none)
or_else_none (k ∷ ks) second none = cc

none_missing : (missing : Bool) → check_kinds false false missing ≡ [] → missing ≡ false
none_missing true none = cc
none_missing false none = refl

-- the words of a command that have no fault give all files that it has to name
leaf_has_files : (verb : Verb) (words : List Text) → level_fault (leaf verb) [] nothing_held words false [] ≡ []
    → list_all (is_there (rows_after (leaf verb).rules [] words)) verb.files ≡ true
leaf_has_files verb words none =
    let rules : List Rule = leaf_rules verb.files in
    let rows = rows_after rules [] words in
    let after_walk = (or_else_none (walk_fault (leaf verb) [] (walk_from nothing_held) words) _ none).1 in
    let end = (walk rules [] nothing_held words).held in
    let after_settling = (or_else_none (settle_fault rules false end) _ after_walk).1 in
    let checked = (or_else_none (defaults_fault (settled rules end).rows rules) _ after_settling).1 in
    all_some rows verb.files (rows_after-full rules [] (rules_pass verb.files 1) words)
    (all_given verb.files 1 rows (none_missing _ checked))

-- ---- the command that a line names

-- words that have no fault give a command its files
abbrev IsRead : Shape → Type 0
IsRead s = (words : List Text) → level_fault s [] nothing_held words false [] ≡ [] → is_whole (rows_at s words) ≡ true

AllRead : List Shape → Type 0
AllRead [] = Unit {0}
AllRead (s ∷ rest) = IsRead s × AllRead rest

all_read : AllRead leaves
unfolding AllRead
all_read = (
  leaf_has_files line.bound,
  (
    leaf_has_files line.check,
    (
      leaf_has_files line.report,
      (
        leaf_has_files line.walk,
        (
          leaf_has_files line.waits,
          (
            leaf_has_files line.table,
            (
              leaf_has_files line.size,
              (
                leaf_has_files line.graph,
                (
                  leaf_has_files line.outline,
                  (
                    leaf_has_files line.draw,
                    (leaf_has_files line.ceiling, (leaf_has_files line.replay, (leaf_has_files line.trace, tt))),
                  ),
                ),
              ),
            ),
          ),
        ),
      ),
    ),
  ),
)

-- the subcommand that is found, with the words after its name
abbrev below_fault : Option Shape → List Text → Kinds
below_fault o words = option_map_or (λ s. level_fault s [] nothing_held words false []) o []

abbrev rows_below : Option Shape → List Text → Option (Text × List Row)
rows_below o words = option_map (λ s. rows_at s words) o

found_whole : (p : Shape → Bool) (shapes : List Shape) (words : List Text) → AllRead shapes
    → below_fault (find p shapes) words ≡ []
    → is_some (rows_below (find p shapes) words) ≡ true
    → option_map_or is_whole (rows_below (find p shapes) words) false ≡ true
unfolding AllRead
found_whole p [] words read none there = cc
found_whole p (s ∷ rest) words read none there = go (p s) none there (found_whole p rest words read.1)
  where
    go : (b : Bool) → below_fault (cond b (Some s) (find p rest)) words ≡ []
        → is_some (rows_below (cond b (Some s) (find p rest)) words) ≡ true
        → (below_fault (find p rest) words ≡ [] → is_some (rows_below (find p rest) words) ≡ true
        → option_map_or is_whole (rows_below (find p rest) words) false ≡ true)
        → option_map_or is_whole (rows_below (cond b (Some s) (find p rest)) words) false ≡ true
    go true none there later = read.0 words none
    go false none there later = later none there

entered_whole : (stop : Option (Text × List Text)) → entered_fault (built drum650) stop ≡ []
    → is_some (entered (built drum650) stop) ≡ true
    → option_map_or is_whole (entered (built drum650) stop) false ≡ true
entered_whole None none there = cc
entered_whole (Some p) none there = found_whole (λ s. answers_to p.0 (label_of s)) leaves p.1 all_read none there

subcommand_there : (has missing : Bool) → check_kinds (not has && false) (not has && true) (not false && missing) ≡ []
    → has ≡ true
subcommand_there true missing none = refl
subcommand_there false missing none = cc

-- words that have no fault name a command and all of its files
pub accepted_whole : (words : List Text) → fault_of drum650 words ≡ []
    → option_map_or is_whole (subcommand_of drum650 words) false ≡ true
accepted_whole words none =
    let top : Shape = (built drum650).top in
    let stop = stop_after top.rules (names_of (built drum650)) words in
    let end = (walk top.rules (names_of (built drum650)) nothing_held words).held in
    let after_walk =
    (or_else_none (walk_fault top (names_of (built drum650)) (walk_from nothing_held) words) _ none).1 in
    let below = or_else_none (entered_fault (built drum650) stop) _ after_walk in
    let after_settling = (or_else_none (settle_fault top.rules false end) _ below.1).1 in
    let checked = (or_else_none (defaults_fault (settled top.rules end).rows top.rules) _ after_settling).1 in
    entered_whole stop below.0
    (subcommand_there (is_some (entered (built drum650) stop))
    (list_any (is_missing (finished top.rules end)) top.rules) checked)
