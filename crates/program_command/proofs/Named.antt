-- A line that begins with a command's name is that command's.
use Rattle.std.proofs.Common.{◌≡◌, ◌∙◌, ◌&&◌, Bool, true, false, ap, refl, sym, map, List, [], ◌∷◌, ◌++◌, Option, Some}
use Rattle.std.proofs.Common.{is_some}
use Rattle.std.specs.Prelude.{find, fold, option_map}
use Rattle.std.specs.List.{All, list_all}
use Rattle.std.specs.Option.{option_map_or}
use Rattle.clap.specs.Simple.{Shape, built, entered, label_of, names_of, rows_at}
use Rattle.clap.specs.Takes.{default_passes, entered_passes, is_valid, level_passes, settle_passes, takes, turn_passes}
use Rattle.clap.specs.Takes.{walk_passes}
use Rattle.clap.specs.Walk.{Names, Text, Walk, answers_to, finished, first_of, nothing_held, rows_after, walk}
use Rattle.clap.specs.Walk.{walk_from, walked}
use Rattle.clap.proofs.OnLiterals.{clap_on_literals}
use Rattle.clap.proofs.WalkLemmas.{walk_stopped}
use Rattle.program_command.specs.Line.{File, IsLineOf, NamesFilesOf, Verb, drum650, files_of, said_by_words, said_in}
use Rattle.program_command.specs.Line.{said_of, verbs}
use Rattle.program_command.specs.Line as line
use Rattle.program_command.proofs.Own.{and_of}
use Rattle.program_command.proofs.Accepted.{drum650_is_simple, leaf, leaves}
use Rattle.program_command.proofs.Verbs.{all_verbs}
use Rattle.program_command.proofs.Lines.{AreGiven, GivesFiles, check_given, common_given, run_given}

abbrev top : Shape
top = (built drum650).top

abbrev names : Names
names = names_of (built drum650)

-- the walk after a command's name, and words that are left to the command
abbrev stopped_at : Text → List Text → Walk
stopped_at name words = record (walk_from nothing_held) { stopped = Some (name, words) }

-- the command is the one of its name, and its files are those that are found for the name
pub record IsNamed (verb : Verb) : Type 0 where
  pub walked : walked top.rules names (walk_from nothing_held) verb.name ≡ stopped_at verb.name []
  pub passes : turn_passes top names (walk_from nothing_held) verb.name ≡ true
  pub found : find (λ s. answers_to verb.name (label_of s)) leaves ≡ Some (leaf verb)
  pub files : files_of verb.name ≡ verb.files

bound_is_named : IsNamed line.bound
unfolding clap_on_literals
bound_is_named = record { walked = refl; passes = refl; found = refl; files = refl }

check_is_named : IsNamed line.check
unfolding clap_on_literals
check_is_named = record { walked = refl; passes = refl; found = refl; files = refl }

report_is_named : IsNamed line.report
unfolding clap_on_literals
report_is_named = record { walked = refl; passes = refl; found = refl; files = refl }

walk_is_named : IsNamed line.walk
unfolding clap_on_literals
walk_is_named = record { walked = refl; passes = refl; found = refl; files = refl }

waits_is_named : IsNamed line.waits
unfolding clap_on_literals
waits_is_named = record { walked = refl; passes = refl; found = refl; files = refl }

table_is_named : IsNamed line.table
unfolding clap_on_literals
table_is_named = record { walked = refl; passes = refl; found = refl; files = refl }

size_is_named : IsNamed line.size
unfolding clap_on_literals
size_is_named = record { walked = refl; passes = refl; found = refl; files = refl }

graph_is_named : IsNamed line.graph
unfolding clap_on_literals
graph_is_named = record { walked = refl; passes = refl; found = refl; files = refl }

outline_is_named : IsNamed line.outline
unfolding clap_on_literals
outline_is_named = record { walked = refl; passes = refl; found = refl; files = refl }

draw_is_named : IsNamed line.draw
unfolding clap_on_literals
draw_is_named = record { walked = refl; passes = refl; found = refl; files = refl }

ceiling_is_named : IsNamed line.ceiling
unfolding clap_on_literals
ceiling_is_named = record { walked = refl; passes = refl; found = refl; files = refl }

replay_is_named : IsNamed line.replay
unfolding clap_on_literals
replay_is_named = record { walked = refl; passes = refl; found = refl; files = refl }

trace_is_named : IsNamed line.trace
unfolding clap_on_literals
trace_is_named = record { walked = refl; passes = refl; found = refl; files = refl }

-- words after the command's name are not looked at
passes_stopped : (name : Text) (seen words : List Text) → walk_passes top names (stopped_at name seen) words ≡ true
unfolding walk_passes walked
passes_stopped name seen [] = refl
passes_stopped name seen (word ∷ words) = passes_stopped name (seen ++ word ∷ []) words

whole_walk : (verb : Verb) (words : List Text) → IsNamed verb
    → walk top.rules names nothing_held (verb.name ∷ words) ≡ stopped_at verb.name words
whole_walk verb words named =
    ap (λ (w : Walk). fold (walked top.rules names) w words) named.walked
    ∙ sym (walk_stopped top.rules names (walk_from nothing_held) verb.name [] words)

whole_passes : (verb : Verb) (words : List Text) → IsNamed verb
    → walk_passes top names (walk_from nothing_held) (verb.name ∷ words) ≡ true
unfolding walk_passes
whole_passes verb words named =
    and_of _ _ named.passes (ap (λ (w : Walk). walk_passes top names w words) named.walked
    ∙ passes_stopped verb.name [] words)

-- ---- a whole line

-- the last checks of the program itself, on the walk's end
abbrev top_passes : Walk → Bool
top_passes w = settle_passes top.rules top.args_override_self w.held
    && (list_all default_passes top.rules
    && is_valid top (finished top.rules w.held) (is_some (entered (built drum650) w.stopped)))

line_taken : (verb : Verb) (words : List Text) → IsNamed verb → GivesFiles verb words
    → takes drum650 (verb.name ∷ words) ≡ true
line_taken verb words named gives =
    let end = whole_walk verb words named in
    let below : entered_passes (built drum650) (Some (verb.name, words)) ≡ true =
    ap (λ o. option_map_or (λ s. level_passes s [] nothing_held words false) o true) named.found ∙ gives.passes in
    let there : is_some (entered (built drum650) (Some (verb.name, words))) ≡ true =
    ap (λ o. is_some (option_map (λ s. rows_at s words) o)) named.found in
    let checked : top_passes (stopped_at verb.name words) ≡ true =
    ap (λ (has : Bool). is_valid top (finished top.rules nothing_held) has) there in
    and_of _ _ drum650_is_simple
    (and_of _ _ (ap (λ (w : Walk). entered_passes (built drum650) w.stopped) end ∙ below)
    (and_of _ _ (whole_passes verb words named) (ap top_passes end ∙ checked)))

line_said : (verb : Verb) (words : List Text) → IsNamed verb → GivesFiles verb words
    → said_by_words (verb.name ∷ words) ≡ Some (verb.name, said_of verb.files words)
line_said verb words named gives =
    let found = ap (λ (w : Walk). entered (built drum650) w.stopped) (whole_walk verb words named)
    ∙ ap (option_map (λ s. rows_at s words)) named.found in
    let rows = rows_after (leaf verb).rules [] words in
    ap (option_map said_in) found
    ∙ ap (λ (files : List File). Some (verb.name, map (λ file. first_of file.name rows) files)) named.files
    ∙ ap (λ (files : List (Option Text)). Some (verb.name, files)) gives.files

-- words that name the command's files are taken, and said to be those
abbrev pub IsLine : Verb → Type 0
IsLine verb = (words : List Text) → NamesFilesOf verb words
    → (takes drum650 (verb.name ∷ words) ≡ true)
    × (said_by_words (verb.name ∷ words) ≡ Some (verb.name, said_of verb.files words))

is_line : (verb : Verb) → IsNamed verb → AreGiven verb.files → IsLine verb
is_line verb named given words names =
    let gives = given verb.name words names in
    (line_taken verb words named gives, line_said verb words named gives)

pub all_lines : All IsLine verbs
all_lines = all_verbs IsLine (is_line line.bound bound_is_named common_given)
    (is_line line.check check_is_named check_given)
    (is_line line.report report_is_named common_given) (is_line line.walk walk_is_named common_given)
    (is_line line.waits waits_is_named common_given) (is_line line.table table_is_named common_given)
    (is_line line.size size_is_named common_given)
    (is_line line.graph graph_is_named common_given) (is_line line.outline outline_is_named common_given)
    (is_line line.draw draw_is_named check_given)
    (is_line line.ceiling ceiling_is_named common_given)
    (is_line line.replay replay_is_named run_given) (is_line line.trace trace_is_named run_given)

-- the same of words that are the line of a command
pub line_of : (words files : List Text) (verb : Verb) → IsLine verb → IsLineOf verb files words
    → (takes drum650 words ≡ true) × (said_by_words words ≡ Some (verb.name, said_of verb.files files))
line_of words files verb line is =
    let told = line files is.1 in
    (ap (takes drum650) is.0 ∙ told.0, ap said_by_words is.0 ∙ told.1)
