-- Words that name a command's files are taken, and found in their order.
use Rattle.std.proofs.Common.{◌≡◌, ◌∙◌, ◌&&◌, ℕ, Bool, true, false, ap, refl, map, List, [], ◌∷◌, None}
use Rattle.std.specs.Prelude.{codes, fold}
use Rattle.std.specs.List.{list_all}
use Rattle.std.specs.Str.{bytes_eq}
use Rattle.clap.specs.Lexer.{strip_byte}
use Rattle.clap.specs.Simple.{Shape}
use Rattle.clap.specs.Takes.{default_passes, is_valid, level_passes, settle_passes, step_passes, turn_passes}
use Rattle.clap.specs.Takes.{walk_passes, word_passes}
use Rattle.clap.specs.Walk.{Held, Rule, Text, Walk, arg_by_index, finished, first_of, idle, nothing_held, rows_after}
use Rattle.clap.specs.Walk.{to_positional, value, walk_from, walked, word_met}
use Rattle.program_command.specs.Line.{File, NamesFilesOf, Verb, begins_with_hyphen, check_files, common_files}
use Rattle.program_command.specs.Line.{needed, run_files, said_of}
use Rattle.program_command.proofs.Own.{and_of}
use Rattle.program_command.proofs.Accepted.{leaf, leaf_rules}

-- ---- one word

-- the walk stands at a positional, with nothing else to wait for
pub record IsIdle (w : Walk) : Type 0 where
  pub stopped : w.stopped ≡ None
  pub waiting : w.waiting ≡ idle
  pub trailing : w.is_trailing ≡ false

no_hyphen : (word : Text) → begins_with_hyphen word ≡ false → strip_byte 45 word ≡ None
no_hyphen [] plain = refl
no_hyphen (c ∷ rest) plain = rw plain refl

no_dashes : (word : Text) → begins_with_hyphen word ≡ false → bytes_eq word (45 ∷ 45 ∷ []) ≡ false
no_dashes [] plain = refl
no_dashes (c ∷ rest) plain = rw plain refl

word_met-file : (c : List Rule) (position : ℕ) (word : Text) (h : Held) → begins_with_hyphen word ≡ false
    → word_met c [] false idle position word h ≡ (h, value)
word_met-file c position word h plain =
    rw (no_dashes word plain, no_hyphen word plain) (rw (no_hyphen word plain) refl)

word_passes-file : (s : Shape) (word : Text) (h : Held) → begins_with_hyphen word ≡ false
    → word_passes s [] false idle word h ≡ true
word_passes-file s word h plain =
    rw (no_dashes word plain, no_hyphen word plain) (rw (no_hyphen word plain) refl)

walked-file : (c : List Rule) (w : Walk) (word : Text) → IsIdle w → begins_with_hyphen word ≡ false
    → walked c [] w word ≡ to_positional c (arg_by_index c w.position) word w w.held
unfolding walked
walked-file c w word free plain =
    rw (free.stopped, free.trailing, free.waiting, word_met-file c w.position word w.held plain) refl

turn_passes-file : (s : Shape) (w : Walk) (word : Text) → IsIdle w → begins_with_hyphen word ≡ false
    → step_passes s w.position w.held value ≡ true → turn_passes s [] w word ≡ true
turn_passes-file s w word free plain passes =
    rw (free.stopped, free.trailing, free.waiting, word_met-file s.rules w.position word w.held plain)
    (rw (word_passes-file s word w.held plain) passes)

-- ---- several words

-- where one more word leads from w to after, and passes
pub record Leads (s : Shape) (w : Walk) (word : Text) (after : Walk) : Type 0 where
  pub passes : turn_passes s [] w word ≡ true
  pub walked : walked s.rules [] w word ≡ after

leads : (s : Shape) (w : Walk) (word : Text) → IsIdle w → begins_with_hyphen word ≡ false
    → step_passes s w.position w.held value ≡ true
    → Leads s w word (to_positional s.rules (arg_by_index s.rules w.position) word w w.held)
leads s w word free plain passes = record {
  passes = turn_passes-file s w word free plain passes;
  walked = walked-file s.rules w word free plain;
}

-- where several words lead
pub record LeadAll (s : Shape) (w : Walk) (words : List Text) (after : Walk) : Type 0 where
  pub passes : walk_passes s [] w words ≡ true
  pub walked : fold (walked s.rules []) w words ≡ after

lead_none : (s : Shape) (w : Walk) → LeadAll s w [] w
unfolding walk_passes
lead_none s w = record { passes = refl; walked = refl }

lead_more : (s : Shape) (w after last : Walk) (word : Text) (words : List Text) → Leads s w word after
    → LeadAll s after words last
    → LeadAll s w (word ∷ words) last
unfolding walk_passes
lead_more s w after last word words first rest = record {
  passes = and_of _ _ first.passes (ap (λ v. walk_passes s [] v words) first.walked ∙ rest.passes);
  walked = ap (λ v. fold (walked s.rules []) v words) first.walked ∙ rest.walked;
}

-- what a command checks once its words are read
abbrev end_passes : Shape → Walk → Bool
end_passes s w = settle_passes s.rules s.args_override_self w.held
    && (list_all default_passes s.rules && is_valid s (finished s.rules w.held) false)

-- the words are taken, and give the command its files
pub record GivesFiles (verb : Verb) (words : List Text) : Type 0 where
  pub passes : level_passes (leaf verb) [] nothing_held words false ≡ true
  pub files : map (λ file. first_of file.name (rows_after (leaf verb).rules [] words)) verb.files
      ≡ said_of verb.files words

gives_files : (verb : Verb) (words : List Text) (last : Walk) → LeadAll (leaf verb) (walk_from nothing_held) words last
    → end_passes (leaf verb) last ≡ true
    → map (λ file. first_of file.name (finished (leaf_rules verb.files) last.held)) verb.files ≡ said_of verb.files words
    → GivesFiles verb words
gives_files verb words last lead passes found = record {
  passes = and_of _ _ lead.passes (ap (end_passes (leaf verb)) lead.walked ∙ passes);
  files =
      ap (λ (w : Walk). map (λ file. first_of file.name (finished (leaf_rules verb.files) w.held)) verb.files) lead.walked
      ∙ found;
}

-- the walk after a file's name
abbrev after_file : Shape → Walk → Text → Walk
after_file s w word = to_positional s.rules (arg_by_index s.rules w.position) word w w.held

-- ---- three files, and four

-- a file that has to be named is named
no_file : (true ≡ false) → ⊥
no_file same = cc

-- words that name these files give them
abbrev pub AreGiven : List File → Type 0
AreGiven files = (name : Text) (words : List Text) → NamesFilesOf (record { name = name; files = files }) words
    → GivesFiles (record { name = name; files = files }) words

-- the command of this name, with the files that every command has, and others behind them
abbrev behind : Text → List File → Verb
behind name others = record {
  name = name;
  files = needed (codes "DECK") ∷ needed (codes "TIMES") ∷ needed (codes "NOTES") ∷ others;
}

abbrev inputs_if : Bool → File
inputs_if needed = record { name = codes "INPUTS"; needed = needed }

-- the walk after the names of the files that every command has
abbrev after_three : Shape → Text → Text → Text → Walk
after_three s a b c = after_file s (after_file s (after_file s (walk_from nothing_held) a) b) c

-- where the names of the files that every command has lead, and further words
lead_three : (name : Text) (others : List File) (a b c : Text) (words : List Text) (last : Walk)
    → begins_with_hyphen a ≡ false → begins_with_hyphen b ≡ false → begins_with_hyphen c ≡ false
    → LeadAll (leaf (behind name others)) (after_three (leaf (behind name others)) a b c) words last
    → LeadAll (leaf (behind name others)) (walk_from nothing_held) (a ∷ b ∷ c ∷ words) last
lead_three name others a b c words last first second third rest =
    let s = leaf (behind name others) in
    let start = walk_from nothing_held in
    let one = after_file s start a in
    let two = after_file s one b in
    let three = after_file s two c in
    let free_start : IsIdle start = record { stopped = refl; waiting = refl; trailing = refl } in
    let free_one : IsIdle one = record { stopped = refl; waiting = refl; trailing = refl } in
    let free_two : IsIdle two = record { stopped = refl; waiting = refl; trailing = refl } in
    lead_more s start one last a (b ∷ c ∷ words) (leads s start a free_start first refl)
    (lead_more s one two last b (c ∷ words) (leads s one b free_one second refl)
    (lead_more s two three last c words (leads s two c free_two third refl) rest))

-- and where four lead
lead_four : (name : Text) (needed : Bool) (a b c d : Text) → begins_with_hyphen a ≡ false → begins_with_hyphen b ≡ false
    → begins_with_hyphen c ≡ false → begins_with_hyphen d ≡ false
    → LeadAll (leaf (behind name (inputs_if needed ∷ []))) (walk_from nothing_held) (a ∷ b ∷ c ∷ d ∷ [])
    (after_file (leaf (behind name (inputs_if needed ∷ [])))
    (after_three (leaf (behind name (inputs_if needed ∷ []))) a b c) d)
lead_four name needed a b c d first second third fourth =
    let s = leaf (behind name (inputs_if needed ∷ [])) in
    let three = after_three s a b c in
    let last = after_file s three d in
    let free : IsIdle three = record { stopped = refl; waiting = refl; trailing = refl } in
    lead_three name (inputs_if needed ∷ []) a b c (d ∷ []) last first second third
    (lead_more s three last last d [] (leads s three d free fourth refl) (lead_none s last))

pub common_given : AreGiven common_files
common_given name [] names = absurd (no_file names.0)
common_given name (a ∷ []) names = absurd (no_file names.1.0)
common_given name (a ∷ b ∷ []) names = absurd (no_file names.1.1.0)
common_given name (a ∷ b ∷ c ∷ []) names =
    let s = leaf (behind name []) in
    let last = after_three s a b c in
    gives_files (behind name []) (a ∷ b ∷ c ∷ []) last
    (lead_three name [] a b c [] last names.0 names.1.0 names.1.1.0 (lead_none s last)) refl refl
common_given name (a ∷ b ∷ c ∷ d ∷ rest) names = absurd names.1.1.1

pub run_given : AreGiven run_files
run_given name [] names = absurd (no_file names.0)
run_given name (a ∷ []) names = absurd (no_file names.1.0)
run_given name (a ∷ b ∷ []) names = absurd (no_file names.1.1.0)
run_given name (a ∷ b ∷ c ∷ []) names = absurd (no_file names.1.1.1.0)
run_given name (a ∷ b ∷ c ∷ d ∷ []) names =
    let s = leaf (behind name (inputs_if true ∷ [])) in
    gives_files (behind name (inputs_if true ∷ [])) (a ∷ b ∷ c ∷ d ∷ []) (after_file s (after_three s a b c) d)
    (lead_four name true a b c d names.0 names.1.0 names.1.1.0 names.1.1.1.0) refl refl
run_given name (a ∷ b ∷ c ∷ d ∷ e ∷ rest) names = absurd names.1.1.1.1

pub check_given : AreGiven check_files
check_given name [] names = absurd (no_file names.0)
check_given name (a ∷ []) names = absurd (no_file names.1.0)
check_given name (a ∷ b ∷ []) names = absurd (no_file names.1.1.0)
check_given name (a ∷ b ∷ c ∷ []) names =
    let s = leaf (behind name (inputs_if false ∷ [])) in
    let last = after_three s a b c in
    gives_files (behind name (inputs_if false ∷ [])) (a ∷ b ∷ c ∷ []) last
    (lead_three name (inputs_if false ∷ []) a b c [] last names.0 names.1.0 names.1.1.0 (lead_none s last)) refl refl
check_given name (a ∷ b ∷ c ∷ d ∷ []) names =
    let s = leaf (behind name (inputs_if false ∷ [])) in
    gives_files (behind name (inputs_if false ∷ [])) (a ∷ b ∷ c ∷ d ∷ []) (after_file s (after_three s a b c) d)
    (lead_four name false a b c d names.0 names.1.0 names.1.1.0 names.1.1.1.0) refl refl
check_given name (a ∷ b ∷ c ∷ d ∷ e ∷ rest) names = absurd names.1.1.1.1
