-- A walk of clap's over words, at a command all of whose options ask for help: each argument that
-- it finds has a value.
--
-- This file names 79 things of clap, and has to. What clap states of the words that it is given is
-- a function, `rows_after` of its specs/Walk: a walk that takes word after word and keeps, for each
-- argument that it met, a row with the values found. Of rows it states nowhere that they have
-- values; but the code takes the command's files from these rows, and a file without a value would
-- lead to an `unreachable!()`. (Its clause `parsed` says of the entries of a parse that each has a
-- value or may go without one. The proofs here go by its clause `matches`, which is about rows.) So
-- the walk is gone through here, once for each function that it is made of, and each is shown to
-- leave all rows with values if they had them. Only `rows_after-full`, at the end, is used
-- elsewhere: Accepted concludes from it that words which clap accepts name a command and all of its
-- files. (That lines of the right form are taken is shown in Lines and Named, which follow the walk
-- of such words alone.)
--
-- A new version of clap breaks this file where one of these functions has another name, other
-- arguments or one case more: first the `use` lines, then the lemma of that function. A lemma is
-- called after its function, as `pushed-full` after `pushed`, and they stand in the order in which
-- the functions are built, from the rows upward. Begin with clap's specs/Walk, from `rows_after`
-- downward, and see which functions lie between it and `at_row`, the one that changes a row; then
-- mend the lemmas here from the top of the file, each by the cases of its function. If the new clap
-- itself states that the rows have values, `rows_after-full` follows from that, and the rest of
-- this file can go.
use Rattle.std.proofs.Common.{◌≡◌, ◌∙◌, ◌&&◌, ◌||◌, ℕ, Bool, cond, true, false, not, zero, suc, ap, refl, arith, length}
use Rattle.std.proofs.Common.{drop, List, [], ◌∷◌, ◌++◌, Option, Some, None, is_some, nat_lt}
use Rattle.std.specs.Prelude.{encode_utf8, fold, slice_get}
use Rattle.std.specs.List.{list_all}
use Rattle.std.specs.Option.{option_map_or}
use Rattle.std.specs.Str.{bytes_eq, chars}
use Rattle.clap.specs.Lexer.{long_of, short_of}
use Rattle.clap.specs.Values.{is_request}
use Rattle.clap.specs.declared.builder.action.ArgAction.{ArgAction}
use Rattle.clap.specs.declared.builder.action.ArgAction.TheVariants as action
use Rattle.clap.specs.declared.parser.matches.ValueSource.{ValueSource}
use Rattle.clap.specs.declared.parser.matches.ValueSource.TheVariants.{DefaultValue, CommandLine}
use Rattle.clap.specs.declared.builder.value_parser.Reading.{Reading}
use Rattle.clap.specs.Walk.{Held, Names, Outcome, Row, Rule, Step, Text, Waiting, Walk, action_of, after_flag}
use Rattle.clap.specs.Walk.{after_step, arg_by_id, arg_by_index, arg_by_long, arg_by_short, at_row, attached_value}
use Rattle.clap.specs.Walk.{bundle, bundle_met, bundle_step, default_rows, done, flag_met, has_long, has_row, has_short}
use Rattle.clap.specs.Walk.{idle, is_pending, long_met, long_or_other, more_values, next, nothing_held, option}
use Rattle.clap.specs.Walk.{option_met, option_word, plain, plain_word, positional, pushed, reacted, reading_by}
use Rattle.clap.specs.Walk.{refused, rows_after, settled, settled_rows, short_met, short_or_plain, started, subcommand}
use Rattle.clap.specs.Walk.{subcommand_met, subcommand_or_other, takes_several, takes_values, to_positional, trailing}
use Rattle.clap.specs.Walk.{used, used_as, used_by_id, value, values_or_missing, waits, walk, walk_from, walked}
use Rattle.clap.specs.Walk.{walked_from, with_default, with_values, without, word_met}
use Rattle.program_command.proofs.Own.{and_both, and_of, find_passes}

-- a row has a value
abbrev pub is_full : Row → Bool
is_full row = nat_lt 0 (length row.values)

abbrev pub are_full : List Row → Bool
are_full = list_all is_full

-- what waits for values has one
abbrev pub is_full_pending : Option (Text × List Text) → Bool
is_full_pending pending = option_map_or (λ p. nat_lt 0 (length p.1)) pending true

pub record IsFull (h : Held) : Type 0 where
  pub rows : are_full h.rows ≡ true
  pub pending : is_full_pending h.pending ≡ true

-- an argument is a positional, or asks for help or the version and takes no value
abbrev pub is_file_or_request : Rule → Bool
is_file_or_request rule = is_some rule.index || (not (takes_values rule) && is_request (action_of rule))

-- ---- rows

pub are_full-append : (xs ys : List Row) → are_full xs ≡ true → are_full ys ≡ true → are_full (xs ++ ys) ≡ true
are_full-append [] ys full more = more
are_full-append (x ∷ xs) ys full more =
    let parts = and_both _ _ full in
    and_of _ _ parts.0 (are_full-append xs ys parts.1 more)

-- a change of one row, to rows that have values
are_full-at_row : (id : Text) (change : Row → List Row) (missing rows : List Row)
    → ((row : Row) → is_full row ≡ true → are_full (change row) ≡ true) → are_full missing ≡ true → are_full rows ≡ true
    → are_full (at_row id change missing rows) ≡ true
are_full-at_row id change missing [] changed added full = added
are_full-at_row id change missing (row ∷ rows) changed added full =
    let parts = and_both _ _ full in
    go (bytes_eq row.id id) parts.0 parts.1 (are_full-at_row id change missing rows changed added parts.1)
  where
    go : (same : Bool) → is_full row ≡ true → are_full rows ≡ true → are_full (at_row id change missing rows) ≡ true
        → are_full (cond same (change row ++ rows) (row ∷ at_row id change missing rows)) ≡ true
    go true first rest later = are_full-append (change row) rows (changed row first) rest
    go false first rest later = and_of _ _ first later

more_full : (xs ys : List Text) → nat_lt 0 (length ys) ≡ true → nat_lt 0 (length (xs ++ ys)) ≡ true
more_full [] ys more = more
more_full (x ∷ xs) ys more = grind arith

are_full-with_values : (id : Text) (how : Reading) (s : ValueSource) (values : List Text) (rows : List Row)
    → nat_lt 0 (length values) ≡ true
    → are_full rows ≡ true → are_full (with_values id how s values rows) ≡ true
are_full-with_values id how s values rows some full =
    are_full-at_row id (more_values s values) _ rows (λ row first. and_of _ _ (more_full row.values values some) refl)
    (and_of _ _ some refl) full

are_full-without : (id : Text) (rows : List Row) → are_full rows ≡ true → are_full (without id rows) ≡ true
are_full-without id rows full = are_full-at_row id (λ _. []) [] rows (λ row first. refl) refl full

-- ---- a use of an argument

-- a use with a value
are_full-used_as : (a : ArgAction) (id : Text) (how : Reading) (v : Text) (vs : List Text) (rows : List Row)
    → are_full rows ≡ true
    → are_full (used_as a id how (v ∷ vs) rows) ≡ true
are_full-used_as action.Set id how v vs rows full =
    are_full-with_values id how CommandLine (v ∷ vs) _ (grind arith) (are_full-without id rows full)
are_full-used_as action.SetTrue id how v vs rows full =
    are_full-with_values id how CommandLine (v ∷ vs) _ (grind arith) (are_full-without id rows full)
are_full-used_as action.SetFalse id how v vs rows full =
    are_full-with_values id how CommandLine (v ∷ vs) _ (grind arith) (are_full-without id rows full)
are_full-used_as action.Append id how v vs rows full =
    are_full-with_values id how CommandLine (v ∷ vs) rows (grind arith) full
are_full-used_as action.Count id how v vs rows full =
    are_full-with_values id how CommandLine (v ∷ vs) _ (grind arith) (are_full-without id rows full)
are_full-used_as _ id how v vs rows full = full

are_full-used : (a : Rule) (values : List Text) (rows : List Row) → nat_lt 0 (length values) ≡ true
    → are_full rows ≡ true
    → are_full (used a values rows) ≡ true
are_full-used a [] rows some full = absurd (grind arith)
are_full-used a (v ∷ vs) rows some full = are_full-used_as (action_of a) a.id (reading_by a) v vs rows full

-- a use that asks for help changes nothing
used_as-request : (a : ArgAction) (id : Text) (how : Reading) (values : List Text) (rows : List Row)
    → is_request a ≡ true
    → used_as a id how values rows ≡ rows
used_as-request action.Help id how values rows request = refl
used_as-request action.HelpShort id how values rows request = refl
used_as-request action.HelpLong id how values rows request = refl
used_as-request action.Version id how values rows request = refl
used_as-request _ id how values rows request = cc

-- ---- what is held

settled_rows-full : (c : List Rule) (pending : Option (Text × List Text)) (rows : List Row)
    → is_full_pending pending ≡ true
    → are_full rows ≡ true → are_full (settled_rows c pending rows) ≡ true
settled_rows-full c None rows some full = full
settled_rows-full c (Some p) rows some full = go (arg_by_id c p.0)
  where
    go : (o : Option Rule) → are_full (used_by_id o p.1 rows) ≡ true
    go None = full
    go (Some a) = are_full-used a p.1 rows some full

settled-full : (c : List Rule) (h : Held) → IsFull h → IsFull (settled c h)
settled-full c h full = record { rows = settled_rows-full c h.pending h.rows full.pending full.rows; pending = refl }

pushed-full : (id word : Text) (h : Held) → IsFull h → IsFull (pushed id word h)
pushed-full id word h full = record {
  rows = full.rows;
  pending = more_full (started id h.pending).1 (word ∷ []) (grind arith);
}

-- the argument asks for help or the version, and takes no value
abbrev is_flag : Rule → Bool
is_flag rule = not (takes_values rule) && is_request (action_of rule)

is_flag-of : (indexed has flag : Bool) → (not indexed && has) ≡ true → (indexed || flag) ≡ true → flag ≡ true
is_flag-of true has flag free or = cc
is_flag-of false has flag free or = or

reacted-full : (c : List Rule) (a : Rule) (h : Held) → is_flag a ≡ true → IsFull h → IsFull (reacted c a [] h)
reacted-full c a h flag full =
    let request = (and_both _ _ flag).1 in
    let same = used_as-request (action_of a) a.id (reading_by a) (values_or_missing a []) (settled c h).rows request in
    record { rows = ap are_full same ∙ (settled-full c h full).rows; pending = refl }

-- ---- flags

abbrev is_flag_if_some : Option Rule → Bool
is_flag_if_some o = option_map_or is_flag o true

long_met-full : (c : List Rule) (o : Option Rule) (v : Option Text) (h : Held) → is_flag_if_some o ≡ true → IsFull h
    → IsFull (long_met c o v h).0
long_met-full c None v h flag full = full
long_met-full c (Some a) v h flag full = go (takes_values a) v (and_both _ _ flag).0
  where
    go : (takes : Bool) (v : Option Text) → not takes ≡ true
        → IsFull (cond takes (option_met c a v h) (flag_met c a v h)).0
    go true v free = cc
    go false (Some x) free = full
    go false None free = reacted-full c a h flag full

-- what follows keeps what is held full
abbrev KeepsFull : (Text → ℕ → Outcome → Held → Held × Outcome) → Type 0
KeepsFull follow =
    (flags : Text) (skip : ℕ) (so_far : Outcome) (h : Held) → IsFull h → IsFull (follow flags skip so_far h).0

short_met-full : (c : List Rule) (o : Option Rule) (rest : Text) (h : Held)
    (follow : Text → ℕ → Outcome → Held → Held × Outcome)
    → is_flag_if_some o ≡ true → KeepsFull follow → IsFull h → IsFull (short_met c o rest h (follow rest 0 done)).0
short_met-full c None rest h follow flag keeps full = full
short_met-full c (Some a) rest h follow flag keeps full = go (takes_values a) (and_both _ _ flag).0
  where
    go : (takes : Bool) → not takes ≡ true
        → IsFull (cond takes (option_met c a (attached_value rest) h) (follow rest 0 done (reacted c a [] h))).0
    go true free = cc
    go false free = keeps rest 0 done (reacted c a [] h) (reacted-full c a h flag full)

module _ (c : List Rule) (names : Names) (all : list_all is_file_or_request c ≡ true) where
  by_long : (name : Text) → is_flag_if_some (arg_by_long c name) ≡ true
  by_long name =
      go (arg_by_long c name) (find_passes (λ a. not (is_some a.index) && has_long a name) is_file_or_request c all)
    where
      go : (o : Option Rule) → option_map_or (λ a. (not (is_some a.index) && has_long a name) && is_file_or_request a) o
          true ≡ true
          → is_flag_if_some o ≡ true
      go None passes = refl
      go (Some a) passes =
          let parts = and_both _ _ passes in
          is_flag-of (is_some a.index) _ _ parts.0 parts.1

  by_short : (x : ℕ) → is_flag_if_some (arg_by_short c x) ≡ true
  by_short x =
      go (arg_by_short c x) (find_passes (λ a. not (is_some a.index) && has_short a x) is_file_or_request c all)
    where
      go : (o : Option Rule) → option_map_or (λ a. (not (is_some a.index) && has_short a x) && is_file_or_request a) o
          true ≡ true
          → is_flag_if_some o ≡ true
      go None passes = refl
      go (Some a) passes =
          let parts = and_both _ _ passes in
          is_flag-of (is_some a.index) _ _ parts.0 parts.1

  bundle_step-full : (o : Option ℕ) (flags : Text) (skip : ℕ) (so_far : Outcome) (h : Held)
      (follow : Text → ℕ → Outcome → Held → Held × Outcome)
      → KeepsFull follow → IsFull h → IsFull (bundle_step c o flags skip so_far h follow).0
  bundle_step-full None flags skip so_far h follow keeps full = full
  bundle_step-full (Some x) flags zero so_far h follow keeps full =
      short_met-full c (arg_by_short c x) (drop (length (encode_utf8 x)) flags) h follow (by_short x) keeps full
  bundle_step-full (Some x) flags (suc skip) so_far h follow keeps full =
      keeps (drop (length (encode_utf8 x)) flags) skip so_far h full

  bundle_met-full : (k : ℕ) → KeepsFull (bundle_met c k)
  unfolding bundle_met
  bundle_met-full zero flags skip so_far h full = full
  bundle_met-full (suc k) flags skip so_far h full =
      bundle_step-full (slice_get (chars flags) 0) flags skip so_far h (bundle_met c k) (bundle_met-full k) full

  -- ---- words

  plain_word-full : (waiting : Waiting) (word : Text) (h : Held) → IsFull h → IsFull (plain_word c waiting word h).0
  plain_word-full (option id) word h full = go (arg_by_id c id)
    where
      go : (o : Option Rule) → IsFull (option_word o id word h).0
      go None = full
      go (Some a) = pushed-full id word h full
  plain_word-full idle word h full = full
  plain_word-full positional word h full = full

  after_flag-full : (waiting : Waiting) (word : Text) (h : Held) (o : Outcome) → IsFull h
      → IsFull (after_flag c waiting word h o).0
  after_flag-full waiting word h done full = full
  after_flag-full waiting word h (waits id) full = full
  after_flag-full waiting word h plain full = plain_word-full waiting word h full
  after_flag-full waiting word h refused full = plain_word-full waiting word h full

  bundle-full : (flags : Text) (h : Held) → IsFull h → IsFull (bundle c flags h).0
  bundle-full flags h full =
      bundle_met-full (length flags) flags h.skip plain (record h { skip = 0 })
      (record { rows = full.rows; pending = full.pending })

  short_or_plain-full : (waiting : Waiting) (word : Text) (flags : Option Text) (h : Held) → IsFull h
      → IsFull (short_or_plain c waiting word flags h).0
  short_or_plain-full waiting word None h full = plain_word-full waiting word h full
  short_or_plain-full waiting word (Some flags) h full =
      after_flag-full waiting word (bundle c flags h).0 (bundle c flags h).1 (bundle-full flags h full)

  long_or_other-full : (waiting : Waiting) (word : Text) (o : Option (Text × Option Text)) (h : Held) → IsFull h
      → IsFull (long_or_other c waiting word o h).0
  long_or_other-full waiting word None h full = short_or_plain-full waiting word (short_of word) h full
  long_or_other-full waiting word (Some p) h full =
      let met = long_met c (arg_by_long c p.0) p.1 h in
      after_flag-full waiting word met.0 met.1 (long_met-full c (arg_by_long c p.0) p.1 h (by_long p.0) full)

  subcommand_or_other-full : (o : Option Text) (waiting : Waiting) (position : ℕ) (word : Text) (h : Held) → IsFull h
      → IsFull (subcommand_or_other c o waiting position word h).0
  subcommand_or_other-full (Some name) waiting position word h full = full
  subcommand_or_other-full None waiting position word h full = go (bytes_eq word (45 ∷ 45 ∷ []))
    where
      go : (b : Bool) → IsFull (cond b (h, trailing position) (long_or_other c waiting word (long_of word) h)).0
      go true = full
      go false = long_or_other-full waiting word (long_of word) h full

  word_met-full : (is_trailing : Bool) (waiting : Waiting) (position : ℕ) (word : Text) (h : Held) → IsFull h
      → IsFull (word_met c names is_trailing waiting position word h).0
  word_met-full true waiting position word h full = full
  word_met-full false waiting position word h full =
      subcommand_or_other-full (subcommand_met names waiting word) waiting position word h full

  -- ---- the walk

  to_positional-full : (o : Option Rule) (word : Text) (w : Walk) (h : Held) → IsFull h
      → IsFull (to_positional c o word w h).held
  to_positional-full None word w h full = full
  to_positional-full (Some a) word w h full = go (is_pending a h.pending && takes_several a)
    where
      go : (b : Bool) → IsFull (pushed a.id word (cond b h (settled c h)))
      go true = pushed-full a.id word h full
      go false = pushed-full a.id word (settled c h) (settled-full c h full)

  after_step-full : (word : Text) (w : Walk) (h : Held) (step : Step) → IsFull h
      → IsFull (after_step c word w h step).held
  after_step-full word w h (next waiting) full = full
  after_step-full word w h (trailing position) full = full
  after_step-full word w h (subcommand name) full = full
  after_step-full word w h value full = to_positional-full (arg_by_index c w.position) word w h full

  walked_from-full : (stop : Option (Text × List Text)) (w : Walk) (word : Text) → IsFull w.held
      → IsFull (walked_from c names stop w word).held
  walked_from-full (Some p) w word full = full
  walked_from-full None w word full =
      let met = word_met c names w.is_trailing w.waiting w.position word w.held in
      after_step-full word w met.0 met.1 (word_met-full w.is_trailing w.waiting w.position word w.held full)

  walked-full : (w : Walk) (word : Text) → IsFull w.held → IsFull (walked c names w word).held
  unfolding walked
  walked-full w word full = walked_from-full w.stopped w word full

  fold-full : (words : List Text) (w : Walk) → IsFull w.held → IsFull (fold (walked c names) w words).held
  fold-full [] w full = full
  fold-full (word ∷ words) w full = fold-full words (walked c names w word) (walked-full w word full)

  -- ---- defaults

  default_rows-full : (id : Text) (how : Reading) (values : List Text) (rows : List Row) → are_full rows ≡ true
      → are_full (default_rows id how values rows) ≡ true
  default_rows-full id how [] rows full = full
  default_rows-full id how (v ∷ vs) rows full =
      are_full-with_values id how DefaultValue (v ∷ vs) rows (grind arith) full

  with_default-full : (rows : List Row) (a : Rule) → are_full rows ≡ true → are_full (with_default rows a) ≡ true
  with_default-full rows a full = go (has_row a.id rows)
    where
      go : (b : Bool) → are_full (cond b rows (default_rows a.id (reading_by a) a.defaults rows)) ≡ true
      go true = full
      go false = default_rows-full a.id (reading_by a) a.defaults rows full

  defaults-full : (rules : List Rule) (rows : List Row) → are_full rows ≡ true
      → are_full (fold with_default rows rules) ≡ true
  defaults-full [] rows full = full
  defaults-full (a ∷ rules) rows full = defaults-full rules (with_default rows a) (with_default-full rows a full)

  -- each argument that clap finds in words has a value
  pub rows_after-full : (words : List Text) → are_full (rows_after c names words) ≡ true
  rows_after-full words =
      let end = fold-full words (walk_from nothing_held) (record { rows = refl; pending = refl }) in
      defaults-full c _ (settled-full c (walk c names nothing_held words).held end).rows
