-- Of Stating::give: the marks of drum locations say which have a word from a line so far. So a mark
-- among the locations of the words is a location that is given again; without one, the words are
-- added.
use Rattle.std.proofs.Common.{◌≡◌, ◌+◌, ◌≤◌, ◌++◌, List, length, take, refl, ap, subst, arith, true}
use Rattle.std.specs.Prelude.{Contains, slice_range}
use Rattle.base_words.specs.declared.word.Word.{Word}
use Rattle.read_replays.specs.InputsOfLines.{HoldWords}
use Rattle.read_replays.specs.InputsText as text
use Rattle.read_replays.proofs.Marks.{marked_given, given_marked}
use Rattle.read_replays.specs.declared.fault.InputFault.TheVariants.{PastDrum, Repeated}
use Rattle.read_replays.proofs.Steps.{has_fault, is_next, holds_words}
use Rattle.read_replays.proofs.stating.Stating.give.Goals as goal

pub returns-then-from-words : goal.returns-then-from-words
returns-then-from-words c bytes is_line before counted holds =
    has_fault c.args.self.now before bytes (PastDrum c.args.line) (
      counted,
      (
        text.words c.args.card.now.address (take c.args.card.now.len c.args.card.now.words),
        is_line,
        omega (arith, c.if-from-words.true, c.from.ensures, c.from-2.ensures, ap length c.words-words.ensures),
      ),
    ) holds

pub returns-then-has_any : goal.returns-then-has_any
returns-then-has_any c bytes is_line before counted holds =
    let first = c.args.card.now.address in
    let ws : List Word = take c.args.card.now.len c.args.card.now.words in
    let same : c.words-words.result.now ≡ ws = c.words-words.ensures in
    let count : length c.words-words.result.now ≡ length ws = ap length same in
    let fits : first + length c.words-words.result.now ≤ 2000 =
    omega (arith, c.if-from-words.false, c.from.ensures, c.from-2.ensures) in
    let some =
    marked_given c.args.self.now.drum (text.given_in before) first (length c.words-words.result.now) fits holds.words
    (c.has_any.ensures.0 c.if-has_any.true) in
    has_fault c.args.self.now before bytes (Repeated c.args.line) (
      counted,
      (
        text.words first ws,
        is_line,
        (λ past. omega (arith, past, fits, count)),
        (some.0, some.1, omega (arith, some.2, count), some.3),
      ),
    ) holds

pub returns : goal.returns
returns c bytes is_line before counted holds =
    let first = c.args.card.now.address in
    let ws : List Word = take c.args.card.now.len c.args.card.now.words in
    let same : c.words-words.result.now ≡ ws = c.words-words.ensures in
    let count : length c.words-words.result.now ≡ length ws = ap length same in
    let fits : first + length c.words-words.result.now ≤ 2000 =
    omega (arith, c.if-from-words.false, c.from.ensures, c.from-2.ensures) in
    let long : length c.args.self.now.drum.marks.items ≡ 2000 =
    omega (arith, c.args.self.now.drum.marks.ok.0, c.args.self.now.drum.whole) in
    let given =
    subst (λ (vs : List Word). HoldWords c.give.new.self (text.given_in before ++ text.placed first vs)) same
    (c.in_ok-give.ensures (text.given_in before) holds.words) in
    is_next _ before bytes (text.words first ws) is_line
    (holds_words c.args.self.now _ before first ws holds refl given refl refl (λ past. omega (arith, past, fits, count))
    (λ (location, low, high, is_given).
    let marked : Contains (slice_range c.args.self.now.drum.marks.items first (first + length c.words-words.result.now))
    true =
    given_marked c.args.self.now.drum (text.given_in before) first (length c.words-words.result.now) location
    (omega (arith, fits, long)) long holds.words low (omega (arith, high, count)) is_given in
    cc (c.has_any.ensures.1 marked, c.if-has_any.false)))
