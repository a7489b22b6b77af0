-- The first line of a text.
use Rattle.std.proofs.Common.{◌≡◌, ◌≢◌, ℕ, zero, suc, ◌+◌, ◌-◌, ◌*◌, ◌<◌, ◌≤◌, Bool, true, false, cond, inl, inr, refl}
use Rattle.std.proofs.Common.{List, [], ◌∷◌, length, get_or, take, drop, ap, ◌∙◌, arith, add-one}
use Rattle.std.proofs.lemmas.Bool.{eq-eqb, cases_lt}
use Rattle.std.proofs.lemmas.List.{take_all, length-drop}
use Rattle.std.proofs.Math.Nat.{mul-suc, mul-le-mul_left}
use Rattle.std.specs.Prelude.{Any, ◌==◌}
use borrow.Author.Tests.{ne_eqb}
use Rattle.read_decks.specs.Lines.{with_front, lines_of, IsLonger}

-- a byte that ends no line stands in front of the first line
lines_of-other : (byte : ℕ) (bytes : List ℕ) → byte ≢ 10 → lines_of (byte ∷ bytes) ≡ with_front byte (lines_of bytes)
lines_of-other byte bytes other =
    ap (λ b. cond b ([] ∷ lines_of bytes) (with_front byte (lines_of bytes))) (ne_eqb byte 10 other)

-- the first line ends at the first line feed
pub lines_of-at : (text : List ℕ) (end : ℕ) → end < length text → get_or text end 0 ≡ 10
    → ((k : ℕ) → k < end → get_or text k 0 ≢ 10)
    → lines_of text ≡ take end text ∷ lines_of (drop (suc end) text)
lines_of-at [] end within found first = absurd (omega arith)
lines_of-at (byte ∷ bytes) zero within found first =
    ap (λ b. cond b ([] ∷ lines_of bytes) (with_front byte (lines_of bytes))) (eq-eqb byte 10 found)
lines_of-at (byte ∷ bytes) (suc end) within found first =
    lines_of-other byte bytes (first 0 (omega arith))
    ∙ ap (with_front byte) (lines_of-at bytes end (omega arith) found (λ k below. first (suc k) (omega arith)))

-- a text with no line feed is one line
pub lines_of-last : (text : List ℕ) → 0 < length text → ((k : ℕ) → k < length text → get_or text k 0 ≢ 10)
    → lines_of text ≡ text ∷ []
lines_of-last [] some none = absurd (omega arith)
lines_of-last (byte ∷ []) some none = lines_of-other byte [] (none 0 (omega arith))
lines_of-last (byte ∷ next ∷ bytes) some none =
    lines_of-other byte (next ∷ bytes) (none 0 (omega arith))
    ∙ ap (with_front byte) (lines_of-last (next ∷ bytes) (omega arith) (λ k below. none (suc k) (omega arith)))

-- the same, of the rest as a slice behind the line feed
pub lines_of-behind : (text : List ℕ) (end : ℕ) → end < length text → get_or text end 0 ≡ 10
    → ((k : ℕ) → k < end → get_or text k 0 ≢ 10)
    → lines_of text ≡ take end text ∷ lines_of (take (length text - (end + 1)) (drop (end + 1) text))
lines_of-behind text end within found first =
    let enough : length (drop (end + 1) text) ≤ length text - (end + 1) = omega (arith, length-drop (end + 1) text) in
    rw (take_all (length text - (end + 1)) (drop (end + 1) text) enough, add-one)
    (lines_of-at text end within found first)

-- a long line is the first or one behind it
pub long_behind : (longest : ℕ) (first : List ℕ) (lines : List (List ℕ)) → length first ≤ longest
    → Any (λ line. longest < length line) (first ∷ lines)
    → Any (λ line. longest < length line) lines
long_behind longest first lines short (zero, line, within, here, long) =
    let same : length first ≡ length line = ap length here in
    absurd (omega (arith, same, long))
long_behind longest first lines short (suc k, line, within, here, long) = (k, line, omega arith, here, long)

pub long_among : (longest : ℕ) (first : List ℕ) (lines : List (List ℕ)) → Any (λ line. longest < length line) lines
    → Any (λ line. longest < length line) (first ∷ lines)
long_among longest first lines (k, line, within, here, long) = (suc k, line, omega arith, here, long)

-- the bytes of lines, with a line feed for each
abbrev total : List (List ℕ) → ℕ
total [] = 0
total (line ∷ lines) = length line + 1 + total lines

prefix_counts : (byte : ℕ) (lines : List (List ℕ)) → 1 + total lines ≤ total (with_front byte lines)
prefix_counts byte [] = omega arith
prefix_counts byte (line ∷ lines) = omega arith

all_count : (text : List ℕ) → length text ≤ total (lines_of text)
all_count [] = omega arith
all_count (byte ∷ bytes) = go (byte == 10) (all_count bytes)
  where
    go : (ends : Bool) → length bytes ≤ total (lines_of bytes)
        → suc (length bytes) ≤ total (cond ends ([] ∷ lines_of bytes) (with_front byte (lines_of bytes)))
    go true rest = omega (arith, rest)
    go false rest = omega (arith, rest, prefix_counts byte (lines_of bytes))

some_long : (longest : ℕ) (lines : List (List ℕ)) → (longest + 1) * length lines < total lines
    → Any (λ line. longest < length line) lines
some_long longest [] more = absurd (omega (arith, more))
some_long longest (line ∷ lines) more =
    elim (cases_lt longest (length line)) [
      | inl long ↦ (0, line, omega arith, refl, long)
      | inr short ↦ long_among longest line lines
          (some_long longest lines (omega (arith, more, short, mul-suc (longest + 1) (length lines))))
    ]

-- A text of more bytes than the most lines of the most bytes have is longer.
pub longer_by_bytes : (most longest : ℕ) (text : List ℕ) → (longest + 1) * most < length text
    → IsLonger most longest text
longer_by_bytes most longest text more =
    elim (cases_lt most (length (lines_of text))) [
      | inl many ↦ inl many
      | inr few ↦ inr (some_long longest (lines_of text)
          (omega (arith, more, all_count text, mul-le-mul_left (longest + 1) few)))
    ]
