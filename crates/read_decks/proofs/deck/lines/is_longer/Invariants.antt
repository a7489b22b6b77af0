use Rattle.std.proofs.Common.{◌≡◌, ◌+◌, ◌<◌, ◌≤◌, length}
use Rattle.std.specs.Prelude.{Any}
use Rattle.read_decks.specs.Lines.{lines_of}
use Rattle.read_decks.proofs.deck.lines.is_longer.Given as goal

-- the lines so far aren't too many, and a long line of the text is one of those that are left
abbrev pub invariant-loop-line : goal.invariant-loop-line
invariant-loop-line l = record {
  few : l.lines ≤ l.most;
  counted : l.lines + length (lines_of l.line-iterator.rest.now) ≡ length (lines_of l.text);
  left : Any (λ line. l.longest < length line) (lines_of l.text)
      → Any (λ line. l.longest < length line) (lines_of l.line-iterator.rest.now);
  among : Any (λ line. l.longest < length line) (lines_of l.line-iterator.rest.now)
      → Any (λ line. l.longest < length line) (lines_of l.text);
}
