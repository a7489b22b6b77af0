use Rattle.std.proofs.Common.{◌≡◌, ◌<◌, ◌≤◌, List, ℕ, ◌∷◌, length, ap, sym, subst, arith}
use Rattle.std.specs.Prelude.{Any}
use Rattle.read_decks.specs.Lines.{lines_of}
use Rattle.read_decks.proofs.LineLemmas.{long_behind, long_among}
use Rattle.read_decks.proofs.deck.lines.is_longer.Goals as goal

pub loop-line-preserved : goal.loop-line-preserved
loop-line-preserved c =
    let before = c.loop-line.invariant in
    let rest = lines_of c.next.new.self.rest.now in
    let line = c.in-Some.line.now in
    let steps : lines_of c.loop-line.line-iterator.rest.now ≡ line ∷ rest = c.in-Some.ensures.steps in
    let longest = c.args.longest in
    let short : length line ≤ longest = omega arith in
    record {
      few = omega arith;
      counted = omega (arith, before.counted, ap length steps);
      left =
          λ long. long_behind longest line rest short
          (subst (λ (lines : List (List ℕ)). Any (λ one. longest < length one) lines) steps (before.left long));
      among =
          λ long. before.among (subst (λ (lines : List (List ℕ)). Any (λ one. longest < length one) lines) (sym steps)
          (long_among longest line rest long));
    }
