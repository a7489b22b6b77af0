-- Definitions evaluated, with answers that were worked out apart from them.
use Rattle.std.proofs.Common.{◌≡◌, ℕ, false, List, [], ◌∷◌, ◌++◌, refl, lit≤, Vec, Global}
use Rattle.std.specs.Prelude.{codes}
use Rattle.std.specs.Fmt.{digits}
use Rattle.base_words.specs.Instruction.{instruction_of}
use Rattle.base_words.specs.Word.{word}
use Rattle.machine_rotation.specs.Moment.{first}
use Rattle.machine_steps.specs.declared.ways.Way.TheVariants as way
use Rattle.flow_graph.specs.Longest.{longest}
use Rattle.flow_walks.specs.declared.piece.Piece.{Piece}
use Rattle.flow_walks.specs.declared.piece.Piece.TheVariants as piece
use Rattle.flow_walks.specs.declared.piece.Placed.{Placed}
use Rattle.flow_walks.specs.declared.piece.Rounds.{Rounds}
use Rattle.print_ceilings.specs.CeilingText.{price_line, total_lines}
use Rattle.print_ceilings.specs.RoundsText.{joined, tell}
use Rattle.proved_laws.proofs.SmallTable.{named, origin, plain, target, times}

of_marks : (price_line plain 55 1 ≡ codes "mark 0100 0106 price 55 passed 1\n")
    × (price_line named 55 12 ≡ codes "mark 0100 0106 price 55 passed 12 name cards\n")
unfolding digits
of_marks = (refl, refl)

of_totals : total_lines 5536 55365 ≡ codes "reached 5536\nceiling 55365\n"
unfolding digits
of_totals = refl

-- ---- a walk with a loop in a loop

-- each of the two locations leads to the other, and both begin at angle 6 and take 50 word times
abbrev there : Placed
there = record {
  location = origin;
  angle = 6;
  hop = record { instruction = instruction_of (word false 6901030106); way = way.To target };
  on_drum = lit≤ tt;
}

abbrev back : Placed
back = record {
  location = target;
  angle = 6;
  hop = record { instruction = instruction_of (word false 6901030100); way = way.To origin };
  on_drum = lit≤ tt;
}

abbrev twice : Rounds
twice = record { times = 2; piece = 4; some = lit≤ tt }

abbrev thrice : Rounds
thrice = record { times = 3; piece = 2; some = lit≤ tt }

-- two pieces in a row, where some list is kept
row : Vec ℕ Global → ℕ → ℕ → Vec ℕ Global
row kept one other = record {
  ptr = kept.ptr;
  len = 2;
  cap = 2;
  alloc = kept.alloc;
  items = one ∷ other ∷ [];
  ok = (refl, lit≤ tt);
  small = lit≤ tt;
}

-- There and back is one piece, of which three rounds are a loop. That loop and one more turn are two
-- rounds of an outer loop, behind which the loop comes once more.
pieces : Vec ℕ Global → List Piece
pieces kept =
    piece.Hop there ∷ piece.Hop back ∷ piece.Row (row kept 0 1) ∷ piece.Rounds thrice ∷ piece.Row (row kept 3 2)
    ∷ piece.Rounds twice ∷ piece.Row (row kept 5 3) ∷ []

of_rounds : (kept : Vec ℕ Global) → joined (tell times (pieces kept)).0
    ≡ codes "rounds 2 of 0106 0100\n" ++ codes "part 1\n" ++ codes "rounds 3 of 0106 0100\n" ++ codes "part 2\n"
    ++ codes "0100 69 0103 0106 to 0106 begun 0 found 44 ready 47 data 47 ended 50\n"
    ++ codes "0106 69 0103 0100 to 0100 begun 50 found 50 ready 53 data 97 ended 100\n"
    ++ codes "end part 2\n" ++ codes "end rounds each 100 ended 300\n" ++ codes "end part 1\n"
    ++ codes "part 2 again begun 300 ended 400\n" ++ codes "end rounds each 400 ended 800\n"
    ++ codes "part 1 again begun 800 ended 1100\n"
unfolding first longest digits pieces row
of_rounds kept = refl
