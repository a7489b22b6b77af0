-- How a key is taken hop by hop.
use Rattle.std.proofs.Common.{◌≡◌, ℕ, suc, ◌+◌, ◌%◌, ◌<◌, ◌≤◌, ◌-◌, List, [], ◌∷◌, length, drop, refl, ap}
use Rattle.std.proofs.Common.{sym, ◌∙◌, subst, Some, arith}
use Rattle.std.specs.Prelude.{slice_get}
use Rattle.std.proofs.lemmas.Option.{slice_get_within}
use Rattle.base_words.specs.Kind.{kind_of}
use Rattle.machine_rotation.specs.Recurs.{within_span}
use Rattle.machine_rotation.specs.Span.{kind_span-≤}
use Rattle.machine_rotation.specs.Waits.{available_recurs}
use Rattle.flow_graph.specs.Hops.{Hop}
use Rattle.flow_graph.specs.Walk.{Setting}
use Rattle.bound_scan.specs.declared.cells.Cells.{Cells}
use Rattle.bound_scan.specs.declared.leap.Leap.{Leap}
use Rattle.bound_scan.specs.declared.scan.Scan.{Scan}
use Rattle.bound_scan.specs.declared.instruction_search.InstructionSearch.{InstructionSearch}
use Rattle.bound_scan.specs.InCells.{kept_in}
use Rattle.bound_scan.specs.Keys.{place_at}
use Rattle.bound_scan.specs.LeapOf.{IsLeap, leap_hop}
use Rattle.bound_scan.specs.Scanned.{Taking}
use Rattle.bound_scan.specs.ScanOf.{setting_in, order_of, AreCells, IsScanned, IsAgreed, IsReady, IsTurn}
use Rattle.bound_scan.specs.SearchOf.{IsSearch, KeepsAt}
use Rattle.bound_scan.proofs.KeysTaken.{hops_at, opened, early_clock, few_turns, closed, turns_agree}
use Rattle.bound_scan.proofs.Lists.{drop_at, drop_past}

-- The first `number` hops of a key have been taken, from a scan on in which none had.
pub record IsHalfway {L : Type 0} (b : Scan L) (key clock number : ℕ) (cells : Cells) (made : ℕ) : Type 0 where
  pub are : AreCells (setting_in b) (order_of b) cells
  pub taking : Taking (setting_in b) (order_of b) key clock (drop number (hops_at b key)) (kept_in cells) cells.last
  pub turns : made ≡ b.steps + number
  pub agreed : IsAgreed key (kept_in b.cells) (kept_in cells)

-- none has been taken
pub half_none : {L : Type 0} (b : Scan L) (key clock : ℕ) → IsScanned b key → KeepsAt (kept_in b.cells) key clock
    → IsHalfway b key clock 0 b.cells b.steps
half_none b key clock is kept = record {
  are = is.cells;
  taking = subst (λ (c : ℕ). Taking (setting_in b) (order_of b) key c (hops_at b key) (kept_in b.cells) b.cells.last)
      kept.2 (opened b key kept.0 (hops_at b key) is kept.1 refl);
  turns = omega arith;
  agreed = λ other below. refl;
}

-- one more has
pub half_more : {L : Type 0} (b s : Scan L) (key clock number : ℕ) (hop : Hop) (cells : Cells) (made : ℕ)
    → s ≡ record b { cells = s.cells; steps = s.steps } → IsHalfway b key clock number s.cells s.steps
    → slice_get (hops_at b key) number ≡ Some hop → AreCells (setting_in s) (order_of s) cells
    → made ≡ s.steps + 1 → IsAgreed key (kept_in s.cells) (kept_in cells)
    → ((left : List Hop) → Taking (setting_in s) (order_of s) key clock (hop ∷ left) (kept_in s.cells) s.cells.last
    → Taking (setting_in s) (order_of s) key clock left (kept_in cells) cells.last)
    → IsHalfway b key clock (number + 1) cells made
half_more b s key clock number hop cells made same half at are count agreed taken =
    let next : suc number ≡ number + 1 = omega arith in
    let g : setting_in s ≡ setting_in b = ap setting_in same in
    let order : order_of s ≡ order_of b = ap order_of same in
    let Takes : Setting → List ℕ → Type 0 =
    λ one all. (left : List Hop) → Taking one all key clock (hop ∷ left) (kept_in s.cells) s.cells.last
    → Taking one all key clock left (kept_in cells) cells.last in
    let takes : Takes (setting_in b) (order_of b) =
    subst (Takes (setting_in b)) order (subst (λ (one : Setting). Takes one (order_of s)) g taken) in
    record {
      are = subst (λ (all : List ℕ). AreCells (setting_in b) all cells) order
          (subst (λ (one : Setting). AreCells one (order_of s) cells) g are);
      taking = subst (λ (n : ℕ).
          Taking (setting_in b) (order_of b) key clock (drop n (hops_at b key)) (kept_in cells) cells.last) next
          (takes (drop (suc number) (hops_at b key))
          (subst (λ (left : List Hop). Taking (setting_in b) (order_of b) key clock left (kept_in s.cells) s.cells.last)
          (drop_at number (hops_at b key) hop at) half.taking));
      turns = omega (arith, count, half.turns);
      agreed = λ other below. agreed other below ∙ half.agreed other below;
    }

-- all have
pub half_all : {L : Type 0} (b : Scan L) (key clock number : ℕ) (cells : Cells) (made : ℕ) → IsScanned b key
    → KeepsAt (kept_in b.cells) key clock → IsHalfway b key clock number cells made
    → number ≡ length (hops_at b key) → IsScanned (record b { cells = cells; steps = made }) (key + 1)
half_all b key clock number cells made is kept half all =
    let none : drop number (hops_at b key) ≡ [] = drop_past number (hops_at b key) (omega (arith, all)) in
    closed b cells made key kept.0 is kept.1 half.are
    (subst (λ (c : ℕ). Taking (setting_in b) (order_of b) key c [] (kept_in cells) cells.last) (sym kept.2)
    (subst (λ (left : List Hop). Taking (setting_in b) (order_of b) key clock left (kept_in cells) cells.last) none
    half.taking))
    (omega (arith, half.turns, all)) half.agreed

-- few ends have been made
half_few : {L : Type 0} (b : Scan L) (key clock number : ℕ) (cells : Cells) (made : ℕ) → IsScanned b key
    → key < b.keys.now.size → IsHalfway b key clock number cells made → number ≤ length (hops_at b key)
    → made < 4611686018427387904
half_few b key clock number cells made is below half within =
    few_turns b key made (length (hops_at b key) - number) is below (omega (arith, half.turns, within))

-- the instruction is found soon
found_soon : {L : Type 0} (b : Scan L) (search : InstructionSearch) → IsScanned b search.key → search.key < b.keys.now.size
    → IsSearch (order_of b) (kept_in b.cells) search → search.found ≤ 4611686018427387904
found_soon b search is below sought =
    omega (
      arith,
      sought.found,
      within_span (available_recurs search.location.number) search.begun,
      kind_span-≤ (kind_of search.location.number),
      sought.begun.2,
      early_clock b search.key sought.begun.0 is below sought.begun.1,
    )

-- the next can be
pub half_ready : {L : Type 0} (b s : Scan L) (search : InstructionSearch) (number : ℕ) (leap : Leap)
    → s ≡ record b { cells = s.cells; steps = s.steps } → IsScanned b search.key
    → IsHalfway b search.key search.begun number s.cells s.steps
    → search.key < b.keys.now.size → IsSearch (order_of b) (kept_in b.cells) search
    → slice_get (hops_at b search.key) number ≡ Some (leap_hop leap)
    → IsLeap (setting_in b) (order_of b) (place_at (order_of b) search.key) (search.found % 50) leap
    → IsReady s search number leap
half_ready b s search number leap same is half below sought at leaps =
    subst (λ (one : Scan _). IsReady one search number leap) (sym same)
    (record {
      keys = is.keys;
      cells = half.are;
      below = below;
      search = record {
        there = sought.there;
        begun = (sought.begun.0, half.agreed search.key (omega arith) ∙ sought.begun.1, sought.begun.2);
        found = sought.found;
      };
      hop = at;
      leap = leaps;
      soon = found_soon b search is below sought;
    })

-- and it is its turn
pub half_turn : {L : Type 0} (b s : Scan L) (key clock number : ℕ) (hop : Hop)
    → s ≡ record b { cells = s.cells; steps = s.steps } → IsScanned b key
    → IsHalfway b key clock number s.cells s.steps → key < b.keys.now.size
    → slice_get (hops_at b key) number ≡ Some hop → IsTurn s key number
half_turn b s key clock number hop same is half below at =
    subst (λ (one : Scan _). IsTurn one key number) (sym same)
    (record {
      turn = omega (
        arith,
        half.turns,
        is.turns,
        turns_agree (setting_in b) (order_of b) (kept_in b.cells) (kept_in s.cells) key
            (λ other earlier. half.agreed other (omega (arith, earlier))),
      );
      few = half_few b key clock number s.cells s.steps is below half
          (omega (arith, slice_get_within (hops_at b key) number hop at));
    })
