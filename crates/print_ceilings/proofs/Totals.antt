-- How long a walk in rounds takes.
use Rattle.std.proofs.Common.{◌≡◌, ℕ, zero, suc, ◌+◌, ◌*◌, ◌%◌, ◌/◌, List, [], ◌∷◌, map, ap, sym, ◌∙◌, arith}
use Rattle.std.specs.Prelude.{sum_by}
use Rattle.std.proofs.lemmas.List.Sums.{sum_by-cons}
use Rattle.base_words.specs.declared.instruction.Instruction.{Instruction}
use Rattle.base_words.specs.declared.op.Op.{Op}
use Rattle.base_notes.specs.declared.entry.Entry.{Entry}
use Rattle.machine_steps.specs.Counts.{after_pass, no_counts, AreWithin}
use Rattle.machine_steps.specs.Ways.{Way}
use Rattle.flow_graph.specs.Longest.{longest}
use Rattle.flow_graph.specs.Walk.{time_from, IsWalkFrom, Setting, Taken}
use Rattle.flow_graph.proofs.LongestLaws.{longest_later, longest_periodic}
use Rattle.flow_walks.specs.Visited.{visited, AreLongest}
use Rattle.flow_walks.specs.declared.piece.Piece.{Piece}
use Rattle.flow_walks.specs.Pieces.{placed, spelled}
use Rattle.ceiling_rounds.specs.InRounds.{takes, SpellOut}
use Rattle.print_hops.proofs.AddingUp.{follow}

-- so many revolutions later
longest_rounds : (times : Op → Entry) (place : ℕ) (ins : Instruction) (way : Way) (clock count : ℕ)
    → longest times place ins way (clock + 50 * count) ≡ longest times place ins way clock + 50 * count
longest_rounds times place ins way clock zero =
    let same : clock + 50 * 0 ≡ clock = omega arith in
    ap (longest times place ins way) same ∙ omega arith
longest_rounds times place ins way clock (suc count) =
    let more : clock + 50 * suc count ≡ (clock + 50 * count) + 50 = omega arith in
    ap (longest times place ins way) more ∙ longest_periodic times place ins way (clock + 50 * count)
    ∙ omega (arith, longest_rounds times place ins way clock count)

-- a hop takes what it takes at its angle
pub hop_takes : (times : Op → Entry) (angle : ℕ) (hop : Taken)
    → angle + hop.ended ≡ longest times hop.place hop.ins hop.way (angle + hop.begun)
    → hop.begun + takes times (placed angle hop) ≡ hop.ended
hop_takes times angle hop is =
    let clock = angle + hop.begun in
    let whole : clock ≡ clock % 50 + 50 * (clock / 50) = omega arith in
    let laps : longest times hop.place hop.ins hop.way clock
    ≡ longest times hop.place hop.ins hop.way (clock % 50) + 50 * (clock / 50) =
    ap (longest times hop.place hop.ins hop.way) whole
    ∙ longest_rounds times hop.place hop.ins hop.way (clock % 50) (clock / 50) in
    omega (arith, is, laps, whole, longest_later times hop.place hop.ins hop.way (clock % 50))

walk_takes : (g : Setting) (angle place time : ℕ) (counts : List ℕ) (hops : List Taken)
    → IsWalkFrom g angle place time counts hops → AreLongest g angle (map visited hops)
    → time + sum_by (takes g.times) (map (placed angle) hops) ≡ time_from time hops
walk_takes g angle place time counts [] walk longest = omega arith
walk_takes g angle place time counts (hop ∷ hops) walk longest =
    let rest : hop.ended + sum_by (takes g.times) (map (placed angle) hops) ≡ time_from hop.ended hops =
    follow hop.way
    (λ next. AreWithin g.notes.marks (after_pass g.notes.marks place next counts)
    × IsWalkFrom g angle next hop.ended (after_pass g.notes.marks place next counts) hops)
    (λ rest. hop.ended + sum_by (takes g.times) (map (placed angle) rest) ≡ time_from hop.ended rest) hops walk.1
    (omega arith)
    (λ next right. walk_takes g angle next hop.ended (after_pass g.notes.marks place next counts) hops right.1
    longest.1) in
    omega (
      arith,
      rest,
      walk.0.begins,
      hop_takes g.times angle hop longest.0,
      sum_by-cons (takes g.times) (placed angle hop) (map (placed angle) hops),
    )

-- What the pieces spell out takes the walk's time.
pub whole_takes : (g : Setting) (angle total : ℕ) (pieces : List Piece) (passes : List ℕ)
    → SpellOut g angle pieces passes total → sum_by (takes g.times) (spelled pieces) ≡ total
whole_takes g angle total pieces passes spells =
    ap (sum_by (takes g.times)) (sym spells.same)
    ∙ omega (
      arith,
      walk_takes g angle g.start 0 (no_counts g.notes.marks) spells.hops spells.walk.from_start spells.longest,
      spells.time,
    )
