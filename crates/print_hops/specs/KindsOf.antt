-- What the kinds of hops are, and what hops take and wait, as the code has them.
use Rattle.std.specs.Prelude.{ℕ, Bool, ◌&&◌, ◌==◌, List, length, sum_by}
use Rattle.base_words.specs.declared.op.Op.{Op}
use Rattle.base_notes.specs.declared.entry.Entry.{Entry}
use Rattle.machine_steps.specs.WaysLeft.{seen_way}
use Rattle.flow_walks.specs.declared.visit.Visit.{Visit}
use Rattle.flow_walks.specs.Visited.{Visited}
use Rattle.print_hops.specs.declared.kind.Kind.{Kind}
use Rattle.print_hops.specs.declared.sums.Sums.{Sums}
use Rattle.print_hops.specs.declared.waited.Waited.{Waited}
use Rattle.print_hops.specs.Waits.{for_cards, for_data, for_instruction, is_same_way, time_of}
use Rattle.print_hops.specs.WaitsText.{total_line}

abbrev pub kind_of : Visit → Kind
kind_of visit =
    record { place = visit.place; instruction = visit.instruction; way = visit.way }

-- they are one kind
abbrev pub same_kind : Kind → Kind → Bool
same_kind a b =
    a.place.number == b.place.number && a.instruction.op == b.instruction.op
    && a.instruction.d == b.instruction.d && a.instruction.i == b.instruction.i
    && is_same_way (seen_way a.way) (seen_way b.way)

-- what hops take in all
abbrev pub sums_of : (Op → Entry) → ℕ → List Visited → Sums
sums_of times angle hops = record {
  visits = length hops;
  time = sum_by time_of hops;
  instruction = sum_by (for_instruction times angle) hops;
  operand = sum_by (for_data times angle) hops;
}

-- what the hops of a walk wait
abbrev pub waited_of : (Op → Entry) → ℕ → List Visited → Waited
waited_of times angle walk = record {
  instruction = sum_by (for_instruction times angle) walk;
  operand = sum_by (for_data times angle) walk;
  cards = sum_by (for_cards times) walk;
}

-- the line of that, where they take so many word times
abbrev pub waited_line : ℕ → Waited → List ℕ
waited_line time waited = total_line time waited.instruction waited.operand waited.cards
