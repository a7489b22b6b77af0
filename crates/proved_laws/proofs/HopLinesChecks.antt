-- Definitions evaluated, with answers that were worked out apart from them.
use Rattle.std.proofs.Common.{◌≡◌, ℕ, false, true, List, [], ◌∷◌, ◌++◌, replicate, refl, Some, None, pos}
use Rattle.std.specs.Prelude.{codes, slice_set}
use Rattle.std.specs.Fmt.{digits}
use Rattle.base_words.specs.declared.word.Word.{Word}
use Rattle.base_words.specs.Instruction.{instruction_of}
use Rattle.base_words.specs.Word.{word}
use Rattle.machine_rotation.specs.Moment.{first}
use Rattle.machine_steps.specs.Run.{Stride}
use Rattle.machine_steps.specs.Step.{State, step}
use Rattle.machine_steps.specs.Ways.{Way, early, to, late}
use Rattle.flow_walks.specs.Visited.{Visited}
use Rattle.print_hops.specs.declared.moments.Moments.{Moments}
use Rattle.print_hops.specs.Moments.{later, moments_of}
use Rattle.print_hops.specs.Pieces.{times_text}
use Rattle.print_hops.specs.TraceText.{stride_lines}
use Rattle.print_hops.specs.WalkText.{walk_text}
use Rattle.proved_laws.proofs.SmallTable.{times}

-- the moments of a word at 0100, sought at once from angle 1
abbrev moments : ℕ → Way → Moments
moments digits way = moments_of times 1 100 (instruction_of (word false digits)) way 0

-- the data comes when it is wanted, or one word time less than a revolution later
in_place : (moments 6901030106 (to 106) ≡ record { found = 49; ready = Some 52; operand = Some 52 })
    × (moments 6901020106 (to 106) ≡ record { found = 49; ready = Some 52; operand = Some 101 })
unfolding first
in_place = (refl, refl)

-- no card; a D that is no location; 84, which is outside of the profile; and a stop, which wants no data
without_data : (moments 7001000106 early ≡ record { found = 49; ready = Some 50; operand = None })
    × (moments 6925000106 late ≡ record { found = 49; ready = Some 52; operand = None })
    × (moments 8401000106 late ≡ record { found = 49; ready = None; operand = None })
    × (moments 100000106 late ≡ record { found = 49; ready = Some 50; operand = Some 50 })
unfolding first
without_data = (refl, refl, refl, refl)

-- a walk of two words: the first takes 55 word times, the second one
abbrev walk : List Visited
walk =
    record { place = 100; ins = instruction_of (word false 6901030106); way = to 106; begun = 0; ended = 55 }
    ∷ record { place = 106; ins = instruction_of (word false 100000106); way = late; begun = 55; ended = 56 } ∷ []

walk_lines : walk_text times 1 walk 56
    ≡ codes "0100 69 0103 0106 to 0106 begun 0 found 49 ready 52 data 52 ended 55\n"
    ++ codes "0106 01 0000 0106 late begun 55 found 55 ready 56 data 56 ended 56\n"
    ++ codes "bound 56\n"
unfolding first digits
walk_lines = refl

-- a machine that seeks 0100 from angle 1, where this word is
abbrev state : Word → State
state first = record {
  contents = record {
    drum = slice_set (replicate 110 (word false 0)) 100 first;
    switches = word false 0;
    distributor = word false 0;
    accumulator = pos 0;
    remainder = None;
    latch = false;
    programmed_stops = true;
    overflow_stops = true;
    cards = [];
  };
  sought = 100;
  time = 0;
  first_angle = 1;
}

abbrev stride : Word → Stride
stride first = record { origin = state first; wait = 0; outcome = step times (state first) 0 }

-- what it holds, and no word is written
abbrev registers : List ℕ
registers = codes " accumulator +00000000000000000000 distributor +0000000000 latch off\n"

-- a step that goes on, one that stops early, and one of an operation outside of the profile
steps : stride_lines times 7
    (stride (word false 6901030106) ∷ stride (word true 6925000106) ∷ stride (word false 8401000106) ∷ [])
    ≡ codes "step 7 0100 +6901030106 begun 0 found 49 ready 52 data 52 ended 55" ++ registers
    ++ codes "step 8 0100 -6925000106 begun 0 found 49 ready 52 ended 52" ++ registers
    ++ codes "step 9 0100 +8401000106 begun 0 found 49 ended 49" ++ registers
unfolding first digits
steps = refl

-- moments of a hop that begins late in a long walk
abbrev soon : Moments
soon = record { found = 48; ready = Some 51; operand = None }

late_times : times_text (later 340000000000000000000000000000000000000 soon) 340000000000000000000000000000000000051
    (codes "\n")
    ≡ codes " found 340000000000000000000000000000000000048 ready 340000000000000000000000000000000000051"
    ++ codes " ended 340000000000000000000000000000000000051\n"
unfolding digits
late_times = refl
