-- Definitions evaluated: a deck of two words, one of which loads the distributor and the other stops. A walk of it
-- takes 56 word times, from start angle 1.
use Rattle.std.proofs.Common.{◌≡◌, ℕ, false, List, [], ◌∷◌, refl, arith, Option, Some, None}
use Rattle.std.specs.Prelude.{◌==◌, if◌then◌else◌}
use Rattle.base_words.specs.declared.word.Word.{Word}
use Rattle.base_words.specs.Instruction.{instruction_of}
use Rattle.machine_rotation.specs.Moment.{first}
use Rattle.base_words.specs.Word.{word}
use Rattle.base_notes.specs.declared.notes.programmed.Programmed.TheVariants as switch
use Rattle.base_notes.specs.Allowed.{Notes}
use Rattle.machine_steps.specs.Ways.{to, late}
use Rattle.flow_graph.specs.Hops.{hops}
use Rattle.flow_graph.specs.Executed.{IsOrder}
use Rattle.flow_graph.specs.Walk.{Setting, Taken, IsWalk, time_of}
use Rattle.proved_laws.proofs.SmallTable.{times}

abbrev loads : ℕ → Option Word
loads n = if n == 100 then Some (word false 6901030106) else (if n == 106 then Some (word false 100000106) else None)

abbrev notes : Notes
notes = record { programmed = switch.Stop; load_cards = false; marks = []; lists = []; calls = [] }

abbrev setting : Setting
setting = record { loads = loads; notes = notes; times = times; start = 100 }

the_hops : (hops loads notes 100 ≡ record { ins = instruction_of (word false 6901030106); way = to 106 } ∷ [])
    × (hops loads notes 106 ≡ record { ins = instruction_of (word false 100000106); way = late } ∷ [])
the_hops = (refl, refl)

the_order : IsOrder loads notes 100 (100 ∷ 106 ∷ [])
the_order = record {
  nodes = record { place = 100; ways = [] } ∷ record { place = 106; ways = [] } ∷ [];
  reached = record { count = 2; after = refl; all = omega arith };
  places = refl;
}

abbrev worst_walk : List Taken
worst_walk =
    record {
      place = 100;
      ins = instruction_of (word false 6901030106);
      way = to 106;
      units = 0;
      wait = 0;
      begun = 0;
      ended = 55;
    }
    ∷ record {
      place = 106;
      ins = instruction_of (word false 100000106);
      way = late;
      units = 0;
      wait = 0;
      begun = 55;
      ended = 56;
    }
    ∷ []

takes_56 : time_of worst_walk ≡ 56
takes_56 = refl

is_walk : IsWalk setting 1 worst_walk
unfolding first
is_walk = record {
  on_drum = omega arith;
  from_start = (
    record { here = refl; allowed = (0, omega arith, refl); begins = refl; timed = (refl, refl, refl) },
    (tt, (record { here = refl; allowed = (0, omega arith, refl); begins = refl; timed = (refl, refl, refl) }, refl)),
  );
  back = (tt, tt);
}
