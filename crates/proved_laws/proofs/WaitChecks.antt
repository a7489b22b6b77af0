-- The lines of waits evaluated, with answers that were worked out apart from the definitions.
use Rattle.std.proofs.Common.{◌≡◌, false, [], ◌∷◌, ◌++◌, refl}
use Rattle.std.specs.Prelude.{codes}
use Rattle.std.specs.Fmt.{digits}
use Rattle.base_words.specs.Instruction.{instruction_of}
use Rattle.base_words.specs.Word.{word}
use Rattle.machine_rotation.specs.Moment.{first}
use Rattle.machine_steps.specs.Ways.{to, late}
use Rattle.flow_walks.specs.Visited.{Visited}
use Rattle.print_hops.specs.WaitsText.{waits_text}
use Rattle.proved_laws.proofs.SmallTable.{times}

-- A walk from angle 1. 0106 is had at 5 and done at 6. 0100, which loads from 0102, is had at 49, can
-- load from 52 on, has its data at 101 and is done at 104; again it is had at 149, has its data at
-- 201 and is done at 204. Then the same instruction is in the distributor, where it is had at once:
-- it has its data at 251, is done at 254 and goes nowhere.
abbrev stop : Visited
stop = record { place = 106; ins = instruction_of (word false 100000100); way = to 100; begun = 0; ended = 6 }

abbrev load : Visited
load = record { place = 100; ins = instruction_of (word false 6901020100); way = to 100; begun = 6; ended = 104 }

abbrev again : Visited
again =
    record { place = 100; ins = instruction_of (word false 6901020100); way = to 100; begun = 104; ended = 204 }

abbrev last : Visited
last = record { place = 8001; ins = instruction_of (word false 6901020100); way = late; begun = 204; ended = 254 }

wait_lines : waits_text times 1 (stop ∷ load ∷ again ∷ last ∷ []) (load ∷ last ∷ stop ∷ []) 254
    ≡ codes "0100 69 0102 0100 to 0100 visits 2 time 198 instruction 88 data 98 work 12 data-at 3 next-at 5\n"
    ++ codes "8001 69 0102 0100 late visits 1 time 50 instruction 0 data 44 work 6\n"
    ++ codes "0106 01 0000 0100 to 0100 visits 1 time 6 instruction 5 data 0 work 1 next-at 7\n"
    ++ codes "total work 19 instruction 93 data 142 cards 0\n" ++ codes "bound 254\n"
unfolding first digits
wait_lines = refl
