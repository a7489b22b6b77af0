-- Definitions evaluated, with answers that were worked out apart from them.
use Rattle.std.proofs.Common.{◌≡◌, false, List, [], ◌∷◌, length, refl}
use Rattle.std.specs.Prelude.{codes, nat_lt}
use Rattle.std.specs.Fmt.{digits}
use Rattle.base_words.specs.Instruction.{instruction_of}
use Rattle.base_words.specs.Word.{word}
use Rattle.machine_steps.specs.Ways.{to, late}
use Rattle.flow_walks.specs.Visited.{Visited}
use Rattle.print_walks.specs.Report.{mark_line, time_in, used_after, visits_at}
use Rattle.proved_laws.proofs.SmallTable.{named, plain}

-- a walk of two words: the first takes 55 word times, the second one
abbrev walk : List Visited
walk =
    record { place = 100; ins = instruction_of (word false 6901030106); way = to 106; begun = 0; ended = 55 }
    ∷ record { place = 106; ins = instruction_of (word false 100000106); way = late; begun = 55; ended = 56 } ∷ []

below_106 : (length (visits_at (λ place. nat_lt place 106) walk) ≡ 1)
    × (time_in (visits_at (λ place. nat_lt place 106) walk) ≡ 55)
below_106 = (refl, refl)

all_of_it : (length walk ≡ 2) × (time_in walk ≡ 56) × (used_after 0 walk ≡ 56)
all_of_it = (refl, refl, refl)

none_of_it : visits_at (λ place. false) walk ≡ []
none_of_it = refl

of_no_hops : (time_in [] ≡ 0) × (used_after 0 [] ≡ 0)
of_no_hops = (refl, refl)

-- marks of the edge by which the walk goes on
of_marks :
    (mark_line walk plain ≡ codes "mark 0100 0106 passed 1 of 12\n")
    × (mark_line walk named ≡ codes "mark 0100 0106 passed 1 of 12 name cards\n")
unfolding digits
of_marks = (refl, refl)
