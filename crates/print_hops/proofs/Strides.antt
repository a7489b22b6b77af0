-- The answer of a step is about its stride's hop.
use Rattle.std.proofs.Common.{◌≡◌, ℕ, Bool, List, ap, sym, ◌∙◌, Option}
use Rattle.base_words.specs.declared.instruction.Instruction.{Instruction}
use Rattle.base_words.specs.declared.location.Location.{Location}
use Rattle.base_words.specs.declared.word.Word.{Word}
use Rattle.base_words.specs.Instruction.{instruction_of}
use Rattle.machine_steps.specs.declared.why.Why as whys
use Rattle.machine_steps.specs.Ending.{ended_by, stops_by}
use Rattle.machine_steps.specs.Run.{Stride, time_after}
use Rattle.machine_steps.specs.Step.{Stepped, on, stopped, fetched, instruction_in}
use Rattle.machine_steps.specs.Ways.{Way, to}
use Rattle.machine_emulator.specs.declared.step.Step.TheVariants.{Went, Stopped}
use Rattle.machine_emulator.specs.Machine.{Tells}
use Rattle.flow_graph.specs.RunHops.{hop_of}
use Rattle.flow_walks.specs.Visited.{visited}

-- a visit of the hop's parts is the hop
same_visit : (stride : Stride) (place begun ended : ℕ) (ins : Instruction) (way : Way)
    → place ≡ stride.origin.sought → ins ≡ instruction_in stride.origin → way ≡ ended_by stride.outcome
    → stride.origin.time ≡ begun → ended ≡ time_after stride.outcome
    → record { place = place; ins = ins; way = way; begun = begun; ended = ended } ≡ visited (hop_of stride)
same_visit stride place begun ended ins way p q r s t =
    let begins : begun ≡ stride.origin.time = sym s in
    rw (p, q, r, begins, t)

-- a step that goes on
pub went_on : (stride : Stride) (outcome : Stepped) (origin from next : Location) (word : Word) (load read : Bool)
    (words punch : Option (List Word)) (used before : ℕ) (ins : Instruction)
    → stride.outcome ≡ outcome
    → Tells outcome origin (fetched stride.origin) load words (Went from word next used read punch)
    → origin.number ≡ stride.origin.sought → stride.origin.time ≡ before → ins ≡ instruction_of word
    → record { place = from.number; ins = ins; way = to next.number; begun = before; ended = used }
    ≡ visited (hop_of stride)
went_on stride (on s) origin from next word load read words punch used before ins is tells sought time of =
    same_visit stride from.number before used ins (to next.number)
    (ap (λ (place : Location). place.number) tells.0 ∙ sought)
    (of ∙ ap instruction_of tells.1) (ap to tells.2 ∙ sym (ap ended_by is)) time (tells.3 ∙ sym (ap time_after is))
went_on stride (stopped held because moment) origin from next word load read words punch used before ins is tells sought
    time of = cc

-- a step that stops
pub stopped_there : (stride : Stride) (outcome : Stepped) (origin from : Location) (word : Word) (load : Bool)
    (words : Option (List Word)) (why : whys.Why) (used before : ℕ) (ins : Instruction) (way : Way)
    → stride.outcome ≡ outcome → Tells outcome origin (fetched stride.origin) load words (Stopped from word why used)
    → origin.number ≡ stride.origin.sought → stride.origin.time ≡ before → ins ≡ instruction_of word → way ≡ stops_by why
    → record { place = from.number; ins = ins; way = way; begun = before; ended = used } ≡ visited (hop_of stride)
stopped_there stride (on s) origin from word load words why used before ins way is tells sought time of ends =
    absurd tells
stopped_there stride (stopped held because moment) origin from word load words why used before ins way is tells sought
    time of ends =
    let place : from ≡ origin = cc in
    let fetch : word ≡ fetched stride.origin = cc in
    let same : why ≡ because = cc in
    let late : used ≡ moment = cc in
    same_visit stride from.number before used ins way (ap (λ (place : Location). place.number) place ∙ sought)
    (of ∙ ap instruction_of fetch) (ends ∙ ap stops_by same ∙ sym (ap ended_by is)) time (late ∙ sym (ap time_after is))
