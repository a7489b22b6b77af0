-- Pieces of lines, as the code writes them.
use Rattle.std.specs.Prelude.{ℕ, ◌-◌, List, [], ◌++◌, codes, decimal, Option, Some, None}
use Rattle.base_words.specs.declared.word.Word.{Word}
use Rattle.base_words.specs.Numeral.{digits_of}
use Rattle.base_words.specs.Word.{spelling}
use Rattle.base_words.specs.Op.{op_of}
use Rattle.machine_steps.specs.Contents.{Contents}
use Rattle.flow_walks.specs.Visited.{Visited}
use Rattle.print_hops.specs.declared.moments.Moments.{Moments}
use Rattle.print_hops.specs.declared.sums.Sums.{Sums}
use Rattle.print_hops.specs.ContentsText.{acted_text, acting, registers_text}
use Rattle.print_hops.specs.MomentsText.{moment_text, moments_text}

-- a moment with its name, in numbers of any width, where there is one
abbrev pub named_text : {X : Type 0} → (X → List ℕ) → List ℕ → Option X → List ℕ
named_text {X} text name None = []
named_text {X} text name (Some moment) = name ++ text moment

-- moments, when the step ends, and what comes last
abbrev pub told_text : {X : Type 0} → (X → List ℕ) → X → Option X → Option X → X → List ℕ
    → List ℕ
told_text {X} text found ready operand ended last =
    codes " found " ++ text found ++ named_text text (codes " ready ") ready
    ++ named_text text (codes " data ") operand ++ codes " ended " ++ text ended ++ last

-- the moments, when the step ends, and what comes last
abbrev pub times_text : Moments → ℕ → List ℕ → List ℕ
times_text moments ended last = moments_text moments ++ codes " ended " ++ decimal ended ++ last

-- what hops of a kind take in all
abbrev pub sums_text : Sums → List ℕ
sums_text sums =
    codes " time " ++ decimal sums.time ++ codes " instruction " ++ decimal sums.instruction
    ++ codes " data " ++ decimal sums.operand
    ++ codes " work " ++ decimal (sums.time - sums.instruction - sums.operand)

-- the angles at which they would wait for nothing
abbrev pub angles_text : Option ℕ → Option ℕ → List ℕ
angles_text d next =
    moment_text (codes " data-at ") d ++ moment_text (codes " next-at ") next ++ codes "\n"

-- what a machine holds after a hop, and what that did to words of the drum
abbrev pub held_text : Visited → Contents → List ℕ
held_text hop c =
    registers_text c
    ++ acted_text (acting hop.way (op_of hop.ins.op) hop.ins.d) hop.ins.d c.drum ++ codes "\n"

-- the number of a step, where it begins, the word that it has fetched there, and when it begins
abbrev pub fetch_text : ℕ → ℕ → Word → ℕ → List ℕ
fetch_text number place word begun =
    codes "step " ++ decimal number ++ codes " " ++ digits_of 4 place
    ++ codes " " ++ spelling word ++ codes " begun " ++ decimal begun
