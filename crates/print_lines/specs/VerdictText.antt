-- The line of a replay's verdict. A location has four digits, a word a sign and ten, and other
-- numbers are plain decimal.
use Rattle.std.specs.Prelude.{ℕ, List, ◌++◌, codes, decimal}
use Rattle.base_words.specs.Numeral.{digits_of}
use Rattle.base_words.specs.Word.{spelling}
use Rattle.machine_steps.specs.declared.left.Left.{Left}
use Rattle.machine_steps.specs.declared.left.Left.TheVariants.{Unlisted, TooOften, Switch, LoadCard}
use Rattle.machine_steps.specs.declared.left.Left.TheVariants.{NotBack}
use Rattle.machine_steps.specs.declared.why.Why as whys
use Rattle.machine_steps.specs.declared.why.Why.TheVariants as why
use Rattle.print_lines.specs.declared.limit.Limit.{Limit}
use Rattle.print_lines.specs.declared.limit.Limit.TheVariants.{Bound, Ceiling}
use Rattle.machine_steps.specs.declared.verdict.Verdict.{Verdict}
use Rattle.machine_steps.specs.declared.verdict.Verdict.TheVariants as verdict

-- what the reason of a stop is called
abbrev pub why_name : whys.Why → List ℕ
why_name why.Operation = codes "operation"
why_name why.Operand = codes "operand"
why_name why.Card = codes "card"
why_name why.Quotient = codes "quotient"
why_name why.Overflow = codes "overflow"
why_name why.Digit = codes "digit"
why_name why.Programmed = codes "programmed"
why_name why.Next = codes "next"

-- the run leaves the notes in this way at this step, with `used` word times used before it
abbrev pub left_text : Left → ℕ → ℕ → List ℕ
left_text (Unlisted location word) step used =
    codes "left unlisted " ++ digits_of 4 location.number ++ codes " " ++ spelling word
    ++ codes " step " ++ decimal step ++ codes " used " ++ decimal used ++ codes "\n"
left_text (TooOften from onto) step used =
    codes "left toooften " ++ digits_of 4 from.number ++ codes " " ++ digits_of 4 onto.number
    ++ codes " step " ++ decimal step ++ codes " used " ++ decimal used ++ codes "\n"
left_text (NotBack exit onto) step used =
    codes "left notback " ++ digits_of 4 exit.number ++ codes " " ++ digits_of 4 onto.number
    ++ codes " step " ++ decimal step ++ codes " used " ++ decimal used ++ codes "\n"
left_text Switch step used =
    codes "left switch step " ++ decimal step ++ codes " used " ++ decimal used ++ codes "\n"
left_text LoadCard step used =
    codes "left loadcard step " ++ decimal step ++ codes " used " ++ decimal used ++ codes "\n"

-- what a limit is called, between two numbers
abbrev pub limit_name : Limit → List ℕ
limit_name Bound = codes " bound "
limit_name Ceiling = codes " ceiling "

-- the line of a verdict on a run whose word times are limited so
abbrev pub verdict_text : Limit → Verdict → List ℕ
verdict_text limit (verdict.Kept used bound because) =
    codes "kept used " ++ decimal used ++ limit_name limit ++ decimal bound
    ++ codes " stop " ++ why_name because ++ codes "\n"
verdict_text limit (verdict.Left what step used) = left_text what step used
