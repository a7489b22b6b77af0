-- The lines of a run's steps. A location has four digits, a word a sign and ten, and other numbers
-- are plain decimal.
use Rattle.std.specs.Prelude.{ℕ, suc, List, [], ◌∷◌, ◌++◌, codes, decimal}
use Rattle.base_words.specs.declared.op.Op.{Op}
use Rattle.base_words.specs.Numeral.{digits_of}
use Rattle.base_words.specs.Op.{op_of}
use Rattle.base_words.specs.Word.{spelling}
use Rattle.base_notes.specs.declared.entry.Entry.{Entry}
use Rattle.machine_steps.specs.Ending.{ended_by}
use Rattle.machine_steps.specs.Run.{Stride, time_after}
use Rattle.machine_steps.specs.Step.{contents_after, fetched, instruction_in}
use Rattle.print_hops.specs.ContentsText.{acted_text, acting, registers_text}
use Rattle.print_hops.specs.Moments.{moments_of}
use Rattle.print_hops.specs.MomentsText.{moments_text}

-- what a stride did to words of the drum, as they stand after it
abbrev pub stride_acted : Stride → List ℕ
stride_acted stride =
    let ins = instruction_in stride.origin in
    acted_text (acting (ended_by stride.outcome) (op_of ins.op) ins.d) ins.d
    (contents_after stride.outcome).drum

-- the line of a stride of a run, which is the one of this number, with what the machine holds after
-- it; of a stride with a card another line
abbrev pub stride_line : (Op → Entry) → ℕ → Stride → List ℕ
stride_line times number stride =
    let s = stride.origin in
    codes "step " ++ decimal number ++ codes " " ++ digits_of 4 s.sought
    ++ codes " " ++ spelling (fetched s) ++ codes " begun " ++ decimal s.time
    ++ moments_text
    (moments_of times s.first_angle s.sought (instruction_in s) (ended_by stride.outcome) s.time)
    ++ codes " ended " ++ decimal (time_after stride.outcome)
    ++ registers_text (contents_after stride.outcome) ++ stride_acted stride ++ codes "\n"

-- the lines of strides, of which the first has this number
abbrev pub stride_lines : (Op → Entry) → ℕ → List Stride → List ℕ
stride_lines times number [] = []
stride_lines times number (stride ∷ strides) =
    stride_line times number stride ++ stride_lines times (suc number) strides
