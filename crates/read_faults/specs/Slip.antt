-- What was done to a line.
use Rattle.std.specs.Prelude.{ℕ, List, [], ◌∷◌, ◌==◌, length, if◌then◌else◌, Option, Some, None}
use Rattle.std.specs.List.{list_any}
use Rattle.read_faults.specs.declared.slip.Slip.{Slip}
use Rattle.read_faults.specs.declared.slip.Slip.TheVariants.{ByteOrderMark, Utf16, CarriageReturn}
use Rattle.read_faults.specs.declared.slip.Slip.TheVariants.{Empty, Tab, BlankAtEnd, CommentBehind}
use Rattle.read_faults.specs.declared.slip.Slip.TheVariants.{LetterO, LetterL, NoSign, ManyWords}
use Rattle.read_faults.specs.declared.slip.Slip.TheVariants.{InParts, SignBehind, Colon}
use Rattle.read_faults.specs.declared.slip.Slip.TheVariants.{NotTenWords, OneDigit, SmallLetters}
use Rattle.read_faults.specs.SlipTests.{begins, ends, has, has_utf16, has_small_letter, pieces}
use Rattle.read_faults.specs.SlipTests.{has_beside_digit, is_unsigned, has_comment_behind}
use Rattle.read_faults.specs.SlipTests.{has_many_words, is_in_parts, has_sign_behind, has_colon}
use Rattle.read_faults.specs.SlipTests.{is_card_of_other_length, is_angle_of_one_digit}

-- what is told of the form of a line: the first of these that fits
abbrev pub slip_in_form : List ℕ → Option Slip
slip_in_form line =
    if is_in_parts line then Some InParts
    else if has_sign_behind line then Some SignBehind
    else if has_colon line then Some Colon
    else if is_card_of_other_length line then Some NotTenWords
    else if is_angle_of_one_digit line then Some OneDigit
    else if has_small_letter line then Some SmallLetters
    else None

-- what is told of the words of a line: the first of these that fits, and else of its form
abbrev pub slip_in_words : List ℕ → Option Slip
slip_in_words line =
    if has_comment_behind line then Some CommentBehind
    else if has_beside_digit 79 111 line then Some LetterO
    else if has_beside_digit 73 108 line then Some LetterL
    else if list_any is_unsigned (pieces line) then Some NoSign
    else if has_many_words line then Some ManyWords
    else slip_in_form line

-- what was done to a line: the first of these that fits, and else what is told of its words
abbrev pub slip_in : List ℕ → Option Slip
slip_in line =
    if begins line (239 ∷ 187 ∷ 191 ∷ []) then Some ByteOrderMark
    else if has_utf16 line then Some Utf16
    else if ends line 13 then Some CarriageReturn
    else if length line == 0 then Some Empty
    else if has line 9 then Some Tab
    else if ends line 32 then Some BlankAtEnd
    else slip_in_words line

-- what was done to a line that is past a limit, for which only UTF-16 is looked for
abbrev pub slip_in_long : List ℕ → Option Slip
slip_in_long line = if has_utf16 line then Some Utf16 else None
