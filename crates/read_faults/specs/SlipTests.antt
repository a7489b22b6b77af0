-- Tests of a line's bytes, which say what was done to it.
use Rattle.std.specs.Prelude.{ℕ, Bool, false, not, ◌==◌, ◌&&◌, ◌||◌, nat_le, nat_lt, List, [], ◌∷◌}
use Rattle.std.specs.Prelude.{length, drop, count_by, codes, if◌then◌else◌}
use Rattle.std.specs.List.{list_all, list_any, slice_split, zip, starts_with, ends_with}

-- it begins with these bytes
abbrev pub begins : List ℕ → List ℕ → Bool
begins line bytes = starts_with (λ a b. a == b) line bytes

-- it ends with this byte
abbrev pub ends : List ℕ → ℕ → Bool
ends line byte = ends_with (λ a b. a == b) line (byte ∷ [])

-- it has this byte
abbrev pub has : List ℕ → ℕ → Bool
has line byte = list_any (λ other. other == byte) line

-- It begins with the mark of UTF-16, of either order, or has a byte 0.
abbrev pub has_utf16 : List ℕ → Bool
has_utf16 line =
    begins line (255 ∷ 254 ∷ []) || begins line (254 ∷ 255 ∷ []) || has line 0

-- it has a byte from `a` to `z`
abbrev pub has_small_letter : List ℕ → Bool
has_small_letter line = list_any (λ byte. nat_le 97 byte && nat_le byte 122) line

abbrev pub is_digit : ℕ → Bool
is_digit byte = nat_le 48 byte && nat_le byte 57

-- `+` or `-`
abbrev pub is_sign : ℕ → Bool
is_sign byte = byte == 43 || byte == 45

-- of two neighbours the one is a digit, and the other is one of two letters
abbrev pub is_beside_digit : ℕ → ℕ → ℕ → ℕ → Bool
is_beside_digit one other left right =
    (left == one || left == other) && is_digit right
    || is_digit left && (right == one || right == other)

-- One of two letters stands right beside a digit, before it or behind it.
abbrev pub has_beside_digit : ℕ → ℕ → List ℕ → Bool
has_beside_digit one other line =
    list_any (λ pair. is_beside_digit one other pair.0 pair.1) (zip line (drop 1 line))

-- what stands between blanks
abbrev pub pieces : List ℕ → List (List ℕ)
pieces line = slice_split (λ byte. byte == 32) line

-- ten digits
abbrev pub is_unsigned : List ℕ → Bool
is_unsigned piece = (length piece == 10) && list_all is_digit piece

-- a sign and ten digits
abbrev pub is_word : List ℕ → Bool
is_word [] = false
is_word (byte ∷ bytes) = is_sign byte && is_unsigned bytes

-- it begins with a digit, as a location does
abbrev pub begins_location : List ℕ → Bool
begins_location [] = false
begins_location (byte ∷ bytes) = is_digit byte

-- it begins with neither a digit nor a sign
abbrev pub begins_comment : List ℕ → Bool
begins_comment [] = false
begins_comment (byte ∷ bytes) = not (is_digit byte || is_sign byte)

-- It begins with a digit, and among its pieces are a word and the beginning of a comment.
abbrev pub has_comment_behind : List ℕ → Bool
has_comment_behind line =
    begins_location line && list_any is_word (pieces line) && list_any begins_comment (pieces line)

-- It begins with a digit, and more than seven of its pieces are words.
abbrev pub has_many_words : List ℕ → Bool
has_many_words line = begins_location line && nat_lt 7 (count_by is_word (pieces line))

-- whether a byte is what a form has there; `0` in a form stands for any digit
abbrev pub is_of : ℕ → ℕ → Bool
is_of mark byte = if mark == 48 then is_digit byte else byte == mark

-- its first bytes have this form
abbrev pub begins_as : List ℕ → List ℕ → Bool
begins_as form bytes =
    nat_le (length form) (length bytes)
    && list_all (λ pair. is_of pair.0 pair.1) (zip form bytes)

-- all its bytes have this form
abbrev pub has_form : List ℕ → List ℕ → Bool
has_form form bytes = (length bytes == length form) && begins_as form bytes

-- a location, and behind it an operation, perhaps with a sign, a D and an I, with blanks between
abbrev pub is_in_parts : List ℕ → Bool
is_in_parts line =
    begins_as (codes "0000 00 0000 0000") line || begins_as (codes "0000 +00 0000 0000") line
    || begins_as (codes "0000 -00 0000 0000") line

-- ten digits and a sign
abbrev pub is_signed_behind : List ℕ → Bool
is_signed_behind piece =
    has_form (codes "0000000000+") piece || has_form (codes "0000000000-") piece

abbrev pub has_sign_behind : List ℕ → Bool
has_sign_behind line = list_any is_signed_behind (pieces line)

-- a location and a colon
abbrev pub has_colon : List ℕ → Bool
has_colon line = begins_as (codes "0000:") line

-- A card or a load card of inputs, with other than ten pieces behind its name.
abbrev pub is_card_of_other_length : List ℕ → Bool
is_card_of_other_length line =
    (begins line (codes "CARD ") || begins line (codes "LOAD "))
    && not (length (pieces line) == 11)

-- an angle of inputs, of one digit
abbrev pub is_angle_of_one_digit : List ℕ → Bool
is_angle_of_one_digit line = has_form (codes "ANGLE 0") line
