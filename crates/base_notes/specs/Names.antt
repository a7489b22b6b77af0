-- Names of marks.
use Rattle.std.specs.Prelude.{ℕ, nat_le, ◌==◌, ◌||◌, ◌&&◌, Bool, List, length}
use Rattle.std.specs.Char.{is_ascii_alphanumeric}
use Rattle.std.specs.List.{list_all}

-- the character is a letter from A to Z or a to z, a digit, or '-', which is 45
abbrev pub is_of_name : ℕ → Bool
is_of_name character = is_ascii_alphanumeric character || character == 45

-- 1 to 20 such characters
abbrev pub is_name : List ℕ → Bool
is_name text = nat_le 1 (length text) && nat_le (length text) 20 && list_all is_of_name text
