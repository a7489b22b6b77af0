-- What may be found.
use Rattle.std.specs.Prelude.{ℕ, Bool, true, false}
use Rattle.check_findings.specs.declared.unchanged_parts.UnchangedParts.{UnchangedParts}
use Rattle.check_findings.specs.declared.within.Within.{Within}

-- something that was found, by the numbers of its locations, its operation or its product; of idle
-- words by the first and the last of those that follow one another; with what a writer keeps of the
-- word that it alters; and of an edge that closes a loop, and so needs a mark, with the mark that
-- this new one is to stand inside of
pub data Finding : Type 0 where
  not_loaded : ℕ → Finding
  not_in_profile : ℕ → ℕ → Finding
  alters : ℕ → ℕ → UnchangedParts → Finding
  too_large : ℕ → Finding
  closes : ℕ × ℕ → Within → Finding
  unused_mark : ℕ × ℕ → Finding
  unused_list : ℕ → Finding
  unused_call : ℕ × ℕ → Finding
  idle : ℕ → ℕ → Finding
  inside : ℕ × ℕ → ℕ × ℕ → Finding

-- Something that may be meant as it is: words that nothing comes to may be kept for later; and
-- where a mark's loop stands inside another one's, and the notes don't say so, the mark may count
-- the whole run.
abbrev pub may_be_meant : Finding → Bool
may_be_meant (idle first last) = true
may_be_meant (inside inner outer) = true
may_be_meant _ = false
