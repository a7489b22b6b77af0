-- The lines of what was found. A location has four digits, an operation two, and other numbers are
-- plain decimal.
use Rattle.std.specs.Prelude.{ℕ, List, ◌++◌, ◌==◌, if◌then◌else◌, codes, decimal, flat_map}
use Rattle.base_words.specs.Numeral.{digits_of}
use Rattle.check_findings.specs.Finding.{Finding, not_loaded, not_in_profile, alters, too_large}
use Rattle.check_findings.specs.Finding.{closes, unused_mark, unused_list, unused_call, idle}
use Rattle.check_findings.specs.Finding.{inside}

abbrev pub finding_text : Finding → List ℕ
finding_text (not_loaded place) = codes "notloaded " ++ digits_of 4 place ++ codes "\n"
finding_text (not_in_profile place op) =
    codes "notinprofile " ++ digits_of 4 place ++ codes " " ++ digits_of 2 op ++ codes "\n"
finding_text (alters writer word kept) =
    codes "alters " ++ digits_of 4 writer ++ codes " " ++ digits_of 4 word ++ codes "\n"
finding_text (too_large product) = codes "toolarge " ++ decimal product ++ codes "\n"
finding_text (closes edge number) =
    codes "loop " ++ digits_of 4 edge.0 ++ codes " " ++ digits_of 4 edge.1 ++ codes "\n"
finding_text (unused_mark edge) =
    codes "unused mark " ++ digits_of 4 edge.0 ++ codes " " ++ digits_of 4 edge.1 ++ codes "\n"
finding_text (unused_list place) = codes "unused list " ++ digits_of 4 place ++ codes "\n"
finding_text (unused_call edge) =
    codes "unused call " ++ digits_of 4 edge.0 ++ codes " " ++ digits_of 4 edge.1 ++ codes "\n"
finding_text (idle first last) =
    codes "idle " ++ digits_of 4 first
    ++ (if first == last then codes "\n" else codes " to " ++ digits_of 4 last ++ codes "\n")
finding_text (inside inner outer) =
    codes "inside " ++ digits_of 4 inner.0 ++ codes " " ++ digits_of 4 inner.1 ++ codes " "
    ++ digits_of 4 outer.0 ++ codes " " ++ digits_of 4 outer.1 ++ codes "\n"

abbrev pub findings_text : List Finding → List ℕ
findings_text findings = flat_map finding_text findings
