-- The notes that are lacking, as TOML: a mark for each edge that closes a loop, or for several that
-- share it, with the number of the mark inside which it stands, and a list for each word that is
-- altered, with as much of its own instruction as all of its writers keep. What has to be thought
-- about is left empty, and no notes are read before it is filled in.
use Rattle.std.specs.Prelude.{ℕ, ◌+◌, ◌==◌, nat_lt, ◌&&◌, ◌||◌, not, Bool}
use Rattle.std.specs.Prelude.{if◌then◌else◌, List, [], ◌∷◌, ◌++◌, codes, count_by, decimal, map}
use Rattle.std.specs.Prelude.{flat_map, length, Option, Some, None, is_some}
use Rattle.std.specs.List.{list_all, list_any}
use Rattle.base_words.specs.declared.word.Word.{Word}
use Rattle.base_words.specs.Word.{spelling}
use Rattle.base_notes.specs.Allowed.{Notes}
use Rattle.base_notes.specs.Short.{is_short}
use Rattle.flow_graph.specs.Executed.{with_new}
use Rattle.check_findings.specs.declared.unchanged_parts.UnchangedParts.{UnchangedParts}
use Rattle.check_findings.specs.declared.within.Within.{Within}
use Rattle.check_findings.specs.declared.within.Within.TheVariants as within
use Rattle.check_findings.specs.Finding.{Finding, alters, closes}
use Rattle.check_findings.specs.Shared.{asks_for_mark, asks_to_share, is_shared, shared_onto}
use Rattle.check_findings.specs.FindingsText.{findings_text}

-- the word that a finding says is altered
abbrev pub altered_word : Finding → List ℕ
altered_word (alters writer word kept) = word ∷ []
altered_word _ = []

-- what a finding says that a writer of the word keeps of it
abbrev pub kept_in : ℕ → Finding → List UnchangedParts
kept_in word (alters writer other kept) = if other == word then kept ∷ [] else []
kept_in word _ = []

-- a part that all of some writers keep
abbrev pub stays : (UnchangedParts → Option ℕ) → List UnchangedParts → Option ℕ
stays part [] = None
stays part (kept ∷ others) =
    if list_all (λ other. is_some (part other)) others then part kept else None

-- the word as it is loaded, which is the same for all of its writers
abbrev pub loaded_by : List UnchangedParts → Option Word
loaded_by [] = None
loaded_by (kept ∷ others) = kept.loaded

-- what they all keep
abbrev pub kept_by_all : List UnchangedParts → UnchangedParts
kept_by_all all = record {
  op = stays (λ kept. kept.op) all;
  d = stays (λ kept. kept.d) all;
  i = stays (λ kept. kept.i) all;
  loaded = loaded_by all;
}

-- a word that is altered, with what all of its writers keep of it
abbrev pub lacking_list : List Finding → ℕ → ℕ × UnchangedParts
lacking_list findings word = (word, kept_by_all (flat_map (kept_in word) findings))

-- those of all words, each once, in order
abbrev pub words_altered : List Finding → List (ℕ × UnchangedParts)
words_altered findings =
    map (lacking_list findings) (with_new [] (flat_map altered_word findings))

-- the line that says inside which other mark a mark stands, by that one's number, if it does, and
-- what the line changes, since that isn't sure to be meant; or why there is no such line
abbrev pub within_text : Within → List ℕ
within_text within.Run = []
within_text (within.Mark number) =
    codes "inside = " ++ decimal number ++ codes " # without this line, most is of the whole run\n"
within_text within.SeveralWays =
    codes "# inside several ways back of one loop: most is of the whole run\n"
within_text within.Shared = []

-- the edge of a mark on one, and an edge of a mark on several
abbrev pub alone_text : ℕ × ℕ → List ℕ
alone_text edge =
    codes "from = " ++ decimal edge.0 ++ codes "\nto = " ++ decimal edge.1 ++ codes "\n"

abbrev pub pair_text : ℕ × ℕ → List ℕ
pair_text edge = codes "[" ++ decimal edge.0 ++ codes ", " ++ decimal edge.1 ++ codes "]"

-- the edge of a finding behind others of its mark, if it shares that, which goes back to `head`
abbrev pub further_text : ℕ → Finding → List ℕ
further_text head finding =
    elim (shared_onto head finding) [
      | None ↦ []
      | Some edge ↦ codes ", " ++ pair_text edge
    ]

-- an edge that comes with a mark on several, and those that share it
abbrev pub several_text : List Finding → ℕ × ℕ → List ℕ
several_text findings edge =
    codes "edges = [" ++ pair_text edge ++ flat_map (further_text edge.1) findings ++ codes "]\n"

abbrev pub edges_text : List Finding → ℕ × ℕ → List ℕ
edges_text findings edge =
    if list_any (λ finding. is_some (shared_onto edge.1 finding)) findings
    then several_text findings edge
    else alone_text edge

abbrev pub mark_text : List Finding → ℕ × ℕ → Within → List ℕ
mark_text findings edge within =
    codes "[[mark]]\nmost =\n" ++ edges_text findings edge ++ within_text within

-- a part that stays; what has to be thought about is left empty
abbrev pub part_text : Option ℕ → List ℕ
part_text None = []
part_text (Some n) = decimal n

-- what is behind the last part: a space, if it stays
abbrev pub gap : Option ℕ → List ℕ
gap None = []
gap (Some n) = codes " "

abbrev pub pattern_text : UnchangedParts → List ℕ
pattern_text kept =
    codes "pattern = [{ op = " ++ part_text kept.op ++ codes ", d_from = " ++ part_text kept.d
    ++ codes ", d_to = " ++ part_text kept.d ++ codes ", i = " ++ part_text kept.i
    ++ gap kept.i ++ codes "}]"

-- the end of the line of a pattern: the word as it is loaded, as a comment, if it is loaded
abbrev pub comment_text : Option Word → List ℕ
comment_text None = codes "\n"
comment_text (Some word) = codes " # loaded: " ++ spelling word ++ codes "\n"

abbrev pub list_text : ℕ × UnchangedParts → List ℕ
list_text lack =
    codes "[[list]]\nlocation = " ++ decimal lack.0 ++ codes "\n" ++ pattern_text lack.1
    ++ comment_text lack.1.loaded

-- the mark that a finding asks for, if it asks for one of its own
abbrev pub mark_for : List Finding → Finding → List ℕ
mark_for findings (closes edge within) =
    if is_shared within then [] else mark_text findings edge within
mark_for findings _ = []

abbrev pub marks_text : List Finding → List ℕ
marks_text findings = flat_map (mark_for findings) findings

abbrev pub marks_lacking : List Finding → ℕ
marks_lacking findings = count_by asks_for_mark findings

-- whether marks are lacking, and the notes are long once they have them: they are so without, or
-- have more than 8 marks then, or one on several edges
abbrev pub are_long : Notes → List Finding → Bool
are_long notes findings =
    nat_lt 0 (marks_lacking findings)
    && (not (is_short notes) || nat_lt 8 (length notes.marks + marks_lacking findings)
    || list_any asks_to_share findings)

-- the line before the marks that says so
abbrev pub long_text : Bool → List ℕ
long_text long =
    if long then codes "# long notes (64 marks at most): "
    ++ codes "not for bound, report, table, size, replay or draw with inputs\n"
    else []

-- what a check prints: a line for each finding, and what is lacking, the marks first; `long` says
-- whether these make long notes
abbrev pub check_text : Bool → List Finding → List ℕ
check_text long findings =
    findings_text findings ++ long_text long ++ marks_text findings
    ++ flat_map list_text (words_altered findings)
