-- The text of a flow graph, in the language DOT. A location has four digits, an operation two, and
-- other numbers are plain decimal.
use Rattle.std.specs.Prelude.{ℕ, ◌+◌, nat_lt, Bool, true, false, if◌then◌else◌, List, [], ◌∷◌}
use Rattle.std.specs.Prelude.{◌++◌}
use Rattle.std.specs.Prelude.{flat_map, length, slice_get, Option, Some, None, codes, decimal}
use Rattle.std.specs.List.{list_any}
use Rattle.base_words.specs.Numeral.{digits_of}
use Rattle.print_lines.specs.NameText.{name_text}
use Rattle.base_notes.specs.declared.notes.mark.Mark.{Mark}
use Rattle.base_notes.specs.Edges.{leads}
use Rattle.base_notes.specs.Marks.{mark_on}
use Rattle.print_graphs.specs.Graph.{Node, last_word}

-- an operation in a label
abbrev pub operation_text : ℕ → List ℕ
operation_text op = codes " " ++ digits_of 2 op

-- the label of several words, behind the first: the last, and how many they are
abbrev pub span_text : Node → List ℕ
span_text node =
    codes " .. " ++ digits_of 4 (last_word node) ++ codes " "
    ++ decimal (length node.further + 1) ++ codes " words"

-- the label of a word, behind its location: the operations that are allowed there
abbrev pub content_text : Node → List ℕ
content_text node =
    elim node.further [
      | [] ↦ flat_map operation_text node.operations
      | word ∷ words ↦ span_text node
    ]

abbrev pub label_text : Node → List ℕ
label_text node = digits_of 4 node.place ++ content_text node

-- how the box of a word is drawn: dashed, where it has a list, and grey, where it is unfit
abbrev pub style_text : Bool → Bool → List ℕ
style_text false false = []
style_text true false = codes " style=dashed"
style_text false true = codes " style=filled fillcolor=lightgrey"
style_text true true = codes " style=\"dashed,filled\" fillcolor=lightgrey"

-- with a double border, where it may stop the run
abbrev pub border_text : Bool → List ℕ
border_text may_stop = if may_stop then codes " peripheries=2" else []

-- the line of a box
abbrev pub box_text : Node → List ℕ
box_text node =
    digits_of 4 node.place ++ codes " [label=\"" ++ label_text node ++ codes "\""
    ++ style_text node.is_listed node.is_unfit ++ border_text node.may_stop ++ codes "]\n"

-- what is said of a mark: its number, from 1, and its most
abbrev pub count_text : ℕ → ℕ → List ℕ
count_text place most =
    codes " [label=\"mark " ++ decimal (place + 1) ++ codes " most " ++ decimal most

-- the number of the mark that it stands inside of, if there is one
abbrev pub inside_text : List Mark → Option ℕ → List ℕ
inside_text marks None = []
inside_text marks (Some outer) =
    if nat_lt outer (length marks) then codes " inside " ++ decimal (outer + 1) else []

-- and its name, if it has one
abbrev pub named_text : Option (List ℕ) → List ℕ
named_text name = name_text name ++ codes "\" penwidth=3]"

abbrev pub mark_text : List Mark → ℕ → Mark → List ℕ
mark_text marks place mark =
    count_text place mark.most ++ inside_text marks mark.inside ++ named_text mark.name

-- what is said of the mark with this index, if there is one
abbrev pub mark_label : List Mark → Option ℕ → List ℕ
mark_label marks None = []
mark_label marks (Some place) =
    elim (slice_get marks place) [ None ↦ [] | Some mark ↦ mark_text marks place mark ]

-- whether an edge is one of those that close loops
abbrev pub is_loop : List (ℕ × ℕ) → ℕ → ℕ → Bool
is_loop loops from onto = list_any (leads from onto) loops

-- such an edge is red
abbrev pub colour_text : Bool → List ℕ
colour_text closes = if closes then codes " [color=red]" else []

abbrev pub end_text : Bool → List ℕ
end_text closes = colour_text closes ++ codes "\n"

-- an arrow from one location to another
abbrev pub arrow_text : ℕ → ℕ → List ℕ
arrow_text from onto = digits_of 4 from ++ codes " -> " ++ digits_of 4 onto

-- the line of an edge of a box, which leads from its last word, with the mark that stands on it;
-- one that closes a loop has none
abbrev pub edge_text : List Mark → List (ℕ × ℕ) → Node → ℕ → List ℕ
edge_text marks loops node onto =
    arrow_text node.place onto ++ mark_label marks (mark_on marks (last_word node) onto)
    ++ end_text (is_loop loops (last_word node) onto)

-- the line of a word that an instruction of a box writes
abbrev pub written_text : ℕ → ℕ → List ℕ
written_text from word =
    digits_of 4 from ++ codes " -> " ++ digits_of 4 word ++ codes " [style=dotted]\n"

-- the lines of a box: itself, its edges, and what it writes
abbrev pub node_text : List Mark → List (ℕ × ℕ) → Node → List ℕ
node_text marks loops node =
    box_text node ++ flat_map (edge_text marks loops node) node.nexts
    ++ flat_map (written_text node.place) node.written

-- the beginning, with an arrow to where the deck starts
abbrev pub head_text : ℕ → List ℕ
head_text start =
    codes "digraph deck {\nnode [shape=box]\nstart [shape=point]\nstart -> " ++ digits_of 4 start
    ++ codes "\n"

-- all of it
abbrev pub graph_text : List Mark → List (ℕ × ℕ) → ℕ → List Node → List ℕ
graph_text marks loops start nodes =
    head_text start ++ flat_map (node_text marks loops) nodes ++ codes "}\n"
