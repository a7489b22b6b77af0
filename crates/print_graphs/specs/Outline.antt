-- The outline of a flow graph: words that go straight on from one to the next are one box.
use Rattle.std.specs.Prelude.{ℕ, ◌==◌, ◌&&◌, ◌||◌, not, Bool, if◌then◌else◌, List, [], ◌∷◌}
use Rattle.std.specs.Prelude.{◌++◌, count_by, fold, length, is_some}
use Rattle.std.specs.List.{list_any}
use Rattle.base_notes.specs.declared.notes.mark.Mark.{Mark}
use Rattle.base_notes.specs.Marks.{mark_on}
use Rattle.flow_graph.specs.Executed.{with_new}
use Rattle.flow_graph.specs.Taken.{is_among}
use Rattle.print_graphs.specs.Graph.{Node, last_word}
use Rattle.print_graphs.specs.GraphText.{is_loop}

-- whether some word writes the word at a location
abbrev pub is_written : List Node → ℕ → Bool
is_written words place = list_any (λ word. is_among word.written place) words

-- whether one word alone goes on at a location
abbrev pub is_come_to_once : List Node → ℕ → Bool
is_come_to_once words place = count_by (λ word. is_among word.nexts place) words == 1

-- whether a word may stand in a box behind another: it has no list, is fit, isn't where the run
-- begins, is written by none, and come to from one alone
abbrev pub may_follow : ℕ → List Node → Node → Bool
may_follow start words word =
    not (word.is_listed || word.is_unfit || start == word.place || is_written words word.place)
    && is_come_to_once words word.place

-- whether an edge neither has a mark nor lacks one
abbrev pub is_bare : List Mark → List (ℕ × ℕ) → ℕ → ℕ → Bool
is_bare marks loops from onto =
    not (is_some (mark_on marks from onto)) && not (is_loop loops from onto)

-- whether a box goes straight on to a location: its last word has no list, and goes on there and
-- nowhere else, by a bare edge
abbrev pub goes_straight : List Mark → List (ℕ × ℕ) → ℕ → Node → Bool
goes_straight marks loops onto box =
    not box.is_listed && length box.nexts == 1 && is_among box.nexts onto
    && is_bare marks loops (last_word box) onto

-- a box with one word more
abbrev pub join : Node → Node → Node
join box word = record {
  place = box.place;
  further = box.further ++ word.place ∷ [];
  operations = box.operations;
  is_listed = box.is_listed;
  is_unfit = box.is_unfit;
  may_stop = box.may_stop || word.may_stop;
  nexts = word.nexts;
  written = with_new box.written word.written;
}

-- the boxes with a word more, which stands behind the box that goes straight on to it
abbrev pub put_behind : List Mark → List (ℕ × ℕ) → List Node → Node → List Node
put_behind marks loops [] word = word ∷ []
put_behind marks loops (box ∷ boxes) word =
    if goes_straight marks loops word.place box then join box word ∷ boxes
    else box ∷ put_behind marks loops boxes word

-- or is a box of its own
abbrev pub put : List Mark → List (ℕ × ℕ) → ℕ → List Node → List Node → Node → List Node
put marks loops start words boxes word =
    if may_follow start words word then put_behind marks loops boxes word else boxes ++ word ∷ []

-- The boxes of the words of a flow graph, which are put one after the other in the order of
-- discovery: there a word stands behind the only one that goes on at it.
abbrev pub outlined : List Mark → List (ℕ × ℕ) → ℕ → List Node → List Node
outlined marks loops start words = fold (put marks loops start words) [] words
