-- Definitions evaluated, with answers that were worked out apart from them: a deck of three words that goes round. The
-- second adds or subtracts, and may stop for an overflow; the third writes it, and goes on at the first.
use Rattle.std.proofs.Common.{◌≡◌, ℕ, ◌<◌, ◌≤◌, ◌^◌, false, true, List, [], ◌∷◌, ◌++◌, map, refl, arith, None, Option, Some}
use Rattle.std.specs.Prelude.{codes, ◌==◌, if◌then◌else◌}
use Rattle.std.specs.Fmt.{digits}
use Rattle.base_words.specs.declared.location.Location.{Location}
use Rattle.base_words.specs.declared.word.Word.{Word}
use Rattle.base_words.specs.Location.{IsLocation}
use Rattle.base_words.specs.Word.{word}
use Rattle.base_notes.specs.declared.notes.mark.Mark.{Mark}
use Rattle.base_notes.specs.declared.notes.pattern.Pattern.{Pattern}
use Rattle.base_notes.specs.declared.notes.programmed.Programmed.TheVariants as switch
use Rattle.base_notes.specs.Allowed.{Notes}
use Rattle.flow_graph.specs.Executed.{each_place}
use Rattle.flow_graph.specs.Hops as flow
use Rattle.print_graphs.specs.Graph.{Node, nexts, node}
use Rattle.print_graphs.specs.GraphText.{edge_text, graph_text, mark_label}

abbrev loads : ℕ → Option Word
loads n =
    if n == 100 then Some (word false 6501200110)
    else if n == 110 then Some (word false 1501200120)
    else if n == 120 then Some (word false 2001100100) else None

parts : (16 < 100) × (120 ≤ 120) × (120 < 10 ^ 4)
parts = (omega arith, omega arith, omega arith)

abbrev subtracting : Pattern
subtracting = record {
  op = 16;
  d_from = 120;
  d_to = 120;
  i = 120;
  two = parts.0;
  ordered = parts.1;
  four = parts.2;
  next_four = parts.2;
}

are_there : IsLocation 100 × IsLocation 110 × IsLocation 120
are_there = ((omega arith, λ past. omega arith), (omega arith, λ past. omega arith), (omega arith, λ past. omega arith))

abbrev first : Location
first = record { number = 100; exists = are_there.0 }

abbrev second : Location
second = record { number = 110; exists = are_there.1 }

abbrev third : Location
third = record { number = 120; exists = are_there.2 }

few : (3 ≤ 9999) × (10 ≤ 9999)
few = (omega arith, omega arith)

-- the one mark stands on an edge that isn't there, the other on the edge that leads back
abbrev marks : List Mark
marks =
    record { from = first; onto = third; others = []; most = 3; inside = None; name = None; four_digits = few.0 }
    ∷ record { from = third; onto = first; others = []; most = 10; inside = None; name = None; four_digits = few.1 } ∷ []

abbrev notes : Notes
notes = record {
  programmed = switch.Stop;
  load_cards = false;
  marks = marks;
  lists = record { location = 110; patterns = subtracting ∷ [] } ∷ [];
  calls = [];
}

abbrev nodes : List Node
nodes =
    record {
      place = 100;
      further = [];
      operations = 65 ∷ [];
      is_listed = false;
      is_unfit = false;
      may_stop = false;
      nexts = 110 ∷ [];
      written = [];
    }
    ∷ record {
      place = 110;
      further = [];
      operations = 15 ∷ 16 ∷ [];
      is_listed = true;
      is_unfit = false;
      may_stop = true;
      nexts = 120 ∷ [];
      written = [];
    }
    ∷ record {
      place = 120;
      further = [];
      operations = 20 ∷ [];
      is_listed = false;
      is_unfit = false;
      may_stop = false;
      nexts = 100 ∷ [];
      written = 110 ∷ [];
    }
    ∷ []

-- without calls there is a node of the flow graph at each location
abbrev at_place : ℕ → flow.Node
at_place place = record { place = place; ways = [] }

abbrev reached : List flow.Node
reached = map at_place (100 ∷ 110 ∷ 120 ∷ [])

the_nodes : map (node loads notes reached) (each_place reached) ≡ nodes
the_nodes = refl

the_text : graph_text marks [] 100 nodes
    ≡ codes "digraph deck {\n"
    ++ codes "node [shape=box]\n"
    ++ codes "start [shape=point]\n"
    ++ codes "start -> 0100\n"
    ++ codes "0100 [label=\"0100 65\"]\n"
    ++ codes "0100 -> 0110\n"
    ++ codes "0110 [label=\"0110 15 16\" style=dashed peripheries=2]\n"
    ++ codes "0110 -> 0120\n"
    ++ codes "0120 [label=\"0120 20\"]\n"
    ++ codes "0120 -> 0100 [label=\"mark 2 most 10\" penwidth=3]\n"
    ++ codes "0120 -> 0110 [style=dotted]\n"
    ++ codes "}\n"
unfolding digits
the_text = refl

-- a mark with a name
abbrev named : List Mark
named =
    record {
      from = third;
      onto = first;
      others = [];
      most = 10;
      inside = None;
      name = Some (codes "cards");
      four_digits = few.1;
    }
    ∷ []

of_name : mark_label named (Some 0) ≡ codes " [label=\"mark 1 most 10 name cards\" penwidth=3]"
unfolding digits
of_name = refl

-- a mark that stands inside another
abbrev within : List Mark
within =
    record { from = first; onto = third; others = []; most = 3; inside = None; name = None; four_digits = few.0 }
    ∷ record { from = third; onto = first; others = []; most = 10; inside = Some 0; name = None; four_digits = few.1 }
    ∷ []

of_inside : mark_label within (Some 1) ≡ codes " [label=\"mark 2 most 10 inside 1\" penwidth=3]"
unfolding digits
of_inside = refl

-- an edge that closes a loop, and the same edge the other way round
abbrev word_at : ℕ → Node
word_at place = node loads notes (at_place place ∷ []) place

of_loop : edge_text [] ((120, 100) ∷ []) (word_at 120) 100 ≡ codes "0120 -> 0100 [color=red]\n"
of_loop = refl

of_no_loop : edge_text [] ((120, 100) ∷ []) (word_at 100) 120 ≡ codes "0100 -> 0120\n"
of_no_loop = refl

-- a location that is neither loaded nor listed has its location alone, is grey, and ends
of_nothing : graph_text [] [] 1999 (node loads notes (at_place 1999 ∷ []) 1999 ∷ [])
    ≡ codes "digraph deck {\nnode [shape=box]\nstart [shape=point]\nstart -> 1999\n"
    ++ codes "1999 [label=\"1999\" style=filled fillcolor=lightgrey]\n}\n"
of_nothing = refl

-- the third word, which may go on at the first or at the second, as the exit of a call
within_four : (0 < 100) × (0 ≤ 0) × (0 < 10 ^ 4) × (100 < 10 ^ 4) × (110 < 10 ^ 4)
within_four = (omega arith, omega arith, omega arith, omega arith, omega arith)

abbrev to_first : Pattern
to_first = record {
  op = 0;
  d_from = 0;
  d_to = 0;
  i = 100;
  two = within_four.0;
  ordered = within_four.1;
  four = within_four.2;
  next_four = within_four.3;
}

abbrev to_second : Pattern
to_second = record {
  op = 0;
  d_from = 0;
  d_to = 0;
  i = 110;
  two = within_four.0;
  ordered = within_four.1;
  four = within_four.2;
  next_four = within_four.4;
}

abbrev called : Notes
called = record {
  programmed = switch.Stop;
  load_cards = false;
  marks = [];
  lists = record { location = 120; patterns = to_first ∷ to_second ∷ [] } ∷ [];
  calls = record { edge = record { from = first; onto = second }; exit = third; back = second } ∷ [];
}

abbrev exit_with : Option ℕ → flow.Node
exit_with way = record { place = 120; ways = way ∷ [] }

-- it goes to the way back that is open, where one is, and any other word goes on wherever it may
of_open : nexts loads called (exit_with (Some 110) ∷ exit_with None ∷ []) 120 ≡ 110 ∷ []
of_open = refl

of_closed : nexts loads called (exit_with None ∷ []) 120 ≡ []
of_closed = refl

of_other : nexts loads called (record { place = 110; ways = None ∷ [] } ∷ []) 110 ≡ 120 ∷ []
of_other = refl

without : nexts loads (record called { calls = [] }) (at_place 120 ∷ []) 120 ≡ 100 ∷ 110 ∷ []
without = refl
