-- What is found of one location, of one edge of a mark, of one list or of one call, and of all of
-- them. `loads` says which word the deck loads into a location.
use Rattle.std.specs.Prelude.{ℕ, nat_lt, if◌then◌else◌, ◌||◌, ◌&&◌, not, Bool, List, [], ◌∷◌, ◌++◌}
use Rattle.std.specs.Prelude.{map, filter, flat_map, Option, is_some}
use Rattle.std.specs.List.{range_with_len}
use Rattle.base_words.specs.declared.instruction.Instruction.{Instruction}
use Rattle.base_words.specs.declared.word.Word.{Word}
use Rattle.base_words.specs.Op.{op_of}
use Rattle.base_notes.specs.declared.notes.call.Call.{Call}
use Rattle.base_notes.specs.declared.notes.mark.Mark.{Mark}
use Rattle.base_notes.specs.Allowed.{Notes, is_listed, allowed}
use Rattle.base_notes.specs.EdgeOf.{edge_of}
use Rattle.base_notes.specs.Marks.{edges_of}
use Rattle.base_notes.specs.Short.{is_short}
use Rattle.machine_steps.specs.Writes.{writes}
use Rattle.flow_graph.specs.Accepted.{capped}
use Rattle.flow_graph.specs.Executed.{with_new}
use Rattle.flow_graph.specs.Hops.{Node}
use Rattle.flow_graph.specs.Taken.{is_among}
use Rattle.check_findings.specs.Edges.{has_edge}
use Rattle.check_findings.specs.Finding.{Finding, not_loaded, not_in_profile, alters, too_large}
use Rattle.check_findings.specs.Finding.{unused_mark, unused_list, unused_call}
use Rattle.check_findings.specs.UnchangedParts.{kept_of}

-- whether a location is loaded or listed
abbrev pub is_there : (ℕ → Option Word) → Notes → ℕ → Bool
is_there loads notes place = is_some (loads place) || is_listed notes place

-- that it is neither, if it is so
abbrev pub not_there : (ℕ → Option Word) → Notes → ℕ → List Finding
not_there loads notes place = if is_there loads notes place then [] else not_loaded place ∷ []

-- an operation, unless it is in the profile
abbrev pub outside : ℕ → List ℕ
outside op = if is_some (op_of op) then [] else op ∷ []

-- the operations outside the profile that are allowed at a location, each once
abbrev pub operations_outside : (ℕ → Option Word) → Notes → ℕ → List ℕ
operations_outside loads notes place =
    with_new [] (flat_map (λ ins. outside ins.op) (allowed loads notes place))

-- what is wrong with a location by itself
abbrev pub unfit : (ℕ → Option Word) → Notes → ℕ → List Finding
unfit loads notes place =
    not_there loads notes place
    ++ map (not_in_profile place) (operations_outside loads notes place)

-- whether a location is one of the executed ones without a list
abbrev pub is_fixed : Notes → List ℕ → ℕ → Bool
is_fixed notes executed place = is_among executed place && not (is_listed notes place)

-- the words that an instruction alters: of those that it writes the executed ones without a list
abbrev pub altered_by : Notes → List ℕ → Instruction → List ℕ
altered_by notes executed ins = filter (is_fixed notes executed) (writes ins)

-- the words that the instructions of a location alter, each once
abbrev pub altered : (ℕ → Option Word) → Notes → List ℕ → ℕ → List ℕ
altered loads notes executed place =
    with_new [] (flat_map (altered_by notes executed) (allowed loads notes place))

-- that they do, and what they keep of each
abbrev pub altering : (ℕ → Option Word) → Notes → List ℕ → ℕ → List Finding
altering loads notes executed place =
    map (λ word. alters place word (kept_of loads notes place word))
    (altered loads notes executed place)

-- that executed words times counts are past 4,000,000, if they are, and the notes are short: no
-- command reads long ones whose work grows with that product
abbrev pub too_many : Notes → ℕ → List Finding
too_many notes product =
    if is_short notes && nat_lt 4000000 product then too_large (capped product) ∷ [] else []

-- that a mark stands on an edge that isn't there
abbrev pub missing : (ℕ → Option Word) → Notes → List Node → ℕ × ℕ → List Finding
missing loads notes nodes edge =
    if has_edge loads notes nodes edge.0 edge.1 then [] else unused_mark edge ∷ []

-- the edges of a mark that aren't there
abbrev pub astray : (ℕ → Option Word) → Notes → List Node → Mark → List Finding
astray loads notes nodes mark = flat_map (missing loads notes nodes) (edges_of mark)

-- a list for a location that isn't executed
abbrev pub unused_list_at : Notes → List ℕ → ℕ → List Finding
unused_list_at notes executed place =
    if is_listed notes place && not (is_among executed place) then unused_list place ∷ [] else []

-- whether a call is used: its edge is there, and its exit is executed
abbrev pub is_used : (ℕ → Option Word) → Notes → List ℕ → List Node → Call → Bool
is_used loads notes executed nodes call =
    has_edge loads notes nodes call.edge.from.number call.edge.onto.number
    && is_among executed call.exit.number

-- that it isn't
abbrev pub unused_call_of : (ℕ → Option Word) → Notes → List ℕ → List Node → Call → List Finding
unused_call_of loads notes executed nodes call =
    if is_used loads notes executed nodes call then [] else unused_call (edge_of call.edge) ∷ []

-- All locations: those on the drum, and those beside it.
unfoldable pub all_locations : List ℕ
all_locations = range_with_len 0 2000 ++ range_with_len 8000 4

-- what the notes say that nothing comes to: each such edge of a mark, in order, and each such list,
-- by its location
abbrev pub unused : (ℕ → Option Word) → Notes → List ℕ → List Node → List Finding
unused loads notes executed nodes =
    flat_map (astray loads notes nodes) notes.marks
    ++ flat_map (unused_list_at notes executed) all_locations

-- and each such call, in order
abbrev pub unused_calls : (ℕ → Option Word) → Notes → List ℕ → List Node → List Finding
unused_calls loads notes executed nodes =
    flat_map (unused_call_of loads notes executed nodes) notes.calls
