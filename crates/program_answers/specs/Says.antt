-- What is said of documents, and when.
use Rattle.std.specs.Prelude.{◌≡◌, ℕ, List, ◌⊎◌, length}
use Rattle.read_decks.specs.InDeck.{loads_in, start_in}
use Rattle.base_notes.specs.Entries.{entry_in}
use Rattle.flow_graph.specs.Accepted.{counts_of}
use Rattle.flow_graph.specs.Bounded.{IsDeckAccepted}
use Rattle.flow_graph.specs.Flow.{AreFound}
use Rattle.flow_walks.specs.Visited.{Visited}
use Rattle.bound_scan.specs.Table.{IsTable, Row}
use Rattle.ceiling_rounds.specs.InRounds as walks
use Rattle.ceiling_checked.specs.CeilingOf as ceilings
use Rattle.ceiling_checked.specs.declared.bracket.Bracket.{Bracket}
use Rattle.flow_loops.specs.Loops.{AreClosing}
use Rattle.program_command.specs.declared.command.Question.{Question}
use Rattle.program_command.specs.declared.command.Question.TheVariants.{Bound, Report, Walk, Waits}
use Rattle.program_command.specs.declared.command.Question.TheVariants.{Table, Size, Graph, Outline}
use Rattle.program_command.specs.declared.command.Question.TheVariants.{Draw, Ceiling}
use Rattle.print_lines.specs.declared.fault.Fault.{Fault}
use Rattle.print_lines.specs.declared.status.Status.TheVariants.{Done}
use Rattle.print_lines.specs.Reply.{Reply, bound_reply, says}
use Rattle.print_graphs.specs.Graph.{AreNodes, Node}
use Rattle.print_graphs.specs.GraphText.{graph_text}
use Rattle.print_graphs.specs.Outline.{outlined}
use Rattle.print_walks.specs.Report.{report_text}
use Rattle.print_hops.specs.KindsOf.{waited_of}
use Rattle.print_hops.specs.Waits.{AreDearestFirst}
use Rattle.print_hops.specs.WaitsText.{waits_text}
use Rattle.print_hops.specs.WalkText.{walk_text}
use Rattle.print_walks.specs.SizeText.{hops_among, size_text}
use Rattle.print_walks.specs.TableText.{AreInOrder, table_text}
use Rattle.print_ceilings.specs.CeilingText.{ceiling_text}
use Rattle.print_ceilings.specs.RoundsText.{rounds_text}
use Rattle.print_ceilings.specs.RoundsWaits.{rounds_waits_text}
use Rattle.print_ceilings.specs.SpelledOut.{AreSpelledOut}
use Rattle.picture_scene.specs.declared.walk.Kind.TheVariants.{InRounds, Worst}
use Rattle.picture_drawing.specs.PictureText.{IsPictureOf}
use Rattle.read_documents.specs.declared.documents.Documents.{Documents}
use Rattle.read_documents.specs.Documents.{setting_of}
use Rattle.program_limits.specs.Limits.{AreShort, HaveNoBound, IsAnalysisFault, IsBound, IsBracket}
use Rattle.program_limits.specs.Limits.{IsCeilingFault, IsDiscoveryFault, IsWorstWalk}
use Rattle.program_answers.specs.Shares.{shares_of}

-- ---- what is said

-- a report of a walk, a walk from an angle, one in rounds, the kinds of the hops of each, a table,
-- a size, a flow graph, its outline, a picture, and a ceiling
abbrev pub report_reply : Documents → List Visited → Reply
report_reply documents walk = says (report_text documents.deck documents.notes walk) Done

abbrev pub walk_reply : Documents → ℕ → List Visited → ℕ → Reply
walk_reply documents angle walk bound =
    says (walk_text (entry_in documents.times) angle walk bound) Done

abbrev pub rounds_reply : Documents → Bracket → Reply
rounds_reply documents bracket = says (rounds_text (entry_in documents.times) bracket) Done

abbrev pub waits_reply : Documents → ℕ → List Visited → List Visited → ℕ → Reply
waits_reply documents angle walk firsts bound =
    says (waits_text (entry_in documents.times) angle walk firsts bound) Done

abbrev pub rounds_waits_reply : Documents → Bracket → List Visited → List Visited → Reply
rounds_waits_reply documents bracket visits firsts =
    says (rounds_waits_text (entry_in documents.times) bracket visits firsts) Done

abbrev pub table_reply : Documents → List Row → Reply
table_reply documents rows = says (table_text documents.notes.marks rows) Done

abbrev pub size_reply : Documents → List ℕ → List Row → Reply
size_reply documents executed rows =
    says (size_text (length executed)
    (hops_among (loads_in documents.deck) documents.notes executed)
    (counts_of documents.notes.marks) (length rows)) Done

abbrev pub graph_reply : Documents → List (ℕ × ℕ) → List Node → Reply
graph_reply documents loops nodes =
    says (graph_text documents.notes.marks loops (start_in documents.deck) nodes) Done

abbrev pub outline_reply : Documents → List (ℕ × ℕ) → List Node → Reply
outline_reply documents loops words =
    graph_reply documents loops
    (outlined documents.notes.marks loops (start_in documents.deck) words)

abbrev pub picture_reply : List ℕ → Reply
picture_reply picture = says picture Done

abbrev pub ceiling_reply : Documents → Bracket → Reply
ceiling_reply documents bracket = says (ceiling_text documents.notes bracket) Done

-- ---- what is said of documents

abbrev pub SaysBound : Documents → Reply → Type 0
SaysBound documents reply =
    (bound : ℕ) × IsBound documents bound × (reply ≡ bound_reply bound)

-- the report of a walk that takes as long as the bound
abbrev pub SaysReport : Documents → Reply → Type 0
SaysReport documents reply =
    (bound : ℕ) × IsBound documents bound
    × (angle : ℕ) × (walk : List Visited) × IsWorstWalk documents bound angle walk
    × (reply ≡ report_reply documents walk)

-- such a walk itself
abbrev pub SaysWalk : Documents → Reply → Type 0
SaysWalk documents reply =
    (bound : ℕ) × IsBound documents bound
    × (angle : ℕ) × (walk : List Visited) × IsWorstWalk documents bound angle walk
    × (reply ≡ walk_reply documents angle walk bound)

-- and where there is none, a walk in rounds
abbrev pub SaysRounds : Documents → Bracket → Reply → Type 0
SaysRounds documents bracket reply = reply ≡ rounds_reply documents bracket

-- where the word times of such a walk go: a line for each kind of its hops, the dearest first
abbrev pub SaysWaits : Documents → Reply → Type 0
SaysWaits documents reply =
    (bound : ℕ) × IsBound documents bound
    × (angle : ℕ) × (walk : List Visited) × IsWorstWalk documents bound angle walk
    × (firsts : List Visited) × AreDearestFirst walk firsts
    × (reply ≡ waits_reply documents angle walk firsts bound)

-- and where there is none, where those of a walk in rounds go: the same of the hops that its pieces
-- spell out
abbrev pub SaysRoundsWaits : Documents → Bracket → Reply → Type 0
SaysRoundsWaits documents bracket reply =
    (visits : List Visited) × AreSpelledOut (setting_of documents) bracket.walk visits
    × (firsts : List Visited) × AreDearestFirst visits firsts
    × (reply ≡ rounds_waits_reply documents bracket visits firsts)

-- the table of worst times, in order
abbrev pub SaysTable : Documents → Reply → Type 0
SaysTable documents reply =
    (rows : List Row) × IsTable (setting_of documents) rows
    × (sorted : List Row) × AreInOrder rows sorted × (reply ≡ table_reply documents sorted)

-- how large the analysis is, where the deck with its notes is accepted: how many locations are
-- executed, and how many entries the table of worst times has
abbrev pub SaysSize : Documents → Reply → Type 0
SaysSize documents reply =
    IsDeckAccepted (setting_of documents)
    × (executed : List ℕ)
    × AreFound (loads_in documents.deck) documents.notes (start_in documents.deck) executed
    × (rows : List Row) × IsTable (setting_of documents) rows
    × (reply ≡ size_reply documents executed rows)

-- the flow graph, whatever keeps the deck from having a bound under its notes, with the edges that
-- close its loops
abbrev pub SaysGraph : Documents → Reply → Type 0
SaysGraph documents reply =
    (nodes : List Node)
    × AreNodes (loads_in documents.deck) documents.notes (start_in documents.deck) nodes
    × (loops : List (ℕ × ℕ))
    × AreClosing (loads_in documents.deck) documents.notes (start_in documents.deck) loops
    × (reply ≡ graph_reply documents loops nodes)

-- its outline: the boxes of its words, with the same edges
abbrev pub SaysOutline : Documents → Reply → Type 0
SaysOutline documents reply =
    (words : List Node)
    × AreNodes (loads_in documents.deck) documents.notes (start_in documents.deck) words
    × (loops : List (ℕ × ℕ))
    × AreClosing (loads_in documents.deck) documents.notes (start_in documents.deck) loops
    × (reply ≡ outline_reply documents loops words)

-- a picture that begins with the bound, and ends with where the word times of such a walk go; what
-- it shows between isn't said
abbrev pub SaysPicture : Documents → Reply → Type 0
SaysPicture documents reply =
    (bound : ℕ) × IsBound documents bound
    × (angle : ℕ) × (walk : List Visited) × IsWorstWalk documents bound angle walk
    × (picture : List ℕ)
    × IsPictureOf Worst bound
    (shares_of bound (waited_of (entry_in documents.times) angle walk)) picture
    × (reply ≡ picture_reply picture)

-- and where there is none, one that begins with what a walk in rounds takes, and the ceiling, and
-- ends with where the word times of the hops go that its pieces spell out
abbrev pub SaysPictureInRounds : Documents → Bracket → Reply → Type 0
SaysPictureInRounds documents bracket reply =
    (visits : List Visited) × AreSpelledOut (setting_of documents) bracket.walk visits
    × (picture : List ℕ)
    × IsPictureOf (InRounds (ceilings.total_of bracket.ceiling)) (walks.total_of bracket.walk)
    (shares_of (walks.total_of bracket.walk)
    (waited_of (entry_in documents.times) (walks.angle_of bracket.walk) visits)) picture
    × (reply ≡ picture_reply picture)

-- a ceiling with a walk in rounds, each of whose numbers is right
abbrev pub SaysCeiling : Documents → Reply → Type 0
SaysCeiling documents reply =
    (bracket : Bracket) × IsBracket documents bracket × (reply ≡ ceiling_reply documents bracket)

-- What is said by the bound, where the notes are short and there is one; in every other case by a
-- ceiling with a walk in rounds.
abbrev pub ByEither : (Documents → Reply → Type 0) → (Documents → Bracket → Reply → Type 0)
    → Documents → Reply → Type 0
ByEither ByBound ByCeiling documents reply =
    (AreShort documents × ByBound documents reply)
    ⊎ (HaveNoBound documents × (bracket : Bracket) × IsBracket documents bracket
    × ByCeiling documents bracket reply)

-- what is said of documents, where this is asked of them
abbrev pub Says : Question → Documents → Reply → Type 0
Says Bound = SaysBound
Says Report = SaysReport
Says Walk = ByEither SaysWalk SaysRounds
Says Waits = ByEither SaysWaits SaysRoundsWaits
Says Table = SaysTable
Says Size = SaysSize
Says Graph = SaysGraph
Says Outline = SaysOutline
Says Draw = ByEither SaysPicture SaysPictureInRounds
Says Ceiling = SaysCeiling

-- why nothing is said of them: the deck with its notes is refused; of the flow graph and its
-- outline, which any deck has, that there are too many nodes, or no memory
abbrev pub Refuses : Question → Documents → Fault → Type 0
Refuses Bound = IsAnalysisFault
Refuses Report = IsAnalysisFault
Refuses Walk = IsCeilingFault
Refuses Waits = IsCeilingFault
Refuses Table = IsAnalysisFault
Refuses Size = IsAnalysisFault
Refuses Graph = IsDiscoveryFault
Refuses Outline = IsDiscoveryFault
Refuses Draw = IsCeilingFault
Refuses Ceiling = IsCeilingFault
