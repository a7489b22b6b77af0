-- What is known of documents: their bound, a worst walk, a ceiling, alone and with a walk, and what
-- limits a run of theirs.
use Rattle.std.specs.Prelude.{◌≡◌, ℕ, ◌^◌, ◌<◌, List, IsTrue, not, ◌⊎◌}
use Rattle.read_decks.specs.InDeck.{loads_in, start_in}
use Rattle.base_notes.specs.Short.{is_short}
use Rattle.flow_graph.specs.declared.refusal.Refusal.{Refusal}
use Rattle.flow_graph.specs.declared.refusal.Refusal.TheVariants.{TooLarge}
use Rattle.flow_graph.specs.Accepted.{IsTooLarge, product_of, capped}
use Rattle.flow_graph.specs.Executed.{IsOrder}
use Rattle.flow_graph.specs.Refused.{IsDiscoveryRefusal}
use Rattle.flow_acceptance.specs.Acceptance.{IsAdmissionRefusal, IsRefusal}
use Rattle.flow_walks.specs.Visited.{AreLongest, Visited, IsWalkOf}
use Rattle.bound_scan.specs.BoundOf as of_setting
use Rattle.ceiling_checked.specs.declared.answer.Ceiling.{Ceiling}
use Rattle.ceiling_checked.specs.CeilingOf.{IsCeilingOf, IsCeilingRefusal, total_of}
use Rattle.ceiling_checked.specs.Right.{IsTooDear}
use Rattle.ceiling_checked.specs.declared.bracket.Bracket.{Bracket}
use Rattle.ceiling_checked.specs.BracketOf.{IsBracketOf}
use Rattle.print_lines.specs.declared.fault.Fault.{Fault}
use Rattle.print_lines.specs.declared.fault.Fault.TheVariants as fault
use Rattle.print_lines.specs.declared.limit.Limit.{Limit}
use Rattle.print_lines.specs.declared.limit.Limit.TheVariants as limit
use Rattle.read_documents.specs.declared.documents.Documents.{Documents}
use Rattle.read_documents.specs.Documents.{setting_of}

-- their bound
abbrev pub IsBound : Documents → ℕ → Type 0
IsBound documents bound = of_setting.IsBound (setting_of documents) bound

-- a walk of this time, from this angle, each of whose hops takes as long as it can
abbrev pub IsWorstWalk : Documents → ℕ → ℕ → List Visited → Type 0
IsWorstWalk documents bound angle walk =
    IsWalkOf (setting_of documents) angle bound walk × AreLongest (setting_of documents) angle walk

-- a ceiling of theirs, each number of which is right: no walk takes more than its total, and no run
-- that keeps to the notes ever uses more; its prices pay for every round of the marks
abbrev pub IsCeiling : Documents → Ceiling → Type 0
IsCeiling documents = IsCeilingOf documents.deck documents.times documents.notes

-- a ceiling of theirs, with a walk in rounds, each hop as long as it can be
abbrev pub IsBracket : Documents → Bracket → Type 0
IsBracket documents = IsBracketOf documents.deck documents.times documents.notes

-- the fault is a refusal, of which this is so
abbrev pub IsRefusedFor : (Refusal → Type 0) → Fault → Type 0
IsRefusedFor Is (fault.Refused refusal) = Is refusal
IsRefusedFor Is _ = ⊥

-- why they have no bound: the deck with its notes is refused
abbrev pub IsAnalysisFault : Documents → Fault → Type 0
IsAnalysisFault documents =
    IsRefusedFor (IsRefusal (loads_in documents.deck) documents.notes (start_in documents.deck))

-- why their flow graph isn't drawn, nor looked at: it has too many nodes, or there is no memory
abbrev pub IsDiscoveryFault : Documents → Fault → Type 0
IsDiscoveryFault documents = IsRefusedFor
    (IsDiscoveryRefusal (loads_in documents.deck) documents.notes (start_in documents.deck))

-- why they have no ceiling: the deck with its notes is refused, but for its size; or what no
-- ceiling is above is 2 ^ 127 or more
abbrev pub IsCeilingFault : Documents → Fault → Type 0
IsCeilingFault documents =
    IsRefusedFor (IsCeilingRefusal documents.deck documents.times documents.notes)

-- the deck with its notes is too large for a bound, and this is the product
abbrev pub IsTooLargeForBound : Documents → ℕ → Type 0
IsTooLargeForBound documents =
    IsTooLarge (loads_in documents.deck) documents.notes (start_in documents.deck)

-- their notes are short, so that they go by the bound
abbrev pub AreShort : Documents → Type 0
AreShort documents = IsTrue (is_short documents.notes)

-- or they are long
abbrev pub AreLong : Documents → Type 0
AreLong documents = IsTrue (not (is_short documents.notes))

-- they are too large for a bound, or have long notes, which go by none
abbrev pub HaveNoBound : Documents → Type 0
HaveNoBound documents =
    (AreShort documents × (product : ℕ) × IsTooLargeForBound documents product)
    ⊎ AreLong documents

-- What a run that keeps to the notes uses at most: of short notes the bound; where there is none
-- for the size alone, and of long notes, the total of a ceiling that is below 2 ^ 50.
abbrev pub IsLimit : Documents → Limit → ℕ → Type 0
IsLimit documents limit.Bound most = AreShort documents × IsBound documents most
IsLimit documents limit.Ceiling most =
    HaveNoBound documents
    × ((ceiling : Ceiling) × IsCeiling documents ceiling × (most ≡ total_of ceiling))
    × (most < 2 ^ 50)

-- executed words times counts, as it is told
abbrev pub IsProduct : Documents → ℕ → Type 0
IsProduct documents product =
    (executed : List ℕ)
    × IsOrder (loads_in documents.deck) documents.notes (start_in documents.deck) executed
    × (product ≡ capped (product_of executed documents.notes.marks))

-- Why there is neither: the deck with its notes is refused, but for its size; or they have no
-- bound, and what no ceiling is above is 2 ^ 50 or more. Then the product is told.
abbrev pub IsLimitRefusal : Documents → Refusal → Type 0
IsLimitRefusal documents (TooLarge product) =
    HaveNoBound documents × IsProduct documents product × IsTooDear (setting_of documents) (2 ^ 50)
IsLimitRefusal documents refusal =
    IsAdmissionRefusal (loads_in documents.deck) documents.notes (start_in documents.deck) refusal

abbrev pub IsLimitFault : Documents → Fault → Type 0
IsLimitFault documents = IsRefusedFor (IsLimitRefusal documents)
