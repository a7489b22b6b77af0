-- What a worst walk of documents is told by.
use Rattle.bound_scan.specs.AnalysisOf.{angle_of, bound_of, visits_of}
use Rattle.read_documents.specs.declared.documents.Documents.{Documents}
use Rattle.program_limits.specs.Limits.{AreShort, HaveNoBound, IsBound, IsBracket, IsWorstWalk}
use Rattle.program_answers.specs.declared.basis.Basis.{Basis}
use Rattle.program_answers.specs.declared.basis.Basis.TheVariants.{Bound, Ceiling}

-- Of short notes that have a bound it is the analysis; else a ceiling with a walk in rounds.
abbrev pub IsBasis : Documents → Basis → Type 0
IsBasis documents (Bound analysis) =
    AreShort documents × IsBound documents (bound_of analysis)
    × IsWorstWalk documents (bound_of analysis) (angle_of analysis) (visits_of analysis)
IsBasis documents (Ceiling bracket) = HaveNoBound documents × IsBracket documents bracket
