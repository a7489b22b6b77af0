-- How large an analysis is, as it is held.
use Rattle.std.specs.Prelude.{◌≡◌, ℕ, List, Option, length}
use Rattle.base_words.specs.declared.word.Word.{Word}
use Rattle.base_notes.specs.Allowed.{Notes}
use Rattle.flow_graph.specs.Flow.{AreFound}
use Rattle.bound_scan.specs.declared.analysis.Analysis.{Analysis}
use Rattle.bound_scan.specs.AnalysisOf.{counts_in_all, rows_of}
use Rattle.print_walks.specs.declared.size.Size.{Size}
use Rattle.print_walks.specs.SizeText.{hops_among}

-- The numbers are those of the executed locations of a deck under its notes, and of the analysis.
pub record IsSizeOf (loads : ℕ → Option Word) (notes : Notes) (start : ℕ) (analysis : Analysis)
    (size : Size) : Type 0 where
  pub executed : List ℕ
  pub found : AreFound loads notes start executed
  pub words : size.words ≡ length executed
  pub hops : size.hops ≡ hops_among loads notes executed
  pub counts : size.counts ≡ counts_in_all analysis
  pub keys : size.keys ≡ length (rows_of analysis)
