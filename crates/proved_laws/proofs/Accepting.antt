-- Where the deck with its notes is accepted, or is admitted and the notes are long, nothing is found.
use Rattle.std.proofs.Common.{◌≡◌, ℕ, ◌≤◌, List, [], ◌∷◌, ◌++◌, refl, ap, sym, ◌∙◌, subst}
use Rattle.std.proofs.Common.{Option}
use Rattle.std.specs.Prelude.{Contains, IsTrue, flat_map}
use Rattle.base_words.specs.declared.word.Word.{Word}
use Rattle.base_notes.specs.Allowed.{Notes}
use Rattle.base_notes.specs.Short.{is_short}
use Rattle.base_graphs.specs.Graph.{LeadRound}
use Rattle.base_graphs.proofs.Lists.{contains_here}
use Rattle.flow_graph.specs.Accepted.{IsAccepted, IsAdmitted, IsFreeLink, product_of}
use Rattle.flow_graph.specs.Executed.{AreAllNodes}
use Rattle.flow_graph.specs.Hops.{Node}
use Rattle.flow_acceptance.proofs.Acceptances.{one_order, one_reached}
use Rattle.flow_loops.specs.Loops.{IsFreeBut}
use Rattle.check_findings.specs.Finding.{Finding}
use Rattle.check_findings.specs.FoundAt.{altering, too_many, unfit}
use Rattle.check_findings.proofs.Nothing.{all_nothing}
use Rattle.check_deck.specs.Findings.{AreFindings}
use Rattle.check_deck.specs.Findings.{AreLooseEnds}
use Rattle.proved_laws.proofs.Fits.{good_fit, unaltering}
use Rattle.proved_laws.proofs.Sizes.{long_untold, small_untold}
use Rattle.check_deck.proofs.Tellings.{none_told}

-- what leads round is free of marks
round_free : (loads : ℕ → Option Word) (notes : Notes) (edges : List (ℕ × ℕ)) (edge : ℕ × ℕ) (first node : Node)
    (nodes : List Node) → LeadRound (IsFreeBut loads notes edges edge) first node nodes
    → LeadRound (IsFreeLink loads notes) first node nodes
round_free loads notes edges edge first node [] round = round.0
round_free loads notes edges edge first node (next ∷ nodes) round =
    (round.0.0, round_free loads notes edges edge first next nodes round.1)

module _ (loads : ℕ → Option Word) (notes : Notes) (start : ℕ) (executed : List ℕ) (nodes : List Node)
    (findings : List Finding) (a : AreFindings loads notes start findings) (reached : AreAllNodes loads notes start nodes)
    (admitted : IsAdmitted loads notes start executed) where
  nothing_unfit : (place : ℕ) → Contains a.executed place → unfit loads notes place ≡ []
  nothing_unfit place there =
      let is = a.found.only place there in
      good_fit loads notes place (admitted.there place is, admitted.profile place is)

  nothing_altered : (place : ℕ) → Contains a.executed place → altering loads notes a.executed place ≡ []
  nothing_altered place there =
      unaltering loads notes start a.executed a.found place
      (λ ins has written. admitted.unaltered place ins written.0 (a.found.only place there) has written.1
      written.2)

  no_edge : (edges : List (ℕ × ℕ)) → a.edges ≡ edges → a.edges ≡ []
  no_edge [] same = same
  no_edge (edge ∷ edges) same =
      let there : Contains a.edges edge =
      subst (λ (all : List (ℕ × ℕ)). Contains all edge) (sym same) (contains_here edge edges) in
      let is = a.closing.needed edge there in
      absurd (admitted.bounded is.first is.others is.within
      (round_free loads notes a.edges edge is.first is.first is.others is.closed))

  same : a.executed ≡ executed
  same = one_order loads notes start a.executed executed a.found.order admitted.order

  same_nodes : a.nodes ≡ nodes
  same_nodes = one_reached loads notes start a.nodes nodes a.reached reached

  small_here : product_of executed notes.marks ≤ 4000000 → product_of a.executed notes.marks ≤ 4000000
  small_here small = subst (λ (all : List ℕ). product_of all notes.marks ≤ 4000000) (sym same) small

  none_found : too_many notes (product_of a.executed notes.marks) ≡ [] → AreLooseEnds loads notes start executed nodes findings
  none_found sized =
      let rest : List Finding = a.loose in
      let nothing_else : findings ≡ a.loose = a.all
      ∙ ap (λ (xs : List Finding). xs ++ flat_map (altering loads notes a.executed) a.executed
      ++ too_many notes (product_of a.executed notes.marks) ++ a.loops ++ rest)
      (all_nothing (unfit loads notes) a.executed nothing_unfit)
      ∙ ap (λ (xs : List Finding). xs ++ too_many notes (product_of a.executed notes.marks) ++ a.loops ++ rest)
      (all_nothing (altering loads notes a.executed) a.executed nothing_altered)
      ∙ ap (λ (xs : List Finding). xs ++ a.loops ++ rest) sized
      ∙ ap (λ (xs : List Finding). xs ++ rest)
      (none_told loads notes start a.nodes a.edges a.loops (no_edge a.edges refl) a.told) in
      subst (λ (all : List Finding). AreLooseEnds loads notes start executed nodes all) (sym nothing_else)
      (subst (λ (places : List ℕ). AreLooseEnds loads notes start places nodes a.loose) same
      (subst (λ (all : List Node). AreLooseEnds loads notes start a.executed all a.loose) same_nodes a.are_loose))

  pub admitted_small : product_of executed notes.marks ≤ 4000000 → AreLooseEnds loads notes start executed nodes findings
  admitted_small small =
      none_found (small_untold notes (product_of a.executed notes.marks) (small_here small))

  pub admitted_long : ¬ IsTrue (is_short notes) → AreLooseEnds loads notes start executed nodes findings
  admitted_long long =
      none_found (long_untold notes (product_of a.executed notes.marks) long)

module _ (loads : ℕ → Option Word) (notes : Notes) (start : ℕ) (executed : List ℕ) (nodes : List Node)
    (findings : List Finding) (a : AreFindings loads notes start findings) (reached : AreAllNodes loads notes start nodes) where
  pub accepted_silent : IsAccepted loads notes start executed → AreLooseEnds loads notes start executed nodes findings
  accepted_silent accepted = admitted_small loads notes start executed nodes findings a reached accepted.admitted accepted.small

  pub admitted_silent : ¬ IsTrue (is_short notes) → IsAdmitted loads notes start executed
      → AreLooseEnds loads notes start executed nodes findings
  admitted_silent long admitted = admitted_long loads notes start executed nodes findings a reached admitted long
