-- Where nothing is found, the deck with its notes is admitted; and accepted, where they are short.
use Rattle.std.proofs.Common.{◌≡◌, ℕ, ◌≤◌, Bool, true, false, List, [], ◌∷◌, ◌++◌, map, refl, ap, sym, ◌∙◌, subst}
use Rattle.std.proofs.Common.{inl, inr, ◌⊎◌, Option, is_some}
use Rattle.std.specs.Prelude.{Contains, length, IsSome, IsTrue, cond, flat_map, ◌||◌}
use Rattle.base_words.specs.declared.instruction.Instruction.{Instruction}
use Rattle.base_words.specs.declared.word.Word.{Word}
use Rattle.base_words.specs.Op.{op_of}
use Rattle.base_notes.specs.Allowed.{Notes, allowed, is_listed}
use Rattle.base_notes.specs.Short.{is_short}
use Rattle.machine_steps.specs.Writes.{writes}
use Rattle.base_graphs.specs.Graph.{LeadRound}
use Rattle.base_graphs.proofs.Lists.{contains_here, contains_none}
use Rattle.flow_graph.specs.Accepted.{IsAccepted, IsAdmitted, IsFixed, IsFreeLink, IsInProfile, IsThere, product_of}
use Rattle.flow_graph.specs.Executed.{AreAllNodes}
use Rattle.flow_graph.specs.Flow.{AreFound}
use Rattle.flow_graph.specs.Hops.{IsExecuted, Node}
use Rattle.flow_acceptance.proofs.Acceptances.{one_order, one_reached}
use Rattle.flow_loops.specs.Loops.{IsFreeBeside}
use Rattle.check_findings.specs.Finding.{Finding, not_loaded, not_in_profile, alters}
use Rattle.check_findings.specs.FoundAt.{altered, altered_by, altering, is_fixed, not_there}
use Rattle.check_findings.specs.FoundAt.{operations_outside}
use Rattle.check_findings.specs.Idle.{idle_words}
use Rattle.check_findings.specs.UnchangedParts.{kept_of}
use Rattle.check_findings.specs.FoundAt.{outside, too_many, unfit, unused, unused_calls}
use Rattle.check_findings.proofs.Fixeds.{fixed_so}
use Rattle.check_findings.proofs.Outsides.{outside_of}
use Rattle.check_findings.proofs.Nothing.{before_nothing, both_nothing, each_nothing, in_filter, in_flat_map, none_added, of_nothing}
use Rattle.check_deck.specs.Findings.{AreFindings}
use Rattle.check_deck.specs.Findings.{inside_at, AreLooseEnds, IsUnsaid, pairs_of}
use Rattle.proved_laws.proofs.Sizes.{short_plain, told_small}
use Rattle.check_deck.proofs.Tellings.{told_none}
use Rattle.check_deck.proofs.Unsaids.{those_one}

-- edges free of marks where there are none that close loops
pub round_left : (loads : ℕ → Option Word) (notes : Notes) (edges : List (ℕ × ℕ)) (first node : Node)
    (nodes : List Node) → edges ≡ [] → LeadRound (IsFreeLink loads notes) first node nodes
    → LeadRound (IsFreeBeside loads notes edges) first node nodes
round_left loads notes edges first node [] none round =
    (round, λ there. contains_none _ (subst (λ (all : List (ℕ × ℕ)). Contains all (node.place, first.place)) none there))
round_left loads notes edges first node (next ∷ nodes) none round = (
  (
    round.0,
    λ there. contains_none _ (subst (λ (all : List (ℕ × ℕ)). Contains all (node.place, next.place)) none there),
  ),
  round_left loads notes edges first next nodes none round.1,
)

-- a location that isn't found to be missing is there
told_there : (loads : ℕ → Option Word) (notes : Notes) (place : ℕ) → not_there loads notes place ≡ []
    → IsThere loads notes place
told_there loads notes place none = go (is_some (loads place)) (is_listed notes place) refl refl none
  where
    go : (a b : Bool) → is_some (loads place) ≡ a → is_listed notes place ≡ b
        → cond (a || b) [] (not_loaded place ∷ []) ≡ [] → IsSome (loads place) ⊎ IsTrue (is_listed notes place)
    go true b e f h = inl e
    go false true e f h = inr f
    go false false e f h = cc

-- an operation that isn't found to be outside the profile is in it
told_inside : (loads : ℕ → Option Word) (notes : Notes) (place : ℕ) → operations_outside loads notes place ≡ []
    → IsInProfile loads notes place
told_inside loads notes place none ins there = go (is_some (op_of ins.op)) refl
  where
    go : (b : Bool) → is_some (op_of ins.op) ≡ b → is_some (op_of ins.op) ≡ true
    go true e = e
    go false e =
        let alone : outside ins.op ≡ ins.op ∷ [] = ap (λ (b : Bool). cond b [] (ins.op ∷ [])) e in
        absurd (none_added (flat_map outside_of (allowed loads notes place)) ins.op none
        (in_flat_map outside_of (allowed loads notes place) ins ins.op there
        (subst (λ (all : List ℕ). Contains all ins.op) (sym alone) (contains_here ins.op []))))

-- the loose ends are one list
pub one_loose : (loads : ℕ → Option Word) (notes : Notes) (start : ℕ) (executed : List ℕ) (nodes : List Node)
    (some others : List Finding) → AreLooseEnds loads notes start executed nodes some
    → AreLooseEnds loads notes start executed nodes others → some ≡ others
one_loose loads notes start executed nodes some others one other =
    one.all
    ∙ ap (λ (pairs : List (ℕ × ℕ)). unused loads notes executed nodes ++ unused_calls loads notes executed nodes
    ++ idle_words loads notes executed ++ map (inside_at notes.marks) pairs)
    (those_one (IsUnsaid loads notes start nodes) (pairs_of notes.marks) one.pairs other.pairs one.unsaid other.unsaid)
    ∙ sym other.all

module _ (loads : ℕ → Option Word) (notes : Notes) (start : ℕ) (executed : List ℕ) (nodes : List Node)
    (findings : List Finding) (found : AreFound loads notes start executed) (reached : AreAllNodes loads notes start nodes)
    (a : AreFindings loads notes start findings) (alone : AreLooseEnds loads notes start executed nodes findings) where
  -- an instruction that isn't found to alter anything alters nothing
  told_unaltered : (place : ℕ) (ins : Instruction) (at : ℕ) → altered loads notes a.executed place ≡ []
      → Contains (allowed loads notes place) ins → Contains (writes ins) at → ¬ IsFixed loads notes start at
  told_unaltered place ins at none there written fixed =
      none_added (flat_map (altered_by notes a.executed) (allowed loads notes place)) at none
      (in_flat_map (altered_by notes a.executed) (allowed loads notes place) ins at there
      (in_filter (is_fixed notes a.executed) (writes ins) at
      (fixed_so notes a.executed at (a.found.all at fixed.0) fixed.1) written))

  same_executed : executed ≡ a.executed
  same_executed = one_order loads notes start executed a.executed found.order a.found.order

  same_nodes : nodes ≡ a.nodes
  same_nodes = one_reached loads notes start nodes a.nodes reached a.reached

  -- what keeps the deck from a bound
  abbrev in_the_way : List Finding
  in_the_way = flat_map (unfit loads notes) a.executed ++ flat_map (altering loads notes a.executed) a.executed
      ++ too_many notes (product_of a.executed notes.marks) ++ a.loops

  none_in_the_way : in_the_way ≡ []
  none_in_the_way =
      let here : AreLooseEnds loads notes start a.executed a.nodes findings =
      subst (λ (all : List Node). AreLooseEnds loads notes start a.executed all findings) same_nodes
      (subst (λ (places : List ℕ). AreLooseEnds loads notes start places nodes findings) same_executed alone) in
      before_nothing in_the_way a.loose
      (one_loose loads notes start a.executed a.nodes a.loose findings a.are_loose here ∙ a.all)

  none_but_loops : (flat_map (unfit loads notes) a.executed
      ++ flat_map (altering loads notes a.executed) a.executed ++ too_many notes (product_of a.executed notes.marks) ≡ [])
      × (a.loops ≡ [])
  none_but_loops = both_nothing (flat_map (unfit loads notes) a.executed
      ++ flat_map (altering loads notes a.executed) a.executed ++ too_many notes (product_of a.executed notes.marks))
      a.loops (sym none_in_the_way)

  none_but_size : (flat_map (unfit loads notes) a.executed ++ flat_map (altering loads notes a.executed) a.executed ≡ [])
      × (too_many notes (product_of a.executed notes.marks) ≡ [])
  none_but_size = both_nothing (flat_map (unfit loads notes) a.executed
      ++ flat_map (altering loads notes a.executed) a.executed) (too_many notes (product_of a.executed notes.marks))
      (sym none_but_loops.0)

  pub silent_admitted : IsAdmitted loads notes start executed
  silent_admitted =
      let two = both_nothing (flat_map (unfit loads notes) a.executed)
      (flat_map (altering loads notes a.executed) a.executed) (sym none_but_size.0) in
      let no_edges : a.edges ≡ [] = told_none loads notes start a.nodes a.edges a.loops a.told none_but_loops.1 in
      let fit : (place : ℕ) → IsExecuted loads notes start place
      → (not_there loads notes place ≡ []) × (operations_outside loads notes place ≡ []) = λ place executed.
      let both = both_nothing (not_there loads notes place)
      (map (not_in_profile place) (operations_outside loads notes place))
      (sym (each_nothing (unfit loads notes) a.executed place two.0 (a.found.all place executed))) in
      (both.0, of_nothing (not_in_profile place) (operations_outside loads notes place) both.1) in
      let unaltered : (place : ℕ) → IsExecuted loads notes start place → altered loads notes a.executed place ≡ [] =
      λ place executed. of_nothing (λ (word : ℕ). alters place word (kept_of loads notes place word))
      (altered loads notes a.executed place)
      (each_nothing (altering loads notes a.executed) a.executed place two.1 (a.found.all place executed)) in
      subst (IsAdmitted loads notes start) (sym same_executed) (record {
        order = a.found.order;
        few =
            subst (λ (all : List Node). length all ≤ 65536)
            (one_reached loads notes start a.nodes a.found.order.nodes a.reached a.found.order.reached) a.few;
        there = λ place executed. told_there loads notes place (fit place executed).0;
        profile = λ place executed. told_inside loads notes place (fit place executed).1;
        unaltered =
            λ place ins at executed there written. told_unaltered place ins at (unaltered place executed) there written;
        bounded =
            λ first others reached closed. a.closing.enough first others reached
            (round_left loads notes a.edges first first others no_edges closed);
      })

  pub silent_accepted : is_short notes ≡ true → IsAccepted loads notes start executed
  silent_accepted short = record {
    admitted = silent_admitted;
    small =
        subst (λ (all : List ℕ). product_of all notes.marks ≤ 4000000) (sym same_executed)
        (told_small notes (product_of a.executed notes.marks) short none_but_size.1);
    plain = short_plain notes short;
  }
