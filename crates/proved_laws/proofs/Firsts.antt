-- What refuses the analysis is found first: of short notes a bound's refusal, of long ones a ceiling's.
use Rattle.std.proofs.Common.{◌≡◌, ℕ, ◌+◌, ◌<◌, Bool, true, false, List, [], ◌∷◌, ◌++◌, map, length}
use Rattle.std.proofs.Common.{take, drop, refl, ap, sym, ◌∙◌, subst, arith, Option, Some, is_some}
use Rattle.std.specs.Prelude.{Contains, IsTrue, cond, filter, flat_map, slice_get}
use Rattle.std.proofs.lemmas.List.{length-take, get_or-take}
use Rattle.std.proofs.lemmas.Option.{get_or_from_slice_get, slice_get-get_or, slice_get_within}
use Rattle.base_words.specs.declared.instruction.Instruction.{Instruction}
use Rattle.base_words.specs.declared.location.Location.{Location}
use Rattle.base_words.specs.declared.word.Word.{Word}
use Rattle.base_words.specs.Op.{op_of}
use Rattle.base_notes.specs.Allowed.{Notes, allowed}
use Rattle.base_notes.specs.Short.{is_short}
use Rattle.base_graphs.specs.Graph.{IsClosed}
use Rattle.base_graphs.proofs.Lists.{contains_at, contains_here, contains_there}
use Rattle.base_graphs.proofs.Members.{no_more}
use Rattle.flow_graph.specs.declared.refusal.Refusal.{Refusal}
use Rattle.flow_graph.specs.declared.refusal.Refusal.TheVariants.{Memory, NotLoaded, NotInProfile, Alters, Unbounded}
use Rattle.flow_graph.specs.declared.refusal.Refusal.TheVariants.{HasCalls, TooLarge, TooMany}
use Rattle.flow_graph.specs.Accepted as said
use Rattle.flow_graph.specs.Accepted.{IsAltered, IsFirstOutside, IsFreeLink, IsGood, IsLowestAltered, IsMet}
use Rattle.flow_graph.specs.Accepted.{IsFreeRound, IsNotInProfile, IsNotLoaded, IsSound, IsTooLarge, product_of, capped}
use Rattle.flow_graph.specs.Accepted.{IsTooMany}
use Rattle.flow_graph.specs.Executed.{found_after}
use Rattle.flow_graph.specs.Hops.{IsNode, Node}
use Rattle.flow_graph.proofs.Orders.{found_different, has_reached, only_reached}
use Rattle.flow_acceptance.specs.Acceptance.{IsAdmissionRefusal, IsRefusal}
use Rattle.flow_acceptance.proofs.Products.{many_told}
use Rattle.flow_acceptance.proofs.Acceptances.{met_first, one_order}
use Rattle.flow_acceptance.proofs.Alterations.{split_at}
use Rattle.check_findings.specs.Finding.{Finding, not_loaded, not_in_profile, alters, too_large}
use Rattle.check_findings.specs.Finding.{closes}
use Rattle.check_findings.specs.FoundAt.{altered, altered_by, altering, is_fixed, not_there}
use Rattle.check_findings.specs.FoundAt.{operations_outside, outside}
use Rattle.check_findings.specs.FoundAt.{too_many, unfit}
use Rattle.check_findings.specs.declared.within.Within.{Within}
use Rattle.check_findings.specs.UnchangedParts.{kept_of}
use Rattle.check_findings.proofs.Fixeds.{fixed_only, fixed_so}
use Rattle.check_findings.proofs.Outsides.{inside_none, outside_of}
use Rattle.check_findings.proofs.Nothing.{all_nothing}
use Rattle.check_deck.specs.Findings.{AreFindings}
use Rattle.check_deck.specs.First.{BeginsWith, IsFoundFirst}
use Rattle.check_deck.specs.Insides.{AreLoops}
use Rattle.proved_laws.proofs.Begins.{begins_behind, begins_flat, begins_left, begins_lowest, begins_mapped, begins_new}
use Rattle.proved_laws.proofs.Fits.{absent_told, alters_none, good_fit, there_untold, unaltering}
use Rattle.proved_laws.proofs.Silent.{round_left}
use Rattle.proved_laws.proofs.Sizes.{large_told, long_untold, short_plain, small_untold}
use Rattle.check_deck.proofs.Tellings.{first_told}
use Rattle.proved_laws.proofs.WriteRanges.{writes_range}

-- a member of the first `count` has a place among these
taken_at : (xs : List ℕ) (count x : ℕ) → Contains (take count xs) x → (k : ℕ) × (k < count) × (slice_get xs k ≡ Some x)
taken_at xs count x there =
    let at : (k : ℕ) × (slice_get (take count xs) k ≡ Some x) = contains_at (take count xs) x there in
    let inside : at.0 < length (take count xs) = slice_get_within (take count xs) at.0 x at.1 in
    let below : at.0 < count = omega (arith, inside, length-take count xs) in
    let within : at.0 < length xs = omega (arith, inside, length-take count xs) in (
      at.0,
      below,
      slice_get-get_or xs at.0 x within ∙ ap Some (sym (get_or-take count xs at.0 x below)
          ∙ get_or_from_slice_get (take count xs) at.0 x x at.1),
    )

module _ (loads : ℕ → Option Word) (notes : Notes) (start : ℕ) where
  -- an operation outside the profile, of which none comes before it
  outside_first : (place op : ℕ) → IsFirstOutside loads notes place op
      → BeginsWith (operations_outside loads notes place) op
  outside_first place op (ins, (before, after, split, has, none), same) =
      let alone : outside ins.op ≡ ins.op ∷ [] = ap (λ (b : Bool). cond b [] (ins.op ∷ [])) has in
      subst (BeginsWith (operations_outside loads notes place)) same
      (begins_new (flat_map outside_of (allowed loads notes place)) ins.op
      (begins_flat outside_of (allowed loads notes place) before after ins ins.op split
      (λ other there. inside_none other.op (known (is_some (op_of other.op)) refl (none other there))) ([], alone)))
    where
      known : {b : Bool} (a : Bool) → b ≡ a → ¬ (b ≡ false) → b ≡ true
      known true e out = e
      known false e out = absurd (out e)

  -- a location with one isn't good
  outside_not_good : (place op : ℕ) → IsFirstOutside loads notes place op → ¬ IsGood loads notes place
  outside_not_good place op (ins, (before, after, split, has, none), same) good =
      let inside : is_some (op_of ins.op) ≡ true =
      good.1 ins (subst (λ (all : List Instruction). Contains all ins) (sym split) (within before after)) in
      let clash : ◌≡◌ {A = Bool} true false = sym inside ∙ has in
      cc
    where
      within : (before after : List Instruction) → Contains (before ++ ins ∷ after) ins
      within [] after = contains_here ins after
      within (one ∷ before) after = contains_there one ins (before ++ ins ∷ after) (within before after)

  module _ (findings : List Finding) (a : AreFindings loads notes start findings) where
    abbrev first_part : List Finding
    first_part = flat_map (unfit loads notes) a.executed

    abbrev second_part : List Finding
    second_part = flat_map (altering loads notes a.executed) a.executed

    abbrev third_part : List Finding
    third_part = too_many notes (product_of a.executed notes.marks)

    -- where each part stands
    told_first : (x : Finding) → BeginsWith first_part x → BeginsWith findings x
    told_first x begins =
        subst (λ (all : List Finding). BeginsWith all x) (sym a.all)
        (begins_left (first_part ++ second_part ++ third_part ++ a.loops)
        a.loose x
        (begins_left (first_part ++ second_part ++ third_part) a.loops x
        (begins_left (first_part ++ second_part) third_part x (begins_left first_part second_part x begins))))

    told_second : (x : Finding) → first_part ≡ [] → BeginsWith second_part x → BeginsWith findings x
    told_second x none begins =
        subst (λ (all : List Finding). BeginsWith all x) (sym a.all)
        (begins_left (first_part ++ second_part ++ third_part ++ a.loops)
        a.loose x
        (begins_left (first_part ++ second_part ++ third_part) a.loops x
        (begins_left (first_part ++ second_part) third_part x (begins_behind first_part second_part x none begins))))

    told_third : (x : Finding) → first_part ≡ [] → second_part ≡ [] → BeginsWith third_part x → BeginsWith findings x
    told_third x none nor begins =
        subst (λ (all : List Finding). BeginsWith all x) (sym a.all)
        (begins_left (first_part ++ second_part ++ third_part ++ a.loops)
        a.loose x
        (begins_left (first_part ++ second_part ++ third_part) a.loops x
        (begins_behind (first_part ++ second_part) third_part x
        (ap (λ (xs : List Finding). xs ++ second_part) none ∙ nor) begins)))

    told_fourth : (x : Finding) → first_part ≡ [] → second_part ≡ [] → third_part ≡ []
        → BeginsWith a.loops x → BeginsWith findings x
    told_fourth x none nor neither begins =
        subst (λ (all : List Finding). BeginsWith all x) (sym a.all)
        (begins_left (first_part ++ second_part ++ third_part ++ a.loops)
        a.loose x
        (begins_behind (first_part ++ second_part ++ third_part) a.loops x
        (ap (λ (xs : List Finding). xs ++ second_part ++ third_part) none
        ∙ ap (λ (xs : List Finding). xs ++ third_part) nor ∙ neither) begins))

    -- a location that discovery meets first with something wrong, and those before it
    unfit_first : (place : ℕ) → IsMet loads notes start place → ¬ IsGood loads notes place → (x : Finding)
        → BeginsWith (unfit loads notes place) x → BeginsWith findings x
    unfit_first place met bad x begins =
        let is = met_first loads notes start a.executed a.found.order place met bad in
        told_first x (begins_flat (unfit loads notes) a.executed (take is.0 a.executed)
        (drop (is.0 + 1) a.executed) place x (split_at a.executed is.0 place is.1)
        (λ other there.
        let at = taken_at a.executed is.0 other there in
        good_fit loads notes other (is.2 at.0 other at.1 at.2)) begins)

    -- where nothing is wrong with the locations, and where none alters
    all_good : ((place : ℕ) → Contains a.executed place → IsGood loads notes place) → first_part ≡ []
    all_good good =
        all_nothing (unfit loads notes) a.executed (λ place there. good_fit loads notes place (good place there))

    sound_parts : IsSound loads notes start → (first_part ≡ []) × (second_part ≡ [])
    sound_parts sound = (
      all_good (λ place there. sound.good place (a.found.only place there)),
      all_nothing (altering loads notes a.executed) a.executed
          (λ place there. unaltering loads notes start a.executed a.found place
          (λ ins has. sound.unaltered place ins (a.found.only place there) has)),
    )

    -- the lowest word that an instruction alters is the first that it adds
    lowest_added : (ins : Instruction) (word : ℕ) → IsLowestAltered loads notes start ins word
        → BeginsWith (altered_by notes a.executed ins) word
    lowest_added ins word lowest =
        let range = writes_range ins in
        let p : ℕ → Bool = is_fixed notes a.executed in
        let fixed : (at : ℕ) → p at ≡ true → said.IsFixed loads notes start at = λ at is.
        (a.found.only at (fixed_only notes a.executed at is).0, (fixed_only notes a.executed at is).1) in
        subst (λ (words : List ℕ). BeginsWith (filter p words) word) (sym range.2)
        (begins_lowest p range.0 range.1 word
        (subst (λ (words : List ℕ). Contains words word) range.2 lowest.written)
        (fixed_so notes a.executed word (a.found.all word lowest.fixed.0) lowest.fixed.1)
        (λ other there is. lowest.lowest other (subst (λ (words : List ℕ). Contains words other) (sym range.2) there)
        (fixed other is)))

    altered_first : (writer word : ℕ) → IsAltered loads notes start writer word
        → BeginsWith findings (alters writer word (kept_of loads notes writer word))
    altered_first writer word is =
        let same : is.executed ≡ a.executed =
        one_order loads notes start is.executed a.executed is.order a.found.order in
        let none : first_part ≡ [] = all_good (λ place there. is.good place (a.found.only place there)) in
        let before = is.first.0 in
        let after = is.first.1 in
        let adds : BeginsWith (flat_map (altered_by notes a.executed) (allowed loads notes writer)) word =
        begins_flat (altered_by notes a.executed) (allowed loads notes writer) before after is.ins word is.first.2
        (λ other there. alters_none loads notes start a.executed a.found other (is.first.4 other there))
        (lowest_added is.ins word is.lowest) in
        let told : ℕ → Finding = λ at. alters writer at (kept_of loads notes writer at) in
        told_second (told word) none
        (begins_flat (altering loads notes a.executed) a.executed is.before is.behind writer (told word)
        (sym same ∙ is.split)
        (λ other there. unaltering loads notes start a.executed a.found other
        (λ ins has. is.none_before other ins there has))
        (begins_mapped told (altered loads notes a.executed writer) word
        (begins_new (flat_map (altered_by notes a.executed) (allowed loads notes writer)) word adds)))

    large_first : (product : ℕ) → is_short notes ≡ true → IsTooLarge loads notes start product
        → BeginsWith findings (too_large product)
    large_first product short is =
        let parts = sound_parts is.0 in
        let order = is.2 in
        let same : order.0 ≡ a.executed =
        one_order loads notes start order.0 a.executed order.1 a.found.order in
        let equal : capped (product_of a.executed notes.marks) ≡ product =
        sym (order.2 ∙ ap (λ (all : List ℕ). capped (product_of all notes.marks)) same) in
        told_third (too_large product) parts.0 parts.1 (
          [],
          large_told notes (product_of a.executed notes.marks) short
              (many_told (product_of a.executed notes.marks) (omega (arith, equal, is.1)))
              ∙ ap (λ (n : ℕ). let found : List Finding = too_large n ∷ [] in found) equal,
        )

    round_first : (cycle : List ℕ) → third_part ≡ [] → IsFreeRound loads notes start cycle
        → (edge : ℕ × ℕ) × (mark : Within) × BeginsWith findings (closes edge mark)
    round_first cycle small is = go a.edges refl
      where
        closed : (nodes : List Node) → ((node : Node) → Contains nodes node → IsNode loads notes start node)
            → a.edges ≡ [] → IsClosed (IsFreeLink loads notes) nodes → ⊥
        closed [] reached none round = round
        closed (first ∷ others) reached none round =
            a.closing.enough first others (reached first (contains_here first others))
            (round_left loads notes a.edges first first others none round)

        go : (edges : List (ℕ × ℕ)) → a.edges ≡ edges
            → (edge : ℕ × ℕ) × (mark : Within) × BeginsWith findings (closes edge mark)
        go [] none = absurd (closed is.round.nodes is.round.within none is.round.closed)
        go (edge ∷ edges) same =
            let parts = sound_parts is.sound in
            let first = first_told loads notes start a.nodes edge edges a.loops
            (subst (λ (all : List (ℕ × ℕ)). AreLoops loads notes start a.nodes all a.loops) same a.told) in
            (edge, first.0, told_fourth (closes edge first.0) parts.0 parts.1 small first.1)

    unloaded_first : (place : ℕ) → IsNotLoaded loads notes start place → BeginsWith findings (not_loaded place)
    unloaded_first place is =
        unfit_first place is.0 (λ good. is.1 good.0) (not_loaded place)
        (begins_left (not_there loads notes place)
        (map (not_in_profile place) (operations_outside loads notes place))
        (not_loaded place) ([], absent_told loads notes place is.1))

    operation_first : (place op : ℕ) → IsNotInProfile loads notes start place op
        → BeginsWith findings (not_in_profile place op)
    operation_first place op is =
        unfit_first place is.0 (λ good. outside_not_good place op is.2 good) (not_in_profile place op)
        (begins_behind (not_there loads notes place)
        (map (not_in_profile place) (operations_outside loads notes place))
        (not_in_profile place op) (there_untold loads notes place is.1)
        (begins_mapped (not_in_profile place) (operations_outside loads notes place) op
        (outside_first place op is.2)))

    -- there are no more nodes than there may be
    never_many : IsTooMany loads notes start → ⊥
    never_many is =
        omega (
          arith,
          no_more (found_after loads notes start is.count) a.nodes (found_different loads notes start is.count)
              (λ node there. has_reached loads notes start a.nodes a.reached node
              (only_reached loads notes start is.count node there)),
          is.many,
          a.few,
        )

    pub refusal_first : (refusal : Refusal) → is_short notes ≡ true → IsRefusal loads notes start refusal
        → IsFoundFirst refusal findings
    refusal_first (NotLoaded location) short is = unloaded_first location.number is
    refusal_first (NotInProfile location op) short is = operation_first location.number op is
    refusal_first HasCalls short is = absurd (is (short_plain notes short))
    refusal_first TooMany short is = absurd (never_many is)
    refusal_first (Alters writer word) short is =
        (kept_of loads notes writer.number word.number, altered_first writer.number word.number is)
    refusal_first (TooLarge product) short is = large_first product short is
    refusal_first (Unbounded cycle) short is =
        round_first (map (λ (location : Location). location.number) cycle.locations.items)
        (small_untold notes (product_of a.executed notes.marks) (is.small a.executed a.found.order)) is.round
    refusal_first Memory short is = tt

    pub admission_refusal_first : (refusal : Refusal) → ¬ IsTrue (is_short notes)
        → IsAdmissionRefusal loads notes start refusal → IsFoundFirst refusal findings
    admission_refusal_first (NotLoaded location) long is = unloaded_first location.number is
    admission_refusal_first (NotInProfile location op) long is = operation_first location.number op is
    admission_refusal_first HasCalls long is = absurd is
    admission_refusal_first TooMany long is = absurd (never_many is)
    admission_refusal_first (Alters writer word) long is =
        (kept_of loads notes writer.number word.number, altered_first writer.number word.number is)
    admission_refusal_first (TooLarge product) long is = absurd is
    admission_refusal_first (Unbounded cycle) long is =
        round_first (map (λ (location : Location). location.number) cycle.locations.items)
        (long_untold notes (product_of a.executed notes.marks) long) is
    admission_refusal_first Memory long is = tt
