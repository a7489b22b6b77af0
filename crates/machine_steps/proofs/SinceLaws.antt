-- The counts of marks are those since a last pass.
use Rattle.std.specs.Prelude.{◌==◌, ◌||◌, if◌then◌else◌, nat_eq, slice_get, take, All, ◌↔◌}
use Rattle.std.specs.Option.{option_eq}
use Rattle.std.proofs.Common.{◌≡◌, ℕ, zero, suc, ◌+◌, ◌-◌, ◌<◌, ◌≤◌, Bool, true, false}
use Rattle.std.proofs.Common.{List, [], ◌∷◌, ◌++◌, length, get_or, drop}
use Rattle.std.proofs.Common.{Option, Some, None, refl, subst, sym, ap, ◌∙◌, inl, inr, ◌⊎◌, append_assoc, arith}
use Rattle.std.proofs.Math.Nat.{zero-add}
use Rattle.std.proofs.Math.Seq.{get_or-append_right, get_or-append_seam, drop-append_seam}
use Rattle.std.proofs.lemmas.Bool.{eqb-true, eqb-false, eq-eqb, ne_eqb, or_cases, or_right, cases_lt, false≢true}
use Rattle.std.proofs.lemmas.List.{append-nil, length-append, length-map}
use Rattle.std.proofs.lemmas.List.Elements.{All-nil, All-push}
use Rattle.std.proofs.lemmas.List.Sums.{sum_by-append}
use Rattle.std.proofs.lemmas.Option.{same_Some, none-some, slice_get_within}
use Rattle.base_words.specs.declared.word.Word.{Word}
use Rattle.base_notes.specs.declared.notes.mark.Mark.{Mark}
use Rattle.base_notes.specs.Allowed.{Notes, IsEarlier, StandInEarlier}
use Rattle.base_notes.specs.Marks.{mark_on}
use Rattle.machine_steps.specs.Calls.{none_open}
use Rattle.machine_steps.specs.Counts.{outer_of, is_inside_by, is_inside, passed_from, after_pass, no_counts}
use Rattle.machine_steps.specs.Keeps.{IsAsDeclared, counts_by, counts_after, IsKeptStride, AreKept, IsKept}
use Rattle.machine_steps.specs.Keeps.{GoesBack, open_behind}
use Rattle.machine_steps.specs.Run.{Stride}
use Rattle.machine_steps.specs.Since.{Edge, counts_along, passes_of, LeadsOut, StandsInside, Restarts}
use Rattle.machine_steps.specs.Since.{EndsIn, IsCountSince, edge_by, edges_of, counts_before}
use Rattle.machine_steps.specs.Step.{State, Stepped, on, stopped}
use Rattle.machine_steps.proofs.Returning.{each_back, all_back}

-- a mark's outer one stands before it
earlier_of : (place : ℕ) (marks : List Mark) → StandInEarlier place marks → (inner outer : ℕ)
    → outer_of (slice_get marks inner) ≡ Some outer → outer < place + inner
earlier_of place [] nested inner outer e = absurd (none-some outer e)
earlier_of place (mark ∷ marks) nested zero outer e = go mark.inside e nested.0
  where
    go : (inside : Option ℕ) → inside ≡ Some outer → IsEarlier place inside → outer < place + 0
    go None h is_earlier = cc
    go (Some one) h is_earlier =
        let same : one ≡ outer = cc in
        omega (arith, same, is_earlier)
earlier_of place (mark ∷ marks) nested (suc inner) outer e =
    omega (arith, earlier_of (place + 1) marks nested.1 inner outer e)

-- and so does each one that it stands inside of
pub leads_earlier : (marks : List Mark) → StandInEarlier 0 marks → (through : List ℕ) (inner outer : ℕ)
    → LeadsOut marks inner through outer → outer < inner
leads_earlier marks nested [] inner outer leads = omega (arith, earlier_of 0 marks nested inner outer leads)
leads_earlier marks nested (next ∷ nexts) inner outer leads =
    omega (arith, earlier_of 0 marks nested inner next leads.0, leads_earlier marks nested nexts next outer leads.1)

-- where is_inside says so, marks lead out
pub leads_from_inside : (more : ℕ) (marks : List Mark) (inner outer : ℕ)
    → is_inside_by more marks inner outer ≡ true → StandsInside marks inner outer
leads_from_inside zero marks inner outer e = absurd (false≢true e)
leads_from_inside (suc more) marks inner outer e =
    go (outer_of (slice_get marks inner)) refl (λ next. leads_from_inside more marks next outer) e
  where
    go : (found : Option ℕ) → outer_of (slice_get marks inner) ≡ found
        → ((next : ℕ) → is_inside_by more marks next outer ≡ true → StandsInside marks next outer)
        → (elim found [
          | None ↦ false
          | Some next ↦ next == outer || is_inside_by more marks next outer
        ]) ≡ true → StandsInside marks inner outer
    go None is further h = absurd (false≢true h)
    go (Some next) is further h =
        elim (or_cases (next == outer) (is_inside_by more marks next outer) h) [
          | inl here ↦ ([], is ∙ ap (λ (k : ℕ). Some k) (eqb-true next outer here))
          | inr there ↦ let rest = further next there in (next ∷ rest.0, (is, rest.1))
        ]

-- one step outward is enough where there is some
one_step : (more : ℕ) (marks : List Mark) (outer : ℕ) (found : Option ℕ) (next : ℕ) → found ≡ Some next
    → (next == outer || is_inside_by more marks next outer) ≡ true
    → (elim found [
      | None ↦ false
      | Some one ↦ one == outer || is_inside_by more marks one outer
    ]) ≡ true
one_step more marks outer None next is h = absurd (none-some next is)
one_step more marks outer (Some one) next is h =
    subst (λ (k : ℕ). (k == outer || is_inside_by more marks k outer) ≡ true) (sym (same_Some one next is)) h

-- where marks lead out, is_inside says so: there are fewer steps than the mark's place
inside_by_leads : (marks : List Mark) → StandInEarlier 0 marks → (through : List ℕ) (more inner outer : ℕ)
    → inner < more → LeadsOut marks inner through outer → is_inside_by more marks inner outer ≡ true
inside_by_leads marks nested through zero inner outer below leads = absurd (omega arith)
inside_by_leads marks nested [] (suc more) inner outer below leads =
    one_step more marks outer (outer_of (slice_get marks inner)) outer leads
    (ap (λ (b : Bool). b || is_inside_by more marks outer outer) (eq-eqb outer outer refl))
inside_by_leads marks nested (next ∷ nexts) (suc more) inner outer below leads =
    let earlier : next < 0 + inner = earlier_of 0 marks nested inner next leads.0 in
    one_step more marks outer (outer_of (slice_get marks inner)) next leads.0
    (or_right (next == outer) (is_inside_by more marks next outer)
    (inside_by_leads marks nested nexts more next outer (omega (arith, earlier)) leads.1))

-- what stands inside of some mark is a mark
is_mark : (marks : List Mark) (inner next : ℕ) → outer_of (slice_get marks inner) ≡ Some next
    → inner < length marks
is_mark marks inner next e = go (slice_get marks inner) refl e
  where
    go : (found : Option Mark) → slice_get marks inner ≡ found → outer_of found ≡ Some next → inner < length marks
    go None is h = absurd (none-some next h)
    go (Some mark) is h = slice_get_within marks inner mark is

inside_from_leads : (marks : List Mark) → StandInEarlier 0 marks → (through : List ℕ) (inner outer : ℕ)
    → LeadsOut marks inner through outer → is_inside marks inner outer ≡ true
inside_from_leads marks nested [] inner outer leads =
    inside_by_leads marks nested [] (length marks) inner outer (is_mark marks inner outer leads) leads
inside_from_leads marks nested (next ∷ nexts) inner outer leads =
    inside_by_leads marks nested (next ∷ nexts) (length marks) inner outer (is_mark marks inner next leads.0) leads

-- Is_inside says whether a mark stands inside of another.
pub inside_iff : (marks : List Mark) (inner outer : ℕ) → StandInEarlier 0 marks
    → (is_inside marks inner outer ≡ true) ↔ StandsInside marks inner outer
inside_iff marks inner outer nested = (
  leads_from_inside (length marks) marks inner outer,
  λ stands. inside_from_leads marks nested stands.0 inner outer stands.1,
)

-- the count of the mark at a place after a pass
abbrev raised : List Mark → ℕ → ℕ → ℕ → ℕ
raised marks passed place count =
    if place == passed then count + 1 else (if is_inside marks place passed then 0 else count)

-- a count after a pass is made of the one before it
passed_at : (marks : List Mark) (passed place : ℕ) (counts : List ℕ) (k at count : ℕ) → place + k ≡ at
    → slice_get (passed_from marks passed place counts) k ≡ Some count
    → (old : ℕ) × (slice_get counts k ≡ Some old) × (count ≡ raised marks passed at old)
passed_at marks passed place [] k at count is e = absurd (none-some count e)
passed_at marks passed place (old ∷ counts) zero at count is e =
    let here : place ≡ at = omega arith in
    (old, refl, sym (same_Some _ _ e) ∙ ap (λ (p : ℕ). raised marks passed p old) here)
passed_at marks passed place (old ∷ counts) (suc k) at count is e =
    passed_at marks passed (place + 1) counts k at count (omega (arith, is)) e

-- an edge that doesn't restart the count
stays : (marks : List Mark) (place : ℕ) (edges : List Edge) (edge : Edge) (old count more : ℕ)
    → IsCountSince marks place edges old → ¬ Restarts marks place edge
    → passes_of marks place (edge ∷ []) ≡ more → count ≡ old + more
    → IsCountSince marks place (edges ++ edge ∷ []) count
stays marks place edges edge old count more since_then no_restart one is =
    record {
      before = since_then.before;
      since = since_then.since ++ edge ∷ [];
      split = ap (λ (es : List Edge). es ++ edge ∷ []) since_then.split
          ∙ append_assoc since_then.before since_then.since (edge ∷ []);
      begins = since_then.begins;
      unbroken = All-push (λ (e : Edge). ¬ Restarts marks place e) since_then.since edge since_then.unbroken no_restart;
      counted =
          let parts : passes_of marks place (since_then.since ++ edge ∷ [])
          ≡ passes_of marks place since_then.since + passes_of marks place (edge ∷ []) =
          sum_by-append _ since_then.since (edge ∷ []) in
          omega (arith, is, one, parts, since_then.counted);
    }

-- one that does
restarted : (marks : List Mark) (place : ℕ) (edges : List Edge) (edge : Edge) → Restarts marks place edge
    → IsCountSince marks place (edges ++ edge ∷ []) 0
restarted marks place edges edge restarts =
    record {
      before = edges ++ edge ∷ [];
      since = [];
      split = sym (append-nil (edges ++ edge ∷ []));
      begins = inr (edges, edge, refl, restarts);
      unbroken = All-nil (λ (e : Edge). ¬ Restarts marks place e);
      counted = refl;
    }

-- how many passes one edge is
one_edge : (marks : List Mark) (place : ℕ) (edge : Edge) (found : Option ℕ) (passes : Bool)
    → mark_on marks edge.from edge.onto ≡ found → option_eq nat_eq found (Some place) ≡ passes
    → passes_of marks place (edge ∷ []) ≡ (if passes then 1 else 0)
one_edge marks place edge found passes is so =
    let test : option_eq nat_eq (mark_on marks edge.from edge.onto) (Some place) ≡ passes =
    ap (λ (o : Option ℕ). option_eq nat_eq o (Some place)) is ∙ so in
    ap (λ (b : Bool). 0 + (if b then 1 else 0)) test ∙ zero-add (if passes then 1 else 0)

module _ (marks : List Mark) (nested : StandInEarlier 0 marks) (edges : List Edge) (edge : Edge) (k : ℕ) where
  -- an edge that passes no mark
  none_passed : (count : ℕ) → mark_on marks edge.from edge.onto ≡ None
      → IsCountSince marks k edges count → IsCountSince marks k (edges ++ edge ∷ []) count
  none_passed count is since =
      stays marks k edges edge count count 0 since (λ r. none-some r.0 (sym is ∙ r.1))
      (one_edge marks k edge None false is refl) (omega arith)

  -- an edge that passes this mark, one that it stands inside of, or another
  some_passed : (passed old count : ℕ) (here inside : Bool) → mark_on marks edge.from edge.onto ≡ Some passed
      → (k == passed) ≡ here → is_inside marks k passed ≡ inside
      → count ≡ (if here then old + 1 else (if inside then 0 else old))
      → IsCountSince marks k edges old → IsCountSince marks k (edges ++ edge ∷ []) count
  some_passed passed old count true inside is here within made since =
      let same : k ≡ passed = eqb-true k passed here in
      stays marks k edges edge old count 1 since
      (λ r.
      let outer : passed ≡ r.0 = same_Some passed r.0 (sym is ∙ r.1) in
      let earlier : r.0 < k = leads_earlier marks nested r.2.0 k r.0 r.2.1 in
      omega (arith, same, outer, earlier))
      (one_edge marks k edge (Some passed) true is (eq-eqb passed k (sym same))) made
  some_passed passed old count false true is here within made since =
      subst (IsCountSince marks k (edges ++ edge ∷ [])) (sym made)
      (restarted marks k edges edge (passed, is, leads_from_inside (length marks) marks k passed within))
  some_passed passed old count false false is here within made since =
      stays marks k edges edge old count 0 since
      (λ r.
      let outer : r.0 ≡ passed = same_Some r.0 passed (sym r.1 ∙ is) in
      let inside : is_inside marks k r.0 ≡ true = inside_from_leads marks nested r.2.0 k r.0 r.2.1 in
      false≢true (sym within ∙ ap (λ (p : ℕ). is_inside marks k p) (sym outer) ∙ inside))
      (one_edge marks k edge (Some passed) false is
      (ne_eqb passed k (λ same. eqb-false k passed here (sym same))))
      (omega (arith, made))

-- the counts are those since a last pass
abbrev AreSince : List Mark → List Edge → List ℕ → Type 0
AreSince marks edges counts =
    (k count : ℕ) → slice_get counts k ≡ Some count → IsCountSince marks k edges count

-- one more edge
one_more : (marks : List Mark) → StandInEarlier 0 marks → (edges : List Edge) (edge : Edge) (counts : List ℕ)
    → AreSince marks edges counts → AreSince marks (edges ++ edge ∷ []) (after_pass marks edge.from edge.onto counts)
one_more marks nested edges edge counts since k count e = go (mark_on marks edge.from edge.onto) refl e
  where
    go : (found : Option ℕ) → mark_on marks edge.from edge.onto ≡ found
        → slice_get (elim found as (λ _. List ℕ) [
          | None ↦ counts
          | Some passed ↦ passed_from marks passed 0 counts
        ]) k ≡ Some count → IsCountSince marks k (edges ++ edge ∷ []) count
    go None is h = none_passed marks nested edges edge k count is (since k count h)
    go (Some passed) is h =
        let before = passed_at marks passed 0 counts k k count (omega arith) h in
        some_passed marks nested edges edge k passed before.0 count (k == passed) (is_inside marks k passed) is
        refl refl before.2 (since k before.0 before.1)

-- more edges
more_edges : (marks : List Mark) → StandInEarlier 0 marks → (done more : List Edge) (counts : List ℕ)
    → AreSince marks done counts → AreSince marks (done ++ more) (counts_along marks counts more)
more_edges marks nested done [] counts since =
    subst (λ (es : List Edge). AreSince marks es counts) (sym (append-nil done)) since
more_edges marks nested done (edge ∷ more) counts since =
    let all = more_edges marks nested (done ++ edge ∷ []) more (after_pass marks edge.from edge.onto counts)
    (one_more marks nested done edge counts since) in
    subst (λ (es : List Edge). AreSince marks es
    (counts_along marks (after_pass marks edge.from edge.onto counts) more)) (append_assoc done (edge ∷ []) more) all

-- no edge yet
none_yet : (marks : List Mark) (k count : ℕ) → slice_get (no_counts marks) k ≡ Some count → 0 ≡ count
none_yet [] k count e = absurd (none-some count e)
none_yet (mark ∷ marks) zero count e = same_Some 0 count e
none_yet (mark ∷ marks) (suc k) count e = none_yet marks k count e

none_since : (marks : List Mark) → AreSince marks [] (no_counts marks)
none_since marks k count e =
    record {
      before = [];
      since = [];
      split = refl;
      begins = inl refl;
      unbroken = All-nil (λ (e : Edge). ¬ Restarts marks k e);
      counted = sym (none_yet marks k count e);
    }

-- Counts after edges are those since the last pass of a mark that each stands inside of.
pub along_is_since : (marks : List Mark) (edges : List Edge) (k count : ℕ) → StandInEarlier 0 marks
    → slice_get (counts_along marks (no_counts marks) edges) k ≡ Some count → IsCountSince marks k edges count
along_is_since marks edges k count nested =
    more_edges marks nested [] edges (no_counts marks) (none_since marks) k count

passed_length : (marks : List Mark) (passed place : ℕ) (counts : List ℕ)
    → length (passed_from marks passed place counts) ≡ length counts
passed_length marks passed place [] = refl
passed_length marks passed place (count ∷ counts) = ap suc (passed_length marks passed (place + 1) counts)

after_length : (marks : List Mark) (from onto : ℕ) (counts : List ℕ)
    → length (after_pass marks from onto counts) ≡ length counts
after_length marks from onto counts = go (mark_on marks from onto)
  where
    go : (found : Option ℕ) → length (elim found as (λ _. List ℕ) [
      | None ↦ counts
      | Some passed ↦ passed_from marks passed 0 counts
    ]) ≡ length counts
    go None = refl
    go (Some passed) = passed_length marks passed 0 counts

more_length : (marks : List Mark) (counts : List ℕ) (edges : List Edge)
    → length (counts_along marks counts edges) ≡ length counts
more_length marks counts [] = refl
more_length marks counts (edge ∷ edges) =
    more_length marks (after_pass marks edge.from edge.onto counts) edges
    ∙ after_length marks edge.from edge.onto counts

-- Each mark has a count.
pub along_length : (marks : List Mark) (edges : List Edge)
    → length (counts_along marks (no_counts marks) edges) ≡ length marks
along_length marks edges = more_length marks (no_counts marks) edges ∙ length-map marks (λ (mark : Mark). 0)

-- the edge that a stride takes, if any, makes the counts after it
along_stride : (notes : Notes) (counts : List ℕ) (from : ℕ) (outcome : Stepped) (edges : List Edge)
    → counts_along notes.marks (counts_by notes counts from outcome) edges
    ≡ counts_along notes.marks counts (edge_by from outcome ++ edges)
along_stride notes counts from (on next) edges = refl
along_stride notes counts from (stopped held because moment) edges = refl

each_kept : (loads : ℕ → Option Word) (notes : Notes) (counts : List ℕ) (strides : List Stride)
    → AreKept loads notes counts strides → (n : ℕ) (stride : Stride) → slice_get strides n ≡ Some stride
    → IsKeptStride loads notes (counts_along notes.marks counts (edges_of (take n strides))) stride
each_kept loads notes counts [] kept n stride e = absurd (none-some stride e)
each_kept loads notes counts (stride ∷ strides) kept zero other e =
    subst (IsKeptStride loads notes counts) (same_Some stride other e) kept.0
each_kept loads notes counts (stride ∷ strides) kept (suc n) other e =
    subst (λ (cs : List ℕ). IsKeptStride loads notes cs other)
    (along_stride notes counts stride.origin.sought stride.outcome (edges_of (take n strides)))
    (each_kept loads notes (counts_after notes counts stride) strides kept.1 n other e)

all_kept : (loads : ℕ → Option Word) (notes : Notes) (counts : List ℕ) (strides : List Stride)
    → ((n : ℕ) (stride : Stride) → slice_get strides n ≡ Some stride
    → IsKeptStride loads notes (counts_along notes.marks counts (edges_of (take n strides))) stride)
    → AreKept loads notes counts strides
all_kept loads notes counts [] each = tt
all_kept loads notes counts (stride ∷ strides) each = (
  each 0 stride refl,
  all_kept loads notes (counts_after notes counts stride) strides
      (λ n other e. subst (λ (cs : List ℕ). IsKeptStride loads notes cs other)
      (sym (along_stride notes counts stride.origin.sought stride.outcome (edges_of (take n strides))))
      (each (suc n) other e)),
)

-- A run keeps to the notes where each stride does, with the counts after the edges that the strides before it take,
-- and goes back as the calls on these have it.
pub kept_iff : (loads : ℕ → Option Word) (notes : Notes) (s : State) (strides : List Stride)
    → IsKept loads notes s strides ↔ (IsAsDeclared notes.programmed s.contents.programmed_stops
    × ((n : ℕ) (stride : Stride) → slice_get strides n ≡ Some stride
    → IsKeptStride loads notes (counts_before notes strides n) stride
    × GoesBack notes (open_behind notes (take n strides)) stride))
kept_iff loads notes s strides =
    let none = none_open notes.calls in (
      λ kept. (
        kept.declared,
        λ n stride e. (
          each_kept loads notes (no_counts notes.marks) strides kept.kept n stride e,
          each_back notes.calls none strides kept.back n stride e,
        ),
      ),
      λ both. record {
        declared = both.0;
        kept = all_kept loads notes (no_counts notes.marks) strides (λ n stride e. (both.1 n stride e).0);
        back = all_back notes.calls none strides (λ n stride e. (both.1 n stride e).1);
      },
    )

-- a last edge that restarts the count isn't behind the split of the other
no_later : (Such : Edge → Type 0) (before since before' since' : List Edge) → before ++ since ≡ before' ++ since'
    → All (λ edge. ¬ Such edge) since → (before' ≡ []) ⊎ EndsIn Such before' → length before' ≤ length before
no_later Such before since before' since' same unbroken (inl none) = omega (arith, ap length none)
no_later Such before since before' since' same unbroken (inr (earlier, last, is, such)) =
    elim (cases_lt (length before) (length before')) [
      | inl less ↦
          let size : length before' ≡ length earlier + 1 = ap length is ∙ length-append earlier (last ∷ []) in
          let sizes : length before + length since ≡ length before' + length since' =
          sym (length-append before since) ∙ ap length same ∙ length-append before' since' in
          let at = length earlier in
          let right : get_or (before ++ since) at last ≡ get_or since (at - length before) last =
          get_or-append_right before since at last (omega (arith, size)) in
          let whole : before ++ since ≡ earlier ++ last ∷ since' =
          same ∙ ap (λ (es : List Edge). es ++ since') is ∙ append_assoc earlier (last ∷ []) since' in
          let there : get_or since (at - length before) last ≡ last =
          sym right ∙ ap (λ (es : List Edge). get_or es at last) whole
          ∙ get_or-append_seam earlier last since' last in
          absurd (unbroken (at - length before) last (omega (arith, size, sizes)) (subst Such (sym there) such))
      | inr more ↦ more
    ]

-- There is one such count.
pub one_count : (marks : List Mark) (edges : List Edge) (place count other : ℕ)
    → IsCountSince marks place edges count → IsCountSince marks place edges other → count ≡ other
one_count marks edges place count other a b =
    let same : a.before ++ a.since ≡ b.before ++ b.since = sym a.split ∙ b.split in
    let no_less = no_later (Restarts marks place) a.before a.since b.before b.since same a.unbroken b.begins in
    let no_more = no_later (Restarts marks place) b.before b.since a.before a.since (sym same) b.unbroken a.begins in
    let size : length a.before ≡ length b.before = omega (arith, no_less, no_more) in
    let since : a.since ≡ b.since =
    sym (drop-append_seam a.before a.since) ∙ ap (λ (n : ℕ). drop n (a.before ++ a.since)) size
    ∙ ap (drop (length b.before)) same ∙ drop-append_seam b.before b.since in
    a.counted ∙ ap (passes_of marks place) since ∙ sym b.counted
