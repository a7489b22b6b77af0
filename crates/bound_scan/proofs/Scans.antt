-- How taking a hop of a key, and going on to the next key, keep what is known of a scan.
use Rattle.std.proofs.Common.{◌≡◌, ℕ, suc, ◌+◌, ◌*◌, ◌<◌, ◌≤◌, List, [], ◌∷◌, length, slice_get, refl, ap, sym, ◌∙◌}
use Rattle.std.proofs.Common.{subst, inl, inr, ◌⊎◌, Option, Some, None, arith}
use Rattle.std.specs.Prelude.{Contains}
use Rattle.std.proofs.lemmas.Bool.{cases_lt}
use Rattle.machine_steps.specs.Counts.{after_pass, AreWithin}
use Rattle.machine_steps.specs.Ways.{Way, early, to, late}
use Rattle.machine_steps.specs.Timing.{longest_step}
use Rattle.base_graphs.proofs.Lists.{contains_cases, contains_none}
use Rattle.flow_graph.specs.Hops.{Hop, hops}
use Rattle.flow_graph.specs.Walk.{Setting}
use Rattle.flow_graph.proofs.LongestLaws.{longest_near}
use Rattle.bound_scan.specs.declared.latest.Latest.{Latest}
use Rattle.bound_scan.specs.declared.key_hop.KeyHop.{KeyHop}
use Rattle.bound_scan.specs.Keys.{place_at, counts_at}
use Rattle.bound_scan.specs.Scanned.{cell_at, later, raised, Begins, end_from, LeadsOn, IsOpen, IsEndOf, IsBackedBy}
use Rattle.bound_scan.specs.Scanned.{IsLastBy, IsTakenBy, IsTaken, Scanned, Taking}
use Rattle.bound_scan.proofs.Raises.{later_either, later_old, later_new, Grows, Agree, grows_same, raised_length}
use Rattle.bound_scan.proofs.Raises.{raised_agree, raised_grows, raised_new, raised_each, arrives_grows}

module _ (g : Setting) (order : List ℕ) where
  -- ends, where the cells of the first keys stay
  abbrev end_of_agree : (first : ℕ) (cells cells' : List (Option Latest)) (origin : KeyHop) (clock : ℕ)
      → Agree first cells cells'
      → IsEndOf g order first cells origin clock → IsEndOf g order first cells' origin clock
  end_of_agree first cells cells' origin clock agree is =
      record {
        below = is.below;
        kept = is.kept;
        there = agree origin.key is.below ∙ is.there;
        hop = is.hop;
        is =
            is.is;
        end = is.end;
      }

  backed_agree : (first : ℕ) (cells cells' : List (Option Latest)) (key clock : ℕ) (origin : Option KeyHop)
      → Agree first cells cells'
      → IsBackedBy g order first cells key clock origin → IsBackedBy g order first cells' key clock origin
  backed_agree first cells cells' key clock None agree is = is
  backed_agree first cells cells' key clock (Some origin) agree is =
      (end_of_agree first cells cells' origin clock agree is.0, is.1)

  last_agree : (first : ℕ) (cells cells' : List (Option Latest)) (clock : ℕ) (origin : Option KeyHop)
      → Agree first cells cells'
      → IsLastBy g order first cells clock origin → IsLastBy g order first cells' clock origin
  last_agree first cells cells' clock None agree is = is
  last_agree first cells cells' clock (Some origin) agree is =
      (end_of_agree first cells cells' origin clock agree is.0, is.1)

  -- and where more keys are the first
  abbrev end_of_more : (first more : ℕ) (cells : List (Option Latest)) (origin : KeyHop) (clock : ℕ) → first ≤ more
      → IsEndOf g order first cells origin clock → IsEndOf g order more cells origin clock
  end_of_more first more cells origin clock le is =
      record {
        below = omega (arith, is.below, le);
        kept = is.kept;
        there = is.there;
        hop = is.hop;
        is = is.is;
        end =
            is.end;
      }

  backed_more : (first more : ℕ) (cells : List (Option Latest)) (key clock : ℕ) (origin : Option KeyHop) → first ≤ more
      → IsBackedBy g order first cells key clock origin → IsBackedBy g order more cells key clock origin
  backed_more first more cells key clock None le is = is
  backed_more first more cells key clock (Some origin) le is = (end_of_more first more cells origin clock le is.0, is.1)

  last_more : (first more : ℕ) (cells : List (Option Latest)) (clock : ℕ) (origin : Option KeyHop) → first ≤ more
      → IsLastBy g order first cells clock origin → IsLastBy g order more cells clock origin
  last_more first more cells clock None le is = is
  last_more first more cells clock (Some origin) le is = (end_of_more first more cells origin clock le is.0, is.1)

  -- what was taken stays so where nothing gets earlier
  taken_grows : (cells cells' : List (Option Latest)) (last last' key end : ℕ) (way : Way) → Grows cells cells'
      → last ≤ last'
      → IsTakenBy g order cells last key end way → IsTakenBy g order cells' last' key end way
  taken_grows cells cells' last last' key end early grows le is = omega (arith, is, le)
  taken_grows cells cells' last last' key end (to next) grows le is = λ within.
      let was = is within in (
        omega (arith, was.0, le),
        arrives_grows g.notes.marks order cells cells' next
            (after_pass g.notes.marks (place_at order key) next (counts_at g.notes.marks order key)) end grows was.1,
      )
  taken_grows cells cells' last last' key end late grows le is = omega (arith, is, le)

  -- what is kept stays within its limits
  pub begins_grows : (cells cells' : List (Option Latest)) → Grows cells cells' → Begins g order cells
      → Begins g order cells'
  begins_grows cells cells' grows b =
      let more = grows b.key b.kept b.there in
      record { key = b.key; is = b.is; kept = more.0; there = more.1; after = omega (arith, more.2, b.after) }

  -- A step of the scan: what is new agrees on the first keys, grows, and is right.
  record Steps (key clock : ℕ) (hop : Hop) (cells cells' : List (Option Latest)) (last last' : Latest) : Type 0 where
    agree : Agree (suc key) cells cells'
    grows : Grows cells cells'
    size : length cells' ≡ length cells
    rises : last.clock ≤ last'.clock
    backed : (other : ℕ) (kept : Latest) → cell_at cells' other ≡ Some kept
        → IsBackedBy g order (suc key) cells' other kept.clock kept.origin
    ends : IsLastBy g order (suc key) cells' last'.clock last'.origin
    below : (other : ℕ) (kept : Latest) → cell_at cells' other ≡ Some kept → kept.clock ≤ last'.clock
    near : (other : ℕ) (kept : Latest) → cell_at cells' other ≡ Some kept → kept.clock ≤ 49 + longest_step * other
    last_near : last'.clock ≤ 49 + longest_step * suc key
    taken : IsTaken g order cells' last'.clock key clock hop

  stepped : (key clock : ℕ) (hop : Hop) (left : List Hop) (cells cells' : List (Option Latest)) (last last' : Latest)
      → Steps key clock hop cells cells' last last'
      → Taking g order key clock (hop ∷ left) cells last → Taking g order key clock left cells' last'
  stepped key clock hop left cells cells' last last' s t = record {
    before = record {
      size = s.size ∙ t.before.size;
      begins = begins_grows cells cells' s.grows t.before.begins;
      backed = s.backed;
      took = λ other kept one below there has.
          let was : cell_at cells other ≡ Some kept = sym (s.agree other (omega (arith, below))) ∙ there in
          taken_grows cells cells' last.clock last'.clock other (end_from g order other one kept.clock) one.way s.grows
          s.rises (t.before.took other kept one below was has);
      ends = s.ends;
      below = s.below;
      near = s.near;
      last_near = s.last_near;
    };
    kept = t.kept;
    there = s.agree key (omega arith) ∙ t.there;
    now = t.now;
    here = λ one has. elim (t.here one has) [
      | inl some_left ↦ (elim (contains_cases hop one left some_left) [
        | inl same ↦ inr (subst (λ (h : Hop). IsTaken g order cells' last'.clock key clock h) same s.taken)
        | inr behind ↦ inl behind
      ])
      | inr was ↦ inr (taken_grows cells cells' last.clock last'.clock key (end_from g order key one clock) one.way
          s.grows s.rises was)
    ];
  }

  -- what is to be kept of a hop of a key that something is kept at
  pub record Comes (key clock : ℕ) (origin : KeyHop) (hop : Hop) (new : Latest) : Type 0 where
    pub from : origin.key ≡ key
    pub by : new.origin ≡ Some origin
    pub ended : new.clock ≡ end_from g order key hop clock
    pub is : slice_get (hops g.loads g.notes (place_at order key)) origin.number ≡ Some hop

  -- it is the end of that hop
  abbrev end_of_new : (key clock : ℕ) (origin : KeyHop) (hop : Hop) (new : Latest) (left : List Hop)
      (cells cells' : List (Option Latest)) (last : Latest) → Comes key clock origin hop new
      → Agree (suc key) cells cells' → Taking g order key clock left cells last
      → IsEndOf g order (suc key) cells' origin new.clock
  end_of_new key clock origin hop new left cells cells' last comes agree t = record {
    below = omega (arith, comes.from);
    kept = t.kept;
    there = subst (λ (k : ℕ). cell_at cells' k ≡ Some t.kept) (sym comes.from) (agree key (omega arith) ∙ t.there);
    hop = hop;
    is = subst (λ (k : ℕ). slice_get (hops g.loads g.notes (place_at order k)) origin.number ≡ Some hop) (sym comes.from)
        comes.is;
    end = comes.ended ∙ ap (end_from g order key hop) (sym t.now)
        ∙ ap (λ (k : ℕ). end_from g order k hop t.kept.clock) (sym comes.from);
  }

  -- it comes no later than the longest step after what is kept at the key
  new_near : (key clock : ℕ) (origin : KeyHop) (hop : Hop) (new : Latest) (left : List Hop)
      (cells : List (Option Latest)) (last : Latest) → Comes key clock origin hop new
      → Taking g order key clock left cells last → new.clock ≤ 49 + longest_step * suc key
  new_near key clock origin hop new left cells last comes t =
      omega (
        arith,
        comes.ended,
        t.now,
        t.before.near key t.kept t.there,
        longest_near g.times (place_at order key) hop.ins hop.way clock,
      )

  is_last_new : (key clock : ℕ) (origin : KeyHop) (hop : Hop) (new : Latest) (left : List Hop)
      (cells cells' : List (Option Latest)) (last : Latest) → Comes key clock origin hop new
      → IsOpen g order key hop.way → Agree (suc key) cells cells' → Taking g order key clock left cells last
      → IsLastBy g order (suc key) cells' new.clock new.origin
  is_last_new key clock origin hop new left cells cells' last comes passes agree t =
      subst (IsLastBy g order (suc key) cells' new.clock) (sym comes.by) (
        end_of_new key clock origin hop new left cells cells' last comes agree t,
        subst
            (λ (k : ℕ). IsOpen g order k hop.way) (sym comes.from) passes,
      )

  later_last : (key clock : ℕ) (origin : KeyHop) (hop : Hop) (new : Latest) (left : List Hop)
      (cells cells' : List (Option Latest)) (last : Latest) → Comes key clock origin hop new
      → IsOpen g order key hop.way → Agree (suc key) cells cells' → Taking g order key clock left cells last
      → IsLastBy g order (suc key) cells' (later last new).clock (later last new).origin
  later_last key clock origin hop new left cells cells' last comes passes agree t =
      later_either (λ (l : Latest). IsLastBy g order (suc key) cells' l.clock l.origin) last new
      (last_agree (suc key) cells cells' last.clock last.origin agree t.before.ends)
      (is_last_new key clock origin hop new left cells cells' last comes passes agree t)

  -- A hop that stops raises the latest of all alone.
  stop_taken : (cells : List (Option Latest)) (last key end : ℕ) (way : Way) → (way ≡ early) ⊎ (way ≡ late) → end ≤ last
      → IsTakenBy g order cells last key end way
  stop_taken cells last key end way (inl e) le = subst (IsTakenBy g order cells last key end) (sym e) le
  stop_taken cells last key end way (inr e) le = subst (IsTakenBy g order cells last key end) (sym e) le

  stop_open : (key : ℕ) (way : Way) → (way ≡ early) ⊎ (way ≡ late) → IsOpen g order key way
  stop_open key way (inl e) = subst (IsOpen g order key) (sym e) tt
  stop_open key way (inr e) = subst (IsOpen g order key) (sym e) tt

  pub take_stop : (key clock : ℕ) (origin : KeyHop) (hop : Hop) (new : Latest) (left : List Hop)
      (cells : List (Option Latest)) (last : Latest) → Comes key clock origin hop new
      → (hop.way ≡ early) ⊎ (hop.way ≡ late)
      → Taking g order key clock (hop ∷ left) cells last → Taking g order key clock left cells (later last new)
  take_stop key clock origin hop new left cells last comes stops t =
      stepped key clock hop left cells cells last (later last new)
      (record {
        agree = λ other below. refl;
        grows = grows_same cells;
        size = refl;
        rises = later_old last new;
        backed = t.before.backed;
        ends = later_last key clock origin hop new (hop ∷ left) cells cells last comes (stop_open key hop.way stops)
            (λ other below. refl) t;
        below = λ other kept e. omega (arith, t.before.below other kept e, later_old last new);
        near = t.before.near;
        last_near = later_either (λ (l : Latest). l.clock ≤ 49 + longest_step * suc key) last new t.before.last_near
            (new_near key clock origin hop new (hop ∷ left) cells last comes t);
        taken = stop_taken cells (later last new).clock key (end_from g order key hop clock) hop.way stops
            (omega (arith, later_new last new, comes.ended));
      })
      t

  -- A barred hop raises nothing.
  pub take_barred : (key clock : ℕ) (hop : Hop) (next : ℕ) (left : List Hop) (cells : List (Option Latest))
      (last : Latest) → hop.way ≡ to next
      → ¬ AreWithin g.notes.marks
      (after_pass g.notes.marks (place_at order key) next (counts_at g.notes.marks order key))
      → Taking g order key clock (hop ∷ left) cells last → Taking g order key clock left cells last
  take_barred key clock hop next left cells last goes barred t =
      stepped key clock hop left cells cells last last
      (record {
        agree = λ other below. refl;
        grows = grows_same cells;
        size = refl;
        rises = omega arith;
        backed = t.before.backed;
        ends = t.before.ends;
        below = t.before.below;
        near = t.before.near;
        last_near = t.before.last_near;
        taken = subst (IsTakenBy g order cells last.clock key (end_from g order key hop clock)) (sym goes)
            (λ within. absurd (barred within));
      })
      t

  -- A hop that goes on raises the cell of the key that it leads to, and the latest of all.
  pub take_on : (key clock : ℕ) (origin : KeyHop) (hop : Hop) (new : Latest) (onto : ℕ) (left : List Hop)
      (cells : List (Option Latest)) (last : Latest) → Comes key clock origin hop new
      → LeadsOn g order key hop onto
      → Taking g order key clock (hop ∷ left) cells last
      → Taking g order key clock left (raised cells onto new) (later last new)
  take_on key clock origin hop new onto left cells last comes leads t =
      let inside : onto < length cells = omega (arith, t.before.size, leads.below) in
      let cells' : List (Option Latest) = raised cells onto new in
      let agree : Agree (suc key) cells cells' = raised_agree cells (suc key) onto new (omega (arith, leads.later)) in
      let place = place_at order onto in
      let counts = counts_at g.notes.marks order onto in
      let end = end_from g order key hop clock in
      let came = raised_new cells onto new inside in
      let passes : IsOpen g order key hop.way =
      subst (IsOpen g order key) (sym leads.onto) (subst (AreWithin g.notes.marks) leads.passed leads.within) in
      stepped key clock hop left cells cells' last (later last new)
      (record {
        agree = agree;
        grows = raised_grows cells onto new inside;
        size = raised_length cells onto new;
        rises = later_old last new;
        backed = raised_each
            (λ (other : ℕ) (kept : Latest). IsBackedBy g order (suc key) cells' other kept.clock kept.origin) cells onto
            new inside
            (λ other kept e. backed_agree (suc key) cells cells' other kept.clock kept.origin agree
            (t.before.backed other kept e))
            (subst (IsBackedBy g order (suc key) cells' onto new.clock) (sym comes.by) (
              end_of_new key clock origin hop new (hop ∷ left) cells cells' last comes agree t,
              subst (λ (k : ℕ). LeadsOn g order k hop onto) (sym comes.from) leads,
            ));
        ends = later_last key clock origin hop new (hop ∷ left) cells cells' last comes passes agree t;
        below = raised_each (λ (other : ℕ) (kept : Latest). kept.clock ≤ (later last new).clock) cells onto new inside
            (λ other kept e. omega (arith, t.before.below other kept e, later_old last new)) (later_new last new);
        near = raised_each (λ (other : ℕ) (kept : Latest). kept.clock ≤ 49 + longest_step * other) cells onto new inside
            t.before.near (omega
            (arith, new_near key clock origin hop new (hop ∷ left) cells last comes t, leads.later));
        last_near = later_either (λ (l : Latest). l.clock ≤ 49 + longest_step * suc key) last new t.before.last_near
            (new_near key clock origin hop new (hop ∷ left) cells last comes t);
        taken = subst (IsTakenBy g order cells' (later last new).clock key end) (sym leads.onto)
            (λ within. (
              omega (arith, later_new last new, comes.ended),
              record {
                key = onto;
                is = record { below = leads.below; at = refl; passed = leads.passed };
                kept =
                    came.0;
                there = came.1;
                after = omega (arith, came.2, comes.ended);
              },
            ));
      })
      t

  -- Nothing is kept at a key: it needs no taking.
  pub skip : (key : ℕ) (cells : List (Option Latest)) (last : Latest) → cell_at cells key ≡ None
      → Scanned g order key key cells last → Scanned g order (suc key) (suc key) cells last
  skip key cells last none s = record {
    size = s.size;
    begins = s.begins;
    backed = λ other kept e.
        backed_more key (suc key) cells other kept.clock kept.origin (omega arith) (s.backed other kept e);
    took = λ other kept hop below there has. elim (cases_lt other key) [
      | inl before ↦ s.took other kept hop before there has
      | inr past ↦ (
          let same : other ≡ key = omega (arith, below, past) in
          let clash : None ≡ Some kept = sym none ∙ subst (λ (k : ℕ). cell_at cells k ≡ Some kept) same there in
          absurd (nothing kept clash))
    ];
    ends = last_more key (suc key) cells last.clock last.origin (omega arith) s.ends;
    below = s.below;
    near = s.near;
    last_near = omega (arith, s.last_near);
  }
    where
      nothing : (kept : Latest) → None ≡ Some kept → ⊥
      nothing kept h = cc

  -- Something is kept at a key: all of its hops are left.
  pub open_key : (key : ℕ) (kept : Latest) (cells : List (Option Latest)) (last : Latest)
      → cell_at cells key ≡ Some kept → Scanned g order key key cells last
      → Taking g order key kept.clock (hops g.loads g.notes (place_at order key)) cells last
  open_key key kept cells last there s = record {
    before = record {
      size = s.size;
      begins = s.begins;
      backed = λ other one e.
          backed_more key (suc key) cells other one.clock one.origin (omega arith) (s.backed other one e);
      took = s.took;
      ends = last_more key (suc key) cells last.clock last.origin (omega arith) s.ends;
      below = s.below;
      near = s.near;
      last_near = omega (arith, s.last_near);
    };
    kept = kept;
    there = there;
    now = refl;
    here = λ hop has. inl has;
  }

  -- No hop is left: the key has been taken.
  pub close_key : (key clock : ℕ) (cells : List (Option Latest)) (last : Latest)
      → Taking g order key clock [] cells last → Scanned g order (suc key) (suc key) cells last
  close_key key clock cells last t = record {
    size = t.before.size;
    begins = t.before.begins;
    backed = t.before.backed;
    took = λ other kept hop below there has. elim (cases_lt other key) [
      | inl before ↦ t.before.took other kept hop before there has
      | inr past ↦ (
          let same : other ≡ key = omega (arith, below, past) in
          let here : Contains (hops g.loads g.notes (place_at order key)) hop =
          subst (λ (k : ℕ). Contains (hops g.loads g.notes (place_at order k)) hop) same has in
          let is : Some kept ≡ Some t.kept =
          sym (subst (λ (k : ℕ). cell_at cells k ≡ Some kept) same there) ∙ t.there in
          let clock_is : kept.clock ≡ clock = same_clock kept t.kept is ∙ t.now in
          let taken : IsTaken g order cells last.clock key clock hop =
          elim (t.here hop here) [ inl none ↦ absurd (contains_none hop none) | inr taken ↦ taken ] in
          subst (λ (k : ℕ). IsTaken g order cells last.clock k kept.clock hop) (sym same)
          (subst (λ (c : ℕ). IsTaken g order cells last.clock key c hop) (sym clock_is) taken))
    ];
    ends = t.before.ends;
    below = t.before.below;
    near = t.before.near;
    last_near = t.before.last_near;
  }
    where
      same_clock : (a b : Latest) → Some a ≡ Some b → a.clock ≡ b.clock
      same_clock a b e =
          let eq : a ≡ b = cc in
          ap (λ (l : Latest). l.clock) eq
