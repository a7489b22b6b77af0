-- A walk has one list of its kinds, the dearest first.
use Rattle.std.proofs.Common.{◌≡◌, ℕ, suc, ◌+◌, ◌<◌, ◌≤◌, ◌⊎◌, inl, inr, true, false, List, [], ◌∷◌, ◌++◌, map}
use Rattle.std.proofs.Common.{refl, ap, sym, ◌∙◌, subst, arith, Option, Some, None}
use Rattle.std.proofs.lemmas.Bool.{cases_lt}
use Rattle.std.proofs.lemmas.List.Elements.{Contains-append_right}
use Rattle.std.specs.Prelude.{Contains, slice_get}
use Rattle.base_words.specs.declared.op.Op.{Op}
use Rattle.base_words.specs.Op.{op_of}
use Rattle.base_notes.specs.declared.entry.Entry.{Entry}
use Rattle.machine_steps.specs.Counts.{AreWithin, after_pass}
use Rattle.machine_steps.specs.Timing.{ready}
use Rattle.machine_steps.specs.Ways.{Way, early, to, late}
use Rattle.base_graphs.proofs.Lists.{contains_cases, contains_from_get, contains_here, contains_none, contains_there}
use Rattle.flow_graph.specs.Walk.{IsTimed, IsWalkFrom, Setting, Taken, end_by}
use Rattle.flow_walks.specs.Visited.{IsWalkOf, Visited, visited}
use Rattle.print_hops.specs.Waits.{AreDearestFirst, ComesBefore, IsFirst, is_alike, time_alike}
use Rattle.print_hops.proofs.AddingUp.{ends_behind, follow}
use Rattle.print_hops.proofs.SameKinds.{alike_equiv}
use Rattle.print_hops.proofs.Waiting.{found_after, reached_after}

clash : true ≡ false → ⊥
clash e = cc

-- ---- hops of a walk begin at different times

-- a hop takes time
end_behind : (way : Way) (entry : Entry) (op : Op) (d place units wait clock : ℕ)
    → clock < end_by way entry op d place units wait clock
end_behind early entry op d place units wait clock =
    omega (arith, found_after place clock, entry.some_before)
end_behind (to next) entry op d place units wait clock =
    omega (
      arith,
      found_after place clock,
      entry.some_before,
      reached_after op d (ready entry place clock),
      ends_behind entry op d place units wait clock,
    )
end_behind late entry op d place units wait clock =
    omega (
      arith,
      found_after place clock,
      entry.some_before,
      reached_after op d (ready entry place clock),
      ends_behind entry op d place units wait clock,
    )

takes_time : (times : Op → Entry) (angle : ℕ) (hop : Taken) (op : Option Op) → IsTimed times angle hop op
    → hop.begun < hop.ended
takes_time times angle hop None timed = absurd timed
takes_time times angle hop (Some op) timed =
    omega (arith, timed.2, end_behind hop.way (times op) op hop.ins.d hop.place hop.units hop.wait (angle + hop.begun))

none_later : (time : ℕ) (one : Visited) → Contains (map visited []) one → time ≤ one.begun
none_later time one has = absurd (contains_none one has)

-- none begins before the walk does
begins_later : (g : Setting) (angle place time : ℕ) (counts : List ℕ) (hops : List Taken) (one : Visited)
    → IsWalkFrom g angle place time counts hops → Contains (map visited hops) one → time ≤ one.begun
begins_later g angle place time counts [] one walk has = absurd (contains_none one has)
begins_later g angle place time counts (hop ∷ hops) one walk has =
    elim (contains_cases (visited hop) one (map visited hops) has) [
      | inl same ↦ omega (arith, walk.0.begins, ap (λ (v : Visited). v.begun) same)
      | inr behind ↦
          let later : hop.ended ≤ one.begun =
          follow hop.way
          (λ next. AreWithin g.notes.marks (after_pass g.notes.marks place next counts)
          × IsWalkFrom g angle next hop.ended (after_pass g.notes.marks place next counts) hops)
          (λ rest. Contains (map visited rest) one → hop.ended ≤ one.begun) hops walk.1
          (none_later hop.ended one)
          (λ next right.
          begins_later g angle next hop.ended (after_pass g.notes.marks place next counts) hops one right.1) behind in
          omega (
            arith,
            later,
            walk.0.begins,
            takes_time g.times angle hop (op_of hop.ins.op) walk.0.timed,
          )
    ]

-- all but the first begin when it has ended, or later
behind_later : (g : Setting) (angle place time : ℕ) (counts : List ℕ) (hop : Taken) (hops : List Taken)
    (one : Visited) → IsWalkFrom g angle place time counts (hop ∷ hops) → Contains (map visited hops) one
    → hop.begun < one.begun
behind_later g angle place time counts hop hops one walk behind =
    let later : hop.ended ≤ one.begun =
    follow hop.way
    (λ next. AreWithin g.notes.marks (after_pass g.notes.marks place next counts)
    × IsWalkFrom g angle next hop.ended (after_pass g.notes.marks place next counts) hops)
    (λ rest. Contains (map visited rest) one → hop.ended ≤ one.begun) hops walk.1 (none_later hop.ended one)
    (λ next right.
    begins_later g angle next hop.ended (after_pass g.notes.marks place next counts) hops one right.1) behind in
    omega (arith, later, takes_time g.times angle hop (op_of hop.ins.op) walk.0.timed)

one_begin_from : (g : Setting) (angle place time : ℕ) (counts : List ℕ) (hops : List Taken) (a b : Visited)
    → IsWalkFrom g angle place time counts hops → Contains (map visited hops) a → Contains (map visited hops) b
    → a.begun ≡ b.begun → a ≡ b
one_begin_from g angle place time counts [] a b walk has has_too same = absurd (contains_none a has)
one_begin_from g angle place time counts (hop ∷ hops) a b walk has has_too same =
    elim (contains_cases (visited hop) a (map visited hops) has) [
      | inl here ↦
          elim (contains_cases (visited hop) b (map visited hops) has_too) [
            | inl there ↦ sym here ∙ there
            | inr behind ↦
                absurd (omega (
                  arith,
                  same,
                  ap (λ (v : Visited). v.begun) here,
                  behind_later g angle place time counts hop hops b walk behind,
                ))
          ]
      | inr before ↦
          elim (contains_cases (visited hop) b (map visited hops) has_too) [
            | inl there ↦
                absurd (omega (
                  arith,
                  same,
                  ap (λ (v : Visited). v.begun) there,
                  behind_later g angle place time counts hop hops a walk before,
                ))
            | inr behind ↦
                follow hop.way
                (λ next. AreWithin g.notes.marks (after_pass g.notes.marks place next counts)
                × IsWalkFrom g angle next hop.ended (after_pass g.notes.marks place next counts) hops)
                (λ rest. Contains (map visited rest) a → Contains (map visited rest) b → a ≡ b) hops walk.1
                (λ none also. absurd (contains_none a none))
                (λ next right one other.
                one_begin_from g angle next hop.ended (after_pass g.notes.marks place next counts) hops a b right.1
                one other same) before behind
          ]
    ]

-- ---- lists in strict order

-- Each comes before all that stand behind it.
AreOrdered : (Visited → Visited → Type 0) → List Visited → Type 0
AreOrdered R [] = Unit {0}
AreOrdered R (one ∷ others) = ((other : Visited) → Contains others other → R one other) × AreOrdered R others

module _ (R : Visited → Visited → Type 0) (chain : (a b c : Visited) → R a b → R b c → R a c)
    (one_way : (a b : Visited) → R a b → R b a → ⊥) where
  ordered : (xs : List Visited)
      → ((k : ℕ) (a b : Visited) → slice_get xs k ≡ Some a → slice_get xs (suc k) ≡ Some b → R a b)
      → AreOrdered R xs
  unfolding AreOrdered
  ordered [] next = tt
  ordered (x ∷ []) next = (λ other has. absurd (contains_none other has), tt)
  ordered (x ∷ y ∷ ys) next =
      let rest = ordered (y ∷ ys) (λ k. next (suc k)) in (
        λ other has.
            elim (contains_cases y other ys has) [
              | inl same ↦ subst (R x) same (next 0 x y refl refl)
              | inr behind ↦ chain x y other (next 0 x y refl refl) (rest.0 other behind)
            ],
        rest,
      )

  -- what stands behind, where the fronts are the same
  behind_too : (x y : Visited) (xs ys : List Visited) → AreOrdered R (x ∷ xs) → x ≡ y
      → ((z : Visited) → Contains (x ∷ xs) z → Contains (y ∷ ys) z)
      → (z : Visited) → Contains xs z → Contains ys z
  unfolding AreOrdered
  behind_too x y xs ys order same each z has =
      elim (contains_cases y z ys (each z (contains_there x z xs has))) [
        | inl front ↦
            let itself : R x x = subst (R x) (sym (same ∙ front)) (order.0 z has) in
            absurd (one_way x x itself itself)
        | inr behind ↦ behind
      ]

  same_lists : (xs ys : List Visited) → AreOrdered R xs → AreOrdered R ys
      → ((z : Visited) → Contains xs z → Contains ys z) → ((z : Visited) → Contains ys z → Contains xs z)
      → xs ≡ ys
  unfolding AreOrdered
  same_lists [] [] p q there back = refl
  same_lists [] (y ∷ ys) p q there back = absurd (contains_none y (back y (contains_here y ys)))
  same_lists (x ∷ xs) [] p q there back = absurd (contains_none x (there x (contains_here x xs)))
  same_lists (x ∷ xs) (y ∷ ys) p q there back =
      let same : x ≡ y =
      elim (contains_cases y x ys (there x (contains_here x xs))) [
        | inl front ↦ sym front
        | inr behind ↦
            elim (contains_cases x y xs (back y (contains_here y ys))) [
              | inl front ↦ front
              | inr before ↦ absurd (one_way x y (p.0 y before) (q.0 x behind))
            ]
      ] in
      let rest : xs ≡ ys =
      same_lists xs ys p.1 q.1 (behind_too x y xs ys p same there) (behind_too y x ys xs q (sym same) back) in
      ap (λ (front : Visited). front ∷ xs) same ∙ ap (λ (behind : List Visited). y ∷ behind) rest

-- ---- the kinds of a walk

-- the first hop of a kind is one
first_one : (walk : List Visited) (a b : Visited) → IsFirst walk a → IsFirst walk b → is_alike b a ≡ true → a ≡ b
first_one walk a b p q so = go p.0 q.0 (sym p.2 ∙ q.2) p.3 q.3
  where
    unlike : false ≡ true → ⊥
    unlike e = cc

    go : (before behind : List Visited) → before ++ a ∷ p.1 ≡ behind ++ b ∷ q.1
        → ((hop : Visited) → Contains before hop → is_alike a hop ≡ false)
        → ((hop : Visited) → Contains behind hop → is_alike b hop ≡ false) → a ≡ b
    go [] [] same none none_too = cc
    go [] (one ∷ behind) same none none_too =
        let front : one ≡ a = cc in
        absurd (unlike (sym (none_too one (contains_here one behind)) ∙ ap (is_alike b) front ∙ so))
    go (one ∷ before) [] same none none_too =
        let front : one ≡ b = cc in
        absurd (unlike (sym (none one (contains_here one before)) ∙ ap (is_alike a) front ∙ alike_equiv.symm a b ∙ so))
    go (one ∷ before) (other ∷ behind) same none none_too =
        let rest : before ++ a ∷ p.1 ≡ behind ++ b ∷ q.1 = cc in
        go before behind rest (λ hop has. none hop (contains_there one hop before has))
        (λ hop has. none_too hop (contains_there other hop behind has))

-- a kind comes before another, in strict order
abbrev IsDearer : List Visited → Visited → Visited → Type 0
IsDearer walk a b = (time_alike walk b < time_alike walk a)
    ⊎ ((time_alike walk a ≡ time_alike walk b) × (a.begun < b.begun))

dearer_chain : (walk : List Visited) (a b c : Visited) → IsDearer walk a b → IsDearer walk b c → IsDearer walk a c
dearer_chain walk a b c (inl p) (inl q) = inl (omega (arith, p, q))
dearer_chain walk a b c (inl p) (inr q) = inl (omega (arith, p, q.0))
dearer_chain walk a b c (inr p) (inl q) = inl (omega (arith, p.0, q))
dearer_chain walk a b c (inr p) (inr q) = inr (p.0 ∙ q.0, omega (arith, p.1, q.1))

dearer_one_way : (walk : List Visited) (a b : Visited) → IsDearer walk a b → IsDearer walk b a → ⊥
dearer_one_way walk a b (inl p) (inl q) = omega (arith, p, q)
dearer_one_way walk a b (inl p) (inr q) = omega (arith, p, q.0)
dearer_one_way walk a b (inr p) (inl q) = omega (arith, p.0, q)
dearer_one_way walk a b (inr p) (inr q) = omega (arith, p.1, q.1)

-- A walk has one list of its kinds.
pub one_listing : (g : Setting) (angle used : ℕ) (walk firsts others : List Visited) → IsWalkOf g angle used walk
    → AreDearestFirst walk firsts → AreDearestFirst walk others → firsts ≡ others
one_listing g angle used walk firsts others is kinds kinds_too =
    same_lists (IsDearer walk) (dearer_chain walk) (dearer_one_way walk) firsts others
    (in_order firsts kinds) (in_order others kinds_too)
    (among firsts others kinds kinds_too) (among others firsts kinds_too kinds)
  where
    one_begin : (a b : Visited) → Contains walk a → Contains walk b → a.begun ≡ b.begun → a ≡ b
    one_begin a b has has_too same =
        one_begin_from g angle g.start 0 _ is.hops a b is.walk.from_start
        (subst (λ (visits : List Visited). Contains visits a) (sym is.same) has)
        (subst (λ (visits : List Visited). Contains visits b) (sym is.same) has_too) same

    hop_of_walk : (one : Visited) → IsFirst walk one → Contains walk one
    hop_of_walk one p =
        subst (λ (visits : List Visited). Contains visits one) (sym p.2)
        (Contains-append_right p.0 (one ∷ p.1) one (contains_here one p.1))

    among : (xs ys : List Visited) → AreDearestFirst walk xs → AreDearestFirst walk ys
        → (one : Visited) → Contains xs one → Contains ys one
    among xs ys p q one has =
        let first = p.first one has in
        let other = q.all one (hop_of_walk one first) in
        subst (Contains ys) (sym (first_one walk one other.0 first (q.first other.0 other.1) other.2)) other.1

    strict : (xs : List Visited) → AreDearestFirst walk xs → (k : ℕ) (a b : Visited)
        → slice_get xs k ≡ Some a → slice_get xs (suc k) ≡ Some b → Contains xs a → Contains xs b
        → ComesBefore walk a b → IsDearer walk a b
    strict xs p k a b at next has has_too (inl less) = inl less
    strict xs p k a b at next has has_too (inr same) = elim (cases_lt a.begun b.begun) [
      | inl less ↦ inr (same.0, less)
      | inr other ↦
          let one : a ≡ b =
          one_begin a b (hop_of_walk a (p.first a has)) (hop_of_walk b (p.first b has_too))
          (omega (arith, same.1, other)) in
          absurd (omega (
            arith,
            p.apart k (suc k) a b at next
                (sym (ap (is_alike a) one) ∙ alike_equiv.refl a),
          ))
    ]

    in_order : (xs : List Visited) → AreDearestFirst walk xs → AreOrdered (IsDearer walk) xs
    in_order xs p =
        ordered (IsDearer walk) (dearer_chain walk) (dearer_one_way walk) xs (λ k a b at next.
        strict xs p k a b at next (contains_from_get xs k a at) (contains_from_get xs (suc k) b next)
        (p.order k a b at next))
