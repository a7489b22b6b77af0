-- The ends of the hops of a table's entries: of each entry in order, those of its location's hops by their numbers.
use Rattle.std.proofs.Common.{◌≡◌, ℕ, zero, suc, ◌+◌, ◌-◌, ◌%◌, List, [], ◌∷◌, ◌++◌, length, map, Some, refl, ap, sym}
use Rattle.std.proofs.Common.{◌∙◌, subst, inl, inr, arith}
use Rattle.std.specs.Prelude.{slice_get, Contains, sum}
use Rattle.std.proofs.lemmas.List.{length-append}
use Rattle.std.proofs.lemmas.List.Elements.{Contains-append_left, Contains-append_right, Contains-append_cases}
use Rattle.std.proofs.lemmas.List.Sums.{sum-map, sum_by-cons}
use Rattle.base_graphs.proofs.Lists.{contains_here, contains_there, contains_cases, contains_none}
use Rattle.flow_graph.specs.Hops.{Hop, hops}
use Rattle.flow_graph.specs.Walk.{Setting}
use Rattle.flow_graph.specs.Longest.{longest}
use Rattle.flow_graph.proofs.LongestLaws.{longest_later}
use Rattle.bound_scan.specs.Ends.{HopEnd, IsHop, IsHopEnd, AreUnlike, AreEnds}
use Rattle.bound_scan.specs.Table.{Row, AreApart}

-- the word times used at the latest at the end of a hop that begins with `begun` used, from the
-- angle behind the start's
abbrev pub latest_end : Setting → ℕ → Hop → ℕ → ℕ
latest_end g place hop begun =
    let angle = (g.start + 1) % 50 in
    longest g.times place hop.ins hop.way (angle + begun) - angle

-- the end of an entry's hop of this number
abbrev pub end_of : Setting → Row → ℕ → Hop → HopEnd
end_of g row number hop =
    record {
      place = row.place;
      counts = row.counts;
      number = number;
      begun = row.time;
      ended =
          latest_end g row.place hop row.time;
    }

-- the ends of some of an entry's hops, numbered from this number on
abbrev pub ends_at : Setting → Row → ℕ → List Hop → List HopEnd
ends_at g row number [] = []
ends_at g row number (hop ∷ left) = end_of g row number hop ∷ ends_at g row (number + 1) left

-- the ends of all hops of these entries
abbrev pub ends_of : Setting → List Row → List HopEnd
ends_of g [] = []
ends_of g (row ∷ rows) = ends_at g row 0 (hops g.loads g.notes row.place) ++ ends_of g rows

-- an end is that of one of some hops of an entry, numbered from this number on
record IsOneOf (g : Setting) (row : Row) (number : ℕ) (left : List Hop) (end : HopEnd) : Type 0 where
  more : ℕ
  hop : Hop
  at : slice_get left more ≡ Some hop
  same : end_of g row (number + more) hop ≡ end

-- each end of some hops is that of one of them
one_at : (g : Setting) (row : Row) (number : ℕ) (left : List Hop) (end : HopEnd)
    → Contains (ends_at g row number left) end → IsOneOf g row number left end
one_at g row number [] end has = absurd (contains_none end has)
one_at g row number (hop ∷ left) end has =
    elim (contains_cases (end_of g row number hop) end (ends_at g row (number + 1) left) has) [
      | inl same ↦ record {
        more = 0;
        hop = hop;
        at = refl;
        same =
            ap (λ (n : ℕ). end_of g row n hop) (omega arith) ∙ same;
      }
      | inr behind ↦ (
          let of : IsOneOf g row (number + 1) left end = one_at g row (number + 1) left end behind in
          let numbers : number + suc of.more ≡ number + 1 + of.more = omega arith in
          record {
            more = suc of.more;
            hop = of.hop;
            at = of.at;
            same =
                ap (λ (n : ℕ). end_of g row n of.hop) numbers ∙ of.same;
          })
    ]

-- and each of the hops has its end
has_end : (g : Setting) (row : Row) (number : ℕ) (left : List Hop) (k : ℕ) (hop : Hop) → slice_get left k ≡ Some hop
    → Contains (ends_at g row number left) (end_of g row (number + k) hop)
has_end g row number [] k hop at = cc
has_end g row number (first ∷ left) zero hop at =
    let same : first ≡ hop = cc in
    let numbers : number ≡ number + 0 = omega arith in
    subst (λ (n : ℕ). Contains (ends_at g row number (first ∷ left)) (end_of g row n hop)) numbers
    (subst (λ (one : Hop). Contains (ends_at g row number (first ∷ left)) (end_of g row number one)) same
    (contains_here (end_of g row number first) (ends_at g row (number + 1) left)))
has_end g row number (first ∷ left) (suc k) hop at =
    let numbers : number + 1 + k ≡ number + suc k = omega arith in
    subst (λ (n : ℕ). Contains (ends_at g row number (first ∷ left)) (end_of g row n hop)) numbers
    (contains_there (end_of g row number first) (end_of g row (number + 1 + k) hop) (ends_at g row (number + 1) left)
    (has_end g row (number + 1) left k hop at))

-- no two ends of an entry's hops are of one number
unlike_at : (g : Setting) (row : Row) (number : ℕ) (left : List Hop) → AreUnlike (ends_at g row number left)
unlike_at g row number [] = tt
unlike_at g row number (hop ∷ left) = (
  λ other there places counts same.
      let of : IsOneOf g row (number + 1) left other = one_at g row (number + 1) left other there in
      let numbers : number + 1 + of.more ≡ other.number = ap (λ (end : HopEnd). end.number) of.same in
      omega (arith, same, numbers),
  unlike_at g row (number + 1) left,
)

-- ends of which no two are alike, and others that none of them is like
unlike_append : (ends others : List HopEnd) → AreUnlike ends → AreUnlike others
    → ((end other : HopEnd) → Contains ends end → Contains others other → end.place ≡ other.place
    → end.counts ≡ other.counts → ⊥) → AreUnlike (ends ++ others)
unlike_append [] others unlike rest apart = rest
unlike_append (end ∷ ends) others unlike rest apart = (
  λ other there places counts same. elim (Contains-append_cases ends others other there) [
    | inl behind ↦ unlike.0 other behind places counts same
    | inr past ↦ apart end other (contains_here end ends) past places counts
  ],
  unlike_append ends others unlike.1 rest
      (λ one other behind past. apart one other (contains_there end one ends behind) past),
)

-- an end is that of a hop of one of these entries
pub record IsEndIn (g : Setting) (rows : List Row) (end : HopEnd) : Type 0 where
  pub row : Row
  pub number : ℕ
  pub hop : Hop
  pub there : Contains rows row
  pub of : IsHop g row.place number hop
  pub same : end_of g row number hop ≡ end

-- each of the ends is that of a hop of an entry
pub end_in : (g : Setting) (rows : List Row) (end : HopEnd) → Contains (ends_of g rows) end → IsEndIn g rows end
end_in g [] end has = absurd (contains_none end has)
end_in g (row ∷ rows) end has =
    elim (Contains-append_cases (ends_at g row 0 (hops g.loads g.notes row.place)) (ends_of g rows) end has) [
      | inl here ↦ (
          let one : IsOneOf g row 0 (hops g.loads g.notes row.place) end =
          one_at g row 0 (hops g.loads g.notes row.place) end here in
          let number : one.more ≡ 0 + one.more = omega arith in
          record {
            row = row;
            number = one.more;
            hop = one.hop;
            there = contains_here row rows;
            of = one.at;
            same = ap (λ (n : ℕ). end_of g row n one.hop) number ∙ one.same;
          })
      | inr behind ↦ (
          let one : IsEndIn g rows end = end_in g rows end behind in
          record {
            row = one.row;
            number = one.number;
            hop = one.hop;
            there =
                contains_there row one.row rows one.there;
            of = one.of;
            same = one.same;
          })
    ]

-- and each hop of each entry has its end
pub has_in : (g : Setting) (rows : List Row) (row : Row) (number : ℕ) (hop : Hop) → Contains rows row
    → IsHop g row.place number hop
    → Contains (ends_of g rows) (end_of g row number hop)
has_in g [] row number hop has is = absurd (contains_none row has)
has_in g (first ∷ rows) row number hop has is =
    elim (contains_cases first row rows has) [
      | inl same ↦ (
          let numbers : 0 + number ≡ number = omega arith in
          let own : Contains (ends_at g row 0 (hops g.loads g.notes row.place)) (end_of g row number hop) =
          subst (λ (n : ℕ). Contains (ends_at g row 0 (hops g.loads g.notes row.place)) (end_of g row n hop)) numbers
          (has_end g row 0 (hops g.loads g.notes row.place) number hop is) in
          let here : Contains (ends_of g (row ∷ rows)) (end_of g row number hop) =
          Contains-append_left (ends_at g row 0 (hops g.loads g.notes row.place)) (ends_of g rows)
          (end_of g row number hop) own in
          subst (λ (one : Row). Contains (ends_of g (one ∷ rows)) (end_of g row number hop)) (sym same) here)
      | inr behind ↦ Contains-append_right (ends_at g first 0 (hops g.loads g.notes first.place)) (ends_of g rows)
          (end_of g row number hop)
          (has_in g rows row number hop behind is)
    ]

-- no two ends of entries without repeats are of one place, counts and hop
unlike_in : (g : Setting) (rows : List Row) → AreApart rows → AreUnlike (ends_of g rows)
unlike_in g [] apart = tt
unlike_in g (row ∷ rows) apart =
    unlike_append (ends_at g row 0 (hops g.loads g.notes row.place)) (ends_of g rows)
    (unlike_at g row 0 (hops g.loads g.notes row.place)) (unlike_in g rows apart.1)
    (λ end other here behind places counts.
    let of : IsOneOf g row 0 (hops g.loads g.notes row.place) end =
    one_at g row 0 (hops g.loads g.notes row.place) end here in
    let one : IsEndIn g rows other = end_in g rows other behind in
    apart.0 one.row one.there
    (ap (λ (e : HopEnd). e.place) of.same ∙ places ∙ ap (λ (e : HopEnd). e.place) (sym one.same))
    (ap (λ (e : HopEnd). e.counts) of.same ∙ counts ∙ ap (λ (e : HopEnd). e.counts) (sym one.same)))

-- the end of an entry's hop is as it should be
is_end : (g : Setting) (row : Row) (number : ℕ) (hop : Hop) → IsHopEnd g row number hop (end_of g row number hop)
is_end g row number hop = record {
  place = refl;
  counts = refl;
  of = refl;
  begun = refl;
  ended = omega (arith, longest_later g.times row.place hop.ins hop.way ((g.start + 1) % 50 + row.time));
}

-- where an end of all is from
whose : (g : Setting) (rows : List Row) (end : HopEnd) → IsEndIn g rows end
    → (row : Row) × (hop : Hop) × Contains rows row × IsHop g row.place end.number hop
    × IsHopEnd g row end.number hop end
whose g rows end one =
    let number : one.number ≡ end.number = ap (λ (e : HopEnd). e.number) one.same in (
      one.row,
      one.hop,
      one.there,
      subst (λ (n : ℕ). IsHop g one.row.place n one.hop) number one.of,
      subst (λ (n : ℕ). IsHopEnd g one.row n one.hop end) number
          (subst (IsHopEnd g one.row one.number one.hop) one.same (is_end g one.row one.number one.hop)),
    )

-- These are the ends of the hops of a table's entries.
pub are_ends : (g : Setting) (rows : List Row) → AreApart rows → AreEnds g rows (ends_of g rows)
are_ends g rows apart = record {
  each = λ end has. whose g rows end (end_in g rows end has);
  all = λ row number hop has is.
      (end_of g row number hop, has_in g rows row number hop has is, is_end g row number hop);
  once = unlike_in g rows apart;
}

-- some hops have as many ends
as_many_at : (g : Setting) (row : Row) (number : ℕ) (left : List Hop) → length (ends_at g row number left) ≡ length left
as_many_at g row number [] = refl
as_many_at g row number (hop ∷ left) = omega (arith, as_many_at g row (number + 1) left)

-- There are as many ends as the entries' locations have hops.
pub as_many_ends : (g : Setting) (rows : List Row)
    → length (ends_of g rows) ≡ sum (map (λ (row : Row). length (hops g.loads g.notes row.place)) rows)
as_many_ends g [] = refl
as_many_ends g (row ∷ rows) =
    let hops_at : Row → ℕ = λ one. length (hops g.loads g.notes one.place) in
    let here : List HopEnd = ends_at g row 0 (hops g.loads g.notes row.place) in
    omega (
      arith,
      length-append here (ends_of g rows),
      as_many_at g row 0 (hops g.loads g.notes row.place),
      as_many_ends g rows,
      sum-map hops_at (row ∷ rows),
      sum_by-cons hops_at row rows,
      sum-map hops_at rows,
    )
