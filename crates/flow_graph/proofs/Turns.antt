-- A closed list, turned so that its smallest member is the first, is closed.
use Rattle.std.proofs.Common.{◌≡◌, ℕ, zero, suc, ◌+◌, List, [], ◌∷◌, ◌++◌, take, drop}
use Rattle.std.proofs.Common.{Some, refl, ap, sym, ◌∙◌, subst, inl, inr}
use Rattle.std.specs.Prelude.{slice_get, Contains}
use Rattle.std.proofs.lemmas.List.{append-nil, take-append-drop, drop_more, map-append, take-map, drop-map}
use Rattle.std.proofs.lemmas.List.Elements.{Contains-append_left, Contains-append_right, Contains-append_cases}
use Rattle.std.proofs.lemmas.Option.{slice_get_within, get_or_from_slice_get}
use Rattle.base_words.specs.declared.location.Location.{Location}
use Rattle.base_graphs.specs.Graph.{AreDifferent, LeadRound, IsClosed}
use Rattle.base_graphs.proofs.Lists.{contains_here, contains_there, contains_cases, contains_none}
use Rattle.flow_graph.specs.Accepted.{IsSmallestFirst}
use Rattle.flow_graph.specs.Turned.{IsTurned}
use Rattle.flow_graph.proofs.Founds.{numbers}

-- the location behind a number
pub location_at : (locations : List Location) (k n : ℕ) → slice_get (numbers locations) k ≡ Some n
    → (location : Location) × (slice_get locations k ≡ Some location) × (location.number ≡ n)
location_at [] k n e = cc
location_at (one ∷ locations) zero n e = (one, refl, same)
  where
    same : one.number ≡ n
    same = cc
location_at (one ∷ locations) (suc k) n e = location_at locations k n e

-- the numbers of a list that is turned
pub numbers_turned : (locations : List Location) (k : ℕ)
    → numbers (drop k locations ++ take k locations) ≡ drop k (numbers locations) ++ take k (numbers locations)
numbers_turned locations k =
    map-append (λ (one : Location). one.number) (drop k locations) (take k locations)
    ∙ ap (λ (ns : List ℕ). ns ++ numbers (take k locations))
    (sym (drop-map (λ (one : Location). one.number) k locations))
    ∙ ap (λ (ns : List ℕ). drop k (numbers locations) ++ ns)
    (sym (take-map (λ (one : Location). one.number) k locations))

module _ {X : Type 0} where
  module _ (Edge : X → X → Type 0) where
    -- a way round, cut at a member
    cut : (first node mid : X) (before behind : List X) → LeadRound Edge first node (before ++ mid ∷ behind)
        → LeadRound Edge mid node before × LeadRound Edge first mid behind
    cut first node mid [] behind round = (round.0, round.1)
    cut first node mid (one ∷ before) behind round =
        let parts = cut first one mid before behind round.1 in
        ((round.0, parts.0), parts.1)

    -- two ways put together
    join : (first node mid : X) (before behind : List X) → LeadRound Edge mid node before
        → LeadRound Edge first mid behind → LeadRound Edge first node (before ++ mid ∷ behind)
    join first node mid [] behind one other = (one, other)
    join first node mid (next ∷ before) behind one other = (one.0, join first next mid before behind one.1 other)

    closed_turned : (before behind : List X) (mid : X) → IsClosed Edge (before ++ mid ∷ behind)
        → IsClosed Edge ((mid ∷ behind) ++ before)
    closed_turned [] behind mid round =
        subst (λ xs. IsClosed Edge (mid ∷ xs)) (sym (append-nil behind)) round
    closed_turned (node ∷ before) behind mid round =
        let parts = cut node node mid before behind round in
        join mid mid node behind before parts.1 parts.0

  different_parts : (xs ys : List X) → AreDifferent (xs ++ ys) → AreDifferent xs × AreDifferent ys
      × ((n : X) → Contains xs n → ¬ Contains ys n)
  different_parts [] ys d = (tt, d, λ n there. absurd (contains_none n there))
  different_parts (x ∷ xs) ys d =
      let parts = different_parts xs ys d.1 in (
        (λ there. d.0 (Contains-append_left xs ys x there), parts.0),
        parts.1,
        λ n there other. elim (contains_cases x n xs there) [
          | inl same ↦ d.0 (Contains-append_right xs ys x (subst (λ z. Contains ys z) (sym same) other))
          | inr behind ↦ parts.2 n behind other
        ],
      )

  different_joined : (xs ys : List X) → AreDifferent xs → AreDifferent ys → ((n : X) → Contains xs n → ¬ Contains ys n)
      → AreDifferent (xs ++ ys)
  different_joined [] ys d e apart = e
  different_joined (x ∷ xs) ys d e apart = (
    λ there. elim (Contains-append_cases xs ys x there) [
      | inl left ↦ d.0 left
      | inr right ↦ apart x (contains_here x xs) right
    ],
    different_joined xs ys d.1 e (λ n there. apart n (contains_there x n xs there)),
  )

  different_turned : (xs ys : List X) → AreDifferent (xs ++ ys) → AreDifferent (ys ++ xs)
  different_turned xs ys d =
      let parts = different_parts xs ys d in
      different_joined ys xs parts.1 parts.0 (λ n there other. parts.2 n other there)

  -- the members of a list that is turned
  pub members_turned : (list : List X) (k : ℕ) (x : X) → Contains (drop k list ++ take k list) x → Contains list x
  members_turned list k x there =
      subst (λ xs. Contains xs x) (take-append-drop k list)
      (elim (Contains-append_cases (drop k list) (take k list) x there) [
        | inl left ↦ Contains-append_right (take k list) (drop k list) x left
        | inr right ↦ Contains-append_left (take k list) (drop k list) x right
      ])

  pub different_from : (list : List X) (k : ℕ) → AreDifferent list → AreDifferent (drop k list ++ take k list)
  different_from list k different =
      different_turned (take k list) (drop k list) (subst AreDifferent (sym (take-append-drop k list)) different)

  -- the list from a member on
  pub from_member : (list : List X) (k : ℕ) (mid : X) → slice_get list k ≡ Some mid
      → drop k list ≡ mid ∷ drop (k + 1) list
  from_member list k mid at =
      drop_more list k mid (slice_get_within list k mid at)
      ∙ ap (λ n. n ∷ drop (k + 1) list) (get_or_from_slice_get list k mid mid at)

  -- A closed list is closed from each member on.
  pub closed_from : (Edge : X → X → Type 0) (list : List X) (k : ℕ) (mid : X) → slice_get list k ≡ Some mid
      → IsClosed Edge list → IsClosed Edge (drop k list ++ take k list)
  closed_from Edge list k mid at closed =
      subst (IsClosed Edge) (ap (λ xs. xs ++ take k list) (sym (from_member list k mid at)))
      (closed_turned Edge (take k list) (drop (k + 1) list) mid
      (subst (IsClosed Edge)
      (sym (take-append-drop k list) ∙ ap (λ xs. take k list ++ xs) (from_member list k mid at)) closed))

-- the smallest member is the first
pub smallest_turned : (list turned : List ℕ) → IsTurned list turned → IsSmallestFirst turned
smallest_turned list turned t =
    subst IsSmallestFirst (sym (t.parts ∙ ap (λ (xs : List ℕ). xs ++ take t.place list) rest))
    (λ place there. t.least t.member.0 place t.member.1
    (members_turned list t.place place
    (subst (λ (xs : List ℕ). Contains (xs ++ take t.place list) place) (sym rest)
    (contains_there t.member.0 place (drop (t.place + 1) list ++ take t.place list) there))))
  where
    rest : drop t.place list ≡ t.member.0 ∷ drop (t.place + 1) list
    rest = from_member list t.place t.member.0 t.member.1
