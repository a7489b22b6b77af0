-- Edges are left out where the others are enough.
use Rattle.std.proofs.Common.{◌≡◌, ℕ, List, ◌∷◌, ◌++◌, Option, sym, subst, inl, inr, []}
use Rattle.std.specs.Prelude.{Contains}
use Rattle.std.proofs.lemmas.List.Elements.{Contains-append_left, Contains-push, Contains-push_cases}
use Rattle.base_words.specs.declared.word.Word.{Word}
use Rattle.base_notes.specs.Allowed.{Notes}
use Rattle.base_graphs.specs.Graph.{LeadRound}
use Rattle.base_graphs.proofs.Lists.{contains_here, contains_there, contains_cases, contains_none}
use Rattle.flow_graph.specs.Hops.{Node}
use Rattle.flow_loops.specs.Loops.{AreApart, IsFreeBeside, IsFreeBut, IsNeeded}
use Rattle.flow_loops.specs.Spared.{AreEnough, LackSome, AreWithout, AreSpared}

-- with one more at the end none is there twice, if it is new
pub apart_push : (edges : List (ℕ × ℕ)) (edge : ℕ × ℕ) → AreApart edges → ¬ Contains edges edge
    → AreApart (edges ++ edge ∷ [])
apart_push [] edge apart new = (contains_none edge, tt)
apart_push (one ∷ edges) edge apart new = (
  λ there. elim (Contains-push_cases edges edge one there) [
    | inl was ↦ apart.0 was
    | inr same ↦ new (subst (λ (e : ℕ × ℕ). Contains (one ∷ edges) e) (sym same) (contains_here one edges))
  ],
  apart_push edges edge apart.1 (λ there. new (contains_there one edge edges there)),
)

-- the last of them is new
pub apart_last : (edges : List (ℕ × ℕ)) (edge : ℕ × ℕ) → AreApart (edges ++ edge ∷ [])
    → AreApart edges × ¬ Contains edges edge
apart_last [] edge apart = (tt, contains_none edge)
apart_last (one ∷ edges) edge apart = (
  (λ there. apart.0 (Contains-append_left edges (edge ∷ []) one there), (apart_last edges edge apart.1).0),
  λ there. elim (contains_cases one edge edges there) [
    | inl same ↦ apart.0
        (subst (λ (e : ℕ × ℕ). Contains (edges ++ edge ∷ []) e) (sym same) (Contains-push edges edge))
    | inr behind ↦ (apart_last edges edge apart.1).1 behind
  ],
)

module _ (edges : List (ℕ × ℕ)) (edge : ℕ × ℕ) (others : List (ℕ × ℕ)) (one : ℕ × ℕ)
    (before : AreWithout edges edge others) where
  -- the edge itself is left out
  pub without_it : edge ≡ one → AreWithout (edges ++ one ∷ []) edge others
  without_it same = record {
    kept = λ other there. Contains-append_left edges (one ∷ []) other (before.kept other there);
    gone = before.gone;
    all = λ other there. elim (Contains-push_cases edges one other there)
        [ inl was ↦ before.all other was | inr is ↦ inl (subst (λ (e : ℕ × ℕ). edge ≡ e) is same) ];
    apart = λ apart. before.apart (apart_last edges one apart).0;
  }

  -- another is kept
  pub without_more : (edge ≡ one → ⊥) → AreWithout (edges ++ one ∷ []) edge (others ++ one ∷ [])
  without_more other_one = record {
    kept = λ other there. elim (Contains-push_cases others one other there) [
      | inl was ↦ Contains-append_left edges (one ∷ []) other (before.kept other was)
      | inr same ↦ subst (λ (e : ℕ × ℕ). Contains (edges ++ one ∷ []) e) same (Contains-push edges one)
    ];
    gone = λ there. elim (Contains-push_cases others one edge there)
        [ inl was ↦ before.gone was | inr same ↦ other_one (sym same) ];
    all = λ other there. elim (Contains-push_cases edges one other there) [
      | inl was ↦ (elim (before.all other was)
          [ inl same ↦ inl same | inr is ↦ inr (Contains-append_left others (one ∷ []) other is) ])
      | inr same ↦ inr (subst (λ (e : ℕ × ℕ). Contains (others ++ one ∷ []) e) same (Contains-push others one))
    ];
    apart = λ apart.
        let parts = apart_last edges one apart in
        apart_push others one (before.apart parts.0) (λ there. parts.1 (before.kept one there));
  }

module _ (loads : ℕ → Option Word) (notes : Notes) (start : ℕ) where
  -- what is needed among some edges is needed among fewer
  round_fewer : (edges others : List (ℕ × ℕ)) (edge : ℕ × ℕ)
      → ((other : ℕ × ℕ) → Contains others other → Contains edges other) → (first node : Node) (nodes : List Node)
      → LeadRound (IsFreeBut loads notes edges edge) first node nodes
      → LeadRound (IsFreeBut loads notes others edge) first node nodes
  round_fewer edges others edge kept first node [] round =
      (round.0, λ there. round.1 (kept (node.place, first.place) there))
  round_fewer edges others edge kept first node (next ∷ nodes) round = (
    (round.0.0, λ there. round.0.1 (kept (node.place, next.place) there)),
    round_fewer edges others edge kept first next nodes round.1,
  )

  -- what is beside the others is beside all but this one
  round_but : (edges others : List (ℕ × ℕ)) (edge : ℕ × ℕ) → AreWithout edges edge others
      → (first node : Node) (nodes : List Node) → LeadRound (IsFreeBeside loads notes others) first node nodes
      → LeadRound (IsFreeBut loads notes edges edge) first node nodes
  round_but edges others edge without first node nodes round = go first node nodes round
    where
      only : (pair : ℕ × ℕ) → ¬ Contains others pair → Contains edges pair → pair ≡ edge
      only pair beside there = elim (without.all pair there)
          [ inl same ↦ sym same | inr is ↦ absurd (beside is) ]

      go : (first node : Node) (nodes : List Node) → LeadRound (IsFreeBeside loads notes others) first node nodes
          → LeadRound (IsFreeBut loads notes edges edge) first node nodes
      go first node [] round = (round.0, only (node.place, first.place) round.1)
      go first node (next ∷ nodes) round =
          ((round.0.0, only (node.place, next.place) round.0.1), go first next nodes round.1)

  module _ (left edges others : List (ℕ × ℕ)) (edge : ℕ × ℕ)
      (spared : AreSpared loads notes start (left ++ edge ∷ []) edges)
      (without : AreWithout edges edge others) where
    -- the edge is left out
    pub spared_out : AreEnough loads notes start others → AreSpared loads notes start left others
    spared_out enough = record {
      enough = enough;
      apart = without.apart spared.apart;
      needed = λ one there. elim (spared.needed one (without.kept one there)) [
        | inl untried ↦ (elim (Contains-push_cases left edge one untried) [
          | inl was ↦ inl was
          | inr same ↦ absurd (without.gone (subst (λ (e : ℕ × ℕ). Contains others e) (sym same) there))
        ])
        | inr is ↦ inr (record {
          first = is.first;
          others = is.others;
          within = is.within;
          closed = round_fewer edges others one without.kept is.first is.first is.others is.closed;
        })
      ];
    }

    -- or it is needed
    pub spared_kept : LackSome loads notes start others → AreSpared loads notes start left edges
    spared_kept lacks = record {
      enough = spared.enough;
      apart = spared.apart;
      needed = λ one there. elim (spared.needed one there) [
        | inl untried ↦ (elim (Contains-push_cases left edge one untried) [
          | inl was ↦ inl was
          | inr same ↦ inr (subst (IsNeeded loads notes start edges) same (record {
            first = lacks.first;
            others = lacks.others;
            within = lacks.within;
            closed = round_but edges others edge without lacks.first lacks.first lacks.others lacks.closed;
          }))
        ])
        | inr is ↦ inr is
      ];
    }
