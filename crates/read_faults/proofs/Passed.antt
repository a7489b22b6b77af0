-- The lines of a text that have been passed, none of which is one that is looked for.
use Rattle.std.proofs.Common.{◌≡◌, ℕ, zero, suc, ◌+◌, List, [], ◌∷◌, ◌++◌, length, refl, ap, sym, ◌∙◌, subst}
use Rattle.std.proofs.Common.{arith, inl, inr, ◌⊎◌, length-append, append_assoc}
use Rattle.std.proofs.lemmas.List.{append-nil}
use Rattle.std.specs.Prelude.{Any}
use Rattle.read_decks.specs.Lines.{lines_of}

-- The first `number` lines of a text have been passed, none of which is such a one, and this is
-- left.
pub record Passed (P : List ℕ → Type 0) (text rest : List ℕ) (number : ℕ) : Type 0 where
  pub texts : List (List ℕ)
  pub split : lines_of text ≡ texts ++ lines_of rest
  pub counted : number ≡ length texts
  pub none : ¬ Any P texts

-- how many, left aside
abbrev pub PassedSome : (List ℕ → Type 0) → List ℕ → List ℕ → Type 0
PassedSome P text rest = (number : ℕ) × Passed P text rest number

pub none_passed : (P : List ℕ → Type 0) (text rest : List ℕ) → text ≡ rest → Passed P text rest 0
none_passed P text rest same = record {
  texts = [];
  split = ap lines_of same;
  counted = refl;
  none = λ some. omega (arith, some.2);
}

-- of lines, one behind others is such a one
pub any_here : (P : List ℕ → Type 0) (texts : List (List ℕ)) (line : List ℕ) (others : List (List ℕ)) → P line
    → Any P (texts ++ line ∷ others)
any_here P [] line others here = (0, line, omega arith, refl, here)
any_here P (first ∷ texts) line others here =
    let rest = any_here P texts line others here in (suc rest.0, rest.1, omega (arith, rest.2), rest.3, rest.4)

-- one of the lines and those behind them is among the first or among the others
any_either : (P : List ℕ → Type 0) (texts others : List (List ℕ)) → Any P (texts ++ others)
    → Any P texts ⊎ Any P others
any_either P [] others some = inr some
any_either P (first ∷ texts) others (zero, line, within, here, is) = inl (0, line, omega arith, here, is)
any_either P (first ∷ texts) others (suc k, line, within, here, is) =
    elim (any_either P texts others (k, line, omega arith, here, is)) [
      | inl front ↦ inl (suc front.0, front.1, omega (arith, front.2), front.3, front.4)
      | inr behind ↦ inr behind
    ]

any_one : (P : List ℕ → Type 0) (line : List ℕ) → Any P (line ∷ []) → P line
any_one P line (zero, one, within, here, is) = subst P (sym here) is
any_one P line (suc k, one, within, here, is) = absurd (omega (arith, within))

pub one_passed : (P : List ℕ → Type 0) (text rest rest' line : List ℕ) (number : ℕ) → Passed P text rest number
    → lines_of rest ≡ line ∷ lines_of rest' → ¬ P line → Passed P text rest' (number + 1)
one_passed P text rest rest' line number p steps not = record {
  texts = p.texts ++ line ∷ [];
  split =
      p.split ∙ ap (λ (xs : List (List ℕ)). p.texts ++ xs) steps
      ∙ sym (append_assoc p.texts (line ∷ []) (lines_of rest'));
  counted = omega (arith, p.counted, length-append p.texts (line ∷ []));
  none = λ some. elim (any_either P p.texts (line ∷ []) some)
      [ inl front ↦ p.none front | inr here ↦ not (any_one P line here) ];
}

-- one is found
pub found_here : (P : List ℕ → Type 0) (text rest rest' line : List ℕ) (number : ℕ) → Passed P text rest number
    → lines_of rest ≡ line ∷ lines_of rest' → P line → Any P (lines_of text)
found_here P text rest rest' line number p steps is =
    subst (Any P) (sym (p.split ∙ ap (λ (xs : List (List ℕ)). p.texts ++ xs) steps))
    (any_here P p.texts line (lines_of rest') is)

all_passed : (P : List ℕ → Type 0) (text rest : List ℕ) (number : ℕ) (p : Passed P text rest number)
    → lines_of rest ≡ [] → lines_of text ≡ p.texts
all_passed P text rest number p nothing =
    p.split ∙ ap (λ (xs : List (List ℕ)). p.texts ++ xs) nothing ∙ append-nil p.texts

-- there is none
pub none_found : (P : List ℕ → Type 0) (text rest : List ℕ) (number : ℕ) → Passed P text rest number
    → lines_of rest ≡ [] → ¬ Any P (lines_of text)
none_found P text rest number p nothing some =
    p.none (subst (Any P) (all_passed P text rest number p nothing) some)
