-- How the faults of a text's lines are found, one by one, whatever the lines say.
use Rattle.std.proofs.Common.{◌≡◌, ℕ, ◌<◌, List, [], ◌∷◌, ◌++◌, length, refl, ap, sym, subst, arith, inr}
use Rattle.std.proofs.Common.{Some, None, length-append, append_assoc}
use Rattle.std.proofs.lemmas.List.{append-nil}
use Rattle.read_decks.specs.Taking.{HaveFaults, Rules, GoesFrom}

-- the faults of lines behind others
abbrev pub Have : {State Fault : Type 0} → (rules : Rules State Fault) → List rules.Line → List (List ℕ) → List Fault
    → Type 0
Have rules before texts faults =
    HaveFaults rules.comment rules.Says rules.AreSound rules.HasFault before texts faults

-- Of a text's lines the faults of some have been found, and these are left: with the faults of
-- those that are left, they are those of all.
pub record Told {State Fault : Type 0} (rules : Rules State Fault) (all left : List (List ℕ)) (state : State)
    (number : ℕ) (faults : List Fault) : Type 0 where
  pub before : List rules.Line
  pub counted : number ≡ length before
  pub holds : rules.Holds state before
  pub told : (others : List Fault) → Have rules before left others → Have rules [] all (faults ++ others)

pub fault_told : {State Fault : Type 0} (rules : Rules State Fault) (all rest left : List (List ℕ)) (old new : State)
    (number count : ℕ) (faults : List Fault) (fault : Fault) → (p : Told rules all rest old number faults)
    → GoesFrom rules new count rest left p.before (Some fault) → Told rules all left new count (faults ++ fault ∷ [])
fault_told {State} {Fault} rules all rest left old new number count faults fault p
    (after, text, passed, counted, has, holds) = record {
      before = after ++ rules.comment ∷ [];
      counted = omega (arith, counted, length-append after (rules.comment ∷ []));
      holds = holds;
      told = λ others have.
          subst (Have rules [] all) (sym (append_assoc faults (fault ∷ []) others))
          (p.told (fault ∷ others) (passed.faults (fault ∷ others) (inr (fault, others, refl, has, have))));
    }

pub all_told : {State Fault : Type 0} (rules : Rules State Fault) (all rest left : List (List ℕ)) (old new : State)
    (number count : ℕ) (faults : List Fault) → (p : Told rules all rest old number faults)
    → GoesFrom rules new count rest left p.before None → Have rules [] all faults
all_told rules all rest left old new number count faults p (after, passed, holds) =
    subst (Have rules [] all) (append-nil faults) (p.told [] (passed.faults [] refl))

-- fewer lines are left behind a fault
pub fewer_left : {State Fault : Type 0} (rules : Rules State Fault) (rest left : List (List ℕ)) (new : State)
    (count : ℕ) (before : List rules.Line) (fault : Fault) → GoesFrom rules new count rest left before (Some fault)
    → length left < length rest
fewer_left rules rest left new count before fault (after, text, passed, counted, has, holds) =
    omega (arith, ap length passed.split, length-append passed.texts (text ∷ left))
