-- How the lines of a text are taken, whatever they say.
use Rattle.std.proofs.Common.{◌≡◌, ℕ, suc, ◌+◌, List, [], ◌∷◌, ◌++◌, length, refl, ap, sym, ◌∙◌, subst, arith}
use Rattle.std.proofs.Common.{inl, append_assoc, length-append}
use Rattle.std.proofs.lemmas.List.{append-nil}
use Rattle.std.specs.Prelude.{Option, Some, None, IfSome, Result, Ok, Err, IfOk, IfErr, IsTrue, ◌↔◌}
use Rattle.std.proofs.Common.{Bool, true, false}
use Rattle.read_decks.specs.Lines.{lines_of, EachSays, HasFirstFault}
use Rattle.read_decks.specs.Taking.{HaveFaults, Rules, Passed, GoesFrom, GoesOn}
use Rattle.read_decks.proofs.FirstFaults.{say_append}

-- behind these lines all up to those that are left have been taken
abbrev pub HasPassed : {State Fault : Type 0} → (rules : Rules State Fault) → (new : State) → (count : ℕ)
    → (rest left : List (List ℕ)) → (before : List rules.Line) → Type 0
HasPassed rules new count rest left before =
    (after : List rules.Line) × Passed rules before rest after left × (count ≡ length after) × rules.Holds new after

pub none_passed : {State Fault : Type 0} (rules : Rules State Fault) (state : State) (count : ℕ)
    (rest : List (List ℕ)) (before : List rules.Line) → count ≡ length before → rules.Holds state before
    → HasPassed rules state count rest rest before
none_passed rules state count rest before counted holds = (
  before,
  record {
    texts = [];
    lines = [];
    split = refl;
    said = tt;
    all = sym (append-nil before);
    sound = λ sound. sound;
    faults = λ of_left have. have;
  },
  counted,
  holds,
)

-- a sound line more
pub one_passed : {State Fault : Type 0} (rules : Rules State Fault) (old new : State) (count : ℕ)
    (rest left left' : List (List ℕ)) (text : List ℕ) (before : List rules.Line) → left ≡ text ∷ left'
    → (p : HasPassed rules old count rest left before) → (line : rules.Line) → rules.Says text line
    → rules.AreSound (p.0 ++ line ∷ []) → rules.Holds new (p.0 ++ line ∷ [])
    → HasPassed rules new (count + 1) rest left' before
one_passed {State} {Fault} rules old new count rest left left' text before steps (after, p, counted, held) line says
    sound holds = (
      after ++ line ∷ [],
      record {
        texts = p.texts ++ text ∷ [];
        lines = p.lines ++ line ∷ [];
        split =
            p.split ∙ ap (λ (xs : List (List ℕ)). p.texts ++ xs) steps ∙ sym (append_assoc p.texts (text ∷ []) left');
        said = say_append rules.Says p.texts p.lines text line p.said says;
        all = ap (λ (ls : List rules.Line). ls ++ line ∷ []) p.all ∙ append_assoc before p.lines (line ∷ []);
        sound = λ _. sound;
        faults = λ of_left have.
            p.faults of_left (subst (λ (texts : List (List ℕ)).
            HaveFaults rules.comment rules.Says rules.AreSound rules.HasFault after texts of_left) (sym steps)
            (inl (line, says, sound, have)));
      },
      omega (arith, counted, length-append after (line ∷ [])),
      holds,
    )

-- of a text of which no line has been taken
pub from_first : {State Fault : Type 0} (rules : Rules State Fault) (text : List ℕ) (new : State) (count : ℕ)
    (left : List (List ℕ)) (outcome : Option Fault) {first old : State} {number : ℕ} {rest : List ℕ}
    → GoesOn rules old new number count (lines_of rest) left outcome → old ≡ first → rest ≡ text → number ≡ 0
    → rules.Holds first [] → GoesFrom rules new count (lines_of text) left [] outcome
from_first {State} rules text new count left outcome {first} {old} {number} {rest} goes same all none holds =
    subst (λ (bytes : List ℕ). GoesFrom rules new count (lines_of bytes) left [] outcome) all
    (goes [] none (subst (λ (state : State). rules.Holds state []) (sym same) holds))

-- what all lines of a text say, where none has a fault
pub record Whole {State Fault : Type 0} (rules : Rules State Fault) (texts : List (List ℕ))
    (lines : List rules.Line) : Type 0 where
  pub said : EachSays rules.Says texts lines
  pub sound : rules.AreSound lines

pub whole_of : {State Fault : Type 0} (rules : Rules State Fault) (texts : List (List ℕ)) (lines : List rules.Line)
    → rules.AreSound [] → Passed rules [] texts lines [] → Whole rules texts lines
whole_of rules texts lines nothing p = record {
  said =
      subst (λ (ts : List (List ℕ)). EachSays rules.Says ts lines) (sym (p.split ∙ append-nil p.texts))
      (subst (EachSays rules.Says p.texts) (sym p.all) p.said);
  sound = p.sound nothing;
}

pub say_length : {Line : Type 0} (Says : List ℕ → Line → Type 0) (texts : List (List ℕ)) (lines : List Line)
    → EachSays Says texts lines → length texts ≡ length lines
say_length Says [] [] p = refl
say_length Says [] (one ∷ lines) p = absurd p
say_length Says (one ∷ texts) [] p = absurd p
say_length Says (one ∷ texts) (other ∷ lines) p = ap suc (say_length Says texts lines p.1)

-- the first fault that is met is the text's first
pub first_met : {State Fault Of : Type 0} (rules : Rules State Fault)
    (IsFaultOfLine : List rules.Line → ℕ → List ℕ → Of → Type 0) (text line : List ℕ) (left : List (List ℕ))
    (after : List rules.Line) (fault : Of) → rules.AreSound [] → Passed rules [] (lines_of text) after (line ∷ left)
    → IsFaultOfLine after (length after + 1) line fault
    → HasFirstFault rules.Says rules.AreSound IsFaultOfLine text fault
first_met rules IsFaultOfLine text line left after fault nothing p has = record {
  texts = p.texts;
  line = line;
  others = left;
  split = p.split;
  before = after;
  said = subst (EachSays rules.Says p.texts) (sym p.all) p.said;
  sound = p.sound nothing;
  first =
      let long : length after ≡ length p.texts =
      ap length p.all ∙ sym (say_length rules.Says p.texts p.lines p.said) in
      subst (λ (n : ℕ). IsFaultOfLine after (n + 1) line fault) long has;
}

-- a test that finds no such thing shows that there is none
pub none_by : {P : Type 0} (test : Bool) → (IsTrue test ↔ P) → test ≡ false → ¬ P
none_by test means is_false such = let is_true : test ≡ true = means.1 such in cc

-- what a text says is what a device says that it was read from
pub ok_of_left : {V E : Type 0} (P : List ℕ → V → Type 0) (left : Option (List ℕ)) (whole text : List ℕ)
    (result : Result V E) → text ≡ whole → IfSome left (λ bytes. whole ≡ bytes) → IfOk result (P text)
    → IfOk result (λ value. IfSome left (λ bytes. P bytes value))
ok_of_left P None whole text (Ok value) same all held = tt
ok_of_left P (Some bytes) whole text (Ok value) same all held = subst (λ (bs : List ℕ). P bs value) (same ∙ all) held
ok_of_left P left whole text (Err fault) same all held = tt

pub err_of_left : {V E : Type 0} (P : List ℕ → E → Type 0) (left : Option (List ℕ)) (whole text : List ℕ)
    (result : Result V E) (read memory : E) → text ≡ whole → IfSome left (λ bytes. whole ≡ bytes)
    → IfErr result (λ fault. (fault ≡ memory → ⊥) → P text fault)
    → IfErr result (λ fault. (fault ≡ read → ⊥) → (fault ≡ memory → ⊥) → IfSome left (λ bytes. P bytes fault))
err_of_left P left whole text (Ok value) read memory same all held = tt
err_of_left P None whole text (Err fault) read memory same all held = λ not_read not_memory. tt
err_of_left P (Some bytes) whole text (Err fault) read memory same all held =
    λ not_read not_memory. subst (λ (bs : List ℕ). P bs fault) (same ∙ all) (held not_memory)
