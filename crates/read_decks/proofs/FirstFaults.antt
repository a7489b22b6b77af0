-- Laws of texts by lines, whatever a line says: what a text says is one, and so is its first fault.
use Rattle.std.proofs.Common.{◌≡◌, ℕ, ◌+◌, ◌<◌, List, [], ◌∷◌, ◌++◌, length, refl, ap, sym, ◌∙◌, subst, arith, inl, inr, ◌⊎◌}
use Rattle.std.proofs.Common.{append_assoc}
use Rattle.std.proofs.lemmas.Bool.{cases_lt}
use Rattle.std.proofs.lemmas.List.{append-nil}
use Rattle.read_decks.specs.Lines.{lines_of, EachSays, HasFirstFault}
use Rattle.read_decks.proofs.DeckLaws.{same_prefix}

-- texts say one list of lines
pub say_one : {Line : Type 0} (Says : List ℕ → Line → Type 0)
    → ((text : List ℕ) (a b : Line) → Says text a → Says text b → a ≡ b)
    → (texts : List (List ℕ)) (lines others : List Line) → EachSays Says texts lines → EachSays Says texts others
    → lines ≡ others
say_one Says one_line [] [] [] p q = refl
say_one Says one_line [] [] (b ∷ others) p q = absurd q
say_one Says one_line [] (a ∷ lines) others p q = absurd p
say_one Says one_line (text ∷ texts) [] others p q = absurd p
say_one Says one_line (text ∷ texts) (a ∷ lines) [] p q = absurd q
say_one Says one_line (text ∷ texts) (a ∷ lines) (b ∷ others) p q =
    let here : a ≡ b = one_line text a b p.0 q.0 in
    let further : lines ≡ others = say_one Says one_line texts lines others p.1 q.1 in
    cc

-- one more text says one more line
pub say_append : {Line : Type 0} (Says : List ℕ → Line → Type 0) (texts : List (List ℕ)) (lines : List Line)
    (text : List ℕ) (line : Line) → EachSays Says texts lines → Says text line
    → EachSays Says (texts ++ text ∷ []) (lines ++ line ∷ [])
say_append Says [] [] text line p says = (says, tt)
say_append Says [] (one ∷ lines) text line p says = absurd p
say_append Says (one ∷ texts) [] text line p says = absurd p
say_append Says (one ∷ texts) (other ∷ lines) text line p says =
    (p.0, say_append Says texts lines text line p.1 says)

-- what a text among others says
record Parts {Line : Type 0} (Says : List ℕ → Line → Type 0) (texts : List (List ℕ)) (text : List ℕ)
    (lines : List Line) : Type 0 where
  prefix : List Line
  line : Line
  behind : List Line
  split : lines ≡ prefix ++ line ∷ behind
  said : EachSays Says texts prefix
  says : Says text line

parts_of : {Line : Type 0} (Says : List ℕ → Line → Type 0) (texts : List (List ℕ)) (text : List ℕ)
    (others : List (List ℕ)) (lines : List Line) → EachSays Says (texts ++ text ∷ others) lines
    → Parts Says texts text lines
parts_of Says [] text others [] p = absurd p
parts_of Says [] text others (line ∷ lines) p =
    record { prefix = []; line = line; behind = lines; split = refl; said = tt; says = p.0 }
parts_of Says (first ∷ texts) text others [] p = absurd p
parts_of {Line} Says (first ∷ texts) text others (line ∷ lines) p =
    let rest = parts_of Says texts text others lines p.1 in
    record {
      prefix = line ∷ rest.prefix;
      line = rest.line;
      behind = rest.behind;
      split = ap (λ (xs : List Line). line ∷ xs) rest.split;
      said = (p.0, rest.said);
      says = rest.says;
    }

-- A line says one thing, a line among sound ones has no fault, and a line behind others has one.
pub record HasOneFault {Line Fault : Type 0} (Says : List ℕ → Line → Type 0) (AreSound : List Line → Type 0)
    (IsFault : List Line → ℕ → List ℕ → Fault → Type 0) : Type 0 where
  pub one_line : (text : List ℕ) (a b : Line) → Says text a → Says text b → a ≡ b
  pub none_among : (prefix : List Line) (line : Line) (behind : List Line) (number : ℕ) (text : List ℕ)
      (fault : Fault) → AreSound (prefix ++ line ∷ behind) → Says text line → IsFault prefix number text fault → ⊥
  pub one_fault : (before : List Line) (number : ℕ) (text : List ℕ) (fault other : Fault)
      → IsFault before number text fault → IsFault before number text other → fault ≡ other

-- a text whose first lines say sound ones has no first fault within them
none_within : {Line Fault : Type 0} (Says : List ℕ → Line → Type 0) (AreSound : List Line → Type 0)
    (IsFault : List Line → ℕ → List ℕ → Fault → Type 0) → HasOneFault Says AreSound IsFault
    → (text : List ℕ) (fault : Fault) (p : HasFirstFault Says AreSound IsFault text fault)
    → (between : List (List ℕ)) (lines : List Line) → EachSays Says (p.texts ++ p.line ∷ between) lines
    → AreSound lines → ⊥
none_within {Line} Says AreSound IsFault laws text fault p between lines said sound =
    let parts = parts_of Says p.texts p.line between lines said in
    let prefix : p.before ≡ parts.prefix =
    say_one Says laws.one_line p.texts p.before parts.prefix p.said parts.said in
    laws.none_among parts.prefix parts.line parts.behind (length p.texts + 1) p.line fault
    (subst AreSound parts.split sound) parts.says
    (subst (λ (ls : List Line). IsFault ls (length p.texts + 1) p.line fault) prefix p.first)

-- a text whose lines are sound has no first fault
pub sound_not_faulty : {Line Fault : Type 0} (Says : List ℕ → Line → Type 0) (AreSound : List Line → Type 0)
    (IsFault : List Line → ℕ → List ℕ → Fault → Type 0) → HasOneFault Says AreSound IsFault
    → (text : List ℕ) (lines : List Line) (fault : Fault) → EachSays Says (lines_of text) lines → AreSound lines
    → HasFirstFault Says AreSound IsFault text fault → ⊥
sound_not_faulty {Line} Says AreSound IsFault laws text lines fault said sound p =
    none_within Says AreSound IsFault laws text fault p p.others lines
    (subst (λ (ts : List (List ℕ)). EachSays Says ts lines) p.split said) sound

-- of two prefixes of one list, the longer has the shorter and what stands behind it
longer_prefix : (texts others : List (List ℕ)) (text other : List ℕ) (behind behind' : List (List ℕ))
    → length texts < length others
    → texts ++ text ∷ behind ≡ others ++ other ∷ behind' → (between : List (List ℕ))
    × (others ≡ texts ++ text ∷ between)
longer_prefix [] [] text other behind behind' less e = absurd (omega arith)
longer_prefix [] (first ∷ others) text other behind behind' less e =
    let head : text ≡ first = cc in
    (others, ap (λ (t : List ℕ). t ∷ others) (sym head))
longer_prefix (first ∷ texts) [] text other behind behind' less e = absurd (omega arith)
longer_prefix (first ∷ texts) (first' ∷ others) text other behind behind' less e =
    let head : first ≡ first' = cc in
    let tail : texts ++ text ∷ behind ≡ others ++ other ∷ behind' = cc in
    let rest = longer_prefix texts others text other behind behind' (omega arith) tail in
    (rest.0, ap (λ (t : List ℕ). t ∷ others) (sym head) ∙ ap (λ (ts : List (List ℕ)). first ∷ ts) rest.1)

-- the first fault of a text isn't behind that of an earlier line
not_behind : {Line Fault : Type 0} (Says : List ℕ → Line → Type 0) (AreSound : List Line → Type 0)
    (IsFault : List Line → ℕ → List ℕ → Fault → Type 0) → HasOneFault Says AreSound IsFault
    → (text : List ℕ) (fault other : Fault) (p : HasFirstFault Says AreSound IsFault text fault)
    (q : HasFirstFault Says AreSound IsFault text other) → length p.texts < length q.texts → ⊥
not_behind {Line} Says AreSound IsFault laws text fault other p q less =
    let longer = longer_prefix p.texts q.texts p.line q.line p.others q.others less (sym p.split ∙ q.split) in
    none_within Says AreSound IsFault laws text fault p longer.0 q.before
    (subst (λ (ts : List (List ℕ)). EachSays Says ts q.before) longer.1 q.said) q.sound

-- a text has one first fault
pub first_fault_one : {Line Fault : Type 0} (Says : List ℕ → Line → Type 0) (AreSound : List Line → Type 0)
    (IsFault : List Line → ℕ → List ℕ → Fault → Type 0) → HasOneFault Says AreSound IsFault
    → (text : List ℕ) (fault other : Fault) → HasFirstFault Says AreSound IsFault text fault
    → HasFirstFault Says AreSound IsFault text other → fault ≡ other
first_fault_one {Line} Says AreSound IsFault laws text fault other p q =
    elim (cases_lt (length p.texts) (length q.texts)) [
      | inl less ↦ absurd (not_behind Says AreSound IsFault laws text fault other p q less)
      | inr upto ↦ elim (cases_lt (length q.texts) (length p.texts)) [
        | inl less ↦ absurd (not_behind Says AreSound IsFault laws text other fault q p less)
        | inr upto' ↦
            let long : length p.texts ≡ length q.texts = omega arith in
            let parts =
            same_prefix p.texts q.texts (p.line ∷ p.others) (q.line ∷ q.others) long (sym p.split ∙ q.split) in
            let line : p.line ≡ q.line = cc in
            let said : EachSays Says p.texts q.before =
            subst (λ (ts : List (List ℕ)). EachSays Says ts q.before) (sym parts.0) q.said in
            let before : p.before ≡ q.before = say_one Says laws.one_line p.texts p.before q.before p.said said in
            let here : IsFault q.before (length q.texts + 1) q.line fault =
            subst (λ (ls : List Line). IsFault ls (length q.texts + 1) q.line fault) before
            (subst (λ (t : List ℕ). IsFault p.before (length q.texts + 1) t fault) line
            (subst (λ (n : ℕ). IsFault p.before (n + 1) p.line fault) long p.first)) in
            laws.one_fault q.before (length q.texts + 1) q.line fault other here q.first
      ]
    ]

-- behind sound lines a line leaves them sound, or it has a fault
abbrev pub Goes : {Line Fault : Type 0} → (List ℕ → Line → Type 0) → (List Line → Type 0)
    → (List Line → ℕ → List ℕ → Fault → Type 0) → List Line → ℕ → List ℕ → Type 0
Goes {Line} {Fault} Says AreSound IsFault before number text =
    ((line : Line) × Says text line × AreSound (before ++ line ∷ []))
    ⊎ ((fault : Fault) × IsFault before number text fault)

-- behind sound lines all are sound, or one is the first with a fault
pub all_or_first : {Line Fault : Type 0} (Says : List ℕ → Line → Type 0) (AreSound : List Line → Type 0)
    (IsFault : List Line → ℕ → List ℕ → Fault → Type 0)
    → ((before : List Line) (number : ℕ) (text : List ℕ) → AreSound before
    → Goes Says AreSound IsFault before number text)
    → (text : List ℕ) (texts rest : List (List ℕ)) (before : List Line) → lines_of text ≡ texts ++ rest
    → EachSays Says texts before → AreSound before
    → ((lines : List Line) × EachSays Says (lines_of text) lines × AreSound lines)
    ⊎ ((fault : Fault) × HasFirstFault Says AreSound IsFault text fault)
all_or_first Says AreSound IsFault goes_on text texts [] before split said sound =
    inl (
      before,
      subst (λ (ts : List (List ℕ)). EachSays Says ts before) (sym (split ∙ append-nil texts)) said,
      sound,
    )
all_or_first Says AreSound IsFault goes_on text texts (line ∷ rest) before split said sound =
    elim (goes_on before (length texts + 1) line sound) [
      | inr fault ↦ inr (
        fault.0,
        record {
          texts = texts;
          line = line;
          others = rest;
          split = split;
          before = before;
          said = said;
          sound = sound;
          first = fault.1;
        },
      )
      | inl says ↦ all_or_first Says AreSound IsFault goes_on text (texts ++ line ∷ []) rest (before ++ says.0 ∷ [])
          (split ∙ sym (append_assoc texts (line ∷ []) rest)) (say_append Says texts before line says.0 said says.1)
          says.2
    ]
