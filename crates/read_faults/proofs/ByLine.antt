-- Laws of all faults of a text that is read line by line, whatever its lines say: the first is the
-- first fault of a line, where none is found the lines are sound, and a text has one list of them.
use Rattle.std.proofs.Common.{◌≡◌, ℕ, suc, ◌+◌, ◌<◌, List, [], ◌∷◌, ◌++◌, length, refl, ap, sym, ◌∙◌, subst}
use Rattle.std.proofs.Common.{arith, inl, inr, Option, length-append, append_assoc}
use Rattle.std.proofs.lemmas.Bool.{cases_lt}
use Rattle.std.proofs.lemmas.List.{append-nil}
use Rattle.std.specs.Prelude.{Any}
use Rattle.read_decks.specs.Lines.{lines_of, IsLonger, EachSays, HasFirstFault}
use Rattle.read_decks.specs.Taking.{HaveFaults}
use Rattle.read_decks.proofs.FirstFaults.{HasOneFault, say_append}
use Rattle.read_faults.specs.ByLine.{IsFirstPast, past_limit}
use Rattle.read_faults.specs.declared.placed_fault.PlacedFault.{PlacedFault}
use Rattle.read_faults.specs.declared.slip.Slip.{Slip}
use Rattle.read_faults.proofs.Passed.{any_here}

-- A line behind others has one fault, which is that of a placed one, and at one place; and no lines are sound.
pub record HasOnePlaced {Line Fault : Type 0} (IsLine : List ℕ → Line → Type 0) (AreSound : List Line → Type 0)
    (IsFault : List Line → ℕ → List ℕ → Fault → Type 0)
    (IsPlaced : List Line → List ℕ → PlacedFault Fault → Type 0) : Type 0 where
  pub laws : HasOneFault IsLine AreSound IsFault
  pub is_fault : (before : List Line) (text : List ℕ) (placed : PlacedFault Fault) → IsPlaced before text placed
      → IsFault before (length before + 1) text placed.fault
  pub one_placed : (before : List Line) (text : List ℕ) (a b : PlacedFault Fault) → IsPlaced before text a
      → IsPlaced before text b → a ≡ b
  pub nothing_sound : AreSound []

-- a text with a line past a limit is longer
pub past_is_long : (most longest : ℕ) (text : List ℕ) (number : ℕ) (line : List ℕ)
    → IsFirstPast most longest text number line → IsLonger most longest text
past_is_long most longest text number line p = elim p.past [
  | inl many ↦ inl (omega (
    arith,
    ap (λ (xs : List (List ℕ)). length xs) p.split,
    length-append p.texts (line ∷ p.others),
    p.counted,
    many,
  ))
  | inr long ↦ inr (subst (Any (λ earlier. longest < length earlier)) (sym p.split)
      (any_here (λ earlier. longest < length earlier) p.texts line p.others long))
]

-- of two prefixes, the longer has the line behind the shorter
among_longer : (P : List ℕ → Type 0) (texts others : List (List ℕ)) (line : List ℕ) (behind behind' : List (List ℕ))
    → texts ++ line ∷ behind ≡ others ++ behind' → length texts < length others → P line → Any P others
among_longer P texts [] line behind behind' e less is = absurd (omega (arith, less))
among_longer P [] (other ∷ others) line behind behind' e less is =
    let same : line ≡ other = cc (e) in
    (0, other, omega arith, refl, subst P same is)
among_longer P (first ∷ texts) (other ∷ others) line behind behind' e less is =
    let tail : texts ++ line ∷ behind ≡ others ++ behind' = cc (e) in
    let rest = among_longer P texts others line behind behind' tail (omega (arith, less)) is in
    (suc rest.0, rest.1, omega (arith, rest.2), rest.3, rest.4)

-- of two prefixes that are as long, the same line stands behind both
behind_as_long : (texts others : List (List ℕ)) (line other : List ℕ) (behind behind' : List (List ℕ))
    → texts ++ line ∷ behind ≡ others ++ other ∷ behind' → length texts ≡ length others → line ≡ other
behind_as_long [] [] line other behind behind' e same = cc (e)
behind_as_long [] (first ∷ others) line other behind behind' e same = absurd (omega (arith, same))
behind_as_long (first ∷ texts) [] line other behind behind' e same = absurd (omega (arith, same))
behind_as_long (first ∷ texts) (first' ∷ others) line other behind behind' e same =
    let tail : texts ++ line ∷ behind ≡ others ++ other ∷ behind' = cc (e) in
    behind_as_long texts others line other behind behind' tail (omega (arith, same))

-- a line past a limit stands behind no other
not_earlier : (most longest : ℕ) (text : List ℕ) (m n : ℕ) (line other : List ℕ)
    (p : IsFirstPast most longest text m line) (q : IsFirstPast most longest text n other)
    → length p.texts < length q.texts → ⊥
not_earlier most longest text m n line other p q less = elim p.past [
  | inl many ↦ omega (arith, many, p.counted, q.few, less)
  | inr long ↦ q.short (among_longer (λ earlier. longest < length earlier) p.texts q.texts line p.others
      (other ∷ q.others) (sym p.split ∙ q.split) less long)
]

-- as many lines stand before a first line past a limit
as_many_before : (most longest : ℕ) (text : List ℕ) (m n : ℕ) (line other : List ℕ)
    (p : IsFirstPast most longest text m line) (q : IsFirstPast most longest text n other)
    → length p.texts ≡ length q.texts
as_many_before most longest text m n line other p q = elim (cases_lt (length p.texts) (length q.texts)) [
  | inl less ↦ absurd (not_earlier most longest text m n line other p q less)
  | inr upto ↦ elim (cases_lt (length q.texts) (length p.texts)) [
    | inl less ↦ absurd (not_earlier most longest text n m other line q p less)
    | inr upto' ↦ omega (arith, upto, upto')
  ]
]

-- one line is the first past a limit, and has one fault
pub past_limit_one : {Fault : Type 0} (fault : Fault) (most longest : ℕ) (text : List ℕ) (m n : ℕ) (line other : List ℕ)
    → IsFirstPast most longest text m line → IsFirstPast most longest text n other
    → past_limit fault m line ≡ past_limit fault n other
past_limit_one {Fault} fault most longest text m n line other p q =
    let long = as_many_before most longest text m n line other p q in
    let number : m ≡ n = omega (arith, p.counted, q.counted, long) in
    let same : line ≡ other =
    behind_as_long p.texts q.texts line other p.others q.others (sym p.split ∙ q.split) long in
    ap (λ (k : ℕ). past_limit fault k line) number ∙ ap (λ (bytes : List ℕ). past_limit fault n bytes) same

-- the first fault of the lines behind sound ones is the first of all
first_behind : {Line Fault : Type 0} (comment : Line) (IsLine : List ℕ → Line → Type 0)
    (AreSound : List Line → Type 0) (IsFault : List Line → ℕ → List ℕ → Fault → Type 0)
    (IsPlaced : List Line → List ℕ → PlacedFault Fault → Type 0) → HasOnePlaced IsLine AreSound IsFault IsPlaced
    → (text : List ℕ) (texts rest : List (List ℕ)) (before : List Line) (placed : PlacedFault Fault)
    (others : List (PlacedFault Fault)) → lines_of text ≡ texts ++ rest → EachSays IsLine texts before
    → AreSound before → length texts ≡ length before
    → HaveFaults comment IsLine AreSound IsPlaced before rest (placed ∷ others)
    → HasFirstFault IsLine AreSound IsFault text placed.fault
first_behind comment IsLine AreSound IsFault IsPlaced one text texts [] before placed others split said sound long have
    = cc
first_behind comment IsLine AreSound IsFault IsPlaced one text texts (line ∷ rest) before placed others split said
    sound long (inl p) =
    first_behind comment IsLine AreSound IsFault IsPlaced one text (texts ++ line ∷ []) rest (before ++ p.0 ∷ [])
    placed others (split ∙ sym (append_assoc texts (line ∷ []) rest))
    (say_append IsLine texts before line p.0 said p.1) p.2
    (omega (arith, long, length-append texts (line ∷ []), length-append before (p.0 ∷ []))) p.3
first_behind {Line} {Fault} comment IsLine AreSound IsFault IsPlaced one text texts (line ∷ rest) before placed others
    split said sound long (inr p) =
    let same : placed ≡ p.0 = cc (p.2) in
    record {
      texts = texts;
      line = line;
      others = rest;
      split = split;
      before = before;
      said = said;
      sound = sound;
      first =
          subst (λ (q : PlacedFault Fault). IsFault before (length texts + 1) line q.fault) (sym same)
          (subst (λ (n : ℕ). IsFault before (n + 1) line p.0.fault) (sym long) (one.is_fault before line p.0 p.3));
    }

-- the first fault of a text's lines is its first fault
pub first_of_lines : {Line Fault : Type 0} (comment : Line) (IsLine : List ℕ → Line → Type 0)
    (AreSound : List Line → Type 0) (IsFault : List Line → ℕ → List ℕ → Fault → Type 0)
    (IsPlaced : List Line → List ℕ → PlacedFault Fault → Type 0) → HasOnePlaced IsLine AreSound IsFault IsPlaced
    → (text : List ℕ) (placed : PlacedFault Fault) (others : List (PlacedFault Fault))
    → HaveFaults comment IsLine AreSound IsPlaced [] (lines_of text) (placed ∷ others)
    → HasFirstFault IsLine AreSound IsFault text placed.fault
first_of_lines comment IsLine AreSound IsFault IsPlaced one text placed others have =
    first_behind comment IsLine AreSound IsFault IsPlaced one text [] (lines_of text) [] placed others refl tt
    one.nothing_sound refl have

-- what sound lines say
pub record AllSound {Line : Type 0} (IsLine : List ℕ → Line → Type 0) (AreSound : List Line → Type 0)
    (texts : List (List ℕ)) : Type 0 where
  pub lines : List Line
  pub said : EachSays IsLine texts lines
  pub sound : AreSound lines

-- lines behind sound ones in which no fault is found are sound
none_behind : {Line Fault : Type 0} (comment : Line) (IsLine : List ℕ → Line → Type 0)
    (AreSound : List Line → Type 0) (IsPlaced : List Line → List ℕ → PlacedFault Fault → Type 0)
    → (texts rest : List (List ℕ)) (before : List Line) → EachSays IsLine texts before → AreSound before
    → HaveFaults comment IsLine AreSound IsPlaced before rest [] → AllSound IsLine AreSound (texts ++ rest)
none_behind comment IsLine AreSound IsPlaced texts [] before said sound have = record {
  lines = before;
  said = subst (λ (ts : List (List ℕ)). EachSays IsLine ts before) (sym (append-nil texts)) said;
  sound = sound;
}
none_behind comment IsLine AreSound IsPlaced texts (line ∷ rest) before said sound (inl p) =
    subst (AllSound IsLine AreSound) (append_assoc texts (line ∷ []) rest)
    (none_behind comment IsLine AreSound IsPlaced (texts ++ line ∷ []) rest (before ++ p.0 ∷ [])
    (say_append IsLine texts before line p.0 said p.1) p.2 p.3)
none_behind comment IsLine AreSound IsPlaced texts (line ∷ rest) before said sound (inr p) = cc (p.2)

-- and so are those of a text
pub none_of_lines : {Line Fault : Type 0} (comment : Line) (IsLine : List ℕ → Line → Type 0)
    (AreSound : List Line → Type 0) (IsPlaced : List Line → List ℕ → PlacedFault Fault → Type 0)
    → AreSound [] → (text : List ℕ)
    → HaveFaults comment IsLine AreSound IsPlaced [] (lines_of text) [] → AllSound IsLine AreSound (lines_of text)
none_of_lines comment IsLine AreSound IsPlaced nothing text have =
    none_behind comment IsLine AreSound IsPlaced [] (lines_of text) [] tt nothing have

-- placed faults that agree in what they say are one
pub same_placed : {Fault : Type 0} (a b : PlacedFault Fault) → a.fault ≡ b.fault → a.line ≡ b.line
    → a.earlier ≡ b.earlier → a.slip ≡ b.slip → a ≡ b
same_placed {Fault} a b fault line earlier slip =
    let made : Fault → Option ℕ → Option ℕ → Option Slip → PlacedFault Fault =
    λ f l e s. record { fault = f; line = l; earlier = e; slip = s } in
    ap (λ (f : Fault). made f a.line a.earlier a.slip) fault
    ∙ ap (λ (l : Option ℕ). made b.fault l a.earlier a.slip) line
    ∙ ap (λ (e : Option ℕ). made b.fault b.line e a.slip) earlier
    ∙ ap (λ (s : Option Slip). made b.fault b.line b.earlier s) slip

-- lines behind others have one list of faults
pub lines_one : {Line Fault : Type 0} (comment : Line) (IsLine : List ℕ → Line → Type 0)
    (AreSound : List Line → Type 0) (IsFault : List Line → ℕ → List ℕ → Fault → Type 0)
    (IsPlaced : List Line → List ℕ → PlacedFault Fault → Type 0) → HasOnePlaced IsLine AreSound IsFault IsPlaced
    → (before : List Line) (texts : List (List ℕ)) (a b : List (PlacedFault Fault))
    → HaveFaults comment IsLine AreSound IsPlaced before texts a
    → HaveFaults comment IsLine AreSound IsPlaced before texts b → a ≡ b
lines_one comment IsLine AreSound IsFault IsPlaced one before [] a b p q = p ∙ sym q
lines_one {Line} comment IsLine AreSound IsFault IsPlaced one before (text ∷ texts) a b (inl p) (inl q) =
    let same : p.0 ≡ q.0 = one.laws.one_line text p.0 q.0 p.1 q.1 in
    lines_one comment IsLine AreSound IsFault IsPlaced one (before ++ q.0 ∷ []) texts a b
    (subst (λ (line : Line). HaveFaults comment IsLine AreSound IsPlaced (before ++ line ∷ []) texts a) same p.3) q.3
lines_one comment IsLine AreSound IsFault IsPlaced one before (text ∷ texts) a b (inl p) (inr q) =
    absurd (one.laws.none_among before p.0 [] (length before + 1) text q.0.fault p.2 p.1
    (one.is_fault before text q.0 q.3))
lines_one comment IsLine AreSound IsFault IsPlaced one before (text ∷ texts) a b (inr p) (inl q) =
    absurd (one.laws.none_among before q.0 [] (length before + 1) text p.0.fault q.2 q.1
    (one.is_fault before text p.0 p.3))
lines_one {Line} {Fault} comment IsLine AreSound IsFault IsPlaced one before (text ∷ texts) a b (inr p) (inr q) =
    let first : p.0 ≡ q.0 = one.one_placed before text p.0 q.0 p.3 q.3 in
    let others : p.1 ≡ q.1 =
    lines_one comment IsLine AreSound IsFault IsPlaced one (before ++ comment ∷ []) texts p.1 q.1 p.4 q.4 in
    p.2 ∙ ap (λ (placed : PlacedFault Fault). placed ∷ p.1) first
    ∙ ap (λ (fs : List (PlacedFault Fault)). q.0 ∷ fs) others ∙ sym q.2
