-- Where the lines of a text begin.
use Rattle.std.proofs.Common.{◌≡◌, ℕ, zero, suc, ◌+◌, ◌-◌, ◌<◌, ◌≤◌, Bool, true, false, cond, List, [], ◌∷◌, ◌++◌}
use Rattle.std.proofs.Common.{length, get_or, take, drop, refl, ap, sym, ◌∙◌, subst, arith, append_assoc, length-append}
use Rattle.std.proofs.Common.{length-drop, inl, inr}
use Rattle.std.proofs.Math.Seq.{drop-append_seam, get_or-append_seam}
use Rattle.std.proofs.lemmas.Bool.{eq-eqb, eqb-true}
use Rattle.std.proofs.lemmas.List.{append-nil, drop-append-le, get_or-drop, length-take-le, take-append-drop, take-take}
use Rattle.std.specs.List.{list_any}
use Rattle.std.specs.Prelude.{codes, not, Contains, IsTrue, ◌⊎◌, ◌==◌, ◌||◌}
use Rattle.read_decks.specs.Lines.{lines_of, with_front}
use Rattle.read_documents.specs.Joined.{AreWholeLines, Begins, IsCut}

-- a line of the text begins at a place
pub record BeginsAt (line text : List ℕ) (at : ℕ) : Type 0 where
  pub whole : AreWholeLines (take at text)
  pub begins : Begins line (drop at text)

-- what begins with a line and a byte in front
begins_more : (byte : ℕ) (line text : List ℕ) → Begins line text → Begins (byte ∷ line) (byte ∷ text)
begins_more byte line text (inl (rest, spelled)) = inl (rest, ap (λ (xs : List ℕ). byte ∷ xs) spelled)
begins_more byte line text (inr same) = inr (ap (λ (xs : List ℕ). byte ∷ xs) same)

-- whole lines with a byte in front, but for none
whole_more : (byte : ℕ) (text : List ℕ) (n : ℕ) → 0 < length (take n text) → AreWholeLines (take n text)
    → AreWholeLines (byte ∷ take n text)
whole_more byte text n some (inl none) = absurd (omega (arith, some, ap length none))
whole_more byte text n some (inr (prefix, spelled)) = inr (byte ∷ prefix, ap (λ (xs : List ℕ). byte ∷ xs) spelled)

-- Where a line of a text begins: at the text's beginning, if it is the first.
record Found (line text : List ℕ) (j : ℕ) : Type 0 where
  at : ℕ
  within : at < length text
  begins : BeginsAt line text at
  first : j ≡ 0 → at ≡ 0
  later : 0 < j → 0 < at

lines_none : (text : List ℕ) → lines_of text ≡ [] → text ≡ []
lines_none [] none = refl
lines_none (byte ∷ bytes) none = absurd (go (byte == 10) (lines_of bytes) none)
  where
    go : (ends : Bool) (lines : List (List ℕ)) → cond ends ([] ∷ lines) (with_front byte lines) ≡ [] → ⊥
    go true lines e = cc
    go false [] e = cc
    go false (line ∷ lines) e = cc

-- at the beginning
at_first : (line text : List ℕ) → 0 < length text → Begins line text → Found line text 0
at_first line text some begins = record {
  at = 0;
  within = some;
  begins = record { whole = inl refl; begins = begins };
  first = λ same. refl;
  later = λ more. absurd (omega (arith, more));
}

-- further on, with a byte in front that ends the line before, or doesn't
past_feed : (line bytes : List ℕ) (j : ℕ) → Found line bytes j → Found line (10 ∷ bytes) (suc j)
past_feed line bytes j found = record {
  at = suc found.at;
  within = omega (arith, found.within);
  begins = record { whole = go found.at found.within found.begins.whole; begins = found.begins.begins };
  first = λ same. absurd (omega (arith, same));
  later = λ more. omega arith;
}
  where
    go : (n : ℕ) → n < length bytes → AreWholeLines (take n bytes) → AreWholeLines (10 ∷ take n bytes)
    go zero below whole = inr ([], refl)
    go (suc n) below whole =
        whole_more 10 bytes (suc n) (omega (arith, length-take-le (suc n) bytes (omega (arith, below)))) whole

past_byte : (byte : ℕ) (line bytes : List ℕ) (j : ℕ) → Found line bytes (suc j) → Found line (byte ∷ bytes) (suc j)
past_byte byte line bytes j found = record {
  at = suc found.at;
  within = omega (arith, found.within);
  begins = record {
    whole = whole_more byte bytes found.at
        (omega (arith, found.later (omega arith), length-take-le found.at bytes (omega (arith, found.within))))
        found.begins.whole;
    begins = found.begins.begins;
  };
  first = λ same. absurd (omega (arith, same));
  later = λ more. omega arith;
}

-- Each line of a text begins somewhere in it.
line_found : (text line : List ℕ) (j : ℕ) → j < length (lines_of text) → get_or (lines_of text) j line ≡ line
    → Found line text j
line_found [] line j within at = absurd (omega (arith, within))
line_found (byte ∷ bytes) line j within at =
    go (byte == 10) refl (lines_of bytes) refl j (λ l k below is. line_found bytes l k below is) within at
  where
    go : (ends : Bool) → (byte == 10) ≡ ends → (lines : List (List ℕ)) → lines_of bytes ≡ lines → (j : ℕ)
        → ((l : List ℕ) (k : ℕ) → k < length (lines_of bytes) → get_or (lines_of bytes) k l ≡ l → Found l bytes k)
        → j < length (cond ends ([] ∷ lines) (with_front byte lines))
        → get_or (cond ends ([] ∷ lines) (with_front byte lines)) j line ≡ line
        → Found line (byte ∷ bytes) j
    go true ends lines are zero rest within at =
        at_first line (byte ∷ bytes) (omega arith)
        (inl (
          bytes,
          ap (λ (n : ℕ). n ∷ bytes) (eqb-true byte 10 ends)
              ∙ ap (λ (l : List ℕ). l ++ codes "\n" ++ bytes) at,
        ))
    go true ends lines are (suc j) rest within at =
        subst (λ (n : ℕ). Found line (n ∷ bytes) (suc j)) (sym (eqb-true byte 10 ends))
        (past_feed line bytes j (rest line j (omega (arith, within, ap length are))
        (ap (λ (ls : List (List ℕ)). get_or ls j line) are ∙ at)))
    go false ends [] are zero rest within at =
        let none : bytes ≡ [] = lines_none bytes are in
        at_first line (byte ∷ bytes) (omega arith) (inr (ap (λ (bs : List ℕ). byte ∷ bs) none ∙ at))
    go false ends [] are (suc j) rest within at = absurd (omega (arith, within))
    go false ends (first ∷ lines) are zero rest within at =
        let found = rest first 0 (omega (arith, ap length are)) (ap (λ (ls : List (List ℕ)). get_or ls 0 first) are) in
        let begins : Begins first bytes =
        subst (λ (n : ℕ). Begins first (drop n bytes)) (found.first refl) found.begins.begins in
        at_first line (byte ∷ bytes) (omega arith)
        (subst (λ (l : List ℕ). Begins l (byte ∷ bytes)) at (begins_more byte first bytes begins))
    go false ends (first ∷ lines) are (suc j) rest within at =
        past_byte byte line bytes j
        (rest line (suc j) (omega (arith, within, ap length are))
        (ap (λ (ls : List (List ℕ)). get_or ls (suc j) line) are ∙ at))

-- A line of a text begins at a place in it.
pub line_begins : (text line : List ℕ) → Contains (lines_of text) line → (at : ℕ) × (at < length text)
    × BeginsAt line text at
line_begins text line (j, within, at) =
    let found = line_found text line j within at in (found.at, found.within, found.begins)

-- no line feed in a line
abbrev pub IsPlain : List ℕ → Type 0
IsPlain line = list_any (λ byte. byte == 10) line ≡ false

pub is_plain : (line : List ℕ) → IsTrue (not (list_any (λ byte. byte == 10) line)) → IsPlain line
is_plain line plain = go (list_any (λ byte. byte == 10) line) plain
  where
    go : (b : Bool) → IsTrue (not b) → b ≡ false
    go true h = absurd (cc)
    go false h = refl

plain_no_feed : (line : List ℕ) (k : ℕ) → IsPlain line → k < length line → get_or line k 0 ≡ 10 → ⊥
plain_no_feed [] k plain within at = absurd (omega (arith, within))
plain_no_feed (byte ∷ line) zero plain within at =
    let test : (byte == 10) ≡ true = eq-eqb byte 10 at in
    let any : (true || list_any (λ b. b == 10) line) ≡ false =
    subst (λ (b : Bool). (b || list_any (λ one. one == 10) line) ≡ false) test plain in
    cc
plain_no_feed (byte ∷ line) (suc k) plain within at =
    plain_no_feed line k (go (byte == 10) plain) (omega (arith, within)) at
  where
    go : (b : Bool) → (b || list_any (λ one. one == 10) line) ≡ false → list_any (λ one. one == 10) line ≡ false
    go true h = cc
    go false h = h

-- A plain line that begins in whole lines in front of a text begins there in all.
pub begins_in_all : (line text : List ℕ) (n k : ℕ) → IsPlain line → n ≤ length text → AreWholeLines (take n text)
    → k < length (take n text)
    → BeginsAt line (take n text) k → BeginsAt line text k
begins_in_all line text n k plain fits whole within at =
    let long : length (take n text) ≡ n = length-take-le n text fits in
    let all : drop k text ≡ drop k (take n text) ++ drop n text =
    ap (drop k) (sym (take-append-drop n text))
    ∙ drop-append-le k (take n text) (drop n text) (omega (arith, within)) in
    record {
      whole = subst AreWholeLines (take-take k n text (omega (arith, within, long))) at.whole;
      begins = go at.begins all;
    }
  where
    feed : (prefix : List ℕ) → take n text ≡ prefix ++ codes "\n" → drop k (take n text) ≡ line → ⊥
    feed prefix ends same =
        let long : length prefix + 1
        ≡ length (take n text) = sym (ap length ends ∙ length-append prefix (codes "\n")) in
        let last : get_or (take n text) (length prefix) 0 ≡ 10 =
        ap (λ (xs : List ℕ). get_or xs (length prefix) 0) ends ∙ get_or-append_seam prefix 10 [] 0 in
        let place : k + (length prefix - k) ≡ length prefix = omega (arith, long, within) in
        let there : get_or line (length prefix - k) 0 ≡ 10 =
        ap (λ (xs : List ℕ). get_or xs (length prefix - k) 0) (sym same)
        ∙ get_or-drop k (take n text) (length prefix - k) 0
        ∙ ap (λ (i : ℕ). get_or (take n text) i 0) place ∙ last in
        plain_no_feed line (length prefix - k) plain
        (omega (arith, long, within, ap length same, length-drop k (take n text))) there

    go : Begins line (drop k (take n text)) → drop k text ≡ drop k (take n text) ++ drop n text
        → Begins line (drop k text)
    go (inl (rest, spelled)) all =
        inl (
          rest ++ drop n text,
          all ∙ ap (λ (xs : List ℕ). xs ++ drop n text) spelled
              ∙ append_assoc (line ++ codes "\n") rest (drop n text),
        )
    go (inr same) all = elim whole [
      | inl none ↦ absurd (omega (arith, within, ap length none))
      | inr ended ↦ absurd (feed ended.0 ended.1 same)
    ]

-- A text doesn't begin with a line where another byte stands behind it.
pub no_line : (line text rest next : List ℕ) (feed : ℕ) → text ≡ line ++ rest → rest ≡ feed ∷ next → (feed ≡ 10 → ⊥)
    → ¬ Begins line text
no_line line text rest next feed spelled split other (inl (more, begins)) =
    let same : feed ∷ next ≡ 10 ∷ more =
    sym split ∙ sym (drop-append_seam line rest)
    ∙ ap (drop (length line)) (sym spelled ∙ begins ∙ append_assoc line (codes "\n") more)
    ∙ drop-append_seam line (10 ∷ more) in
    other (ap (λ (xs : List ℕ). get_or xs 0 0) same)
no_line line text rest next feed spelled split other (inr same) =
    omega (arith, ap length spelled, ap length same, length-append line rest, ap length split)

-- nor where none of it does
pub no_prefix : (line text : List ℕ) → ((rest : List ℕ) → text ≡ line ++ rest → ⊥) → ¬ Begins line text
no_prefix line text none (inl (rest, begins)) = none (codes "\n" ++ rest) (begins ∙ append_assoc line (codes "\n") rest)
no_prefix line text none (inr same) = none [] (same ∙ sym (append-nil line))

-- The first place at which a plain line begins, in whole lines, cuts the text.
pub is_cut : (mark text behind : List ℕ) (at : ℕ) → IsPlain mark → at ≤ length text → AreWholeLines (take at text)
    → ((k : ℕ) → k < at → ¬ BeginsAt mark text k)
    → ((drop at text ≡ mark ++ codes "\n" ++ behind) ⊎ ((drop at text ≡ mark) × (behind ≡ [])))
    → IsCut mark text (take at text) behind
is_cut mark text behind at plain fits whole none begins = record {
  whole = whole;
  first = λ among.
      let found = line_begins (take at text) mark among in
      let below : found.0 < at = omega (arith, found.1, length-take-le at text fits) in
      none found.0 below (begins_in_all mark text at found.0 plain fits whole found.1 found.2);
  spelled = elim begins [
    | inl more ↦ inl (all ∙ ap (λ (xs : List ℕ). take at text ++ xs) more
        ∙ sym (append_assoc (take at text) (mark ++ codes "\n") behind)
        ∙ ap (λ (xs : List ℕ). xs ++ behind) (sym (append_assoc (take at text) mark (codes "\n"))))
    | inr end ↦ inr (all ∙ ap (λ (xs : List ℕ). take at text ++ xs) end.0, end.1)
  ];
}
  where
    all : text ≡ take at text ++ drop at text
    all = sym (take-append-drop at text)

-- Where a line begins at no place, it isn't among a text's.
pub no_cut : (mark text : List ℕ) → ((k : ℕ) → k < length text → ¬ BeginsAt mark text k)
    → ¬ Contains (lines_of text) mark
no_cut mark text none among = let found = line_begins text mark among in none found.0 found.1 found.2
