-- Laws of deck text: what is given is found, and a text has one fault.
use Rattle.std.proofs.Common.{◌≡◌, ℕ, zero, suc, ◌+◌, ◌<◌, ◌≤◌, List, [], ◌∷◌, ◌++◌, length, refl, ap, sym}
use Rattle.std.proofs.Common.{◌∙◌, subst, arith, length-append, append_assoc, inl, inr, Some}
use Rattle.std.proofs.lemmas.Bool.{cases_lt, eq-eqb}
use Rattle.std.specs.List.{AllByRecursion}
use Rattle.std.specs.Prelude.{Contains, slice_index_or}
use borrow.Author.Tests.{ne_eqb}
use Rattle.base_words.proofs.Same.{same_location}
use Rattle.read_decks.specs.declared.deck.fault.DeckFault.{DeckFault}
use Rattle.read_decks.specs.declared.deck.fault.DeckFault.TheVariants.{Read, Memory, Card, Twice, NoStart, TwoStarts}
use Rattle.read_decks.specs.declared.deck.fault.DeckFault.TheVariants.{PastDrum, TooLong}
use Rattle.base_words.specs.declared.word.Word.{Word}
use Rattle.read_decks.specs.Lines.{lines_of}
use Rattle.read_decks.specs.DeckText.{Line, comment, start, card, IsLine, Say, Given, given_by_card, given_by}
use Rattle.read_decks.specs.DeckText.{given_from, given_at, starts, IsPastDrum, IsGiven, AreDistinct, AreSound}
use Rattle.read_decks.specs.DeckText.{IsFaultOfLine, IsFirstFault, LacksStart, IsRefused, IsDeck}
use Rattle.read_decks.proofs.DeckLaws.{line_one}
use Rattle.read_decks.proofs.FirstFaults as firsts
use Rattle.read_decks.proofs.FirstFaults.{HasOneFault, say_one}

-- what is given to distinct locations is found there
given_is_found : (given : List Given) (one : Given) (k : ℕ) → AreDistinct given → k < length given
    → slice_index_or given k one ≡ one → given_at given one.location ≡ Some one
given_is_found [] one k distinct within here = absurd (omega arith)
given_is_found (first ∷ given) one zero distinct within here =
    let same : first.location ≡ one.location = ap (λ (g : Given). g.location) here in
    rw (eq-eqb first.location one.location same) (ap Some here)
given_is_found (first ∷ given) one (suc k) distinct within here =
    let below : k < length given = omega arith in
    let other : first.location ≡ one.location → ⊥ = λ same. distinct.0 (k, one, below, here, sym same) in
    rw (ne_eqb first.location one.location other) (given_is_found given one k distinct.1 below here)

-- the image is a function: one location is given one word, from one line
pub image_is_function : (given : List Given) → AreDistinct given → (one : Given) → Contains given one
    → given_at given one.location ≡ Some one
image_is_function given distinct one among = given_is_found given one among.0 distinct among.1 among.2

-- a list of lines with one behind others
on_drum_behind : (prefix : List Line) (line : Line) (behind : List Line)
    → AllByRecursion (λ one. ¬ IsPastDrum one) (prefix ++ line ∷ behind) → ¬ IsPastDrum line
on_drum_behind [] line behind all = all.0
on_drum_behind (first ∷ prefix) line behind all = on_drum_behind prefix line behind all.1

pub starts-append : (prefix others : List Line) → starts (prefix ++ others) ≡ starts prefix ++ starts others
starts-append [] others = refl
starts-append (comment ∷ prefix) others = starts-append prefix others
starts-append (start n ∷ prefix) others = ap (λ (xs : List ℕ). n ∷ xs) (starts-append prefix others)
starts-append (card n words ∷ prefix) others = starts-append prefix others

pub given_from-append : (number : ℕ) (prefix others : List Line)
    → given_from number (prefix ++ others) ≡ given_from number prefix ++ given_from (number + length prefix) others
given_from-append number [] others =
    let same : number ≡ number + 0 = omega arith in
    ap (λ (n : ℕ). given_from n others) same
given_from-append number (line ∷ prefix) others =
    let same : number + 1 + length prefix ≡ number + suc (length prefix) = omega arith in
    ap (λ (xs : List Given). given_by number line ++ xs)
    (given_from-append (number + 1) prefix others
    ∙ ap (λ (n : ℕ). given_from (number + 1) prefix ++ given_from n others) same)
    ∙ sym (append_assoc (given_by number line) (given_from (number + 1) prefix)
    (given_from (number + suc (length prefix)) others))

-- what is given in a prefix or behind it is given
given_in_front : (prefix others : List Given) (location : ℕ) → IsGiven prefix location
    → IsGiven (prefix ++ others) location
given_in_front [] others location (k, one, within, here, at) = absurd (omega arith)
given_in_front (first ∷ prefix) others location (zero, one, within, here, at) = (0, one, omega arith, here, at)
given_in_front (first ∷ prefix) others location (suc k, one, within, here, at) =
    let rest = given_in_front prefix others location (k, one, omega arith, here, at) in
    (suc rest.0, rest.1, omega (arith, rest.2), rest.3, rest.4)

given_behind : (prefix others : List Given) (location : ℕ) → IsGiven others location
    → IsGiven (prefix ++ others) location
given_behind [] others location given = given
given_behind (first ∷ prefix) others location given =
    let rest = given_behind prefix others location given in
    (suc rest.0, rest.1, omega (arith, rest.2), rest.3, rest.4)

-- distinct locations aren't given in a prefix and behind it
given_once : (prefix others : List Given) (location : ℕ) → AreDistinct (prefix ++ others) → IsGiven prefix location
    → IsGiven others location → ⊥
given_once [] others location distinct (k, one, within, here, at) later = omega arith
given_once (first ∷ prefix) others location distinct (zero, one, within, here, at) later =
    let same : first.location ≡ location = ap (λ (g : Given). g.location) here ∙ at in
    distinct.0 (subst (λ (l : ℕ). IsGiven (prefix ++ others) l) (sym same) (given_behind prefix others location later))
given_once (first ∷ prefix) others location distinct (suc k, one, within, here, at) later =
    given_once prefix others location distinct.1 (k, one, omega arith, here, at) later

-- a card gives each location from its first on
card_gives : (number n : ℕ) (words : List Word) (location : ℕ) → n ≤ location → location < n + length words
    → IsGiven (given_by_card number n words) location
card_gives number n [] location low high = absurd (omega arith)
card_gives number n (word ∷ words) location low high =
    elim (cases_lt n location) [
      | inl past ↦
          let rest = card_gives number (n + 1) words location (omega arith) (omega arith) in
          (suc rest.0, rest.1, omega (arith, rest.2), rest.3, rest.4)
      | inr upto ↦
          let same : n ≡ location = omega arith in
          (0, record { location = n; word = word; line = number }, omega arith, refl, same)
    ]

-- a line of sound lines has no fault
no_fault_among : (prefix : List Line) (line : Line) (behind : List Line) (number : ℕ) (text : List ℕ)
    (fault : DeckFault)
    → AreSound (prefix ++ line ∷ behind) → IsLine text line
    → IsFaultOfLine prefix number text fault → ⊥
no_fault_among prefix line behind number text (Card n) sound says p = p.1 line says
no_fault_among prefix line behind number text (PastDrum n) sound says p =
    let one = line_one text line p.1.0 says p.1.1 in
    on_drum_behind prefix line behind sound.on_drum (subst IsPastDrum (sym one) p.1.2)
no_fault_among prefix line behind number text (TwoStarts n) sound says p =
    let one = line_one text line (start p.1.0) says p.1.1 in
    let split : starts (prefix ++ line ∷ behind) ≡ starts prefix ++ p.1.0 ∷ starts behind =
    starts-append prefix (line ∷ behind) ∙ ap (λ (l : Line). starts prefix ++ starts (l ∷ behind)) one in
    let long : length (starts (prefix ++ line ∷ behind)) ≡ length (starts prefix) + length (p.1.0 ∷ starts behind) =
    ap length split ∙ length-append (starts prefix) (p.1.0 ∷ starts behind) in
    omega (arith, long, sound.one_start, p.1.3)
no_fault_among prefix line behind number text (Twice location) sound says
    (n, words, is_card, short, low, high, before, least) =
    let one = line_one text line (card n words) says is_card in
    let split : given_from 1 (prefix ++ line ∷ behind) ≡ given_from 1 prefix
    ++ given_from (1 + length prefix) (line ∷ behind) = given_from-append 1 prefix (line ∷ behind) in
    let split' : given_from 1 (prefix ++ line ∷ behind) ≡ given_from 1 prefix
    ++ given_from (1 + length prefix) (card n words ∷ behind) =
    split ∙ ap (λ (l : Line). given_from 1 prefix ++ given_from (1 + length prefix) (l ∷ behind)) one in
    let here =
    given_in_front (given_by_card (1 + length prefix) n words) (given_from (1 + length prefix + 1) behind)
    location.number (card_gives (1 + length prefix) n words location.number low high) in
    given_once (given_from 1 prefix) (given_from (1 + length prefix) (card n words ∷ behind)) location.number
    (subst AreDistinct split' sound.once) before here
no_fault_among prefix line behind number text Read sound says p = p
no_fault_among prefix line behind number text Memory sound says p = p
no_fault_among prefix line behind number text NoStart sound says p = p
no_fault_among prefix line behind number text TooLong sound says p = p

-- a line behind sound ones has one fault
fault_of_line_one : (before : List Line) (number : ℕ) (text : List ℕ) (fault other : DeckFault)
    → IsFaultOfLine before number text fault → IsFaultOfLine before number text other → fault ≡ other
fault_of_line_one before number text Read other p q = absurd p
fault_of_line_one before number text Memory other p q = absurd p
fault_of_line_one before number text NoStart other p q = absurd p
fault_of_line_one before number text TooLong other p q = absurd p
fault_of_line_one before number text fault Read p q = absurd q
fault_of_line_one before number text fault Memory p q = absurd q
fault_of_line_one before number text fault NoStart p q = absurd q
fault_of_line_one before number text fault TooLong p q = absurd q
fault_of_line_one before number text (Card n) (Card m) p q = ap Card (p.0 ∙ sym q.0)
fault_of_line_one before number text (Card n) (PastDrum m) p q = absurd (p.1 q.1.0 q.1.1)
fault_of_line_one before number text (Card n) (TwoStarts m) p q = absurd (p.1 (start q.1.0) q.1.1)
fault_of_line_one before number text (Card n) (Twice l) p q = absurd (p.1 (card q.0 q.1) q.2)
fault_of_line_one before number text (PastDrum n) (Card m) p q = absurd (q.1 p.1.0 p.1.1)
fault_of_line_one before number text (PastDrum n) (PastDrum m) p q = ap PastDrum (p.0 ∙ sym q.0)
fault_of_line_one before number text (PastDrum n) (TwoStarts m) p q =
    let past : 2000 ≤ q.1.0 =
    subst IsPastDrum (line_one text p.1.0 (start q.1.0) p.1.1 q.1.1) p.1.2 in absurd (omega (arith, past, q.1.2))
fault_of_line_one before number text (PastDrum n) (Twice l) p q =
    let past : 2000 < q.0 + length q.1 =
    subst IsPastDrum (line_one text p.1.0 (card q.0 q.1) p.1.1 q.2) p.1.2 in absurd (omega (arith, past, q.3))
fault_of_line_one before number text (TwoStarts n) (Card m) p q = absurd (q.1 (start p.1.0) p.1.1)
fault_of_line_one before number text (TwoStarts n) (PastDrum m) p q =
    let past : 2000 ≤ p.1.0 =
    subst IsPastDrum (line_one text q.1.0 (start p.1.0) q.1.1 p.1.1) q.1.2 in absurd (omega (arith, past, p.1.2))
fault_of_line_one before number text (TwoStarts n) (TwoStarts m) p q = ap TwoStarts (p.0 ∙ sym q.0)
fault_of_line_one before number text (TwoStarts n) (Twice l) p q =
    let other : start p.1.0 ≡ card q.0 q.1 = line_one text (start p.1.0) (card q.0 q.1) p.1.1 q.2 in cc
fault_of_line_one before number text (Twice l) (Card m) p q = absurd (q.1 (card p.0 p.1) p.2)
fault_of_line_one before number text (Twice l) (PastDrum m) p q =
    let past : 2000 < p.0 + length p.1 =
    subst IsPastDrum (line_one text q.1.0 (card p.0 p.1) q.1.1 p.2) q.1.2 in absurd (omega (arith, past, p.3))
fault_of_line_one before number text (Twice l) (TwoStarts m) p q =
    let other : start q.1.0 ≡ card p.0 p.1 = line_one text (start q.1.0) (card p.0 p.1) q.1.1 p.2 in cc
fault_of_line_one before number text (Twice l) (Twice m) p q =
    let one : card p.0 p.1 ≡ card q.0 q.1 = line_one text (card p.0 p.1) (card q.0 q.1) p.2 q.2 in
    let n : p.0 ≡ q.0 = cc in
    let least : m.number ≤ l.number =
    (elim (cases_lt l.number m.number)
    [ inl below ↦ absurd (q.7 l.number (omega (arith, p.4, n)) below p.6) | inr upto ↦ upto ]) in
    let least' : l.number ≤ m.number =
    (elim (cases_lt m.number l.number)
    [ inl below ↦ absurd (p.7 m.number (omega (arith, q.4, n)) below q.6) | inr upto ↦ upto ]) in
    let same : l.number ≡ m.number = omega arith in
    ap Twice (same_location l m same)

-- a line of a deck says one thing, a sound one has no fault, and a faulty one has one
pub deck_faults : HasOneFault IsLine AreSound IsFaultOfLine
deck_faults = record { one_line = line_one; none_among = no_fault_among; one_fault = fault_of_line_one }

-- a text whose lines are sound has no faulty line
sound_not_faulty : (text : List ℕ) (lines : List Line) (fault : DeckFault) → Say (lines_of text) lines → AreSound lines
    → IsFirstFault text fault → ⊥
sound_not_faulty = firsts.sound_not_faulty IsLine AreSound IsFaultOfLine deck_faults

first_fault_one : (text : List ℕ) (fault other : DeckFault) → IsFirstFault text fault → IsFirstFault text other
    → fault ≡ other
first_fault_one = firsts.first_fault_one IsLine AreSound IsFaultOfLine deck_faults

not_both : (text : List ℕ) (fault : DeckFault) → LacksStart text → IsFirstFault text fault → ⊥
not_both text fault lacks p = sound_not_faulty text lacks.lines fault lacks.said lacks.sound p

-- a deck isn't refused
pub deck_not_refused : (text : List ℕ) (lines : List Line) (fault : DeckFault) → IsDeck text lines
    → IsRefused text fault → ⊥
deck_not_refused text lines Read deck p = p
deck_not_refused text lines Memory deck p = p
deck_not_refused text lines TooLong deck p = deck.short p
deck_not_refused text lines NoStart deck p =
    let same : lines ≡ p.1.lines = say_one IsLine line_one (lines_of text) lines p.1.lines deck.said p.1.said in
    omega (
      arith,
      ap (λ (ls : List Line). length (starts ls)) same,
      ap (λ (ns : List ℕ). length ns) p.1.none,
      deck.one_start,
    )
deck_not_refused text lines (Card n) deck p = sound_not_faulty text lines (Card n) deck.said deck.sound p.1
deck_not_refused text lines (PastDrum n) deck p = sound_not_faulty text lines (PastDrum n) deck.said deck.sound p.1
deck_not_refused text lines (TwoStarts n) deck p = sound_not_faulty text lines (TwoStarts n) deck.said deck.sound p.1
deck_not_refused text lines (Twice l) deck p = sound_not_faulty text lines (Twice l) deck.said deck.sound p.1

-- A text that is no deck has one fault.
pub fault_one : (text : List ℕ) (fault other : DeckFault) → IsRefused text fault → IsRefused text other → fault ≡ other
fault_one text Read other p q = absurd p
fault_one text Memory other p q = absurd p
fault_one text fault Read p q = absurd q
fault_one text fault Memory p q = absurd q
fault_one text TooLong TooLong p q = refl
fault_one text TooLong NoStart p q = absurd (q.0 p)
fault_one text TooLong (Card n) p q = absurd (q.0 p)
fault_one text TooLong (PastDrum n) p q = absurd (q.0 p)
fault_one text TooLong (TwoStarts n) p q = absurd (q.0 p)
fault_one text TooLong (Twice l) p q = absurd (q.0 p)
fault_one text NoStart TooLong p q = absurd (p.0 q)
fault_one text NoStart NoStart p q = refl
fault_one text NoStart (Card n) p q = absurd (not_both text (Card n) p.1 q.1)
fault_one text NoStart (PastDrum n) p q = absurd (not_both text (PastDrum n) p.1 q.1)
fault_one text NoStart (TwoStarts n) p q = absurd (not_both text (TwoStarts n) p.1 q.1)
fault_one text NoStart (Twice l) p q = absurd (not_both text (Twice l) p.1 q.1)
fault_one text (Card n) TooLong p q = absurd (p.0 q)
fault_one text (Card n) NoStart p q = absurd (not_both text (Card n) q.1 p.1)
fault_one text (Card n) (Card m) p q = first_fault_one text (Card n) (Card m) p.1 q.1
fault_one text (Card n) (PastDrum m) p q = first_fault_one text (Card n) (PastDrum m) p.1 q.1
fault_one text (Card n) (TwoStarts m) p q = first_fault_one text (Card n) (TwoStarts m) p.1 q.1
fault_one text (Card n) (Twice m) p q = first_fault_one text (Card n) (Twice m) p.1 q.1
fault_one text (PastDrum n) TooLong p q = absurd (p.0 q)
fault_one text (PastDrum n) NoStart p q = absurd (not_both text (PastDrum n) q.1 p.1)
fault_one text (PastDrum n) (Card m) p q = first_fault_one text (PastDrum n) (Card m) p.1 q.1
fault_one text (PastDrum n) (PastDrum m) p q = first_fault_one text (PastDrum n) (PastDrum m) p.1 q.1
fault_one text (PastDrum n) (TwoStarts m) p q = first_fault_one text (PastDrum n) (TwoStarts m) p.1 q.1
fault_one text (PastDrum n) (Twice m) p q = first_fault_one text (PastDrum n) (Twice m) p.1 q.1
fault_one text (TwoStarts n) TooLong p q = absurd (p.0 q)
fault_one text (TwoStarts n) NoStart p q = absurd (not_both text (TwoStarts n) q.1 p.1)
fault_one text (TwoStarts n) (Card m) p q = first_fault_one text (TwoStarts n) (Card m) p.1 q.1
fault_one text (TwoStarts n) (PastDrum m) p q = first_fault_one text (TwoStarts n) (PastDrum m) p.1 q.1
fault_one text (TwoStarts n) (TwoStarts m) p q = first_fault_one text (TwoStarts n) (TwoStarts m) p.1 q.1
fault_one text (TwoStarts n) (Twice m) p q = first_fault_one text (TwoStarts n) (Twice m) p.1 q.1
fault_one text (Twice l) TooLong p q = absurd (p.0 q)
fault_one text (Twice l) NoStart p q = absurd (not_both text (Twice l) q.1 p.1)
fault_one text (Twice l) (Card m) p q = first_fault_one text (Twice l) (Card m) p.1 q.1
fault_one text (Twice l) (PastDrum m) p q = first_fault_one text (Twice l) (PastDrum m) p.1 q.1
fault_one text (Twice l) (TwoStarts m) p q = first_fault_one text (Twice l) (TwoStarts m) p.1 q.1
fault_one text (Twice l) (Twice m) p q = first_fault_one text (Twice l) (Twice m) p.1 q.1
