-- Sound lines give each location a word once at most, and only drum locations.
use Rattle.std.proofs.Common.{◌≡◌, ◌≢◌, ℕ, zero, suc, ◌+◌, ◌<◌, ◌≤◌, List, [], ◌∷◌, ◌++◌, length, get_or, map, inl, inr}
use Rattle.std.proofs.Common.{ap, sym, ◌∙◌, subst, arith, append_assoc}
use Rattle.std.proofs.lemmas.Bool.{cases_lt}
use Rattle.std.proofs.lemmas.List.{append-nil, get_or_default, get_or-map, length-map}
use Rattle.std.proofs.lemmas.List.Elements.{All-append, All-nil}
use Rattle.std.proofs.lemmas.List.Quantifiers.{all_pairs_push}
use Rattle.std.specs.Prelude.{All, AllPairs}
use Rattle.base_words.specs.declared.location.Location.{Location}
use Rattle.base_words.specs.declared.word.Word.{Word}
use Rattle.machine_emulator.specs.Setup.{HaveOwnLocations}
use Rattle.read_replays.specs.Inputs.{given_word}
use Rattle.read_replays.specs.InputsText.{Line, comment, angle, switches, distributor, accumulator, latch, programmed}
use Rattle.read_replays.specs.InputsText.{on_overflow, words, card, wait, IsPastDrum, Repeats, AreSoundBehind, AreSound}
use Rattle.read_replays.specs.InputsText.{given_by, given_in, placed}
use Rattle.read_replays.proofs.Marks.{Given, given_by_either}
use Rattle.read_replays.proofs.Steps.{flat_map-push}

abbrev pub AreApart : List (ℕ × Word) → Type 0
AreApart given = AllPairs (λ one later. one.0 ≢ later.0) given

abbrev pub AreOnDrum : List (ℕ × Word) → Type 0
AreOnDrum given = All (λ one. one.0 < 2000) given

placed_on_drum : (n : ℕ) (ws : List Word) → n + length ws ≤ 2000 → AreOnDrum (placed n ws)
placed_on_drum n [] fits k d within = absurd (omega arith)
placed_on_drum n (w ∷ ws) fits zero d within = omega arith
placed_on_drum n (w ∷ ws) fits (suc k) d within = placed_on_drum (n + 1) ws (omega arith) k d (omega arith)

given_on_drum : (line : Line) → ¬ IsPastDrum line → AreOnDrum (given_by line)
given_on_drum (words n ws) on_drum =
    placed_on_drum n ws (elim (cases_lt 2000 (n + length ws)) [ inl past ↦ absurd (on_drum past) | inr fits ↦ fits ])
given_on_drum comment on_drum = All-nil (λ one. one.0 < 2000)
given_on_drum (angle n) on_drum = All-nil (λ one. one.0 < 2000)
given_on_drum (switches w) on_drum = All-nil (λ one. one.0 < 2000)
given_on_drum (distributor w) on_drum = All-nil (λ one. one.0 < 2000)
given_on_drum (accumulator a) on_drum = All-nil (λ one. one.0 < 2000)
given_on_drum (latch b) on_drum = All-nil (λ one. one.0 < 2000)
given_on_drum (programmed b) on_drum = All-nil (λ one. one.0 < 2000)
given_on_drum (on_overflow b) on_drum = All-nil (λ one. one.0 < 2000)
given_on_drum (card load ws) on_drum = All-nil (λ one. one.0 < 2000)
given_on_drum (wait n) on_drum = All-nil (λ one. one.0 < 2000)

-- words for locations that have none yet
placed_apart : (given : List (ℕ × Word)) (n : ℕ) (ws : List Word) → AreApart given
    → ((location : ℕ) → n ≤ location → location < n + length ws → Given given location → ⊥)
    → AreApart (given ++ placed n ws)
placed_apart given n [] apart free = subst AreApart (sym (append-nil given)) apart
placed_apart given n (w ∷ ws) apart free =
    let other : (k : ℕ) (d : ℕ × Word) → k < length given → (get_or given k d).0 ≢ n = λ k d within same.
    free n (omega arith) (omega arith)
    (k, get_or given k d, within, get_or_default given k (get_or given k d) d within, same) in
    let free' : (location : ℕ) → n + 1 ≤ location → location < n + 1 + length ws → Given (given ++ (n, w) ∷ []) location
    → ⊥ = λ location low high is_given.
    elim (given_by_either given ((n, w) ∷ []) location is_given) [
      | inl before ↦ free location (omega arith) (omega arith) before
      | inr last ↦ omega (arith, low, alone last)
    ] in
    subst AreApart (append_assoc given ((n, w) ∷ []) (placed (n + 1) ws))
    (placed_apart (given ++ (n, w) ∷ []) (n + 1) ws
    (all_pairs_push (λ one later. one.0 ≢ later.0) given (n, w) apart other) free')
  where
    alone : {n : ℕ} {w : Word} {location : ℕ} → Given ((n, w) ∷ []) location → n ≡ location
    alone (zero, one, within, here, at) = ap (λ (g : ℕ × Word). g.0) here ∙ at
    alone (suc k, one, within, here, at) = absurd (omega arith)

line_apart : (before : List Line) (line : Line) → ¬ Repeats before line → AreApart (given_in before)
    → AreApart (given_in before ++ given_by line)
line_apart before (words n ws) once apart =
    placed_apart (given_in before) n ws apart (λ location low high given. once (location, low, high, given))
line_apart before comment once apart = subst AreApart (sym (append-nil (given_in before))) apart
line_apart before (angle n) once apart = subst AreApart (sym (append-nil (given_in before))) apart
line_apart before (switches w) once apart = subst AreApart (sym (append-nil (given_in before))) apart
line_apart before (distributor w) once apart = subst AreApart (sym (append-nil (given_in before))) apart
line_apart before (accumulator a) once apart = subst AreApart (sym (append-nil (given_in before))) apart
line_apart before (latch b) once apart = subst AreApart (sym (append-nil (given_in before))) apart
line_apart before (programmed b) once apart = subst AreApart (sym (append-nil (given_in before))) apart
line_apart before (on_overflow b) once apart = subst AreApart (sym (append-nil (given_in before))) apart
line_apart before (card load ws) once apart = subst AreApart (sym (append-nil (given_in before))) apart
line_apart before (wait n) once apart = subst AreApart (sym (append-nil (given_in before))) apart

all_apart : (before lines : List Line) → AreSoundBehind before lines → AreApart (given_in before)
    → AreApart (given_in (before ++ lines))
all_apart before [] sound apart = subst (λ (ls : List Line). AreApart (given_in ls)) (sym (append-nil before)) apart
all_apart before (line ∷ lines) sound apart =
    let here : AreApart (given_in (before ++ line ∷ [])) =
    subst AreApart (sym (flat_map-push given_by before line)) (line_apart before line sound.1 apart) in
    subst (λ (ls : List Line). AreApart (given_in ls)) (append_assoc before (line ∷ []) lines)
    (all_apart (before ++ line ∷ []) lines sound.2 here)

all_on_drum : (before lines : List Line) → AreSoundBehind before lines → AreOnDrum (given_in lines)
all_on_drum before [] sound = All-nil (λ one. one.0 < 2000)
all_on_drum before (line ∷ lines) sound =
    All-append (λ one. one.0 < 2000) (given_by line) (given_in lines) (given_on_drum line sound.0)
    (all_on_drum (before ++ line ∷ []) lines sound.2)

pub once_given : (lines : List Line) → AreSound lines → AreApart (given_in lines)
once_given lines sound = all_apart [] lines sound (λ i j d less within. absurd (omega arith))

pub on_drum_given : (lines : List Line) → AreSound lines → AreOnDrum (given_in lines)
on_drum_given lines sound = all_on_drum [] lines sound

-- the words of sound lines as a setup has them
pub own_locations : (given : List (Location × Word)) (lines : List Line) → AreSound lines
    → map given_word given ≡ given_in lines → HaveOwnLocations given
own_locations given lines sound same =
    let drum : AreOnDrum (map given_word given) = subst AreOnDrum (sym same) (on_drum_given lines sound) in
    let apart : AreApart (map given_word given) = subst AreApart (sym same) (once_given lines sound) in
    let long : length (map given_word given) ≡ length given = length-map given given_word in
    record {
      on_drum = λ k d within.
          let at : get_or (map given_word given) k (given_word d) ≡ given_word (get_or given k d) =
          get_or-map given_word given k d (given_word d) within in
          subst (λ (one : ℕ × Word). one.0 < 2000) at (drum k (given_word d) (omega (arith, long, within)));
      once = λ i j d less within same.
          let first : get_or (map given_word given) i (given_word d) ≡ given_word (get_or given i d) =
          get_or-map given_word given i d (given_word d) (omega (arith, less, within)) in
          let second : get_or (map given_word given) j (given_word d) ≡ given_word (get_or given j d) =
          get_or-map given_word given j d (given_word d) within in
          apart i j (given_word d) less (omega (arith, long, within))
          (ap (λ (one : ℕ × Word). one.0) first ∙ same ∙ sym (ap (λ (one : ℕ × Word). one.0) second));
    }
