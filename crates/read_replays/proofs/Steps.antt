-- What one line more gives.
use Rattle.std.proofs.Common.{◌≡◌, ℕ, ◌+◌, List, [], ◌∷◌, ◌++◌, length, map, refl, ap, sym, ◌∙◌, subst, Some, None}
use Rattle.std.proofs.lemmas.Grind.{flat_map-append}
use Rattle.std.proofs.lemmas.List.{append-nil, map-append}
use Rattle.std.specs.Prelude.{flat_map}
use Rattle.read_decks.specs.Taking.{IsNext}
use Rattle.base_words.specs.declared.word.Word.{Word}
use Rattle.machine_steps.specs.declared.card.Card.{Card}
use Rattle.read_replays.specs.declared.drum_words.DrumWords.{DrumWords}
use Rattle.read_replays.specs.declared.fault.InputFault.{InputFault}
use Rattle.read_replays.specs.declared.setting.Setting.{Setting}
use Rattle.read_replays.specs.declared.setting.Setting.TheVariants.{Angle, Switches, Distributor, Accumulator, Latch}
use Rattle.read_replays.specs.declared.setting.Setting.TheVariants.{Programmed, OnOverflow}
use Rattle.read_replays.specs.declared.settings.Settings.{Settings}
use Rattle.read_replays.specs.declared.stating.Stating.{Stating}
use Rattle.read_replays.specs.InputsOfLines.{HoldSettings, HoldWords, HoldsLines, input_rules}
use Rattle.read_replays.specs.Inputs.{read_card}
use Rattle.read_replays.specs.InputsText.{Line, IsLine, IsFaultOfLine, comment, words, card, wait, IsPastDrum, Repeats}
use Rattle.read_replays.specs.InputsText.{angle_in, switches_in}
use Rattle.read_replays.specs.InputsText.{distributor_in, accumulator_in, latch_in, programmed_in, on_overflow_in}
use Rattle.read_replays.specs.InputsText.{given_by, given_in, card_by, cards_in, wait_by, waits_in, placed}
use Rattle.read_replays.specs.Said.{stated}
use Rattle.read_replays.proofs.Firsts.{keeps}
use Rattle.read_replays.proofs.Sounds.{sound_more}

pub flat_map-push : {A : Type 0} (f : Line → List A) (lines : List Line) (line : Line)
    → flat_map f (lines ++ line ∷ []) ≡ flat_map f lines ++ f line
flat_map-push f lines line =
    flat_map-append f lines (line ∷ []) ∙ ap (λ xs. flat_map f lines ++ xs) (append-nil (f line))

-- one line more, of which each part is held
pub holds_more : (old new : Stating) (lines : List Line) (line : Line) → HoldsLines old lines
    → HoldSettings new.settings (lines ++ line ∷ [])
    → HoldWords new.drum (given_in lines ++ given_by line)
    → map read_card new.cards.items ≡ cards_in lines ++ card_by line
    → new.waits.items ≡ waits_in lines ++ wait_by line → ¬ IsPastDrum line → ¬ Repeats lines line
    → HoldsLines new (lines ++ line ∷ [])
holds_more old new lines line holds settings drum cards waits on_drum once = record {
  settings = settings;
  words = subst (HoldWords new.drum) (sym (flat_map-push given_by lines line)) drum;
  cards = cards ∙ sym (flat_map-push card_by lines line);
  waits = waits ∙ sym (flat_map-push wait_by lines line);
  sound = sound_more lines line holds.sound on_drum once;
}

-- the settings where the line is none
pub settings_kept : (settings : Settings) (lines : List Line) (line : Line) → angle_in line ≡ None
    → switches_in line ≡ None → distributor_in line ≡ None → accumulator_in line ≡ None
    → latch_in line ≡ None → programmed_in line ≡ None → on_overflow_in line ≡ None → HoldSettings settings lines
    → HoldSettings settings (lines ++ line ∷ [])
settings_kept settings lines line a s d c l p o holds = search (keeps, holds.on_drum, holds.twenty)

pub holds_comment : (old : Stating) (lines : List Line) → HoldsLines old lines → HoldsLines old (lines ++ comment ∷ [])
holds_comment old lines holds =
    holds_more old old lines comment holds
    (settings_kept old.settings lines comment refl refl refl refl refl refl refl holds.settings)
    (subst (HoldWords old.drum) (sym (append-nil (given_in lines))) holds.words)
    (holds.cards ∙ sym (append-nil (cards_in lines))) (holds.waits ∙ sym (append-nil (waits_in lines)))
    (λ past. past) (λ again. again)

pub is_next : (new : Stating) (lines : List Line) (bytes : List ℕ) (line : Line) → IsLine bytes line
    → HoldsLines new (lines ++ line ∷ []) → IsNext input_rules new lines bytes None
is_next new lines bytes line is_line holds = (line, is_line, holds.sound, holds)

-- a line with a fault counts as a comment
pub has_fault : (state : Stating) (lines : List Line) (bytes : List ℕ) (fault : InputFault)
    → IsFaultOfLine lines (length lines + 1) bytes fault → HoldsLines state lines
    → IsNext input_rules state lines bytes (Some fault)
has_fault state lines bytes fault is holds = (is, holds_comment state lines holds)

-- a setting gives no word, no card and no wait
pub record IsPlain (line : Line) : Type 0 where
  given : given_by line ≡ []
  cards : card_by line ≡ []
  waits : wait_by line ≡ []
  pub on_drum : ¬ IsPastDrum line

pub plain : (setting : Setting) → IsPlain (stated setting)
plain (Angle n) = record { given = refl; cards = refl; waits = refl; on_drum = λ past. past }
plain (Switches w) = record { given = refl; cards = refl; waits = refl; on_drum = λ past. past }
plain (Distributor w) = record { given = refl; cards = refl; waits = refl; on_drum = λ past. past }
plain (Accumulator a) = record { given = refl; cards = refl; waits = refl; on_drum = λ past. past }
plain (Latch b) = record { given = refl; cards = refl; waits = refl; on_drum = λ past. past }
plain (Programmed b) = record { given = refl; cards = refl; waits = refl; on_drum = λ past. past }
plain (OnOverflow b) = record { given = refl; cards = refl; waits = refl; on_drum = λ past. past }

pub holds_setting : (old new : Stating) (lines : List Line) (setting : Setting) → HoldsLines old lines
    → HoldSettings new.settings (lines ++ stated setting ∷ []) → ¬ Repeats lines (stated setting)
    → new.drum ≡ old.drum → new.cards ≡ old.cards → new.waits ≡ old.waits
    → HoldsLines new (lines ++ stated setting ∷ [])
holds_setting old new lines setting holds settings once drum cards waits =
    let is_plain = plain setting in
    let given : given_in lines ≡ given_in lines ++ given_by (stated setting) =
    sym (append-nil (given_in lines)) ∙ ap (λ xs. given_in lines ++ xs) (sym is_plain.given) in
    let no_card : cards_in lines ≡ cards_in lines ++ card_by (stated setting) =
    sym (append-nil (cards_in lines)) ∙ ap (λ xs. cards_in lines ++ xs) (sym is_plain.cards) in
    let no_wait : waits_in lines ≡ waits_in lines ++ wait_by (stated setting) =
    sym (append-nil (waits_in lines)) ∙ ap (λ xs. waits_in lines ++ xs) (sym is_plain.waits) in
    holds_more old new lines (stated setting) holds settings
    (subst (HoldWords new.drum) given (subst (λ (d : DrumWords). HoldWords d (given_in lines)) (sym drum) holds.words))
    (ap (λ cs. map read_card cs.items) cards ∙ holds.cards ∙ no_card)
    (ap (λ ws. ws.items) waits ∙ holds.waits ∙ no_wait) is_plain.on_drum once

-- what a line gives no part of
same_words : (drum : DrumWords) (lines : List Line) → HoldWords drum (given_in lines)
    → HoldWords drum (given_in lines ++ [])
same_words drum lines holds = subst (HoldWords drum) (sym (append-nil (given_in lines))) holds

pub holds_card : (old new : Stating) (lines : List Line) (one : Card) → HoldsLines old lines
    → new.settings ≡ old.settings → new.drum ≡ old.drum
    → new.cards.items ≡ old.cards.items ++ one ∷ [] → new.waits ≡ old.waits
    → HoldsLines new (lines ++ card one.load one.words ∷ [])
holds_card old new lines one holds settings drum cards waits =
    let line : Line = card one.load one.words in
    holds_more old new lines line holds
    (settings_kept new.settings lines line refl refl refl refl refl refl refl
    (subst (λ (s : Settings). HoldSettings s lines) (sym settings) holds.settings))
    (same_words new.drum lines (subst (λ (d : DrumWords). HoldWords d (given_in lines)) (sym drum) holds.words))
    (ap (map read_card) cards ∙ map-append read_card old.cards.items (one ∷ [])
    ∙ ap (λ cs. cs ++ read_card one ∷ []) holds.cards)
    (ap (λ ws. ws.items) waits ∙ holds.waits ∙ sym (append-nil (waits_in lines))) (λ past. past) (λ again. again)

pub holds_wait : (old new : Stating) (lines : List Line) (n : ℕ) → HoldsLines old lines → new.settings ≡ old.settings
    → new.drum ≡ old.drum → new.cards ≡ old.cards
    → new.waits.items ≡ old.waits.items ++ n ∷ [] → HoldsLines new (lines ++ wait n ∷ [])
holds_wait old new lines n holds settings drum cards waits =
    let line : Line = wait n in
    holds_more old new lines line holds
    (settings_kept new.settings lines line refl refl refl refl refl refl refl
    (subst (λ (s : Settings). HoldSettings s lines) (sym settings) holds.settings))
    (same_words new.drum lines (subst (λ (d : DrumWords). HoldWords d (given_in lines)) (sym drum) holds.words))
    (ap (λ cs. map read_card cs.items) cards ∙ holds.cards ∙ sym (append-nil (cards_in lines)))
    (waits ∙ ap (λ (ws : List ℕ). ws ++ n ∷ []) holds.waits) (λ past. past) (λ again. again)

pub holds_words : (old new : Stating) (lines : List Line) (n : ℕ) (ws : List Word) → HoldsLines old lines
    → new.settings ≡ old.settings
    → HoldWords new.drum (given_in lines ++ placed n ws) → new.cards ≡ old.cards → new.waits ≡ old.waits
    → ¬ IsPastDrum (words n ws) → ¬ Repeats lines (words n ws)
    → HoldsLines new (lines ++ words n ws ∷ [])
holds_words old new lines n ws holds settings drum cards waits on_drum once =
    let line : Line = words n ws in
    holds_more old new lines line holds
    (settings_kept new.settings lines line refl refl refl refl refl refl refl
    (subst (λ (s : Settings). HoldSettings s lines) (sym settings) holds.settings)) drum
    (ap (λ cs. map read_card cs.items) cards ∙ holds.cards ∙ sym (append-nil (cards_in lines)))
    (ap (λ vs. vs.items) waits ∙ holds.waits ∙ sym (append-nil (waits_in lines))) on_drum once
