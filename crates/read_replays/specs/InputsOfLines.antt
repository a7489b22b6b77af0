-- What is held by inputs of which some lines have been taken.
use Rattle.std.specs.Prelude.{◌≡◌, ℕ, ◌+◌, ◌^◌, ◌<◌, ◌↔◌, List, length, map, true, false, Any, slice_index_or}
use Rattle.std.specs.Prelude.{unsigned_abs}
use Rattle.read_decks.specs.Taking.{Rules}
use Rattle.std.specs.Option.{ForSome}
use Rattle.base_words.specs.declared.word.Word.{Word}
use Rattle.read_replays.specs.declared.drum_words.DrumWords.{DrumWords}
use Rattle.read_replays.specs.declared.fault.InputFault.{InputFault}
use Rattle.read_replays.specs.declared.setting.Setting.{Setting}
use Rattle.read_replays.specs.declared.settings.Settings.{Settings}
use Rattle.read_replays.specs.declared.stating.Stating.{Stating}
use Rattle.read_replays.specs.Inputs.{given_word, read_card}
use Rattle.read_replays.specs.InputsText.{Line, comment, IsLine, AreSound, IsFaultOfLine}
use Rattle.read_replays.specs.InputsText.{first_said, angle_in, switches_in}
use Rattle.read_replays.specs.InputsText.{distributor_in, accumulator_in, latch_in, programmed_in}
use Rattle.read_replays.specs.InputsText.{on_overflow_in, given_in, cards_in, waits_in}
use Rattle.read_replays.specs.Said.{stated}

-- some text states the setting
abbrev pub CanBeStated : Setting → Type 0
CanBeStated setting = (text : List ℕ) × IsLine text (stated setting)

-- The settings are those of the lines.
pub record HoldSettings (settings : Settings) (lines : List Line) : Type 0 where
  pub angle : settings.angle ≡ first_said angle_in lines
  pub switches : settings.switches ≡ first_said switches_in lines
  pub distributor : settings.distributor ≡ first_said distributor_in lines
  pub accumulator : settings.accumulator ≡ first_said accumulator_in lines
  pub latch : settings.latch ≡ first_said latch_in lines
  pub programmed : settings.programmed ≡ first_said programmed_in lines
  pub on_overflow : settings.on_overflow ≡ first_said on_overflow_in lines
  pub on_drum : ForSome settings.angle (λ n. n < 50)
  pub twenty : ForSome settings.accumulator (λ a. unsigned_abs a < 10 ^ 20)

-- The words are these, and a location is marked exactly if it is given one.
pub record HoldWords (drum : DrumWords) (given : List (ℕ × Word)) : Type 0 where
  pub words : map given_word drum.words.items ≡ given
  pub marks : (n : ℕ) → n < 2000
      → (slice_index_or drum.marks.items n false ≡ true) ↔ Any (λ one. one.0 ≡ n) given

-- The inputs are those of sound lines.
pub record HoldsLines (stating : Stating) (lines : List Line) : Type 0 where
  pub settings : HoldSettings stating.settings lines
  pub words : HoldWords stating.drum (given_in lines)
  pub cards : map read_card stating.cards.items ≡ cards_in lines
  pub waits : stating.waits.items ≡ waits_in lines
  pub sound : AreSound lines

-- how the lines of inputs are read
abbrev pub input_rules : Rules Stating InputFault
input_rules = record {
  Line = Line;
  comment = comment;
  Says = IsLine;
  AreSound = AreSound;
  HasFault = λ before text fault. IsFaultOfLine before (length before + 1) text fault;
  Holds = HoldsLines;
}
