-- Sound lines, and one more.
use Rattle.std.proofs.Common.{List, [], ◌∷◌, ◌++◌, sym, subst, append_assoc}
use Rattle.std.proofs.lemmas.List.{append-nil}
use Rattle.read_replays.specs.InputsText.{Line, IsPastDrum, Repeats, AreSoundBehind, AreSound}

sound_behind : (before lines : List Line) (line : Line) → AreSoundBehind before lines → ¬ IsPastDrum line
    → ¬ Repeats (before ++ lines) line → AreSoundBehind before (lines ++ line ∷ [])
sound_behind before [] line sound on_drum once =
    (on_drum, subst (λ (ls : List Line). ¬ Repeats ls line) (append-nil before) once, tt)
sound_behind before (first ∷ lines) line sound on_drum once =
    let once' = subst (λ (ls : List Line). ¬ Repeats ls line) (sym (append_assoc before (first ∷ []) lines)) once in
    (sound.0, sound.1, sound_behind (before ++ first ∷ []) lines line sound.2 on_drum once')

pub sound_more : (lines : List Line) (line : Line) → AreSound lines → ¬ IsPastDrum line → ¬ Repeats lines line
    → AreSound (lines ++ line ∷ [])
sound_more lines line sound on_drum once = sound_behind [] lines line sound on_drum once
