-- Laws of inputs: a text has one fault.
use Rattle.std.proofs.Common.{◌≡◌, ℕ, List, [], ◌∷◌, ◌++◌, refl, ap, sym, ◌∙◌, subst}
use Rattle.std.proofs.Common.{append_assoc}
use Rattle.std.proofs.lemmas.List.{append-nil}
use Rattle.read_decks.proofs.FirstFaults as firsts
use Rattle.read_decks.proofs.FirstFaults.{HasOneFault}
use Rattle.read_decks.specs.Lines.{lines_of}
use Rattle.read_replays.specs.declared.fault.InputFault.{InputFault}
use Rattle.read_replays.specs.declared.fault.InputFault.TheVariants as faults
use Rattle.read_replays.specs.InputsText.{Line, IsLine, Say, IsPastDrum, Repeats, AreSoundBehind, AreSound, AreInputs}
use Rattle.read_replays.specs.InputsText.{IsFaultOfLine, IsFirstFault, IsRefused}
use Rattle.read_replays.proofs.OneLine.{line_one}

-- a line among sound lines
sound_among : (before prefix : List Line) (line : Line) (behind : List Line)
    → AreSoundBehind before (prefix ++ line ∷ behind) → (¬ IsPastDrum line) × (¬ Repeats (before ++ prefix) line)
sound_among before [] line behind sound =
    (sound.0, subst (λ (ls : List Line). ¬ Repeats ls line) (sym (append-nil before)) sound.1)
sound_among before (first ∷ prefix) line behind sound =
    let rest = sound_among (before ++ first ∷ []) prefix line behind sound.2 in
    (rest.0, subst (λ (ls : List Line). ¬ Repeats ls line) (append_assoc before (first ∷ []) prefix) rest.1)

-- a line of sound lines has no fault
no_fault_among : (prefix : List Line) (line : Line) (behind : List Line) (number : ℕ) (text : List ℕ)
    (fault : InputFault) → AreSound (prefix ++ line ∷ behind) → IsLine text line
    → IsFaultOfLine prefix number text fault → ⊥
no_fault_among prefix line behind number text (faults.Line n) sound says p = p.1 line says
no_fault_among prefix line behind number text (faults.PastDrum n) sound says p =
    let one = line_one text line p.1.0 says p.1.1 in
    (sound_among [] prefix line behind sound).0 (subst IsPastDrum (sym one) p.1.2)
no_fault_among prefix line behind number text (faults.Repeated n) sound says p =
    let one = line_one text line p.1.0 says p.1.1 in
    (sound_among [] prefix line behind sound).1 (subst (Repeats prefix) (sym one) p.1.3)
no_fault_among prefix line behind number text faults.Read sound says p = p
no_fault_among prefix line behind number text faults.Memory sound says p = p
no_fault_among prefix line behind number text faults.TooLong sound says p = p

-- a line has one fault
fault_of_line_one : (before : List Line) (number : ℕ) (text : List ℕ) (fault other : InputFault)
    → IsFaultOfLine before number text fault → IsFaultOfLine before number text other → fault ≡ other
fault_of_line_one before number text faults.Read other p q = absurd p
fault_of_line_one before number text faults.Memory other p q = absurd p
fault_of_line_one before number text faults.TooLong other p q = absurd p
fault_of_line_one before number text fault faults.Read p q = absurd q
fault_of_line_one before number text fault faults.Memory p q = absurd q
fault_of_line_one before number text fault faults.TooLong p q = absurd q
fault_of_line_one before number text (faults.Line n) (faults.Line m) p q = ap faults.Line (p.0 ∙ sym q.0)
fault_of_line_one before number text (faults.Line n) (faults.PastDrum m) p q = absurd (p.1 q.1.0 q.1.1)
fault_of_line_one before number text (faults.Line n) (faults.Repeated m) p q = absurd (p.1 q.1.0 q.1.1)
fault_of_line_one before number text (faults.PastDrum n) (faults.Line m) p q = absurd (q.1 p.1.0 p.1.1)
fault_of_line_one before number text (faults.PastDrum n) (faults.PastDrum m) p q = ap faults.PastDrum (p.0 ∙ sym q.0)
fault_of_line_one before number text (faults.PastDrum n) (faults.Repeated m) p q =
    absurd (q.1.2 (subst IsPastDrum (line_one text p.1.0 q.1.0 p.1.1 q.1.1) p.1.2))
fault_of_line_one before number text (faults.Repeated n) (faults.Line m) p q = absurd (q.1 p.1.0 p.1.1)
fault_of_line_one before number text (faults.Repeated n) (faults.PastDrum m) p q =
    absurd (p.1.2 (subst IsPastDrum (line_one text q.1.0 p.1.0 q.1.1 p.1.1) q.1.2))
fault_of_line_one before number text (faults.Repeated n) (faults.Repeated m) p q = ap faults.Repeated (p.0 ∙ sym q.0)

-- a line of inputs says one thing, a sound one has no fault, and a faulty one has one
pub inputs_faults : HasOneFault IsLine AreSound IsFaultOfLine
inputs_faults = record { one_line = line_one; none_among = no_fault_among; one_fault = fault_of_line_one }

-- a text whose lines are sound has no faulty line
sound_not_faulty : (text : List ℕ) (lines : List Line) (fault : InputFault) → Say (lines_of text) lines → AreSound lines
    → IsFirstFault text fault → ⊥
sound_not_faulty = firsts.sound_not_faulty IsLine AreSound IsFaultOfLine inputs_faults

first_fault_one : (text : List ℕ) (fault other : InputFault) → IsFirstFault text fault → IsFirstFault text other
    → fault ≡ other
first_fault_one = firsts.first_fault_one IsLine AreSound IsFaultOfLine inputs_faults

-- inputs aren't refused
pub inputs_not_refused : (text : List ℕ) (lines : List Line) (fault : InputFault) → AreInputs text lines
    → IsRefused text fault → ⊥
inputs_not_refused text lines faults.Read inputs p = p
inputs_not_refused text lines faults.Memory inputs p = p
inputs_not_refused text lines faults.TooLong inputs p = inputs.short p
inputs_not_refused text lines (faults.Line n) inputs p =
    sound_not_faulty text lines (faults.Line n) inputs.said inputs.sound p.1
inputs_not_refused text lines (faults.PastDrum n) inputs p =
    sound_not_faulty text lines (faults.PastDrum n) inputs.said inputs.sound p.1
inputs_not_refused text lines (faults.Repeated n) inputs p =
    sound_not_faulty text lines (faults.Repeated n) inputs.said inputs.sound p.1

-- a text that is no inputs has one fault
pub fault_one : (text : List ℕ) (fault other : InputFault) → IsRefused text fault → IsRefused text other → fault ≡ other
fault_one text faults.Read other p q = absurd p
fault_one text faults.Memory other p q = absurd p
fault_one text fault faults.Read p q = absurd q
fault_one text fault faults.Memory p q = absurd q
fault_one text faults.TooLong faults.TooLong p q = refl
fault_one text faults.TooLong (faults.Line n) p q = absurd (q.0 p)
fault_one text faults.TooLong (faults.PastDrum n) p q = absurd (q.0 p)
fault_one text faults.TooLong (faults.Repeated n) p q = absurd (q.0 p)
fault_one text (faults.Line n) faults.TooLong p q = absurd (p.0 q)
fault_one text (faults.Line n) (faults.Line m) p q = first_fault_one text (faults.Line n) (faults.Line m) p.1 q.1
fault_one text (faults.Line n) (faults.PastDrum m) p q =
    first_fault_one text (faults.Line n) (faults.PastDrum m) p.1 q.1
fault_one text (faults.Line n) (faults.Repeated m) p q =
    first_fault_one text (faults.Line n) (faults.Repeated m) p.1 q.1
fault_one text (faults.PastDrum n) faults.TooLong p q = absurd (p.0 q)
fault_one text (faults.PastDrum n) (faults.Line m) p q =
    first_fault_one text (faults.PastDrum n) (faults.Line m) p.1 q.1
fault_one text (faults.PastDrum n) (faults.PastDrum m) p q =
    first_fault_one text (faults.PastDrum n) (faults.PastDrum m) p.1 q.1
fault_one text (faults.PastDrum n) (faults.Repeated m) p q =
    first_fault_one text (faults.PastDrum n) (faults.Repeated m) p.1 q.1
fault_one text (faults.Repeated n) faults.TooLong p q = absurd (p.0 q)
fault_one text (faults.Repeated n) (faults.Line m) p q =
    first_fault_one text (faults.Repeated n) (faults.Line m) p.1 q.1
fault_one text (faults.Repeated n) (faults.PastDrum m) p q =
    first_fault_one text (faults.Repeated n) (faults.PastDrum m) p.1 q.1
fault_one text (faults.Repeated n) (faults.Repeated m) p q =
    first_fault_one text (faults.Repeated n) (faults.Repeated m) p.1 q.1
