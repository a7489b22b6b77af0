-- What a step's answer says of the notes.
use Rattle.std.proofs.Common.{◌≡◌, ℕ, Bool, true, false, not, ◌&&◌, List, [], ◌∷◌, Option, Some, None, refl, sym, ap}
use Rattle.std.proofs.Common.{subst, ◌∙◌}
use Rattle.std.specs.Prelude.{nat_lt, nat_le, ◌||◌, if◌then◌else◌, IsTrue, MatchOption}
use Rattle.std.specs.List.{Contains}
use Rattle.base_words.specs.declared.location.Location.{Location}
use Rattle.base_words.specs.declared.op.Op.{Op}
use Rattle.base_words.specs.declared.op.Op.TheVariants.{NoOperation, Stop, Add, ResetAdd, Divide, DivideReset, Multiply}
use Rattle.base_words.specs.declared.op.Op.TheVariants.{Store, Shift, Branch, LoadDistributor, Read, Punch}
use Rattle.base_words.specs.declared.op.Op.TheVariants.{BranchOnDigit}
use Rattle.base_words.specs.declared.word.Word.{Word}
use Rattle.base_words.specs.Instruction.{instruction_of}
use Rattle.base_words.specs.Op.{op_of}
use Rattle.base_words.specs.Location.{is_location}
use Rattle.base_notes.specs.declared.entry.Entry.{Entry}
use Rattle.base_notes.specs.Allowed.{Notes, is_listed, allowed}
use Rattle.machine_steps.specs.declared.card.Card.{Card}
use Rattle.machine_steps.specs.declared.left.Left.{Left}
use Rattle.machine_steps.specs.declared.left.Left.TheVariants.{Unlisted}
use Rattle.machine_steps.specs.declared.why.Why as whys
use Rattle.machine_steps.specs.Calls.{open_along, GoBack}
use Rattle.machine_steps.specs.Counts.{AreWithin}
use Rattle.machine_steps.specs.Keeps.{IsAllowed, IsKeptStride, Leaves, counts_after, counts_by, reads_load, reads_with}
use Rattle.machine_steps.specs.Keeps.{is_load, GoesBack, ways_after}
use Rattle.machine_steps.specs.Run.{Stride}
use Rattle.machine_steps.specs.Since.{edge_by}
use Rattle.machine_steps.specs.Step.{State, Stepped, on, stopped, step, step_of, step_with, fetched, instruction_in}
use Rattle.machine_steps.specs.Step.{stepped_by, lacks_card, has_cards, clock_of}
use Rattle.machine_steps.specs.Contents.{Contents}
use Rattle.machine_steps.specs.Effect.{goes, reads}
use Rattle.machine_steps.specs.Timing.{ended, units_of}
use Rattle.machine_emulator.specs.declared.step.Step.TheVariants.{Went, Stopped}
use Rattle.machine_emulator.specs.Machine.{Tells}
use Rattle.machine_emulator.proofs.Stepping.{acts}

-- where the step began that is answered, and the word that was fetched
pub told_going : (t : Stepped) (origin : Location) (w : Word) (l : Bool) (p : Option (List Word)) (location : Location)
    (word : Word) (next : Location) (used : ℕ) (load : Bool) (punched : Option (List Word))
    → Tells t origin w l p (Went location word next used load punched) → (location ≡ origin) × (word ≡ w)
told_going (on s) origin w l p location word next used load punched told = (told.0, told.1)
told_going (stopped held because moment) origin w l p location word next used load punched told = (cc, cc)

pub told_stop : (t : Stepped) (origin : Location) (w : Word) (l : Bool) (p : Option (List Word)) (location : Location)
    (word : Word) (why : whys.Why) (used : ℕ)
    → Tells t origin w l p (Stopped location word why used) → (location ≡ origin) × (word ≡ w)
    × ((held : Contents) × (t ≡ stopped held why used))
told_stop (on s) origin w l p location word why used told = absurd told
told_stop (stopped held because moment) origin w l p location word why used told = (cc, cc, (held, cc))

-- what is allowed at a location of this number, of this word
abbrev AllowedAt : (ℕ → Option Word) → Notes → ℕ → Word → Type 0
AllowedAt loads notes number word =
    IsTrue (is_listed notes number) → Contains (allowed loads notes number) (instruction_of word)

allowed_there : (loads : ℕ → Option Word) (notes : Notes) (s : State) (number : ℕ) (word : Word) → number ≡ s.sought
    → word ≡ fetched s → AllowedAt loads notes number word → IsAllowed loads notes s
allowed_there loads notes s number word numbers words h =
    subst (λ (n : ℕ). AllowedAt loads notes n (fetched s)) numbers
    (subst (λ (w : Word). AllowedAt loads notes number w) words h)

pub unlisted_leaves : (loads : ℕ → Option Word) (notes : Notes) (counts : List ℕ) (ways : List (Option ℕ))
    (stride : Stride) (location : Location) (word : Word) (left : Left)
    → location.number ≡ stride.origin.sought → word ≡ fetched stride.origin → left ≡ Unlisted location word
    → ¬ AllowedAt loads notes location.number word → Leaves loads notes counts ways stride left
unlisted_leaves loads notes counts ways stride location word left numbers words is other =
    subst (Leaves loads notes counts ways stride) (sym is) (
      numbers,
      words,
      λ h. other (λ listed.
          subst (λ (n : ℕ). AllowedAt loads notes n word) (sym numbers)
          (subst (λ (w : Word). AllowedAt loads notes stride.origin.sought w) (sym words) h) listed),
    )

-- a step that reads a load card goes on
abbrev IsOn : Stepped → Type 0
IsOn (on s) = Unit {0}
IsOn (stopped held because moment) = ⊥

and_false : (a : Bool) → (a && false) ≡ false
and_false true = refl
and_false false = refl

on_there : (s : State) (end : ℕ) (c : Contents) (next : ℕ) → is_location next ≡ true → IsOn (stepped_by s end (goes c next))
on_there s end c next there = rw there tt

on_drum : (d : ℕ) → nat_lt d 2000 ≡ true → is_location d ≡ true
on_drum d below = ap (λ (is : Bool). is || (nat_le 8000 d && nat_lt d 8004)) below

abbrev lacks_in : List Card → Bool
lacks_in cards = not (has_cards cards)

read_stops : (times : Op → Entry) (s : State) (wait : ℕ) (held : Contents) (why : whys.Why) (moment : ℕ)
    (cards : List Card) (operand load : Bool) → s.contents.cards ≡ cards
    → nat_lt (instruction_in s).d 2000 ≡ operand → is_load cards ≡ load
    → step_of times s wait Read ≡ stopped held why moment → (operand && load) ≡ false
read_stops times s wait held why moment cards operand false same at loads stops = and_false operand
read_stops times s wait held why moment cards false true same at loads stops = refl
read_stops times s wait held why moment [] true true same at loads stops = absurd (cc)
read_stops times s wait held why moment (card ∷ cards) true true same at loads stops =
    let d = (instruction_in s).d in
    let end =
    ended (times Read) Read (instruction_in s).d s.sought (units_of Read (instruction_in s).d s.contents) wait
    (clock_of s) in
    let supplied : lacks_card Read s.contents ≡ false = ap (λ (left : List Card). lacks_in left) same in
    let past = acts times s Read wait at supplied in
    let read = ap (λ (left : List Card). reads s.contents left (instruction_in s).d (instruction_in s).i) same in
    let onto = ap (λ (is : Bool). if is then (instruction_in s).d else (instruction_in s).i) loads in
    let goes : IsOn (step_of times s wait Read) =
    subst IsOn (sym (past ∙ ap (stepped_by s end) read))
    (on_there s end _ (if card.load then (instruction_in s).d else (instruction_in s).i)
    (ap is_location onto ∙ on_drum (instruction_in s).d at)) in
    absurd (subst IsOn stops goes)

-- a step of an operation that stops has read no load card
stops_without_load : (times : Op → Entry) (s : State) (wait : ℕ) (held : Contents) (why : whys.Why) (moment : ℕ)
    (op : Option Op) → step_with times s wait op ≡ stopped held why moment
    → (reads_with s op && is_load s.contents.cards) ≡ false
stops_without_load times s wait held why moment None stops = refl
stops_without_load times s wait held why moment (Some Read) stops =
    read_stops times s wait held why moment s.contents.cards (nat_lt (instruction_in s).d 2000)
    (is_load s.contents.cards) refl refl refl stops
stops_without_load times s wait held why moment (Some NoOperation) stops = refl
stops_without_load times s wait held why moment (Some Stop) stops = refl
stops_without_load times s wait held why moment (Some (Add a)) stops = refl
stops_without_load times s wait held why moment (Some (ResetAdd a)) stops = refl
stops_without_load times s wait held why moment (Some Divide) stops = refl
stops_without_load times s wait held why moment (Some DivideReset) stops = refl
stops_without_load times s wait held why moment (Some Multiply) stops = refl
stops_without_load times s wait held why moment (Some (Store a)) stops = refl
stops_without_load times s wait held why moment (Some (Shift a)) stops = refl
stops_without_load times s wait held why moment (Some (Branch a)) stops = refl
stops_without_load times s wait held why moment (Some LoadDistributor) stops = refl
stops_without_load times s wait held why moment (Some Punch) stops = refl
stops_without_load times s wait held why moment (Some (BranchOnDigit p)) stops = refl

pub stop_reads_none : (times : Op → Entry) (s : State) (wait : ℕ) (held : Contents) (why : whys.Why) (moment : ℕ)
    → step times s wait ≡ stopped held why moment → reads_load s ≡ false
stop_reads_none times s wait held why moment stops =
    stops_without_load times s wait held why moment (op_of (instruction_in s).op) stops

-- a stride that stops is judged by its fetched word alone
pub stop_judged : (loads : ℕ → Option Word) (notes : Notes) (counts : List ℕ) (ways : List (Option ℕ))
    (stride : Stride) (location : Location) (word : Word) (held : Contents) (why : whys.Why) (moment : ℕ)
    (left : Option Left)
    → location.number ≡ stride.origin.sought → word ≡ fetched stride.origin → stride.outcome ≡ stopped held why moment
    → reads_load stride.origin ≡ false
    → MatchOption left (AllowedAt loads notes location.number word)
    (λ l. (l ≡ Unlisted location word) × ¬ AllowedAt loads notes location.number word)
    → MatchOption left (AreWithin notes.marks counts → IsKeptStride loads notes counts stride
    × (counts ≡ counts_after notes counts stride) × GoesBack notes ways stride × (ways ≡ ways_after notes ways stride))
    (λ l. Leaves loads notes counts ways stride l)
stop_judged loads notes counts ways stride location word held why moment None numbers words stops unread listed =
    λ within.
    let same : counts ≡ counts_after notes counts stride = sym (ap (counts_by notes counts stride.origin.sought) stops) in
    let none : edge_by stride.origin.sought stride.outcome ≡ [] = ap (edge_by stride.origin.sought) stops in (
      record {
        listed = allowed_there loads notes stride.origin location.number word numbers words listed;
        cards = λ _. unread;
        marks = subst (AreWithin notes.marks) same within;
      },
      same,
      subst (GoBack notes.calls ways) (sym none) tt,
      sym (ap (open_along notes.calls ways) none),
    )
stop_judged loads notes counts ways stride location word held why moment (Some left) numbers words stops unread other =
    unlisted_leaves loads notes counts ways stride location word left numbers words other.0 other.1
