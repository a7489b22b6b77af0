-- What a step is, over its parts.
use Rattle.std.proofs.Common.{◌≡◌, ℕ, ◌+◌, ◌*◌, ◌≤◌, Bool, true, false, not, ◌&&◌, List, [], ◌∷◌, Option, Some, None}
use Rattle.std.proofs.Common.{refl, subst, ap, sym, ◌∙◌, arith}
use Rattle.std.specs.Prelude.{if◌then◌else◌, slice_get}
use Rattle.std.proofs.Math.Nat.{mul-le-mul}
use Rattle.base_words.specs.declared.op.Op.{Op}
use Rattle.base_words.specs.declared.op.Op.TheVariants.{NoOperation, Stop, Add, ResetAdd, Divide, DivideReset, Multiply}
use Rattle.base_words.specs.declared.op.Op.TheVariants.{Store, Shift, Branch, LoadDistributor, Read, Punch}
use Rattle.base_words.specs.declared.op.Op.TheVariants.{BranchOnDigit}
use Rattle.base_words.specs.Op.{operand_of, is_operand}
use Rattle.base_words.specs.declared.location.Location.{Location}
use Rattle.base_words.specs.declared.word.Word.{Word}
use Rattle.base_notes.specs.declared.entry.Entry.{Entry}
use Rattle.machine_rotation.specs.Available.{has_parity}
use Rattle.machine_rotation.specs.Moment.{first}
use Rattle.machine_steps.specs.declared.card.Card.{Card}
use Rattle.machine_steps.specs.Contents.{Contents}
use Rattle.machine_steps.specs.Effect.{Outcome, effect}
use Rattle.machine_steps.specs.Keeps as keeps
use Rattle.machine_steps.specs.Step.{State, Stepped, step, step_with, step_of, stepped_by, instruction_in, lacks_card}
use Rattle.machine_steps.specs.Step.{clock_of}
use Rattle.machine_steps.specs.Timing.{units_of, ended, reached, IsWait}
use Rattle.machine_emulator.specs.Fed.{is_load, op_in}
use Rattle.machine_emulator.specs.declared.machine.Machine.{Machine}
use Rattle.machine_emulator.specs.declared.step.Step as answers
use Rattle.machine_emulator.specs.Machine.{Tells, Becomes}

-- a step that goes past x ends as the effect leaves it
pub acts : (times : Op → Entry) (s : State) (op : Op) (wait : ℕ)
    → is_operand (operand_of op) (instruction_in s).d ≡ true → lacks_card op s.contents ≡ false
    → step_of times s wait op
    ≡ stepped_by s (ended (times op) op (instruction_in s).d s.sought (units_of op (instruction_in s).d s.contents) wait
    (clock_of s)) (effect s.contents op (instruction_in s).d (instruction_in s).i)
acts times s op wait operand card = rw (operand, card) refl

pub step_past_x : (times : Op → Entry) (s : State) (op : Op) (wait end : ℕ) (outcome : Outcome) → op_in s ≡ Some op
    → is_operand (operand_of op) (instruction_in s).d ≡ true → lacks_card op s.contents ≡ false
    → end ≡ ended (times op) op (instruction_in s).d s.sought (units_of op (instruction_in s).d s.contents) wait
    (clock_of s)
    → effect s.contents op (instruction_in s).d (instruction_in s).i ≡ outcome
    → step times s wait ≡ stepped_by s end outcome
step_past_x times s op wait end outcome fetched operand card ends has_effect =
    ap (step_with times s wait) fetched ∙ acts times s op wait operand card
    ∙ ap (λ (e : ℕ). stepped_by s e (effect s.contents op (instruction_in s).d (instruction_in s).i)) (sym ends)
    ∙ ap (stepped_by s end) has_effect

-- where 70 has a card, no card is lacking
pub not_lacking : (reads some has : Bool) → some ≡ (reads && has) → some ≡ reads → (reads && not has) ≡ false
not_lacking true some true taken supplied = refl
not_lacking true some false taken supplied = sym supplied ∙ taken
not_lacking false some has taken supplied = refl

-- a load card is read where 70 reads, with a D that it wants, and the next card is one
pub load_read : (reads operand : Bool) (cards : List Card) → operand ≡ true
    → is_load (if reads then slice_get cards 0 else None) ≡ ((reads && operand) && keeps.is_load cards)
load_read true operand [] wanted = rw wanted refl
load_read true operand (card ∷ cards) wanted = rw wanted refl
load_read false operand cards wanted = refl

-- the end of a step that is at x at a moment
abbrev pub end_from : Op → Entry → ℕ → ℕ → ℕ → ℕ → ℕ
end_from op entry d x units wait =
    first (has_parity entry.parity) (reached op d x) + entry.after + entry.per * units + wait

pub same_end : (op : Op) (entry e : Entry) (d k x y units u wait w end : ℕ) → end ≡ end_from op entry d x units wait
    → entry ≡ e → d ≡ k → x ≡ y → units ≡ u → wait ≡ w → end ≡ end_from op e k y u w
same_end op entry e d k x y units u wait w end is entries ds xs all waits =
    is ∙ ap (λ (v : Entry). end_from op v d x units wait) entries ∙ ap (λ (v : ℕ). end_from op e v x units wait) ds
    ∙ ap (λ (v : ℕ). end_from op e k v units wait) xs
    ∙ ap (λ (v : ℕ). end_from op e k y v wait) all ∙ ap (end_from op e k y u) waits

-- equal contents and addresses have equal effects
pub same_effect : (op : Op) (c held : Contents) (d k i j : ℕ) → c ≡ held → d ≡ k → i ≡ j
    → effect held op k j ≡ effect c op d i
same_effect op c held d k i j contents ds is =
    sym (ap (λ (v : Contents). effect v op d i) contents ∙ ap (λ (v : ℕ). effect held op v i) ds
    ∙ ap (effect held op k) is)

-- what is said of a step is said of the same step
pub same_told : (t stepped : Stepped) (origin : Location) (w word : Word) (l load : Bool)
    (p punched : Option (List Word)) (answer : answers.Step)
    → stepped ≡ t → w ≡ word → l ≡ load → p ≡ punched → Tells t origin w l p answer
    → Tells stepped origin word load punched answer
same_told t stepped origin w word l load p punched answer steps words loads punches told =
    subst (λ (v : Stepped). Tells v origin word load punched answer) (sym steps)
    (subst (λ (v : Word). Tells t origin v load punched answer) words
    (subst (λ (v : Bool). Tells t origin w v punched answer) loads
    (subst (λ (v : Option (List Word)). Tells t origin w l v answer) punches told)))

pub same_left : (t stepped : Stepped) (origin : Location) (w word : Word) (m : Machine) (cards : List Card)
    → stepped ≡ t → w ≡ word → Becomes t origin w m cards → Becomes stepped origin word m cards
same_left t stepped origin w word m cards steps words left =
    subst (λ (v : Stepped). Becomes v origin word m cards) (sym steps)
    (subst (λ (v : Word). Becomes t origin v m cards) words left)

-- past x a card and a wait are taken
pub taken_past_x : {A : Type 0} (operand lacks : Bool) (taken kept : A) → operand ≡ true → lacks ≡ false
    → taken ≡ (if operand && not lacks then taken else kept)
taken_past_x operand lacks taken kept wanted has = rw (wanted, has) refl

-- the work of an operation is 90,000,000 word times at most
times_ninety : (per units : ℕ) → per ≤ 1000000 → units ≤ 90 → per * units + 0 ≤ 90000000
times_ninety per units short few = omega (arith, mul-le-mul short few)

pub short_work : (op : Op) (entry : Entry) (d wait : ℕ) (c : Contents) → units_of op d c ≤ 90 → IsWait op entry wait
    → entry.per * units_of op d c + wait ≤ 90000000
short_work NoOperation entry d wait c few none = omega (arith, times_ninety entry.per 0 entry.short_per (omega arith))
short_work Stop entry d wait c few none = omega (arith, times_ninety entry.per 0 entry.short_per (omega arith))
short_work (Add a) entry d wait c few none = omega (arith, times_ninety entry.per 0 entry.short_per (omega arith))
short_work (ResetAdd a) entry d wait c few none = omega (arith, times_ninety entry.per 0 entry.short_per (omega arith))
short_work Divide entry d wait c few none =
    omega (arith, times_ninety entry.per (units_of Divide d c) entry.short_per few)
short_work DivideReset entry d wait c few none =
    omega (arith, times_ninety entry.per (units_of DivideReset d c) entry.short_per few)
short_work Multiply entry d wait c few none =
    omega (arith, times_ninety entry.per (units_of Multiply d c) entry.short_per few)
short_work (Store a) entry d wait c few none = omega (arith, times_ninety entry.per 0 entry.short_per (omega arith))
short_work (Shift a) entry d wait c few none =
    omega (arith, times_ninety entry.per (units_of (Shift a) d c) entry.short_per few)
short_work (Branch a) entry d wait c few none = omega (arith, times_ninety entry.per 0 entry.short_per (omega arith))
short_work LoadDistributor entry d wait c few none =
    omega (arith, times_ninety entry.per 0 entry.short_per (omega arith))
short_work Read entry d wait c few some = omega (arith, some.1, entry.short_wait)
short_work Punch entry d wait c few some = omega (arith, some.1, entry.short_wait)
short_work (BranchOnDigit p) entry d wait c few none =
    omega (arith, times_ninety entry.per 0 entry.short_per (omega arith))
