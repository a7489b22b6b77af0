-- A law of steps: under notes that a step keeps to, it ends by one of its instruction's ways, and then.
use Rattle.std.specs.Prelude.{◌≡◌, ℕ, suc, ◌+◌, ◌-◌, ◌^◌, nat_le, ℤ, unsigned_abs, ◌+ℤ◌, ◌≤◌, ◌==◌, Bool, true, false}
use Rattle.std.specs.Prelude.{not, ◌&&◌, ◌||◌, if◌then◌else◌, List, [], ◌∷◌, ◌++◌, map, filter, Option, Some, Contains}
use Rattle.std.proofs.Common.{refl, ap, sym, ◌∙◌, subst, arith}
use Rattle.std.specs.List.{list_any}
use Rattle.std.proofs.lemmas.List.Elements.{Contains-append_right}
use Rattle.base_words.specs.declared.op.Op.{Op}
use Rattle.base_words.specs.declared.op.Op.TheVariants.{NoOperation, Stop, Add, ResetAdd, Divide, DivideReset, Multiply}
use Rattle.base_words.specs.declared.op.Op.TheVariants.{Store, Shift, Branch, LoadDistributor, Read, Punch}
use Rattle.base_words.specs.declared.op.Op.TheVariants.{BranchOnDigit}
use Rattle.base_words.specs.Location.{is_location}
use Rattle.base_words.specs.Op.{op_of, operand_of, is_operand}
use Rattle.machine_rotation.specs.Recurs.{never_earlier}
use Rattle.machine_rotation.specs.Waits.{available_recurs, parity_recurs}
use Rattle.base_words.specs.Word.{number_in}
use Rattle.base_notes.specs.declared.entry.Entry.{Entry}
use Rattle.base_notes.specs.declared.notes.programmed.Programmed as switches
use Rattle.base_notes.specs.declared.notes.programmed.Programmed.TheVariants as switch
use Rattle.base_notes.specs.Allowed.{Notes}
use Rattle.machine_steps.specs.declared.card.Card.{Card}
use Rattle.machine_steps.specs.declared.why.Why.TheVariants as why
use Rattle.machine_steps.specs.Contents.{Contents, word_at}
use Rattle.machine_steps.specs.Effect.{Outcome, goes, stops, effect, reads, keeps, branches_on, takes, digit_at}
use Rattle.machine_steps.specs.Effect.{is_too_large, amount_of, product, holds}
use Rattle.machine_steps.specs.Ending.{ended_by, stops_by, clock_by, declared, own_notes}
use Rattle.machine_steps.specs.Keeps.{IsAsDeclared, IsWithoutLoad, is_load, reads_load, reads_with}
use Rattle.machine_steps.specs.Run.{time_after}
use Rattle.machine_steps.specs.Step.{State, Stepped, on, stopped, step, step_with, step_of, instruction_in, is_read}
use Rattle.machine_steps.specs.Step.{has_cards, lacks_card, stepped_by, clock_of}
use Rattle.machine_steps.specs.Timing.{found, ready, reached, ended, units_of, waits_for_operand}
use Rattle.machine_steps.specs.Ways.{Way, early, to, late, in_order, ways_of_stop, ways_of, ways_with, ways}

here : {X : Type 0} (x : X) (xs : List X) → Contains (x ∷ xs) x
here x xs = (0, omega arith, refl)

there : {X : Type 0} (x y : X) (xs : List X) → Contains xs y → Contains (x ∷ xs) y
there x y xs h = (suc h.0, omega (arith, h.1), h.2)

-- where an instruction goes on: to a location, or it stops at e
abbrev pub onward : ℕ → Way
onward next = if is_location next then to next else late

-- each of the next locations is among the ways
going_first : (next : ℕ) (nexts : List ℕ) (stops_late : Bool)
    → Contains (in_order false (next ∷ nexts) stops_late) (onward next)
going_first next nexts stops_late = go (is_location next)
  where
    rest : List Way
    rest = map to (filter is_location nexts)

    any : Bool
    any = list_any (λ n. not (is_location n)) nexts

    go : (b : Bool) → Contains
        (map to (if b then next ∷ filter is_location nexts else filter is_location nexts)
        ++ (if stops_late || (not b || any) then late ∷ [] else [])) (if b then to next else late)
    go true = here (to next) _
    go false = Contains-append_right rest _ late (last stops_late)
      where
        last : (b : Bool) → Contains (if b || true then late ∷ [] else []) late
        last true = here late []
        last false = here late []

stop_last : (nexts : List ℕ) → Contains (in_order false nexts true) late
stop_last nexts = Contains-append_right (map to (filter is_location nexts)) (late ∷ []) late (here late [])

going_second : (next other : ℕ) → Contains (in_order false (next ∷ other ∷ []) false) (onward other)
going_second next other = go (is_location next) (is_location other)
  where
    go : (first second : Bool) → Contains
        (map to (if first then next ∷ (if second then other ∷ [] else []) else (if second then other ∷ [] else []))
        ++ (if false || (not first || (not second || false)) then late ∷ [] else []))
        (if second then to other else late)
    go true true = there (to next) (to other) (to other ∷ []) (here (to other) [])
    go true false = there (to next) late (late ∷ []) (here late [])
    go false true = here (to other) (late ∷ [])
    go false false = here late []

going_later : (next other : ℕ) → Contains (in_order false (next ∷ other ∷ []) true) (onward other)
going_later next other = go (is_location next) (is_location other)
  where
    go : (first second : Bool) → Contains
        (map to (if first then next ∷ (if second then other ∷ [] else []) else (if second then other ∷ [] else []))
        ++ late ∷ []) (if second then to other else late)
    go true true = there (to next) (to other) (to other ∷ late ∷ []) (here (to other) (late ∷ []))
    go true false = there (to next) late (late ∷ []) (here late [])
    go false true = here (to other) (late ∷ [])
    go false false = here late []

-- an outcome ends by one of these ways
abbrev pub EndsIn : List Way → Outcome → Type 0
EndsIn among (goes after next) = Contains among (onward next)
EndsIn among (stops held because) = (stops_by because ≡ late) × Contains among late

ends_if : (among : List Way) (b : Bool) (x y : Outcome) → EndsIn among x → EndsIn among y
    → EndsIn among (if b then x else y)
ends_if among true x y p q = p
ends_if among false x y p q = q

keeps_ends : (c : Contents) (z : ℤ) (i : ℕ) → EndsIn (in_order false (i ∷ []) true) (keeps c z i)
keeps_ends c z i =
    ends_if (in_order false (i ∷ []) true) (nat_le (10 ^ 20) (unsigned_abs z)) _ _
    (ends_if (in_order false (i ∷ []) true) c.overflow_stops _ _ (refl, stop_last (i ∷ [])) (going_first i [] true))
    (going_first i [] true)

stop_ends : (c : Contents) (i : ℕ) (programmed : switches.Programmed) (stopping : Bool)
    → IsAsDeclared programmed stopping
    → EndsIn (ways_of_stop programmed i) (if stopping then stops c why.Programmed else goes c i)
stop_ends c i switch.Stop true as_declared = (refl, stop_last [])
stop_ends c i switch.Stop false as_declared = cc
stop_ends c i switch.Run true as_declared = cc
stop_ends c i switch.Run false as_declared = going_first i [] false
stop_ends c i switch.Any true as_declared = (refl, stop_last (i ∷ []))
stop_ends c i switch.Any false as_declared = going_first i [] true

branch_ends : (d i : ℕ) (b : Bool) → Contains (in_order false (d ∷ i ∷ []) false) (onward (if b then d else i))
branch_ends d i true = going_first d (i ∷ []) false
branch_ends d i false = going_second d i

read_ends : (c : Contents) (d i : ℕ) (load_cards : Bool) (cards : List Card) → has_cards cards ≡ true
    → (load_cards ≡ false → is_load cards ≡ false)
    → EndsIn (in_order true ((if load_cards then d ∷ [] else []) ++ i ∷ []) false) (reads c cards d i)
read_ends c d i load_cards [] some without = cc
read_ends c d i true (card ∷ cards) some without =
    there early (onward (if card.load then d else i)) _ (branch_ends d i card.load)
read_ends c d i false (card ∷ cards) some without =
    subst (λ (load : Bool). Contains (in_order true (i ∷ []) false) (onward (if load then d else i)))
    (sym (without refl)) (there early (onward i) _ (going_first i [] false))

digit_ends : (c : Contents) (digit d i : ℕ) → EndsIn (in_order false (d ∷ i ∷ []) true) (branches_on c digit d i)
digit_ends c digit d i =
    ends_if (in_order false (d ∷ i ∷ []) true) (digit == 8) _ _ (going_first d (i ∷ []) true)
    (ends_if (in_order false (d ∷ i ∷ []) true) (digit == 9) _ _ (going_later d i) (refl, stop_last (d ∷ i ∷ [])))

divides_ends : (large : Bool) (held after : Contents) (i : ℕ)
    → EndsIn (in_order false (i ∷ []) true) (if large then stops held why.Quotient else goes after i)
divides_ends true held after i = (refl, stop_last (i ∷ []))
divides_ends false held after i = going_first i [] true

-- 70 that has a card
supplied : (has : Bool) → not has ≡ false → has ≡ true
supplied true e = refl
supplied false e = cc

effect_ends : (notes : Notes) (c : Contents) (op : Op) (d i : ℕ) → IsAsDeclared notes.programmed c.programmed_stops
    → lacks_card op c ≡ false
    → (is_read op ≡ true → notes.load_cards ≡ false → is_load c.cards ≡ false)
    → EndsIn (ways_of notes op d i) (effect c op d i)
effect_ends notes c NoOperation d i as_declared card without = going_first i [] false
effect_ends notes c Stop d i as_declared card without = stop_ends c i notes.programmed c.programmed_stops as_declared
effect_ends notes c (Add a) d i as_declared card without =
    keeps_ends (takes c (word_at c d)) (c.accumulator +ℤ amount_of a (number_in (word_at c d))) i
effect_ends notes c (ResetAdd a) d i as_declared card without = going_first i [] false
effect_ends notes c Divide d i as_declared card without =
    divides_ends (is_too_large c.accumulator (number_in (word_at c d))) _ _ i
effect_ends notes c DivideReset d i as_declared card without =
    divides_ends (is_too_large c.accumulator (number_in (word_at c d))) _ _ i
effect_ends notes c Multiply d i as_declared card without =
    keeps_ends (takes c (word_at c d)) (product c.accumulator (number_in (word_at c d))) i
effect_ends notes c (Store s) d i as_declared card without = going_first i [] false
effect_ends notes c (Shift s) d i as_declared card without = going_first i [] false
effect_ends notes c (Branch b) d i as_declared card without = branch_ends d i (holds b c)
effect_ends notes c LoadDistributor d i as_declared card without = going_first i [] false
effect_ends notes c Read d i as_declared card without =
    read_ends c d i notes.load_cards c.cards (supplied (has_cards c.cards) card) (without refl)
effect_ends notes c Punch d i as_declared card without = going_first i [] false
effect_ends notes c (BranchOnDigit p) d i as_declared card without = digit_ends c (digit_at p c.distributor) d i

-- a step that goes on keeps the angle at time 0
abbrev pub KeepsStart : ℕ → Stepped → Type 0
KeepsStart start (on next) = next.first_angle ≡ start
KeepsStart start (stopped held because moment) = Unit {0}

-- How a step ends: by one of these ways, at x if Early and else at e.
pub record Ends (among : List Way) (start x e : ℕ) (outcome : Stepped) : Type 0 where
  pub by : Contains among (ended_by outcome)
  pub at : start + time_after outcome ≡ clock_by (ended_by outcome) x e
  pub from : KeepsStart start outcome

left_ends : (among : List Way) (s : State) (x e : ℕ) (outcome : Outcome) → s.first_angle ≤ e → EndsIn among outcome
    → Ends among s.first_angle x e (stepped_by s e outcome)
left_ends among s x e (stops held because) later p = record {
  by = subst (Contains among) (sym p.0) p.1;
  at =
      let same : clock_by (stops_by because) x e ≡ e =
      ap (λ (w : Way). clock_by w x e) p.0 in omega (arith, same, later);
  from = tt;
}
left_ends among s x e (goes after next) later p = go (is_location next) p
  where
    go : (b : Bool) → Contains among (if b then to next else late)
        → Ends among s.first_angle x e
        (if b then on (record { contents = after; sought = next; time = e - s.first_angle; first_angle = s.first_angle })
        else stopped after why.Next (e - s.first_angle))
    go true q = record { by = q; at = omega (arith, later); from = refl }
    go false q = record { by = q; at = omega (arith, later); from = tt }

-- no moment is before the angle's clock
found_later : (place clock : ℕ) → clock ≤ found place clock
found_later place clock = never_earlier (available_recurs place) clock

reached_later : (op : Op) (d x : ℕ) → x ≤ reached op d x
reached_later op d x = go (waits_for_operand op)
  where
    go : (b : Bool) → x ≤ (if b then found d x else x)
    go true = found_later d x
    go false = omega arith

ended_later : (entry : Entry) (op : Op) (d place units wait clock : ℕ) → clock ≤ ended entry op d place units wait clock
ended_later entry op d place units wait clock =
    let x = ready entry place clock in
    omega (
      arith,
      found_later place clock,
      reached_later op d x,
      never_earlier (parity_recurs entry.parity)
          (reached op d x),
    )

-- where 70 reads, no load card is read by notes that have none
without_load : (notes : Notes) (s : State) (op : Op) → op_of (instruction_in s).op ≡ Some op
    → is_operand (operand_of op) (instruction_in s).d ≡ true → IsWithoutLoad notes s
    → is_read op ≡ true → notes.load_cards ≡ false → is_load s.contents.cards ≡ false
without_load notes s op is wanted without read none =
    let fetched : reads_load s
    ≡ ((is_read op && is_operand (operand_of op) (instruction_in s).d) && is_load s.contents.cards) =
    ap (λ (o : Option Op). reads_with s o && is_load s.contents.cards) is in
    let reads : ((is_read op && is_operand (operand_of op) (instruction_in s).d) && is_load s.contents.cards)
    ≡ is_load s.contents.cards = rw (read, wanted) refl in
    sym reads ∙ sym fetched ∙ without none

op_ends : (times : Op → Entry) (s : State) (wait : ℕ) (op : Op) (notes : Notes) → op_of (instruction_in s).op ≡ Some op
    → IsAsDeclared notes.programmed s.contents.programmed_stops → IsWithoutLoad notes s
    → Ends (ways_with notes (Some op) (instruction_in s).d (instruction_in s).i) s.first_angle
    (ready (times op) s.sought (clock_of s))
    (ended (times op) op (instruction_in s).d s.sought (units_of op (instruction_in s).d s.contents) wait (clock_of s))
    (step_of times s wait op)
op_ends times s wait op notes is as_declared without =
    go (is_operand (operand_of op) (instruction_in s).d) (lacks_card op s.contents)
    (λ wanted card. effect_ends notes s.contents op (instruction_in s).d (instruction_in s).i as_declared card
    (without_load notes s op is wanted without)) (lacking op)
  where
    x : ℕ
    x = ready (times op) s.sought (clock_of s)

    e : ℕ
    e =
        ended (times op) op (instruction_in s).d s.sought (units_of op (instruction_in s).d s.contents) wait
        (clock_of s)

    before_x : s.first_angle ≤ ready (times op) s.sought (clock_of s)
    before_x = omega (arith, found_later s.sought (clock_of s))

    before_e : s.first_angle ≤ ended (times op) op (instruction_in s).d s.sought (units_of op (instruction_in s).d s.contents)
        wait (clock_of s)
    before_e =
        omega (
          arith,
          ended_later (times op) op (instruction_in s).d s.sought
              (units_of op (instruction_in s).d s.contents) wait (clock_of s),
        )

    among : List Way
    among = ways_of notes op (instruction_in s).d (instruction_in s).i

    outcome : Outcome
    outcome = effect s.contents op (instruction_in s).d (instruction_in s).i

    lacking : (op : Op) → lacks_card op s.contents ≡ true
        → Contains (ways_of notes op (instruction_in s).d (instruction_in s).i) early
    lacking Read h = here early _
    lacking NoOperation h = cc
    lacking Stop h = cc
    lacking (Add a) h = cc
    lacking (ResetAdd a) h = cc
    lacking Divide h = cc
    lacking DivideReset h = cc
    lacking Multiply h = cc
    lacking (Store a) h = cc
    lacking (Shift a) h = cc
    lacking (Branch b) h = cc
    lacking LoadDistributor h = cc
    lacking Punch h = cc
    lacking (BranchOnDigit p) h = cc

    go : (wanted lacks : Bool) → (wanted ≡ true → lacks ≡ false → EndsIn among outcome)
        → (lacks ≡ true → Contains among early)
        → Ends (if wanted then among else early ∷ []) s.first_angle x e
        (if not wanted then stopped s.contents why.Operand (x - s.first_angle)
        else (if lacks then stopped s.contents why.Card (x - s.first_angle) else stepped_by s e outcome))
    go false lacks acts stops_early = record { by = here early []; at = omega (arith, before_x); from = tt }
    go true true acts stops_early = record { by = stops_early refl; at = omega (arith, before_x); from = tt }
    go true false acts stops_early = left_ends among s x e outcome before_e (acts refl refl)

-- Under notes that it keeps to, a step of an operation in the profile ends by one of its instruction's ways: at x if
-- by Early, and else at e.
pub step_ends : (times : Op → Entry) (s : State) (wait : ℕ) (op : Op) (notes : Notes)
    → op_of (instruction_in s).op ≡ Some op
    → IsAsDeclared notes.programmed s.contents.programmed_stops → IsWithoutLoad notes s
    → Ends (ways notes (instruction_in s)) s.first_angle (ready (times op) s.sought (clock_of s))
    (ended (times op) op (instruction_in s).d s.sought (units_of op (instruction_in s).d s.contents) wait (clock_of s))
    (step times s wait)
step_ends times s wait op notes is as_declared without =
    subst (λ (o : Option Op). Ends (ways_with notes o (instruction_in s).d (instruction_in s).i) s.first_angle
    (ready (times op) s.sought (clock_of s))
    (ended (times op) op (instruction_in s).d s.sought (units_of op (instruction_in s).d s.contents) wait (clock_of s))
    (step_with times s wait o))
    (sym is) (op_ends times s wait op notes is as_declared without)

-- a step keeps to its own notes
own_declared : (stopping : Bool) → IsAsDeclared (declared stopping) stopping
own_declared true = refl
own_declared false = refl

own_without : (s : State) → IsWithoutLoad (own_notes s) s
own_without s none = rw none (last (reads_with s (op_of (instruction_in s).op)))
  where
    last : (b : Bool) → (b && false) ≡ false
    last true = refl
    last false = refl

pub ends_by_its_own : (times : Op → Entry) (s : State) (wait : ℕ) (op : Op) → op_of (instruction_in s).op ≡ Some op
    → Contains (ways (own_notes s) (instruction_in s)) (ended_by (step times s wait))
ends_by_its_own times s wait op is =
    (step_ends times s wait op (own_notes s) is (own_declared s.contents.programmed_stops) (own_without s)).by

-- and so it ends at x or at e
pub ends_then : (times : Op → Entry) (s : State) (wait : ℕ) (op : Op) → op_of (instruction_in s).op ≡ Some op
    → s.first_angle + time_after (step times s wait)
    ≡ clock_by (ended_by (step times s wait)) (ready (times op) s.sought (clock_of s))
    (ended (times op) op (instruction_in s).d s.sought (units_of op (instruction_in s).d s.contents) wait (clock_of s))
ends_then times s wait op is =
    (step_ends times s wait op (own_notes s) is (own_declared s.contents.programmed_stops) (own_without s)).at
