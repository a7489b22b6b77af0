-- Lines, put together of their pieces.
use Rattle.std.proofs.Common.{◌≡◌, ℕ, ◌+◌, ◌-◌, List, [], ◌∷◌, ◌++◌, flat_map, map, refl, ap, sym, ◌∙◌, append_assoc, Option}
use Rattle.std.proofs.Common.{Some, None}
use Rattle.std.proofs.lemmas.List.{append-nil}
use Rattle.std.specs.Prelude.{Contains, codes, decimal}
use Rattle.base_words.specs.declared.op.Op.{Op}
use Rattle.base_words.specs.declared.word.Word.{Word}
use Rattle.base_words.specs.Numeral.{digits_of}
use Rattle.base_words.specs.Word.{spelling}
use Rattle.base_notes.specs.declared.entry.Entry.{Entry}
use Rattle.machine_steps.specs.Ending.{ended_by}
use Rattle.machine_steps.specs.Run.{Stride, time_after}
use Rattle.machine_steps.specs.Contents.{Contents}
use Rattle.machine_steps.specs.Step.{contents_after, fetched, instruction_in}
use Rattle.flow_graph.specs.RunHops.{hop_of}
use Rattle.base_graphs.proofs.Lists.{contains_here, contains_there}
use Rattle.flow_walks.specs.Visited.{Visited, visited}
use Rattle.print_hops.specs.declared.moments.Moments.{Moments}
use Rattle.print_hops.specs.Moments.{later, moments_of}
use Rattle.print_hops.specs.MomentsText.{moment_text, moments_text}
use Rattle.print_hops.specs.Pieces.{angles_text, fetch_text, held_text, named_text, sums_text, times_text, told_text}
use Rattle.print_hops.specs.declared.sums.Sums.{Sums}
use Rattle.print_hops.specs.Waits.{data_at, next_at}
use Rattle.print_hops.specs.WaitsText.{kind_line}
use Rattle.print_hops.specs.ContentsText.{registers_text}
use Rattle.print_hops.specs.TraceText.{stride_acted, stride_line}
use Rattle.print_hops.specs.WalkText.{hop_text, visit_line}

-- a moment with its name
pub named_moment : (name : List ℕ) (moment : Option ℕ) → named_text decimal name moment ≡ moment_text name moment
named_moment name None = refl
named_moment name (Some moment) = refl

-- texts one behind the other, grouped otherwise
hop_grouped : (hop moments behind ended last : List ℕ)
    → hop ++ (moments ++ behind ++ ended ++ last) ≡ hop ++ moments ++ behind ++ ended ++ last
hop_grouped hop moments behind ended last = simp append_assoc

-- the moments of an instruction
pub times_told : (moments : Moments) (ended : ℕ) (last : List ℕ)
    → told_text decimal moments.found moments.ready moments.operand ended last ≡ times_text moments ended last
times_told moments ended last =
    ap (λ (xs : List ℕ). codes " found " ++ decimal moments.found ++ xs
    ++ named_text decimal (codes " data ") moments.operand ++ codes " ended " ++ decimal ended ++ last)
    (named_moment (codes " ready ") moments.ready)
    ∙ ap (λ (xs : List ℕ). codes " found " ++ decimal moments.found ++ moment_text (codes " ready ") moments.ready
    ++ xs ++ codes " ended " ++ decimal ended ++ last)
    (named_moment (codes " data ") moments.operand)

-- and so much later
pub later_told : (moments : Moments) (by ended found : ℕ) (ready operand : Option ℕ) (last : List ℕ)
    → found ≡ moments.found + by → ready ≡ (later by moments).ready → operand ≡ (later by moments).operand
    → told_text decimal found ready operand ended last ≡ times_text (later by moments) ended last
later_told moments by ended found ready operand last p q r =
    rw (p, q, r) (times_told (later by moments) ended last)

-- the rest of a line behind what a step has fetched
line_grouped : (begin gap first second third name fourth moments behind ended registers acted last : List ℕ)
    → ((begin ++ first ++ gap ++ second ++ gap ++ third ++ name ++ fourth) ++ (moments ++ behind ++ ended ++ []))
    ++ (registers ++ acted ++ last)
    ≡ begin ++ first ++ gap ++ second ++ gap ++ third ++ name ++ fourth ++ moments ++ behind ++ ended ++ registers ++ acted
    ++ last
line_grouped begin gap first second third name fourth moments behind ended registers acted last =
    simp (append_assoc, append-nil)

-- the line of a hop
pub visit_told : (times : Op → Entry) (angle : ℕ) (visit : Visited) (moments : Moments)
    → moments ≡ moments_of times angle visit.place visit.ins visit.way visit.begun
    → (hop_text visit ++ codes " begun " ++ decimal visit.begun) ++ times_text moments visit.ended (codes "\n")
    ≡ visit_line times angle visit
visit_told times angle visit moments told =
    ap (λ (some : Moments). (hop_text visit ++ codes " begun " ++ decimal visit.begun)
    ++ times_text some visit.ended (codes "\n")) told
    ∙ hop_grouped (hop_text visit ++ codes " begun " ++ decimal visit.begun) (moments_text (moments_of times angle visit.place visit.ins visit.way visit.begun))
    (codes " ended ") (decimal visit.ended) (codes "\n")

-- the line of a stride
pub stride_told : (times : Op → Entry) (number angle : ℕ) (stride : Stride) (visit : Visited) (word : Word)
    (moments : Moments) (held : Contents)
    → visit ≡ visited (hop_of stride) → word ≡ fetched stride.origin → stride.origin.first_angle ≡ angle
    → moments ≡ moments_of times angle visit.place visit.ins visit.way visit.begun
    → held ≡ contents_after stride.outcome
    → (fetch_text number visit.place word visit.begun ++ times_text moments visit.ended []) ++ held_text visit held
    ≡ stride_line times number stride
stride_told times number angle stride visit word moments held same is start told after =
    let s = stride.origin in
    let at_start : moments ≡ moments_of times s.first_angle s.sought (instruction_in s) (ended_by stride.outcome) s.time =
    told ∙ ap (λ (v : Visited). moments_of times angle v.place v.ins v.way v.begun) same
    ∙ ap (λ (a : ℕ). moments_of times a s.sought (instruction_in s) (ended_by stride.outcome) s.time) (sym start) in
    let hop : Visited = visited (hop_of stride) in
    ap (λ (v : Visited). (fetch_text number v.place word v.begun ++ times_text moments v.ended []) ++ held_text v held)
    same
    ∙ ap (λ (w : Word). (fetch_text number s.sought w s.time ++ times_text moments hop.ended []) ++ held_text hop held) is
    ∙ ap (λ (some : Moments). (fetch_text number s.sought (fetched s) s.time ++ times_text some hop.ended [])
    ++ held_text hop held) at_start
    ∙ ap (λ (c : Contents). (fetch_text number s.sought (fetched s) s.time
    ++ times_text (moments_of times s.first_angle s.sought (instruction_in s) (ended_by stride.outcome) s.time) hop.ended [])
    ++ held_text hop c) after
    ∙ line_grouped (codes "step ") (codes " ") (decimal number) (digits_of 4 s.sought) (spelling (fetched s))
    (codes " begun ") (decimal s.time)
    (moments_text (moments_of times s.first_angle s.sought (instruction_in s) (ended_by stride.outcome) s.time))
    (codes " ended ") (decimal (time_after stride.outcome)) (registers_text (contents_after stride.outcome))
    (stride_acted stride) (codes "\n")

-- the line of a kind, which tells a hop
kind_grouped : (hop visits' visits time' time instruction' instruction had' had work' work operand next last : List ℕ)
    → hop ++ visits' ++ visits
    ++ (time' ++ time ++ instruction' ++ instruction ++ had' ++ had ++ work' ++ work)
    ++ (operand ++ next ++ last)
    ≡ hop ++ visits' ++ visits ++ time' ++ time ++ instruction' ++ instruction ++ had' ++ had ++ work'
    ++ work ++ operand ++ next ++ last
kind_grouped hop visits' visits time' time instruction' instruction had' had work' work operand next last =
    simp append_assoc

pub kind_pieces : (times : Op → Entry) (angle : ℕ) (hop : Visited) (sums : Sums)
    → (hop_text hop ++ codes " visits " ++ decimal sums.visits) ++ sums_text sums
    ++ angles_text (data_at times angle hop) (next_at angle hop)
    ≡ kind_line times angle hop sums.visits sums.time sums.instruction sums.operand
kind_pieces times angle hop sums =
    kind_grouped (hop_text hop) (codes " visits ") (decimal sums.visits) (codes " time ") (decimal sums.time)
    (codes " instruction ") (decimal sums.instruction) (codes " data ") (decimal sums.operand)
    (codes " work ") (decimal (sums.time - sums.instruction - sums.operand))
    (moment_text (codes " data-at ") (data_at times angle hop))
    (moment_text (codes " next-at ") (next_at angle hop)) (codes "\n")

-- texts of things that are seen otherwise
pub flat_map_map : {X Y : Type 0} (f : Y → List ℕ) (g : X → Y) (xs : List X)
    → flat_map (λ x. f (g x)) xs ≡ flat_map f (map g xs)
flat_map_map f g [] = refl
flat_map_map f g (x ∷ xs) = ap (λ (rest : List ℕ). f (g x) ++ rest) (flat_map_map f g xs)

-- texts that are the same one by one
pub same_texts : {X : Type 0} (f g : X → List ℕ) (xs : List X) → ((x : X) → Contains xs x → f x ≡ g x)
    → flat_map f xs ≡ flat_map g xs
same_texts f g [] same = refl
same_texts f g (x ∷ xs) same =
    ap (λ (text : List ℕ). text ++ flat_map f xs) (same x (contains_here x xs))
    ∙ ap (λ (text : List ℕ). g x ++ text)
    (same_texts f g xs (λ y has. same y (contains_there x y xs has)))
