-- Values that agree in what they hold are one.
use Rattle.std.proofs.Common.{◌≡◌, ℕ, ◌^◌, ◌<◌, Bool, ap, ◌∙◌, subst}
use denote.Struct.Props.{props}
use Rattle.base_words.specs.declared.instruction.Instruction.{Instruction}
use Rattle.base_words.specs.declared.location.Location.{Location}
use Rattle.base_words.specs.declared.word.Word.{Word}
use Rattle.base_words.specs.Location.{IsLocation}

-- words of one sign and one number are one
pub same_word : (v w : Word) → v.minus ≡ w.minus → v.digits ≡ w.digits → v ≡ w
same_word v w minus digits =
    let one_proof : IsProp (v.digits < 10 ^ 10) = hlevel props in
    let made : (m : Bool) (d : ℕ) → d < 10 ^ 10 → Word = λ m d t. record { minus = m; digits = d; ten = t } in
    let Same : ℕ → Type 0 = λ d. (t : d < 10 ^ 10) → v ≡ made v.minus d t in
    let here : Same v.digits = λ t. ap (made v.minus v.digits) (one_proof v.ten t) in
    subst Same digits here w.ten ∙ ap (λ m. made m w.digits w.ten) minus

-- locations of one number are one
pub same_location : (a b : Location) → a.number ≡ b.number → a ≡ b
same_location a b number =
    let one_proof : IsProp (IsLocation a.number) = hlevel props in
    let made : (n : ℕ) → IsLocation n → Location = λ n exists. record { number = n; exists = exists } in
    let Same : ℕ → Type 0 = λ n. (exists : IsLocation n) → a ≡ made n exists in
    let here : Same a.number = λ exists. ap (made a.number) (one_proof a.exists exists) in
    subst Same number here b.exists

-- instructions of one operation, D and I are one
pub same_instruction : (a b : Instruction) → a.op ≡ b.op → a.d ≡ b.d → a.i ≡ b.i → a ≡ b
same_instruction a b op d i =
    let two : IsProp (a.op < 100) = hlevel props in
    let four : IsProp (a.d < 10 ^ 4) = hlevel props in
    let next_four : IsProp (a.i < 10 ^ 4) = hlevel props in
    let made : (op d i : ℕ) → op < 100 → d < 10 ^ 4 → i < 10 ^ 4 → Instruction =
    λ op d i two four next_four. record { op = op; d = d; i = i; two = two; four = four; next_four = next_four } in
    let Same : ℕ → ℕ → ℕ → Type 0 =
    λ op d i. (t : op < 100) (f : d < 10 ^ 4) (n : i < 10 ^ 4) → a ≡ made op d i t f n in
    let here : Same a.op a.d a.i =
    λ t f n. ap (λ (t : a.op < 100). made a.op a.d a.i t a.four a.next_four) (two a.two t)
    ∙ ap (λ (f : a.d < 10 ^ 4). made a.op a.d a.i t f a.next_four) (four a.four f)
    ∙ ap (made a.op a.d a.i t f) (next_four a.next_four n) in
    subst (λ (i : ℕ). Same b.op b.d i) i
    (subst (λ (d : ℕ). Same b.op d a.i) d (subst (λ (op : ℕ). Same op a.d a.i) op here)) b.two b.four b.next_four
