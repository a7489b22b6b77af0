-- The faults of a line of inputs behind others, with their places.
use Rattle.std.proofs.Common.{◌≡◌, ℕ, zero, suc, ◌+◌, ◌<◌, List, ◌∷◌, length, map, slice_get, refl, ap, sym, arith, []}
use Rattle.std.proofs.Common.{Option, Some, None, ◌∙◌, subst}
use Rattle.std.proofs.lemmas.Option.{slice_get-map}
use Rattle.std.specs.List.{AllWithin, HoldsAt}
use Rattle.std.specs.Option.{option_map}
use Rattle.std.specs.Prelude.{Any, slice_index_or, MatchOption, IfSome, IfNone}
use Rattle.read_replays.specs.declared.line.Line as read
use Rattle.read_replays.specs.Said.{said}
use Rattle.read_replays.specs.declared.fault.InputFault.TheVariants as faults
use Rattle.read_replays.specs.InputsText.{Line, IsLine, IsPastDrum, Repeats}
use Rattle.read_replays.proofs.Repeated.{repeats_one}
use Rattle.read_faults.specs.InputFaults.{IsFirstRepeated, IsPlaced}

-- what stands at a place of a list is one of it
found_any : {A : Type 0} (P : A → Type 0) (xs : List A) (k : ℕ) (x : A) → slice_get xs k ≡ Some x → P x → Any P xs
found_any P [] k x e p = cc
found_any P (y ∷ ys) zero x e p =
    let same : y ≡ x = cc (e) in
    (0, x, omega arith, same, p)
found_any P (y ∷ ys) (suc k) x e p =
    let rest = found_any P ys k x e p in
    (suc rest.0, rest.1, omega (arith, rest.2), rest.3, rest.4)

-- a line that says again what an earlier one says, and the first of these
pub repeated : (lines : List Line) (bytes : List ℕ) (number : ℕ) (line : Line) (index : ℕ) → number ≡ length lines + 1
    → IsLine bytes line → ¬ IsPastDrum line → IsFirstRepeated lines line index
    → IsPlaced lines bytes
    (record { fault = faults.Repeated number; line = Some number; earlier = Some (index + 1); slip = None })
repeated lines bytes number line index counted is_line on_drum first =
    let again : Repeats lines line =
    (repeats_one lines line).1
    (found_any (λ earlier. Repeats (earlier ∷ []) line) lines index first.earlier first.is first.repeated) in
    record {
      is = (counted, (line, is_line, on_drum, again));
      line = ap Some counted;
      earlier = (line, is_line, (index, first, refl));
      slip = refl;
    }

-- what stands at a place is its element
at_of : {A : Type 0} (xs : List A) (k : ℕ) (x d : A) → slice_get xs k ≡ Some x
    → (k < length xs) × (slice_index_or xs k d ≡ x)
at_of [] k x d e = cc
at_of (y ∷ ys) zero x d e = let same : y ≡ x = cc (e) in (omega arith, same)
at_of (y ∷ ys) (suc k) x d e = let rest = at_of ys k x d e in (omega (arith, rest.0), rest.1)

-- what is said at a place is said by what stands there
said_at : (lines : List read.Line) (k : ℕ) (other : Line) → slice_get (map said lines) k ≡ Some other
    → (x : read.Line) × (slice_get lines k ≡ Some x) × (said x ≡ other)
said_at [] k other e = cc
said_at (x ∷ lines) zero other e = let same : said x ≡ other = cc (e) in (x, refl, same)
said_at (x ∷ lines) (suc k) other e = said_at lines k other e

-- one of the lines stands somewhere
stands_at : (P : Line → Type 0) (lines : List read.Line) → Any P (map said lines)
    → (k : ℕ) × (x : read.Line) × (slice_get lines k ≡ Some x) × P (said x)
stands_at P [] (k, one, within, here, p) = absurd (omega arith)
stands_at P (x ∷ lines) (zero, one, within, here, p) = (0, x, refl, subst P (sym here) p)
stands_at P (x ∷ lines) (suc k, one, within, here, p) =
    let rest = stands_at P lines (k, one, omega arith, here, p) in
    (suc rest.0, rest.1, rest.2, rest.3)

-- something stands within a list
element : (lines : List read.Line) (k : ℕ) → k < length lines → (x : read.Line) × (slice_get lines k ≡ Some x)
element [] k less = absurd (omega arith)
element (x ∷ lines) zero less = (x, refl)
element (x ∷ lines) (suc k) less = element lines k (omega arith)

-- the line says again what an earlier one says, or it doesn't
abbrev pub Again : Line → read.Line → Type 0
Again line earlier = Repeats (said earlier ∷ []) line

abbrev pub Anew : Line → read.Line → Type 0
Anew line earlier = ¬ Repeats (said earlier ∷ []) line

-- where the first stands that the line says again, if one does
abbrev pub IsSearched : List read.Line → Line → Option ℕ → Type 0
IsSearched before line r =
    MatchOption r (AllWithin (Anew line) before 0 (length before))
    (λ i. (i < length before) × HoldsAt (Again line) before i × AllWithin (Anew line) before 0 i)

pub first_found : (before : List read.Line) (line : Line) (r : Option ℕ) → IsSearched before line r
    → IfSome r (IsFirstRepeated (map said before) line)
first_found before line None found = tt
first_found before line (Some i) (within, here, none) =
    let at = element before i within in
    record {
      earlier = said at.0;
      is = slice_get-map said before i ∙ ap (option_map said) at.1;
      repeated = subst (Again line) (at_of before i at.0 at.0 at.1).1 (here at.0);
      first = λ k other less is.
          let one = said_at before k other is in
          let anew : Anew line one.0 =
          subst (Anew line) (at_of before k one.0 one.0 one.1).1 (none k one.0 (omega arith) less) in
          subst (λ (l : Line). ¬ Repeats (l ∷ []) line) one.2 anew;
    }

pub none_found : (before : List read.Line) (line : Line) (r : Option ℕ) → IsSearched before line r
    → IfNone r (¬ Repeats (map said before) line)
none_found before line None found = λ again.
    let one = stands_at (λ earlier. Repeats (earlier ∷ []) line) before ((repeats_one (map said before) line).0 again) in
    let at = at_of before one.0 one.1 one.1 one.2 in
    subst (Anew line) at.1 (found one.0 one.1 (omega arith) at.0) one.3
none_found before line (Some i) found = tt
