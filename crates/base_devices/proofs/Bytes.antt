-- Bytes that go out in several writes.
use Rattle.std.proofs.Common.{◌≡◌, ℕ, ◌+◌, ◌-◌, ◌≤◌, ◌<◌, List, [], ◌∷◌, ◌++◌, length, get_or, take, drop, flat_map}
use Rattle.std.proofs.Common.{sym, ◌∙◌, ap, arith, append_assoc, Option, Some, None}
use Rattle.std.proofs.Math.Seq.{take-append_seam, drop-append_seam}
use Rattle.std.proofs.lemmas.Grind.{flat_map-append}
use Rattle.std.proofs.lemmas.List.{append-nil, take-take, take-append-drop, take_more, drop-take}
use Rattle.std.specs.Io.KnownBytes.{Appends}

-- a prefix is a shorter prefix and what follows it
pub take-add : (n m : ℕ) (xs : List ℕ) → take (n + m) xs ≡ take n xs ++ take m (drop n xs)
take-add n m xs =
    let shorter : n ≤ n + m = omega arith in
    sym (take-append-drop n (take (n + m) xs))
    ∙ ap (λ prefix. prefix ++ drop n (take (n + m) xs)) (take-take n (n + m) xs shorter)
    ∙ ap (λ rest. take n xs ++ rest) (drop-take n m xs)

-- a write of what follows the bytes so far
pub Appends-more : (old between new : Option (List ℕ)) (n m : ℕ) (xs : List ℕ) → n + m ≤ length xs
    → Appends old between (take n xs) → Appends between new (take m (take (length xs - n) (drop n xs)))
    → Appends old new (take (n + m) xs)
Appends-more None between new n m xs within p q = tt
Appends-more (Some a) None new n m xs within p q = absurd p
Appends-more (Some a) (Some b) None n m xs within p q = absurd q
Appends-more (Some a) (Some b) (Some c) n m xs within p q =
    let fits : m ≤ length xs - n = omega arith in
    q ∙ ap (λ prefix. prefix ++ take m (take (length xs - n) (drop n xs))) p
    ∙ append_assoc a (take n xs) (take m (take (length xs - n) (drop n xs)))
    ∙ ap (λ rest. a ++ (take n xs ++ rest)) (take-take m (length xs - n) (drop n xs) fits)
    ∙ ap (λ all. a ++ all) (sym (take-add n m xs))

-- bytes, and then others
pub Appends-then : (old between new : Option (List ℕ)) (xs ys : List ℕ) → Appends old between xs
    → Appends between new ys → Appends old new (xs ++ ys)
Appends-then None between new xs ys p q = tt
Appends-then (Some a) None new xs ys p q = absurd p
Appends-then (Some a) (Some b) None xs ys p q = absurd q
Appends-then (Some a) (Some b) (Some c) xs ys p q = q ∙ ap (λ prefix. prefix ++ ys) p ∙ append_assoc a xs ys

-- some bytes, and a prefix of those behind them
pub take_behind : (n : ℕ) (xs ys : List ℕ) → take (length xs + n) (xs ++ ys) ≡ xs ++ take n ys
take_behind n xs ys =
    take-add (length xs) n (xs ++ ys)
    ∙ ap (λ prefix. prefix ++ take n (drop (length xs) (xs ++ ys))) (take-append_seam xs ys)
    ∙ ap (λ rest. xs ++ take n rest) (drop-append_seam xs ys)

-- one piece more
pub pieces_more : {X : Type 0} (f : X → List ℕ) (xs : List X) (i : ℕ) (d : X) → i < length xs
    → flat_map f (take (i + 1) xs) ≡ flat_map f (take i xs) ++ f (get_or xs i d)
pieces_more f xs i d within =
    ap (flat_map f) (take_more xs i d within) ∙ flat_map-append f (take i xs) (get_or xs i d ∷ [])
    ∙ ap (λ rest. flat_map f (take i xs) ++ rest) (append-nil (f (get_or xs i d)))
