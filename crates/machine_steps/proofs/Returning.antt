-- Where exits go back to, over steps in a row and over strides.
use Rattle.std.specs.Prelude.{slice_get, take}
use Rattle.std.proofs.Common.{◌≡◌, ℕ, zero, suc, List, [], ◌∷◌, ◌++◌, Option, Some, refl, subst, sym, ap, ◌∙◌, append_assoc}
use Rattle.std.proofs.lemmas.List.{append-nil}
use Rattle.std.proofs.lemmas.Option.{same_Some, none-some}
use Rattle.base_notes.specs.declared.notes.call.Call.{Call}
use Rattle.machine_steps.specs.Calls.{open_after, open_along, GoBack}
use Rattle.machine_steps.specs.Run.{Stride}
use Rattle.machine_steps.specs.Since.{Edge, edge_by, edges_of}

abbrev Ways : Type 0
Ways = List (Option ℕ)

pub along_joined : (calls : List Call) (ways : Ways) (xs ys : List Edge)
    → open_along calls ways (xs ++ ys) ≡ open_along calls (open_along calls ways xs) ys
along_joined calls ways [] ys = refl
along_joined calls ways (x ∷ xs) ys = along_joined calls (open_after calls x ways) xs ys

pub back_split : (calls : List Call) (ways : Ways) (xs ys : List Edge) → GoBack calls ways (xs ++ ys)
    → GoBack calls ways xs × GoBack calls (open_along calls ways xs) ys
back_split calls ways [] ys back = (tt, back)
back_split calls ways (x ∷ xs) ys back =
    let rest = back_split calls (open_after calls x ways) xs ys back.1 in ((back.0, rest.0), rest.1)

pub back_joined : (calls : List Call) (ways : Ways) (xs ys : List Edge) → GoBack calls ways xs
    → GoBack calls (open_along calls ways xs) ys → GoBack calls ways (xs ++ ys)
back_joined calls ways [] ys first second = second
back_joined calls ways (x ∷ xs) ys first second =
    (first.0, back_joined calls (open_after calls x ways) xs ys first.1 second)

-- without calls nothing is asked
pub back_without : (ways : Ways) (edges : List Edge) → GoBack [] ways edges
back_without ways [] = tt
back_without ways (edge ∷ edges) = (tt, back_without (open_after [] edge ways) edges)

pub none_to_keep : (calls : List Call) (ways : Ways) (edges : List Edge) → calls ≡ [] → GoBack calls ways edges
none_to_keep [] ways edges none = back_without ways edges
none_to_keep (call ∷ calls) ways edges none = absurd (cc)

-- the edges of strides, the first and the others
abbrev of_stride : Stride → List Edge
of_stride stride = edge_by stride.origin.sought stride.outcome

pub back_prefix : (calls : List Call) (ways : Ways) (strides : List Stride) (n : ℕ)
    → GoBack calls ways (edges_of strides) → GoBack calls ways (edges_of (take n strides))
back_prefix calls ways strides zero back = tt
back_prefix calls ways [] (suc n) back = tt
back_prefix calls ways (stride ∷ strides) (suc n) back =
    let both = back_split calls ways (of_stride stride) (edges_of strides) back in
    back_joined calls ways (of_stride stride) (edges_of (take n strides)) both.0
    (back_prefix calls (open_along calls ways (of_stride stride)) strides n both.1)

pub each_back : (calls : List Call) (ways : Ways) (strides : List Stride) → GoBack calls ways (edges_of strides)
    → (n : ℕ) (stride : Stride) → slice_get strides n ≡ Some stride
    → GoBack calls (open_along calls ways (edges_of (take n strides))) (of_stride stride)
each_back calls ways [] back n stride e = absurd (none-some stride e)
each_back calls ways (stride ∷ strides) back zero other e =
    subst (λ (one : Stride). GoBack calls ways (of_stride one)) (same_Some stride other e)
    (back_split calls ways (of_stride stride) (edges_of strides) back).0
each_back calls ways (stride ∷ strides) back (suc n) other e =
    subst (λ (open_ways : Ways). GoBack calls open_ways (of_stride other))
    (sym (along_joined calls ways (of_stride stride) (edges_of (take n strides))))
    (each_back calls (open_along calls ways (of_stride stride)) strides
    (back_split calls ways (of_stride stride) (edges_of strides) back).1 n other e)

pub all_back : (calls : List Call) (ways : Ways) (strides : List Stride)
    → ((n : ℕ) (stride : Stride) → slice_get strides n ≡ Some stride
    → GoBack calls (open_along calls ways (edges_of (take n strides))) (of_stride stride))
    → GoBack calls ways (edges_of strides)
all_back calls ways [] each = tt
all_back calls ways (stride ∷ strides) each =
    back_joined calls ways (of_stride stride) (edges_of strides) (each 0 stride refl)
    (all_back calls (open_along calls ways (of_stride stride)) strides
    (λ n other e. subst (λ (open_ways : Ways). GoBack calls open_ways (of_stride other))
    (along_joined calls ways (of_stride stride) (edges_of (take n strides))) (each (suc n) other e)))

-- the edges of strides and of one more
pub edges_more : (strides : List Stride) (stride : Stride)
    → edges_of (strides ++ stride ∷ []) ≡ edges_of strides ++ edge_by stride.origin.sought stride.outcome
edges_more [] stride = append-nil (edge_by stride.origin.sought stride.outcome)
edges_more (first ∷ strides) stride =
    let one = edge_by first.origin.sought first.outcome in
    ap (λ (edges : List Edge). one ++ edges) (edges_more strides stride)
    ∙ sym (append_assoc one (edges_of strides) (edge_by stride.origin.sought stride.outcome))
