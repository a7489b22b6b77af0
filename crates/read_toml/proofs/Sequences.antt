-- Faults of checks that are made one after the other.
use Rattle.std.proofs.Common.{◌≡◌, ℕ, Bool, true, false, ◌||◌, cond, List, [], ◌∷◌, ◌++◌, refl, ap, sym}
use Rattle.std.proofs.Common.{◌∙◌, subst}
use Rattle.std.proofs.lemmas.List.{append-nil}
use Rattle.std.proofs.lemmas.Map.Text.{is_eq-slice_cmp}
use Rattle.std.proofs.lemmas.Slice.Eq.{bytes_eq-Decides}
use Rattle.read_toml.specs.Document.{Fault, unknown, is_one_of, missing_in, unknown_in}
use Rattle.toml.specs.Data.{Members, no_members, member, same_key}

pub no_faults : (xs ys : List Fault) → xs ≡ [] → ys ≡ [] → xs ++ ys ≡ []
no_faults xs ys none none_too = ap (λ (zs : List Fault). zs ++ ys) none ∙ none_too

pub none_before : (xs ys : List Fault) → xs ++ ys ≡ [] → xs ≡ []
none_before [] ys none = refl
none_before (x ∷ xs) ys none = cc

pub none_behind : (xs ys : List Fault) → xs ++ ys ≡ [] → ys ≡ []
none_behind [] ys none = none
none_behind (x ∷ xs) ys none = cc

-- a key of some, none of which is missing, isn't missing
pub not_missing : (at : List ℕ) (keys : List (List ℕ)) (fields : Members) (key : List ℕ)
    → missing_in at keys fields ≡ [] → is_one_of key keys ≡ true → missing_in at (key ∷ []) fields ≡ []
not_missing at [] fields key none among = cc
not_missing at (one ∷ keys) fields key none among =
    go (same_key one key) refl among
    (λ h. not_missing at keys fields key (none_behind _ (missing_in at keys fields) none) h)
  where
    go : (same : Bool) → same_key one key ≡ same → (same || is_one_of key keys) ≡ true
        → (is_one_of key keys ≡ true → missing_in at (key ∷ []) fields ≡ []) → missing_in at (key ∷ []) fields ≡ []
    go true test h further =
        let is : one ≡ key = (bytes_eq-Decides one key).0 (sym (is_eq-slice_cmp one key) ∙ test) in
        subst (λ (k : List ℕ). missing_in at (k ∷ []) fields ≡ []) is
        (append-nil _ ∙ none_before _ (missing_in at keys fields) none)
    go false test h further = further h

-- where no key is unknown, none is at another path
pub known_anywhere : (at at' : List ℕ) (keys : List (List ℕ)) (fields : Members) → unknown_in at keys fields ≡ []
    → unknown_in at' keys fields ≡ []
known_anywhere at at' keys no_members known = refl
known_anywhere at at' keys (member key value fields) known =
    go (is_one_of key keys) known (λ rest. known_anywhere at at' keys fields rest)
  where
    go : (among : Bool) → cond among [] (unknown (at ++ key) ∷ []) ++ unknown_in at keys fields ≡ []
        → (unknown_in at keys fields ≡ [] → unknown_in at' keys fields ≡ [])
        → cond among [] (unknown (at' ++ key) ∷ []) ++ unknown_in at' keys fields ≡ []
    go true h further = further h
    go false h further = cc
