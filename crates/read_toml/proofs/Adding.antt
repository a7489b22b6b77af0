-- Faults that are added one behind the other.
use Rattle.std.proofs.Common.{◌≡◌, List, ◌∷◌, ◌++◌, length, refl, ap, sym, ◌∙◌, subst, []}
use Rattle.std.proofs.lemmas.List.{append-nil, append_assoc}
use Rattle.base_notes.specs.declared.fault.NoteFault.{NoteFault}
use Rattle.read_toml.specs.AllFaults.{TellEach, Adds}
use Rattle.read_toml.specs.Document.{Fault}

tell_append : (xs : List NoteFault) (es : List Fault) (ys : List NoteFault) (bs : List Fault) → TellEach xs es
    → TellEach ys bs → TellEach (xs ++ ys) (es ++ bs)
tell_append [] [] ys bs first more = more
tell_append [] (a ∷ es) ys bs first more = absurd first
tell_append (x ∷ xs) [] ys bs first more = absurd first
tell_append (x ∷ xs) (a ∷ es) ys bs first more = (first.0, tell_append xs es ys bs first.1 more)

-- none are added
pub adds_none : (old : List NoteFault) → Adds old old []
adds_none old = record { told = []; is = sym (append-nil old); tell = tt }

-- and more behind them
pub adds_more : (old between new : List NoteFault) (faults others : List Fault) → Adds old between faults
    → Adds between new others → Adds old new (faults ++ others)
adds_more old between new faults others first more = record {
  told = first.told ++ more.told;
  is =
      more.is ∙ ap (λ (told : List NoteFault). told ++ more.told) first.is
      ∙ append_assoc old first.told more.told;
  tell = tell_append first.told faults more.told others first.tell more.tell;
}

-- they are added where they are others' equals
pub adds_same : (old new : List NoteFault) (faults others : List Fault) → faults ≡ others → Adds old new faults
    → Adds old new others
adds_same old new faults others same adds = subst (Adds old new) same adds

-- Of some faults the first have been added, and these are left.
pub record Left (old now : List NoteFault) (left whole : List Fault) : Type 0 where
  pub done : List Fault
  pub adds : Adds old now done
  pub split : whole ≡ done ++ left

pub begun : (old : List NoteFault) (whole : List Fault) → Left old old whole whole
begun old whole = record { done = []; adds = adds_none old; split = refl }

pub one_step : (old now next : List NoteFault) (left faults others whole : List Fault) → Left old now left whole
    → left ≡ faults ++ others → Adds now next faults → Left old next others whole
one_step old now next left faults others whole so_far steps adds = record {
  done = so_far.done ++ faults;
  adds = adds_more old now next so_far.done faults so_far.adds adds;
  split =
      so_far.split ∙ ap (λ (xs : List Fault). so_far.done ++ xs) steps
      ∙ sym (append_assoc so_far.done faults others);
}

pub begun_at : (old : List NoteFault) (left whole : List Fault) → left ≡ whole → Left old old left whole
begun_at old left whole same = record { done = []; adds = adds_none old; split = sym same }

pub none_of : (faults : List Fault) → TellEach [] faults → faults ≡ []
none_of [] each = refl
none_of (one ∷ faults) each = absurd each

-- where faults are all that there is, the first of them is the first, and where there is none there are none
told_all : (old new told : List NoteFault) → old ≡ [] → new ≡ old ++ told → told ≡ new
told_all old new told empty is = sym (is ∙ ap (λ (xs : List NoteFault). xs ++ told) empty)

pub none_added : (old new : List NoteFault) (faults : List Fault) → old ≡ [] → new ≡ [] → Adds old new faults
    → faults ≡ []
none_added old new faults empty is adds =
    none_of faults
    (subst (λ (told : List NoteFault). TellEach told faults) (told_all old new adds.told empty adds.is ∙ is) adds.tell)

pub some_more : (old new : List NoteFault) (faults : List Fault) → (length new ≡ length old → ⊥) → Adds old new faults
    → faults ≡ [] → ⊥
some_more old new faults other adds none = go adds.told adds.is
    (subst (λ (all : List Fault). TellEach adds.told all) none adds.tell)
  where
    go : (told : List NoteFault) → new ≡ old ++ told → TellEach told [] → ⊥
    go [] is each = other (ap (λ (xs : List NoteFault). length xs) (is ∙ append-nil old))
    go (one ∷ told) is each = absurd each
