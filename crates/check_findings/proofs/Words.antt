-- The words that findings say are altered, with what is kept of each, one finding more.
use Rattle.std.proofs.Common.{◌≡◌, ℕ, zero, suc, Bool, true, false, eqb, List, [], ◌∷◌, ◌++◌, map, get_or, set, refl, ap, sym}
use Rattle.std.proofs.Common.{◌∙◌, subst, inl, inr, ◌⊎◌, Option, Some, None, is_some}
use Rattle.std.specs.Prelude.{Contains, cond, flat_map, slice_get, ◌&&◌}
use Rattle.std.specs.List.{list_all, list_any}
use Rattle.std.specs.Option.{option_and, option_map}
use Rattle.std.proofs.lemmas.Bool.{eq-eqb, eqb-true}
use Rattle.std.proofs.lemmas.Grind.{flat_map-append}
use Rattle.std.proofs.lemmas.List.{append-nil, map-append}
use Rattle.std.proofs.lemmas.List.Folds.{list_all-append}
use Rattle.std.proofs.lemmas.Option.{get_or_from_slice_get, slice_get-map}
use Rattle.base_graphs.specs.Graph.{AreDifferent}
use Rattle.base_graphs.proofs.Lists.{contains_cases, contains_from_get, contains_here, contains_none, contains_there}
use Rattle.flow_graph.specs.Executed.{with_new}
use Rattle.flow_graph.proofs.Additions.{with_new_append}
use Rattle.flow_graph.proofs.Orders.{any_contains, contains_any, with_new_different, with_new_has, with_new_only}
use Rattle.check_findings.specs.declared.unchanged_parts.UnchangedParts.{UnchangedParts}
use Rattle.check_findings.specs.Finding.{Finding, not_loaded, not_in_profile, alters, too_large}
use Rattle.check_findings.specs.Finding.{closes, unused_mark}
use Rattle.check_findings.specs.Finding.{unused_list, unused_call, idle, inside}
use Rattle.check_findings.specs.UnchangedParts.{both_keep}
use Rattle.check_findings.proofs.Nothing.{all_nothing, in_flat_map}
use Rattle.check_findings.specs.Lacking.{altered_word, kept_by_all, lacking_list, kept_in, stays, words_altered}

-- two functions that are alike on a list
map_alike : {X Y : Type 0} (f g : X → Y) (xs : List X) → ((x : X) → Contains xs x → f x ≡ g x) → map f xs ≡ map g xs
map_alike f g [] alike = refl
map_alike f g (x ∷ xs) alike =
    ap (λ (y : _). y ∷ map f xs) (alike x (contains_here x xs))
    ∙ ap (λ (ys : List _). g x ∷ ys) (map_alike f g xs (λ other there. alike other (contains_there x other xs there)))

-- a function that differs from another one at one member alone, which stands at a place
set_alike : {Y : Type 0} (f g : ℕ → Y) (xs : List ℕ) (k x : ℕ) → AreDifferent xs → slice_get xs k ≡ Some x
    → ((other : ℕ) → ¬ (other ≡ x) → g other ≡ f other) → set (map f xs) k (g x) ≡ map g xs
set_alike f g [] k x different at alike = cc
set_alike f g (a ∷ xs) zero x different at alike =
    let same : a ≡ x = cc in
    ap (λ (z : ℕ). g z ∷ map f xs) (sym same)
    ∙ sym (ap (λ (ys : List _). g a ∷ ys) (map_alike g f xs
    (λ other there. alike other
    (λ e. different.0 (subst (λ (z : ℕ). Contains xs z) (e ∙ sym same) there)))))
set_alike f g (a ∷ xs) (suc k) x different at alike =
    ap (λ (y : _). y ∷ set (map f xs) k (g x)) (sym (alike a
    (λ e. different.0 (subst (λ (z : ℕ). Contains xs z) (sym e) (contains_from_get xs k x at)))))
    ∙ ap (λ (ys : List _). g a ∷ ys) (set_alike f g xs k x different.1 at alike)

-- the words of findings, each once
abbrev pub places : List Finding → List ℕ
places findings = with_new [] (flat_map altered_word findings)

-- a finding is about one altered word, or about none
abbrev TellsNone : Finding → Type 0
TellsNone finding = (altered_word finding ≡ []) × ((word : ℕ) → kept_in word finding ≡ [])

abbrev Tells : Finding → Type 0
Tells finding = (writer : ℕ) × (word : ℕ) × (kept : UnchangedParts) × (finding ≡ alters writer word kept)

none_or_one : (finding : Finding) → TellsNone finding ⊎ Tells finding
none_or_one (not_loaded place) = inl (refl, λ word. refl)
none_or_one (not_in_profile place op) = inl (refl, λ word. refl)
none_or_one (alters writer word kept) = inr (writer, word, kept, refl)
none_or_one (too_large product) = inl (refl, λ word. refl)
none_or_one (closes edge number) = inl (refl, λ word. refl)
none_or_one (unused_mark edge) = inl (refl, λ word. refl)
none_or_one (unused_list place) = inl (refl, λ word. refl)
none_or_one (unused_call edge) = inl (refl, λ word. refl)
none_or_one (idle first last) = inl (refl, λ word. refl)
none_or_one (inside inner outer) = inl (refl, λ word. refl)

-- what is left of the word that a writer alters, and of another one
leaves_it : (writer word : ℕ) (kept : UnchangedParts) → kept_in word (alters writer word kept) ≡ kept ∷ []
leaves_it writer word kept = ap (λ (b : Bool). cond b (kept ∷ []) []) (eq-eqb word word refl)

leaves_other : (writer word other : ℕ) (kept : UnchangedParts) → ¬ (other ≡ word) → kept_in other (alters writer word kept) ≡ []
leaves_other writer word other kept different = go (eqb word other) refl
  where
    go : (b : Bool) → eqb word other ≡ b → cond (eqb word other) (kept ∷ []) [] ≡ []
    go true e = absurd (different (sym (eqb-true word other e)))
    go false e = ap (λ (b : Bool). cond b (kept ∷ []) []) e

-- a word that no finding is about has no writers
none_left : (word : ℕ) (before : List Finding) → ¬ Contains (flat_map altered_word before) word
    → flat_map (kept_in word) before ≡ []
none_left word before none =
    all_nothing (kept_in word) before (λ finding there. elim (none_or_one finding) [
      | inl nothing ↦ nothing.1 word
      | inr tells ↦ ap (kept_in word) tells.3 ∙ leaves_other tells.0 tells.1 word tells.2
          (λ e. none (in_flat_map altered_word before finding word there
          (subst (λ (f : Finding). Contains (altered_word f) word) (sym tells.3)
          (subst (λ (z : ℕ). Contains (tells.1 ∷ []) z) (sym e) (contains_here tells.1 [])))))
    ])

-- and one that some finding is about has some
abbrev HasWriter : ℕ → List Finding → Type 0
HasWriter word before = (kept : UnchangedParts) × (others : List UnchangedParts) × (flat_map (kept_in word) before ≡ kept ∷ others)

some_left : (word : ℕ) (before : List Finding) → Contains (flat_map altered_word before) word → HasWriter word before
some_left word [] there = absurd (contains_none word there)
some_left word (finding ∷ before) there = elim (none_or_one finding) [
  | inl nothing ↦ (
      let behind = some_left word before
      (subst (λ (xs : List ℕ). Contains (xs ++ flat_map altered_word before) word) nothing.0 there) in (
        behind.0,
        behind.1,
        ap (λ (ks : List UnchangedParts). ks ++ flat_map (kept_in word) before) (nothing.1 word) ∙ behind.2,
      ))
  | inr tells ↦ one tells.0 tells.1 tells.2 tells.3 (eqb tells.1 word) refl (some_left word before)
]
  where
    one : (writer at : ℕ) (kept : UnchangedParts) → finding ≡ alters writer at kept → (b : Bool) → eqb at word ≡ b
        → (Contains (flat_map altered_word before) word → HasWriter word before) → HasWriter word (finding ∷ before)
    one writer at kept is true e more = (
      kept,
      flat_map (kept_in word) before,
      ap (λ (f : Finding). kept_in word f ++ flat_map (kept_in word) before) is
          ∙ ap (λ (b : Bool). cond b (kept ∷ []) [] ++ flat_map (kept_in word) before) e,
    )
    one writer at kept is false e more =
        let behind = more (elim (contains_cases at word (flat_map altered_word before)
        (subst (λ (f : Finding). Contains (altered_word f ++ flat_map altered_word before) word) is there)) [
          | inl same ↦ (let clash : true ≡ false = sym (eq-eqb at word same) ∙ e in cc)
          | inr later ↦ later
        ]) in (
          behind.0,
          behind.1,
          ap (λ (f : Finding). kept_in word f ++ flat_map (kept_in word) before) is
              ∙ ap (λ (b : Bool). cond b (kept ∷ []) [] ++ flat_map (kept_in word) before) e ∙ behind.2,
        )

-- one writer more behind some
stays_more : (part : UnchangedParts → Option ℕ) (kept : UnchangedParts) (others : List UnchangedParts) (more : UnchangedParts)
    → stays part (kept ∷ (others ++ more ∷ [])) ≡ option_and (part more) (stays part (kept ∷ others))
stays_more part kept others more =
    ap (λ (b : Bool). cond b (part kept) None) (list_all-append (λ one. is_some (part one)) others (more ∷ []))
    ∙ go (list_all (λ one. is_some (part one)) others) (part more)
  where
    go : (a : Bool) (o : Option ℕ) → cond (a && (is_some o && true)) (part kept) None ≡ option_and o (cond a (part kept) None)
    go true (Some n) = refl
    go true None = refl
    go false (Some n) = refl
    go false None = refl

all_more : (kept : UnchangedParts) (others : List UnchangedParts) (more : UnchangedParts)
    → kept_by_all (kept ∷ (others ++ more ∷ [])) ≡ both_keep (kept_by_all (kept ∷ others)) more
all_more kept others more =
    with_parts (stays_more (λ k. k.op) kept others more) (stays_more (λ k. k.d) kept others more)
    (stays_more (λ k. k.i) kept others more)
  where
    with_parts : {a b m n p q : Option ℕ} → a ≡ b → m ≡ n → p ≡ q
        → ◌≡◌ {A = UnchangedParts} (record { op = a; d = m; i = p; loaded = kept.loaded })
        (record { op = b; d = n; i = q; loaded = kept.loaded })
    with_parts e f g = rw (e, f, g) refl

-- the words are those places
pub at_places : (before : List Finding) → map (λ (lack : ℕ × UnchangedParts). lack.0) (words_altered before) ≡ places before
at_places before = go (places before)
  where
    go : (xs : List ℕ) → map (λ (lack : ℕ × UnchangedParts). lack.0) (map (lacking_list before) xs) ≡ xs
    go [] = refl
    go (x ∷ xs) = ap (λ (ys : List ℕ). x ∷ ys) (go xs)

-- one that isn't there is added
pub new_added : (xs : List ℕ) (x : ℕ) → ¬ Contains xs x → with_new xs (x ∷ []) ≡ xs ++ x ∷ []
new_added xs x none = go (list_any (λ y. eqb y x) xs) refl
  where
    go : (b : Bool) → list_any (λ y. eqb y x) xs ≡ b → cond (list_any (λ y. eqb y x) xs) xs (xs ++ x ∷ []) ≡ xs ++ x ∷ []
    go true e = absurd (none (any_contains xs x e))
    go false e = ap (λ (b : Bool). cond b xs (xs ++ x ∷ [])) e

-- none of them twice
different : (before : List Finding) → AreDifferent (places before)
different before = with_new_different [] (flat_map altered_word before) tt

module _ (before : List Finding) (finding : Finding) where
  places_more : places (before ++ finding ∷ []) ≡ with_new (places before) (altered_word finding)
  places_more =
      ap (with_new []) (flat_map-append altered_word before (finding ∷ [])
      ∙ ap (λ (xs : List ℕ). flat_map altered_word before ++ xs) (append-nil (altered_word finding)))
      ∙ with_new_append [] (flat_map altered_word before) (altered_word finding)

  leaves_more : (word : ℕ)
      → flat_map (kept_in word) (before ++ finding ∷ []) ≡ flat_map (kept_in word) before ++ kept_in word finding
  leaves_more word =
      flat_map-append (kept_in word) before (finding ∷ [])
      ∙ ap (λ (ks : List UnchangedParts). flat_map (kept_in word) before ++ ks) (append-nil (kept_in word finding))

  -- of a word that the finding isn't about
  same_left : (word : ℕ) → kept_in word finding ≡ []
      → lacking_list (before ++ finding ∷ []) word ≡ lacking_list before word
  same_left word none =
      ap (λ (ks : List UnchangedParts). (word, kept_by_all ks)) (leaves_more word
      ∙ ap (λ (ks : List UnchangedParts). flat_map (kept_in word) before ++ ks) none ∙ append-nil (flat_map (kept_in word) before))

  -- a finding that is about no word
  pub none_more : altered_word finding ≡ [] → ((word : ℕ) → kept_in word finding ≡ [])
      → words_altered before ≡ words_altered (before ++ finding ∷ [])
  none_more no_word none =
      sym (ap (map (lacking_list (before ++ finding ∷ []))) (places_more ∙ ap (with_new (places before)) no_word)
      ∙ map_alike (lacking_list (before ++ finding ∷ [])) (lacking_list before) (places before)
      (λ word there. same_left word (none word)))

module _ (before : List Finding) (writer word : ℕ) (kept : UnchangedParts) (lacks : List (ℕ × UnchangedParts))
    (are : lacks ≡ words_altered before) where
  abbrev after : List Finding
  after = before ++ alters writer word kept ∷ []

  other_same : (other : ℕ) → ¬ (other ≡ word) → lacking_list after other ≡ lacking_list before other
  other_same other different =
      same_left before (alters writer word kept) other (leaves_other writer word other kept different)

  it_left : flat_map (kept_in word) after ≡ flat_map (kept_in word) before ++ kept ∷ []
  it_left =
      leaves_more before (alters writer word kept) word
      ∙ ap (λ (ks : List UnchangedParts). flat_map (kept_in word) before ++ ks) (leaves_it writer word kept)

  -- one more that is about a word which is there
  pub there_more : (k : ℕ) (d : ℕ × UnchangedParts) → slice_get (places before) k ≡ Some word
      → set lacks k (word, both_keep (get_or lacks k d).1 kept) ≡ words_altered after
  there_more k d at =
      let there : Contains (places before) word = contains_from_get (places before) k word at in
      let some = some_left word before (elim (with_new_only [] (flat_map altered_word before) word there) [
        | inl none ↦ absurd (contains_none word none)
        | inr among ↦ among
      ]) in
      let found : slice_get (words_altered before) k ≡ Some (lacking_list before word) =
      slice_get-map (lacking_list before) (places before) k ∙ ap (option_map (lacking_list before)) at in
      let was : get_or lacks k d ≡ lacking_list before word =
      ap (λ (all : List (ℕ × UnchangedParts)). get_or all k d) are
      ∙ get_or_from_slice_get (words_altered before) k (lacking_list before word) d found in
      let met : lacking_list after word ≡ (word, both_keep (get_or lacks k d).1 kept) =
      ap (λ (ks : List UnchangedParts). (word, kept_by_all ks)) (it_left ∙ ap (λ (ks : List UnchangedParts). ks ++ kept ∷ []) some.2)
      ∙ ap (λ (one : UnchangedParts). (word, one)) (all_more some.0 some.1 kept)
      ∙ sym (ap (λ (lack : ℕ × UnchangedParts). (word, both_keep lack.1 kept)) (was
      ∙ ap (λ (ks : List UnchangedParts). (word, kept_by_all ks)) some.2)) in
      let same_places : places after ≡ places before =
      places_more before (alters writer word kept)
      ∙ ap (λ (b : Bool). cond b (places before) (places before ++ word ∷ [])) (contains_any (places before) word there) in
      ap (λ (all : List (ℕ × UnchangedParts)). set all k (word, both_keep (get_or lacks k d).1 kept)) are
      ∙ ap (set (words_altered before) k) (sym met)
      ∙ set_alike (lacking_list before) (lacking_list after) (places before) k word (different before) at other_same
      ∙ sym (ap (map (lacking_list after)) same_places)

  -- one that is about a word which isn't
  pub new_more : ¬ Contains (places before) word → lacks ++ (word, kept) ∷ [] ≡ words_altered after
  new_more none =
      let no_writer : flat_map (kept_in word) before ≡ [] =
      none_left word before (λ there. none (with_new_has [] (flat_map altered_word before) word there)) in
      let alone : lacking_list after word ≡ (word, kept) =
      ap (λ (ks : List UnchangedParts). (word, kept_by_all ks)) (it_left ∙ ap (λ (ks : List UnchangedParts). ks ++ kept ∷ []) no_writer) in
      let same_places : places after ≡ places before ++ word ∷ [] =
      places_more before (alters writer word kept) ∙ new_added (places before) word none in
      ap (λ (all : List (ℕ × UnchangedParts)). all ++ (word, kept) ∷ []) are
      ∙ ap (λ (all : List (ℕ × UnchangedParts)). all ++ (word, kept) ∷ []) (sym (map_alike (lacking_list after) (lacking_list before)
      (places before)
      (λ other there. other_same other (λ e. none (subst (λ (z : ℕ). Contains (places before) z) e there)))))
      ∙ ap (λ (lack : ℕ × UnchangedParts). map (lacking_list after) (places before) ++ lack ∷ []) (sym alone)
      ∙ sym (ap (map (lacking_list after)) same_places
      ∙ map-append (lacking_list after) (places before) (word ∷ []))
