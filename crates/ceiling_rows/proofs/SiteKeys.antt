-- Sites as keys of a set: the test of two is that they are one.
use Rattle.std.proofs.Common.{◌≡◌, ℕ, Bool, true, false, eqb, List, ◌∷◌, ◌++◌, get_or, Option, Some, None, []}
use Rattle.std.proofs.Common.{refl, ap, sym, ◌∙◌, subst, inl, inr, ◌⊎◌}
use Rattle.std.specs.Prelude.{position, slice_get, Contains, Decides, if◌then◌else◌, IfSome}
use Rattle.std.specs.List.{list_any, AllByRecursion, IsDistinct}
use Rattle.std.proofs.lemmas.Bool.Decides.{Decides-eqb, Decides-and, Decides-like}
use Rattle.std.proofs.lemmas.List.Elements.{Contains-append_left, Contains-push, Contains-push_cases}
use Rattle.std.proofs.lemmas.List.Quantifiers.{position-Some}
use Rattle.std.proofs.lemmas.Map.Keys.{IsDistinct-head, IsDistinct-tail}
use Rattle.std.proofs.lemmas.Option.{slice_get-get_or}
use Rattle.base_graphs.specs.Graph.{AreDifferent}
use Rattle.base_graphs.proofs.Lists.{contains_cases, contains_here, contains_none, contains_there}
use Rattle.ceiling_rows.specs.contracts.sites.SitePartialEq as site_keys
use Rattle.ceiling_rows.specs.declared.sites.Site.{Site}

pub site_same : (a b : Site) → a.node ≡ b.node → a.angle ≡ b.angle → a ≡ b
site_same a b node angle =
    ap (λ (n : ℕ). let made : Site = record { node = n; angle = a.angle } in made) node
    ∙ ap (λ (n : ℕ). let made : Site = record { node = b.node; angle = n } in made) angle

pub site_law : (a b : Site) → Decides (site_keys.TheImpl.ghosts.eq a b) (a ≡ b)
site_law a b =
    Decides-like (site_keys.TheImpl.ghosts.eq a b) (λ both. site_same a b both.0 both.1)
    (λ same. (ap (λ (s : Site). s.node) same, ap (λ (s : Site). s.angle) same))
    (Decides-and (eqb a.node b.node) (eqb a.angle b.angle) (Decides-eqb a.node b.node) (Decides-eqb a.angle b.angle))

-- a key is there, or it isn't
any_there : (k : Site) (sites : List Site) → list_any (site_keys.TheImpl.ghosts.eq k) sites ≡ true → Contains sites k
any_there k [] is = cc
any_there k (x ∷ sites) is = go (site_keys.TheImpl.ghosts.eq k x) refl (any_there k sites)
  where
    go : (b : Bool) → site_keys.TheImpl.ghosts.eq k x ≡ b
        → (list_any (site_keys.TheImpl.ghosts.eq k) sites ≡ true → Contains sites k) → Contains (x ∷ sites) k
    go true e others = subst (λ (s : Site). Contains (x ∷ sites) s) (sym ((site_law k x).0 e)) (contains_here x sites)
    go false e others = contains_there x k sites (others (rw e at is))

-- the number of a site that is there
pub key_found : (sites : List Site) (k : Site) (number : ℕ) → position (site_keys.TheImpl.ghosts.eq k) sites ≡ Some number
    → slice_get sites number ≡ Some k
key_found sites k number e =
    let found = position-Some (site_keys.TheImpl.ghosts.eq k) sites number k e in
    slice_get-get_or sites number k found.0 ∙ ap Some (sym ((site_law k (get_or sites number k)).0 found.1))

-- none of them is there twice
pub keys_different : (sites : List Site) → IsDistinct site_keys.TheImpl.ghosts.eq sites → AreDifferent sites
keys_different [] d = tt
keys_different (k ∷ sites) d = (
  none_same k sites (IsDistinct-head site_keys.TheImpl.ghosts.eq k sites d),
  keys_different sites (IsDistinct-tail site_keys.TheImpl.ghosts.eq k sites d),
)
  where
    none_same : (k : Site) (sites : List Site) → AllByRecursion (λ y. site_keys.TheImpl.ghosts.eq k y ≡ false) sites
        → ¬ Contains sites k
    none_same k [] apart there = contains_none k there
    none_same k (x ∷ sites) apart there = elim (contains_cases x k sites there) [
      | inl same ↦ (let clash : ◌≡◌ {A = Bool} true false = sym ((site_law k x).1 (sym same)) ∙ apart.0 in cc)
      | inr behind ↦ none_same k sites apart.1 behind
    ]

module _ (sites : List Site) (k : Site) where
  abbrev with_key : List Site
  with_key = if list_any (site_keys.TheImpl.ghosts.eq k) sites then sites else sites ++ k ∷ []

  pub key_kept : (site : Site) → Contains sites site → Contains with_key site
  key_kept site there = go (list_any (site_keys.TheImpl.ghosts.eq k) sites)
    where
      go : (b : Bool) → Contains (if b then sites else sites ++ k ∷ []) site
      go true = there
      go false = Contains-append_left sites (k ∷ []) site there

  pub key_added : Contains with_key k
  key_added = go (list_any (site_keys.TheImpl.ghosts.eq k) sites) refl
    where
      go : (b : Bool) → list_any (site_keys.TheImpl.ghosts.eq k) sites ≡ b → Contains (if b then sites else sites ++ k ∷ []) k
      go true e = any_there k sites e
      go false e = Contains-push sites k

  pub key_only : (site : Site) → Contains with_key site → Contains sites site ⊎ (k ≡ site)
  key_only site there = go (list_any (site_keys.TheImpl.ghosts.eq k) sites) there
    where
      go : (b : Bool) → Contains (if b then sites else sites ++ k ∷ []) site → Contains sites site ⊎ (k ≡ site)
      go true has = inl has
      go false has = Contains-push_cases sites k site has

pub if_some : (found : Option ℕ) (P : ℕ → Type 0) → ((k : ℕ) → found ≡ Some k → P k) → IfSome found P
if_some None P all = tt
if_some (Some k) P all = all k refl
