-- Flags that are set for the members of a list.
use Rattle.std.proofs.Common.{◌≡◌, ℕ, ◌<◌, Bool, true, false, List, [], length, set, replicate, Some}
use Rattle.std.proofs.Common.{ap, sym, ◌∙◌, subst, inl, inr, ◌⊎◌}
use Rattle.std.specs.Prelude.{slice_get, Contains}
use Rattle.std.proofs.lemmas.Bool.{cases_eq}
use Rattle.base_graphs.proofs.Lists.{contains_none, get_written, get_other, get_replicated}
use Rattle.flow_loops.specs.Flags.{AreFlags}

-- a flag that is set stays so
pub flag_kept : (flags : List Bool) (member other : ℕ) → member < length flags → slice_get flags other ≡ Some true
    → slice_get (set flags member true) other ≡ Some true
flag_kept flags member other inside e = elim (cases_eq other member) [
  | inl same ↦ ap (slice_get (set flags member true)) same ∙ get_written flags member true inside
  | inr ne ↦ get_other flags member other true ne ∙ e
]

-- the flags of a list with one more member
pub flags_more : (flags : List Bool) (members more : List ℕ) (member : ℕ) → member < length flags
    → AreFlags flags members → Contains more member → ((z : ℕ) → Contains members z → Contains more z)
    → ((z : ℕ) → Contains more z → (member ≡ z) ⊎ Contains members z) → AreFlags (set flags member true) more
flags_more flags members more member inside f it keeps cases = record {
  only = λ other e. elim (cases_eq other member) [
    | inl same ↦ subst (λ (z : ℕ). Contains more z) (sym same) it
    | inr ne ↦ keeps other (f.only other (sym (get_other flags member other true ne) ∙ e))
  ];
  all = λ other there. elim (cases other there) [
    | inl same ↦ ap (slice_get (set flags member true)) (sym same) ∙ get_written flags member true inside
    | inr was ↦ flag_kept flags member other inside (f.all other was)
  ];
}

-- no flag, no member
pub none_flagged : (size : ℕ) → AreFlags (replicate size false) []
none_flagged size = record {
  only = λ member e. absurd (never member e);
  all = λ member there. absurd (contains_none member there);
}
  where
    never : (member : ℕ) → slice_get (replicate size false) member ≡ Some true → ⊥
    never member e =
        let clash : false ≡ true = get_replicated size member false true e in
        cc
