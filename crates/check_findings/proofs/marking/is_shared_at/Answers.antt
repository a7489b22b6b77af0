-- Of is_shared_at: where no edge shares a mark, none shares that of this location.
use Rattle.std.proofs.Common.{◌≡◌, ℕ, Bool, true, false, ◌||◌, List, [], ◌∷◌, map, refl, ap, sym, ◌∙◌}
use Rattle.std.specs.Prelude.{is_some, ◌==◌, ◌&&◌, if◌then◌else◌, Some, None}
use Rattle.std.specs.List.{list_any}
use Rattle.check_findings.specs.Finding.{Finding, not_loaded, not_in_profile, alters, too_large, closes, unused_mark}
use Rattle.check_findings.specs.Finding.{unused_list, unused_call, idle, inside}
use Rattle.check_findings.specs.FindingOf.{seen}
use Rattle.check_findings.specs.Shared.{asks_to_share, shared_onto}
use Rattle.check_findings.proofs.marking.is_shared_at.Goals as goal

one_alike : (head : ℕ) (finding : Finding) → asks_to_share finding ≡ false → is_some (shared_onto head finding) ≡ false
one_alike head (closes edge told) none = ap (λ (b : Bool). is_some (if b && edge.1 == head then Some edge else None)) none
one_alike head (not_loaded place) none = refl
one_alike head (not_in_profile place op) none = refl
one_alike head (alters writer word kept) none = refl
one_alike head (too_large product) none = refl
one_alike head (unused_mark edge) none = refl
one_alike head (unused_list place) none = refl
one_alike head (unused_call edge) none = refl
one_alike head (idle first last) none = refl
one_alike head (inside inner outer) none = refl

none_left : (a b : Bool) → (a || b) ≡ false → a ≡ false
none_left true b e = cc
none_left false b e = refl

none_right : (a b : Bool) → (a || b) ≡ false → b ≡ false
none_right true b e = cc
none_right false b e = e

none_alike : (head : ℕ) (findings : List Finding) → list_any asks_to_share findings ≡ false
    → list_any (λ (finding : Finding). is_some (shared_onto head finding)) findings ≡ false
none_alike head [] none = refl
none_alike head (finding ∷ findings) none =
    ap (λ (b : Bool). b || list_any (λ (one : Finding). is_some (shared_onto head one)) findings)
    (one_alike head finding (none_left (asks_to_share finding) (list_any asks_to_share findings) none))
    ∙ none_alike head findings (none_right (asks_to_share finding) (list_any asks_to_share findings) none)

pub returns-then-not-shared : goal.returns-then-not-shared
returns-then-not-shared c =
    let none : list_any asks_to_share (map seen c.args.findings.now) ≡ false =
    sym c.requires ∙ c.if-not-shared.true in
    sym (none_alike c.args.head.number (map seen c.args.findings.now) none)
