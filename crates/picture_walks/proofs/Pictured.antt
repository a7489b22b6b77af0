-- What a picture says is of the walk that is drawn, or of what it was found in.
use Rattle.std.proofs.Common.{◌≡◌, ℕ, Result, IfOk, subst}
use Rattle.std.specs.Prelude.{string_bytes, String}
use Rattle.picture_scene.specs.declared.shares.Shares.{Shares}
use Rattle.picture_scene.specs.declared.walk.Kind.{Kind}
use Rattle.picture_drawing.specs.PictureText.{IsPictureOf}

pub pictured_as : {A E : Type 0} (drawn : Result (String A) E) {kind kind' : Kind} {time time' : ℕ}
    {shares shares' : Shares} → kind ≡ kind' → time ≡ time' → shares ≡ shares'
    → IfOk drawn (λ picture. IsPictureOf kind time shares (string_bytes picture))
    → IfOk drawn (λ picture. IsPictureOf kind' time' shares' (string_bytes picture))
pictured_as drawn {kind} {kind'} {time} {time'} {shares} {shares'} of_kind of_time of_shares is =
    subst (λ (k : Kind). IfOk drawn (λ picture. IsPictureOf k time' shares' (string_bytes picture))) of_kind
    (subst (λ (t : ℕ). IfOk drawn (λ picture. IsPictureOf kind t shares' (string_bytes picture))) of_time
    (subst (λ (s : Shares). IfOk drawn (λ picture. IsPictureOf kind time s (string_bytes picture))) of_shares is))
