-- What a `?` hands on.
use Rattle.std.proofs.Common.{◌≡◌, sym, ◌∙◌, subst}
use Rattle.std.specs.Prelude.{Result, Ok, Err, IfErr, IsErrAnd, IsErrOf}

-- what is so of the error is so of the one that is handed on
pub handed : {T E : Type 0} (r : Result T E) (P : E → Type 0) (error : E) → IsErrAnd r (λ other. other ≡ error)
    → P error → IfErr r P
handed (Ok value) P error is holds = tt
handed (Err other) P error is holds = subst P (sym is) holds

-- and it is no other
pub handed_is : {T E : Type 0} (r : Result T E) (error other : E) → IsErrAnd r (λ one. one ≡ error) → IsErrOf r other
    → error ≡ other
handed_is (Ok value) error other is of = absurd is
handed_is (Err one) error other is of = let same : one ≡ other = cc in sym is ∙ same
