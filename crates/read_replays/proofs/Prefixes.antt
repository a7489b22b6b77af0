-- What stands behind a prefix.
use Rattle.std.proofs.Common.{◌≡◌, ℕ, List, ◌++◌, length, drop, sym, ◌∙◌, ap}
use Rattle.std.proofs.Math.Seq.{drop-append_seam}
use Rattle.std.specs.Prelude.{Option, Some, None, IfNone}

pub same_behind : (prefix xs ys : List ℕ) → prefix ++ xs ≡ prefix ++ ys → xs ≡ ys
same_behind prefix xs ys e = sym (drop-append_seam prefix xs) ∙ ap (drop (length prefix)) e ∙ drop-append_seam prefix ys

pub none_too : {A P Q : Type 0} (option : Option A) → (P → Q) → IfNone option P → IfNone option Q
none_too None step p = step p
none_too (Some one) step p = tt
