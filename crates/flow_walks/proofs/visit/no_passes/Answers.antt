use Rattle.std.proofs.Common.{◌≡◌, ℕ, zero, suc, replicate, refl}
use Rattle.std.specs.Prelude.{slice_index}
use Rattle.flow_walks.proofs.visit.no_passes.Goals as goal

-- zeros alone
zeros_at : (n k : ℕ) → slice_index (replicate n 0) k ≡ 0
zeros_at zero k = refl
zeros_at (suc n) zero = refl
zeros_at (suc n) (suc k) = zeros_at n k

pub returns : goal.returns
returns c = zeros_at 64
