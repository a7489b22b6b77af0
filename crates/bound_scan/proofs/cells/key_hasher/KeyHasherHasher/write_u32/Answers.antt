use Rattle.std.proofs.Common.{◌≡◌, ℕ, ◌+◌, ◌*◌, ◌/◌, ◌%◌, ◌^◌, ◌<◌, ap, ◌∙◌, arith}
use Rattle.std.specs.Hash.{le_bytes}
use Rattle.bound_scan.proofs.cells.key_hasher.KeyHasherHasher.write_u32.Goals as goal

-- the four bytes of a number, one after the other
four : (key i : ℕ) → i < 2 ^ 32
    → key / 4294967296 + i
    ≡ (((key / 256 + i % 256 * 16777216) / 256 + i / 256 % 256 * 16777216) / 256
    + i / 65536 % 256 * 16777216) / 256 + i / 16777216 % 256 * 16777216
four key i below = omega (arith, below)

pub returns : goal.returns
unfolding le_bytes
returns c =
    let key = c.args.self.now.key in
    ap (λ (i : ℕ). record { key = key / 4294967296 + i }) c.from.ensures
    ∙ ap (λ (all : ℕ). record { key = all }) (four key c.args.i (omega arith))
