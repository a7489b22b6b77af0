-- Texts that are put on a sheet one behind the other.
use Rattle.std.proofs.Common.{◌≡◌, ℕ, ◌+◌, ◌<◌, List, [], ◌++◌, length, get_or, take, flat_map, append_assoc, append-nil}
use Rattle.std.proofs.Common.{sym, subst, Bool, true}
use Rattle.base_devices.specs.Device.{Device}
use Rattle.base_devices.proofs.Bytes.{pieces_more}
use Rattle.print_lines.specs.declared.sheet.Sheet.{Sheet}
use Rattle.print_lines.specs.Gets.{GetsPrefix}
use Rattle.print_lines.specs.Stands.{IsCut, Passes, Stands, stands}

-- nothing
pub passes_none : (now : Device) (sheet : Sheet) → Passes now sheet now sheet []
passes_none now sheet = record { stands = λ begun text so_far. subst (Stands begun now sheet) (sym (append-nil text)) so_far }

-- one text, and then another
infixl 30 ◌⊳◌
pub ◌⊳◌ : {before between after : Device} {sheet sheet' sheet″ : Sheet} {xs ys : List ℕ}
    → Passes before sheet between sheet' xs → Passes between sheet' after sheet″ ys
    → Passes before sheet after sheet″ (xs ++ ys)
◌⊳◌ {before} {between} {after} {sheet} {sheet'} {sheet″} {xs} {ys} p q = record {
  stands = λ begun text so_far.
      subst (Stands begun after sheet″) (append_assoc text xs ys)
      (q.stands begun (text ++ xs) (p.stands begun text so_far));
}

-- the same text
pub passes_as : {before after : Device} {sheet sheet' : Sheet} {xs ys : List ℕ} → xs ≡ ys
    → Passes before sheet after sheet' xs → Passes before sheet after sheet' ys
passes_as {before} {after} {sheet} {sheet'} same p = subst (Passes before sheet after sheet') same p

-- the text of one more of these
pub passes_more : {X : Type 0} (text : X → List ℕ) (xs : List X) (index : ℕ) (item : X) {before between after : Device}
    {sheet sheet' sheet″ : Sheet}
    → index < length xs → item ≡ get_or xs index item → Passes before sheet between sheet' (flat_map text (take index xs))
    → Passes between sheet' after sheet″ (text item)
    → Passes before sheet after sheet″ (flat_map text (take (index + 1) xs))
passes_more text xs index item {before} {between} {after} {sheet} {sheet'} {sheet″} within is p q =
    passes_as (sym (pieces_more text xs index item within))
    (p ⊳ subst (λ one. Passes between sheet' after sheet″ (text one)) is q)

-- where a write has failed, a prefix has gone out
pub prefix_of_lost : (begun now : Device) (sheet : Sheet) (text : List ℕ) → sheet.is_lost ≡ true
    → Stands begun now sheet text → GetsPrefix begun now text
prefix_of_lost begun now sheet text lost so_far =
    let cut : IsCut begun now sheet text = subst (λ (is : Bool). stands is begun now sheet text) lost so_far in
    (cut.0, cut.1, cut.2, cut.3)

-- these laws together
pub ruleset passing = (passes_none, ◌⊳◌)
