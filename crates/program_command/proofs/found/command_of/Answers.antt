use Rattle.std.proofs.Common.{◌≡◌, ◌||◌, Bool, true, false, codes, refl, sym}
use Rattle.std.specs.Str.{bytes_eq}
use Rattle.std.proofs.lemmas.Slice.Eq.{bytes_eq-Decides}
use Rattle.clap.specs.Words.{Text}
use Rattle.program_command.proofs.Own.{and_both}
use Rattle.program_command.proofs.found.command_of.Goals as goal

-- a name that is among several, and isn't the first, is among the others
others : (known name : Text) (rest : Bool) → (name ≡ known → ⊥) → (bytes_eq known name || rest) ≡ true → rest ≡ true
others known name rest not some = go (bytes_eq known name) refl some
  where
    go : (same : Bool) → bytes_eq known name ≡ same → (same || rest) ≡ true → rest ≡ true
    go true is some = absurd (not (sym ((bytes_eq-Decides known name).0 is)))
    go false is some = some

pub unreachable-requires : goal.unreachable-requires
unreachable-requires c =
    let name = c.args.name.now in
    let none = c.in_default in
    let named = (and_both _ _ c.requires).0 in
    let bad : false ≡ true =
    others (codes "trace") name _ none.not-trace
    (others (codes "replay") name _ none.not-replay
    (others (codes "ceiling") name _ none.not-ceiling
    (others (codes "draw") name _ none.not-draw
    (others (codes "outline") name _ none.not-outline
    (others (codes "graph") name _ none.not-graph
    (others (codes "size") name _ none.not-size
    (others (codes "table") name _ none.not-table
    (others (codes "waits") name _ none.not-waits
    (others (codes "walk") name _ none.not-walk
    (others (codes "report") name _ none.not-report
    (others (codes "check") name _ none.not-check (others (codes "bound") name _ none.not-bound named)))))))))))) in
    cc
