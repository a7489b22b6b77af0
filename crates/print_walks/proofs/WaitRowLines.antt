-- The lines of the waits of a walk, by their rows.
use Rattle.std.proofs.Common.{◌≡◌, ℕ, List, ap, ◌∙◌}
use Rattle.std.proofs.Common.{flat_map}
use Rattle.base_words.specs.declared.op.Op.{Op}
use Rattle.base_notes.specs.declared.entry.Entry.{Entry}
use Rattle.flow_walks.specs.Visited.{Visited}
use Rattle.print_hops.specs.declared.sums.Sums.{Sums}
use Rattle.print_hops.specs.WaitsText.{kind_line, wait_line}
use Rattle.print_hops.proofs.Lines.{flat_map_map, same_texts}
use Rattle.print_walks.specs.declared.waits.Waits.{Waits}
use Rattle.print_walks.specs.declared.waits.wait.Wait.{Wait}
use Rattle.print_walks.specs.WaitsOf.{AreWaits, IsSumOf, first_of, firsts_of, row_text}

-- the line of a row tells its first hop
pub row_told : (times : Op → Entry) (angle : ℕ) (wait : Wait) (hop : Visited) → hop ≡ first_of wait
    → kind_line times angle hop wait.sums.visits wait.sums.time wait.sums.instruction wait.sums.operand
    ≡ row_text times angle wait
row_told times angle wait hop same =
    ap (λ (h : Visited). kind_line times angle h wait.sums.visits wait.sums.time wait.sums.instruction
    wait.sums.operand) same

-- that of one that sums up the hops of a walk
row_line : (times : Op → Entry) (angle : ℕ) (walk : List Visited) (wait : Wait)
    → IsSumOf times angle walk wait
    → row_text times angle wait ≡ wait_line times angle walk (first_of wait)
row_line times angle walk wait is =
    ap (λ (sums : Sums). kind_line times angle (first_of wait) sums.visits sums.time sums.instruction
    sums.operand) is

-- those of the waits of a walk
pub rows_told : (times : Op → Entry) (angle start : ℕ) (walk : List Visited) (waits : Waits)
    (rows : List Wait) → angle ≡ start → rows ≡ waits.rows.items
    → AreWaits times start walk waits
    → flat_map (row_text times angle) rows ≡ flat_map (wait_line times start walk) (firsts_of waits)
rows_told times angle start walk waits rows at told are =
    ap (λ (a : ℕ). flat_map (row_text times a) rows) at
    ∙ ap (flat_map (row_text times start)) told
    ∙ same_texts (row_text times start) (λ (wait : Wait). wait_line times start walk (first_of wait))
    waits.rows.items (λ wait has. row_line times start walk wait (are.rows wait has))
    ∙ flat_map_map (wait_line times start walk) first_of waits.rows.items
