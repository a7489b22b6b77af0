use Rattle.std.proofs.Common.{◌++◌, List, ℕ, ap, ◌∙◌}
use Rattle.std.specs.Prelude.{codes}
use Rattle.read_faults.specs.FaultLines.{complaint_text}
use Rattle.read_faults.proofs.Lines.{complaint_in_pieces, text_returned}
use Rattle.read_faults.proofs.fault_text.with_message.Goals as goal

pub returns : goal.returns
returns c =
    let text = c.args.text.items in
    let name = c.args.name.now in
    let message = c.args.message.now in
    let fourth = c.in_ok-text-4.text.items in
    let fifth = c.in_ok-text-5.text.items in
    let of_name = c.in_ok-text.ensures ∙ ap (λ (xs : List ℕ). text ++ xs) c.as_bytes.ensures.value in
    let of_message = c.in_ok-text-5.ensures ∙ ap (λ (xs : List ℕ). fourth ++ xs) c.as_bytes-2.ensures.value in
    text_returned c.with_bytes-4.result (λ new. new.items) (fifth ++ codes "\n")
    (text ++ complaint_text name c.args.line c.args.column message)
    (complaint_in_pieces text name message c.args.line c.args.column c.in_ok-text.text.items c.in_ok-text-2.text.items
    c.in_ok-text-3.text.items fourth fifth of_name c.in_ok-text-2.ensures c.in_ok-text-3.ensures c.in_ok-text-4.ensures
    of_message)
    c.with_bytes-4.ensures
