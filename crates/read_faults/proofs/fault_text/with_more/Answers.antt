use Rattle.std.specs.Prelude.{decimal}
use Rattle.std.proofs.Common.{◌++◌, ℕ, ap, ◌∙◌}
use Rattle.std.specs.Prelude.{codes}
use Rattle.read_faults.specs.FaultLines.{more_text}
use Rattle.read_faults.proofs.Lines.{more_in_pieces, text_returned}
use Rattle.read_faults.proofs.fault_text.with_more.Goals as goal

pub returns : goal.returns
returns c =
    let text = c.args.text.items in
    let name = c.args.name.now in
    let third = c.in_ok-text-3.text.items in
    let fourth = c.in_ok-text-4.text.items in
    text_returned c.with_bytes-2.result (λ new. new.items) (fourth ++ codes "\n")
    (text ++ more_text name c.args.more c.args.line)
    (more_in_pieces text name c.args.more c.in-Some.line c.args.line c.in_ok-text.text.items c.in_ok-text-2.text.items
    third fourth c.in-Some.is c.in_ok-text.ensures c.in_ok-text-2.ensures c.in_ok-text-3.ensures
    (c.in_ok-text-4.ensures ∙ ap (λ (n : ℕ). third ++ decimal n) c.from.ensures))
    c.with_bytes-2.ensures
