use Rattle.std.proofs.Common.{map, subst, sym, List}
use Rattle.base_words.specs.declared.location.Location.{Location}
use Rattle.read_replays.specs.declared.fault.InputFault.{InputFault}
use Rattle.read_faults.specs.FaultLines.{AreLoadedTwice}
use Rattle.read_faults.specs.InputFaults.{AreInputFaults}
use Rattle.read_faults.specs.NamedTexts.{named}
use Rattle.read_faults.specs.declared.placed_fault.PlacedFault.{PlacedFault}
use Rattle.read_faults.proofs.Lines.{inputs_returned}
use Rattle.read_faults.proofs.lines_of_faults.with_lines_of.Goals as goal

pub returns : goal.returns
returns c =
    let deck = named c.args.deck in
    let inputs = named c.args.inputs in
    inputs_returned c.with_loaded.result (λ new. new.items) deck inputs c.deref.result.now
    (map (λ (location : Location). location.number) c.deref-2.result.now) c.args.text.items c.in_ok-text.text.items
    (subst (λ (faults : List (PlacedFault InputFault)). AreInputFaults inputs.bytes faults) (sym c.deref.ensures.value)
    c.in_ok-faults.ensures)
    (subst (λ (loaded : List Location). AreLoadedTwice deck.bytes inputs.bytes
    (map (λ (location : Location). location.number) loaded)) (sym c.deref-2.ensures.value) c.in_ok-loaded.ensures)
    c.in_ok-text.ensures c.with_loaded.ensures
