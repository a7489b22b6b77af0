use Rattle.std.proofs.Common.{map, inl, inr}
use Rattle.read_decks.proofs.FaultLaws.{deck_not_refused}
use Rattle.base_words.specs.declared.location.Location.{Location}
use Rattle.read_replays.proofs.Refusals.{inputs_not_refused}
use Rattle.read_faults.proofs.BothLoad.{both_returned, none_returned}
use Rattle.read_faults.proofs.loaded.loaded_twice.Goals as goal

pub returns-in-Err : goal.returns-in-Err
returns-in-Err c =
    none_returned c.none_but_for_memory.result c.deck_wants_memory.result c.args.deck.now c.args.inputs.now
    (λ unlike. inl (λ whole. deck_not_refused c.args.deck.now whole.0 c.in-Err.fault whole.1
    (c.in-Err.ensures.refused (c.deck_wants_memory.ensures unlike))))
    c.none_but_for_memory.ensures

pub returns-in-Ok-inputs_of : goal.returns-in-Ok-inputs_of
returns-in-Ok-inputs_of c =
    both_returned c.loaded_by.result (λ loaded. map (λ (location : Location). location.number) loaded.items)
    c.args.deck.now c.args.inputs.now c.in-Ok.deck c.in-Ok-inputs_of.inputs c.deref.result.now c.in-Ok.ensures.deck
    c.in-Ok-inputs_of.ensures.inputs c.deref.ensures.value c.loaded_by.ensures

pub returns : goal.returns
returns c =
    none_returned c.none_but_for_memory-in-Err-inputs_of.result c.inputs_want_memory.result c.args.deck.now
    c.args.inputs.now
    (λ unlike. inr (λ whole. inputs_not_refused c.args.inputs.now whole.0 c.in-Err-inputs_of.fault whole.1
    (c.in-Err-inputs_of.ensures.refused (c.inputs_want_memory.ensures unlike))))
    c.none_but_for_memory-in-Err-inputs_of.ensures
