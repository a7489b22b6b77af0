use Rattle.std.proofs.Common.{ap, Err, List}
use Rattle.read_replays.proofs.Progress.{left_too_long}
use Rattle.read_decks.proofs.Passing.{ok_of_left, err_of_left}
use Rattle.read_replays.specs.declared.fault.InputFault.TheVariants.{Read, Memory}
use Rattle.read_replays.specs.InputsText.{Line, AreInputs, IsRefused}
use Rattle.read_replays.specs.Inputs.{AreInputsOf}
use Rattle.read_replays.proofs.read.read_inputs.Goals as goal

pub returns-in-Err-TooLong-clause-refused : goal.returns-in-Err-TooLong-clause-refused
returns-in-Err-TooLong-clause-refused g c not_read not_memory =
    left_too_long (g.I.Input.unread c.args.reader.now)
    (c.in-Err-TooLong.ensures.long (ap Err c.in-Err-TooLong.field-0-is))

pub returns-clause-inputs : goal.returns-clause-inputs
returns-clause-inputs g c =
    ok_of_left (λ bytes inputs. (lines : List Line) × AreInputs bytes lines × AreInputsOf inputs lines)
    (g.I.Input.unread c.args.reader.now) c.in-Ok.text.items c.deref.result.now c.inputs_of.result
    c.deref.ensures.value c.in-Ok.ensures.all c.inputs_of.ensures.inputs

pub returns-clause-refused : goal.returns-clause-refused
returns-clause-refused g c =
    err_of_left IsRefused (g.I.Input.unread c.args.reader.now) c.in-Ok.text.items c.deref.result.now
    c.inputs_of.result Read Memory c.deref.ensures.value c.in-Ok.ensures.all c.inputs_of.ensures.refused
