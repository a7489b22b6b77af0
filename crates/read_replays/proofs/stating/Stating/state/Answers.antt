use Rattle.std.proofs.Common.{refl}
use Rattle.read_replays.specs.InputsText.{Repeats}
use Rattle.read_replays.specs.Said.{stated}
use Rattle.read_replays.specs.declared.fault.InputFault.TheVariants.{Repeated}
use Rattle.read_replays.proofs.Steps.{has_fault, is_next, holds_setting, plain}
use Rattle.read_replays.proofs.stating.Stating.state.Goals as goal

pub returns-then-has : goal.returns-then-has
returns-then-has c bytes is_line before counted holds =
    has_fault c.args.self.now before bytes (Repeated c.args.line) (
      counted,
      (
        stated c.args.setting,
        is_line,
        (plain c.args.setting).on_drum,
        (c.has.ensures before holds.settings).0 c.if-has.true,
      ),
    ) holds

pub returns : goal.returns
returns c bytes is_line before counted holds =
    let once : ¬ Repeats before (stated c.args.setting) =
    λ again. let is = (c.has.ensures before holds.settings).1 again in cc (is, c.if-has.false) in
    is_next _ before bytes (stated c.args.setting) is_line
    (holds_setting c.args.self.now _ before c.args.setting holds (c.take.ensures before holds.settings once) once refl
    refl refl)
