-- The clockworks of the rotation, by which other proofs reach the laws of their types.
use denote.Param.{param}
use denote.RattleType.{RattleType}
use mir.Syntax.{Dict}
use Rattle.std.proofs.Common.{◌≡◌, ℕ, ◌+◌, ◌≤◌, arith}
use Rattle.std.specs.contracts.option.Option as options
use Rattle.machine_rotation.specs.declared.clockwork.Clockwork.{Ghosts}
use Rattle.machine_rotation.specs.contracts.at_parity.AtParity as at_parities
use Rattle.machine_rotation.specs.contracts.at_parity.AtParityClockwork.TheImpl as at_parity
use Rattle.machine_rotation.specs.contracts.at_parity.AtParityClockwork.TheImpl.Laws as at_parity_laws
use Rattle.machine_rotation.specs.contracts.clockwork.Clockwork.TheBound.{Lawful}
use Rattle.machine_rotation.specs.contracts.delay.Delay as delays
use Rattle.machine_rotation.specs.contracts.delay.DelayClockwork.TheImpl as delay
use Rattle.machine_rotation.specs.contracts.delay.DelayClockwork.TheImpl.Laws as delay_laws
use Rattle.machine_rotation.specs.contracts.optional.OptionClockwork.TheImpl as optional
use Rattle.machine_rotation.specs.contracts.optional.OptionClockwork.TheImpl.Laws as optional_laws
use Rattle.machine_rotation.specs.contracts.seek.Seek as seeks
use Rattle.machine_rotation.specs.contracts.seek.SeekClockwork.TheImpl as seek
use Rattle.machine_rotation.specs.contracts.seek.SeekClockwork.TheImpl.Laws as seek_laws
use Rattle.machine_rotation.specs.contracts.then.Then as thens
use Rattle.machine_rotation.specs.contracts.then.ThenClockwork.TheImpl as then
use Rattle.machine_rotation.specs.contracts.then.ThenClockwork.TheImpl.Laws as then_laws

-- a type of clockworks: what is said of its values, and that it keeps to the laws
pub record Clockworks : Type 1 where
  pub row : RattleType
  pub ghosts : Ghosts row.Denot
  pub dict : Dict
  pub lawful : Lawful row ghosts dict

abbrev pub seek_clockworks : Clockworks
seek_clockworks = record { row = seeks.the_row; ghosts = seek.ghosts; dict = seek.dict; lawful = seek_laws.lawful }

abbrev pub parity_clockworks : Clockworks
parity_clockworks =
    record {
      row = at_parities.the_row;
      ghosts = at_parity.ghosts;
      dict = at_parity.dict;
      lawful = at_parity_laws.lawful;
    }

abbrev pub delay_clockworks : Clockworks
delay_clockworks = record { row = delays.the_row; ghosts = delay.ghosts; dict = delay.dict; lawful = delay_laws.lawful }

abbrev pub optional_clockworks : Clockworks → Clockworks
optional_clockworks a = record {
  row = options.the_row (param 0 a.row);
  ghosts = optional.ghosts a.row a.ghosts a.dict;
  dict = optional.dict a.row a.ghosts a.dict;
  lawful = optional_laws.lawful a.row a.ghosts a.dict a.lawful;
}

abbrev pub then_clockworks : Clockworks → Clockworks → Clockworks
then_clockworks a b = record {
  row = thens.the_row (param 0 a.row) (param 1 b.row) a.ghosts b.ghosts;
  ghosts = then.ghosts a.row b.row a.ghosts a.dict b.ghosts b.dict;
  dict = then.dict a.row b.row a.ghosts a.dict b.ghosts b.dict;
  lawful = then_laws.lawful a.row b.row a.ghosts a.dict b.ghosts b.dict a.lawful b.lawful;
}

-- These moments, by their clocks, keep to the laws of a clockwork that takes `most` word times at
-- most.
pub record KeepsTime (moment : ℕ → ℕ) (most : ℕ) : Type 0 where
  pub never_earlier : (t : ℕ) → t ≤ moment t
  pub within_span : (t : ℕ) → moment t ≤ t + most
  pub monotone : (s t : ℕ) → s ≤ t → moment s ≤ moment t
  pub periodic : (t : ℕ) → moment (t + 50) ≡ moment t + 50

-- those of a clockwork do, and whatever has the same moments
pub keeps_time : (kind : Clockworks) (clockwork : kind.row.Denot) (moment : ℕ → ℕ) (most : ℕ)
    → ((t : ℕ) → kind.ghosts.moment clockwork t ≡ moment t) → kind.ghosts.most clockwork ≤ most → KeepsTime moment most
keeps_time kind clockwork moment most same short = record {
  never_earlier = λ t. omega (arith, same t, kind.lawful.never_earlier clockwork t);
  within_span = λ t. omega (arith, same t, kind.lawful.within_span clockwork t);
  monotone = λ s t before. omega (arith, same s, same t, kind.lawful.monotone clockwork s t before);
  periodic = λ t. omega (arith, same t, same (t + 50), kind.lawful.periodic clockwork t);
}
