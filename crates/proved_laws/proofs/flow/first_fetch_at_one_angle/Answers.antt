use Rattle.std.proofs.Common.{arith}
use Rattle.base_words.specs.Kind.{kind_of}
use Rattle.machine_rotation.specs.Recurs.{within_span}
use Rattle.machine_rotation.specs.Span.{kind_span-≤}
use Rattle.machine_rotation.specs.Waits.{available_recurs}
use Rattle.flow_graph.proofs.FromAngles.{found_angle}
use Rattle.proved_laws.proofs.flow.first_fetch_at_one_angle.Goals as goal

pub returns-clause-angle : goal.returns-clause-angle
returns-clause-angle c = found_angle

pub returns-clause-near : goal.returns-clause-near
returns-clause-near c = λ start clock.
    omega (arith, within_span (available_recurs start) clock, kind_span-≤ (kind_of start))
