-- What is done of one kind is done of a weaker one; and what a fault is, where there is one.
use Rattle.std.proofs.Common.{Result, Ok, Err, IfErr}
use Rattle.print_lines.specs.declared.fault.Fault.{Fault}
use Rattle.print_lines.specs.declared.status.Status.{Status}
use Rattle.print_lines.specs.Does.{Does}
use Rattle.base_devices.specs.Device.{Device}
use Rattle.print_lines.specs.Reply.{Reply}

module _ (P : Reply → Type 0) (R T : Fault → Type 0) (out out' err err' : Device) where
  pub does_as : (Q : Reply → Type 0) → ((reply : Reply) → P reply → Q reply)
      → ((fault : Fault) → R fault → T fault)
      → (result : Result Status Fault) → Does P R out out' err err' result → Does Q T out out' err err' result
  does_as Q says refuses (Ok status) done = (done.0, says done.0 done.1, done.2, done.3)
  does_as Q says refuses (Err fault) done = refuses fault done

  pub faults_as : ((fault : Fault) → R fault → T fault) → (result : Result Status Fault)
      → Does P R out out' err err' result → IfErr result T
  faults_as refuses (Ok status) done = tt
  faults_as refuses (Err fault) done = refuses fault done
