use Rattle.std.proofs.Common.{List, sym, subst}
use Rattle.read_decks.specs.Lines.{lines_of}
use Rattle.read_faults.proofs.Told.{Told, fault_told, all_told}
use Rattle.read_faults.proofs.all_faults.all_faults.Goals as goal

pub loop-faults-preserved : goal.loop-faults-preserved
loop-faults-preserved g c =
    let p = c.loop-faults.invariant.told in
    let goes = c.in_ok-fault.ensures p.before p.counted p.holds in
    record {
      told =
          subst (λ (faults : List g.row.T-Fault.Denot). Told g.T.Taking.rules (lines_of c.args.text.now)
          (lines_of c.next_fault.new.self.lines.rest.now) c.next_fault.new.self.taking c.next_fault.new.self.number
          faults) (sym c.in_ok-push.ensures.items)
          (fault_told g.T.Taking.rules (lines_of c.args.text.now) (lines_of c.loop-faults.reading.lines.rest.now)
          (lines_of c.next_fault.new.self.lines.rest.now) c.loop-faults.reading.taking c.next_fault.new.self.taking
          c.loop-faults.reading.number c.next_fault.new.self.number c.loop-faults.faults.items c.in-Some.fault p
          (rw c.in-Some.is at goes));
    }

pub returns : goal.returns
returns g c =
    let p = c.loop-faults.invariant.told in
    let goes = c.in_ok-fault.ensures p.before p.counted p.holds in
    all_told g.T.Taking.rules (lines_of c.args.text.now) (lines_of c.loop-faults.reading.lines.rest.now)
    (lines_of c.next_fault.new.self.lines.rest.now) c.loop-faults.reading.taking c.next_fault.new.self.taking
    c.loop-faults.reading.number c.next_fault.new.self.number c.loop-faults.faults.items p
    (rw c.in_default.is at goes)
