use Rattle.std.proofs.Common.{◌≡◌, ℕ, ◌*◌, length, ap, subst, arith}
use Rattle.flow_graph.specs.Accepted.{counts_of}
use Rattle.bound_scan.specs.declared.keys.Keys.{Keys}
use Rattle.bound_scan.specs.ScanOf.{IsScanned, order_of, setting_in}
use Rattle.bound_scan.proofs.scan.Scan.of.Goals as goal

pub loop-leading-init : goal.loop-leading-init
loop-leading-init g c =
    let none : 0 ≡ 0 * length (order_of c.in_ok-scan.scan) = omega arith in
    record {
      scanned = subst (IsScanned c.in_ok-scan.scan) none c.in_ok-scan.ensures.scanned;
      times =
          c.in_ok-scan.ensures.times;
      keys = c.in_ok-scan.ensures.keys;
    }

pub returns-clause-done : goal.returns-clause-done
returns-clause-done g c =
    let known = c.loop-leading.invariant in
    let scan = c.loop-leading.scan in
    let counts : scan.keys.now.counts ≡ c.args.keys.now.counts = ap (λ (keys : Keys). keys.counts) known.keys in
    let all : c.loop-leading.leading ≡ counts_of (setting_in scan).notes.marks =
    omega (arith, c.loop-leading-test.false, c.loop-leading.auto.leading-end, counts, known.scanned.keys.counts) in
    subst (IsScanned scan) (ap (λ (n : ℕ). n * length (order_of scan)) all) known.scanned
