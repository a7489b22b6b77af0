-- Of longest: the chain of waits and delays that the code goes through ends at the moment of the
-- definition: x for Early, else e with the most units and the longest wait. The span of the chain
-- gives the limit.
use Rattle.std.proofs.Common.{◌≡◌, ℕ, ap, sym, ◌∙◌, inl, inr, arith, Some}
use Rattle.base_words.specs.Op.{op_of}
use Rattle.machine_steps.specs.declared.ways.Way as ways
use Rattle.machine_steps.specs.WaysLeft.{seen_way}
use Rattle.base_notes.specs.declared.entry.Entry.{Entry}
use Rattle.base_notes.specs.Entries.{entry_in}
use Rattle.machine_steps.specs.Timing.{ready, ended}
use Rattle.machine_steps.specs.Ways.{early, to, late}
use Rattle.flow_graph.specs.Longest.{longest, most_units, most_wait}
use Rattle.flow_graph.proofs.LongestLaws.{longest_of}
use Rattle.flow_graph.proofs.longest.longest.Goals as goal

-- a stop before the operation acts
pub returns-in-Early-clause-value : goal.returns-in-Early-clause-value
returns-in-Early-clause-value c =
    let times = entry_in c.args.times.now in
    let ins = c.args.hop.instruction in
    let is : op_of ins.op ≡ Some c.in-Some.op = ap op_of (sym c.op.ensures) ∙ sym c.of.ensures.listed ∙ c.in-Some.is in
    c.go.ensures.moment ∙ c.to_ready.ensures.moment c.args.clock
    ∙ ap (λ (entry : Entry). ready entry c.args.place.number c.args.clock) c.entry-entry.ensures
    ∙ sym (longest_of times c.args.place.number ins early c.args.clock c.in-Some.op is)
    ∙ ap (λ (way : ways.Way). longest times c.args.place.number ins (seen_way way) c.args.clock) (sym c.in-Early.is)

-- an end of the operation, where the hop goes on or stops
pub returns-in-To : goal.returns-in-To
returns-in-To c = record {
  value = value;
  later = c.go-in-To.ensures.later;
  near =
      omega (arith, c.go-in-To.ensures.near, c.to_end.ensures.short);
}
  where
    is : op_of c.args.hop.instruction.op ≡ Some c.in-Some.op
    is = ap op_of (sym c.op.ensures) ∙ sym c.of.ensures.listed ∙ c.in-Some.is

    ends : c.go-in-To.result
        ≡ ended (entry_in c.args.times.now c.in-Some.op) c.in-Some.op c.args.hop.instruction.d c.args.place.number
        (most_units c.in-Some.op c.args.hop.instruction.d)
        (most_wait c.in-Some.op (entry_in c.args.times.now c.in-Some.op)) c.args.clock
    ends =
        let by : Entry → ℕ → ℕ → ℕ → ℕ =
        λ entry d units wait. ended entry c.in-Some.op d c.args.place.number units wait c.args.clock in
        let at_most : Entry → ℕ → ℕ =
        λ entry d. by entry d (most_units c.in-Some.op d) (most_wait c.in-Some.op entry) in
        c.go-in-To.ensures.moment ∙ c.to_end.ensures.moment c.args.clock
        ∙ ap (λ (units : ℕ). by c.entry-entry.result c.d-d.result units c.most_wait-wait.result)
        c.most_units-units.ensures.value
        ∙ ap (by c.entry-entry.result c.d-d.result (most_units c.in-Some.op c.d-d.result))
        c.most_wait-wait.ensures.value
        ∙ ap (at_most c.entry-entry.result) c.d-d.ensures
        ∙ ap (λ (entry : Entry). at_most entry c.args.hop.instruction.d) c.entry-entry.ensures

    value : c.go-in-To.result
        ≡ longest (entry_in c.args.times.now) c.args.place.number c.args.hop.instruction (seen_way c.args.hop.way)
        c.args.clock
    value =
        let latest : ways.Way → ℕ =
        λ way. longest (entry_in c.args.times.now) c.args.place.number c.args.hop.instruction (seen_way way)
        c.args.clock in
        elim c.in-To.is [
          | inl goes ↦ ends ∙ sym
              (longest_of (entry_in c.args.times.now) c.args.place.number c.args.hop.instruction (to goes.0.number)
              c.args.clock c.in-Some.op is) ∙ ap latest (sym goes.1)
          | inr stops ↦ ends ∙ sym
              (longest_of (entry_in c.args.times.now) c.args.place.number c.args.hop.instruction late c.args.clock
              c.in-Some.op is) ∙ ap latest (sym stops)
        ]
