-- No step of the executed locations takes more than the longest of their rows.
use Rattle.std.proofs.Common.{◌≡◌, ℕ, ◌+◌, ◌%◌, ◌≤◌, List, Option, Some, refl, ap, sym, ◌∙◌, subst, arith}
use Rattle.std.specs.Prelude.{Contains, slice_get}
use Rattle.base_words.specs.Location.{IsLocation}
use Rattle.machine_steps.specs.Timing.{found}
use Rattle.flow_graph.specs.Hops.{hops}
use Rattle.flow_graph.specs.Longest.{longest}
use Rattle.flow_graph.specs.Walk.{Setting}
use Rattle.flow_graph.proofs.FromAngles.{leap_time}
use Rattle.flow_graph.proofs.LongestLaws.{longest_later}
use Rattle.ceiling_rows.specs.declared.row.Row.{Row}
use Rattle.ceiling_rows.specs.Rows.{AreRows}
use Rattle.ceiling_rows.specs.Steps.{TakesAtMost}
use Rattle.ceiling_rows.specs.Slot.{place_of, slot_of}
use Rattle.ceiling_rows.proofs.RowLaws.{slot_place}
use Rattle.ceiling_rows.proofs.Angles.{found_again, own_angle, slot_angle, slot_below}

pub takes_at_most : (g : Setting) (executed : List ℕ) (rows : List (Option Row)) (most : ℕ)
    → ((place : ℕ) → Contains executed place → IsLocation place) → AreRows g executed rows → 1 ≤ most
    → ((slot : ℕ) (row : Row) → slice_get rows slot ≡ Some (Some row) → row.most ≤ most) → TakesAtMost g executed most
takes_at_most g executed rows most locations are some each = record {
  some = some;
  each = λ place clock hop there has at.
      let angle : ℕ = clock % 50 in
      let is = locations place there in
      let here : found place angle ≡ angle = found_again place clock at in
      let slot : ℕ = slot_of place angle in
      let own : place_of slot ≡ place = slot_place place angle is (omega arith) in
      let turned : slot % 50 ≡ angle =
      slot_angle place angle is (omega arith) (own_angle place angle (omega arith) here) in
      let row = are.all slot (slot_below place angle is (omega arith)) (
        subst (Contains executed) (sym own) there,
        ap (λ (n : ℕ). found n (slot % 50)) own ∙ ap (found place) turned ∙ here ∙ sym turned,
      ) in
      let takes = (are.each slot row.0 row.1).is hop (subst (λ (n : ℕ). Contains (hops g.loads g.notes n) hop) (sym own) has) in
      let within : longest g.times place hop.ins hop.way angle + 49 ≤ angle + row.0.most =
      subst (λ (n : ℕ). longest g.times place hop.ins hop.way n + 49 ≤ n + row.0.most) turned
      (subst (λ (n : ℕ). longest g.times n hop.ins hop.way (slot % 50) + 49 ≤ slot % 50 + row.0.most) own takes.within) in
      omega (
        arith,
        leap_time g.times place hop.ins hop.way angle clock (omega arith) refl,
        longest_later g.times place hop.ins hop.way angle,
        within,
        each slot row.0 row.1,
      );
}
