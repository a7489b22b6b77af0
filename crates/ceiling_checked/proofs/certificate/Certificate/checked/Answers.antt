use Rattle.std.proofs.Common.{◌≡◌, ℕ, ◌+◌, ◌-◌, ◌%◌, Bool, List, Some, None, length, sym, ap, subst, ◌∙◌, arith}
use Rattle.base_notes.specs.declared.notes.mark.Mark.{Mark}
use Rattle.machine_steps.specs.Counts.{no_counts}
use Rattle.flow_graph.specs.Hops.{first_node, Node}
use Rattle.ceiling_checked.specs.Affine.{cost_left, owed_by}
use Rattle.ceiling_checked.specs.Certificate.{IsCertificate}
use Rattle.ceiling_checked.specs.Charge.{charge_from}
use Rattle.ceiling_checked.specs.Paying.{form_of, regions_in, IsSitePaid}
use Rattle.ceiling_checked.specs.AtSite.{is_in}
use Rattle.ceiling_checked.proofs.Certified.{certified}
use Rattle.ceiling_checked.proofs.Charged.{charged_first, none_in}
use Rattle.ceiling_checked.proofs.Numbered.{cost_there, level_there, number_is}
use Rattle.ceiling_checked.proofs.Owing.{owed_there}
use Rattle.ceiling_checked.proofs.Rounded.{rounds_paid}
use Rattle.ceiling_checked.proofs.certificate.Certificate.checked.Goals as goal

pub returns : goal.returns
returns c g nodes sites proper marks different all_sites are start =
    let by = c.args.self in
    let prices = by.prices.items in
    let own = g.notes.marks in
    let total = c.in_ok-total.total in
    let paid : (number : ℕ) → IsSitePaid own by c.args.rows.now number =
    λ number. subst (λ (ms : List Mark). IsSitePaid ms by c.args.rows.now number) (sym marks)
    (c.pays_all.ensures c.if-not-pays_all.false number) in
    let each : length prices ≡ length own =
    omega (arith, c.if-len-marks.false, c.len.ensures, by.prices.ok.0, ap (λ (ms : List Mark). length ms) marks) in
    let so = c.in_ok-total.ensures in
    let first : Node = first_node g.notes g.start in
    let angle : ℕ = g.start % 50 in
    let number = number_is nodes sites c.args.start first angle different all_sites start in
    let level_at = level_there nodes sites by.levels.items first angle c.args.start so.1.0 number so.1.1 in
    let within : ℕ → Bool = regions_in by c.args.start in
    let left : ℕ = cost_left within 0 own prices (no_counts own) in
    let charged : charge_from c.args.marks.now (is_in 0) within None 0 c.args.marks.now prices ≡ left =
    ap (λ (ms : List Mark). charge_from ms (is_in 0) within None 0 ms prices) (sym marks)
    ∙ charged_first own (is_in 0) within 0 own prices none_in in
    let same : cost_left (λ k. (form_of nodes sites by).region k first angle) 0 own prices (no_counts own) ≡ left =
    cost_there nodes sites by.regions.items own prices (no_counts own) first angle c.args.start number in
    let owed : owed_by own prices (form_of nodes sites by) first angle (no_counts own) ≡ Some total =
    owed_there own prices (form_of nodes sites by) first angle so.1.0 (no_counts own) level_at
    ∙ ap (λ (n : ℕ). Some (so.1.0 + n - by.debt)) same
    ∙ ap Some (sym (so.1.2 ∙ ap (λ (n : ℕ). so.1.0 + n - by.debt) charged)) in
    let is : IsCertificate g (owed_by own prices (form_of nodes sites by)) total =
    certified g nodes sites c.args.rows.now by different all_sites are paid each total owed in
    record {
      each = each;
      form = form_of nodes sites by;
      certificate = is;
      small = so.0;
      rounds = rounds_paid g prices (form_of nodes sites by) total proper is;
    }
