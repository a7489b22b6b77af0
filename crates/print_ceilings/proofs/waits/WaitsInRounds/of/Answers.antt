-- Of WaitsInRounds::of: sorting moves the sums of the kinds, and its key puts the dearest first, and
-- of those that cost the same the one that the walk comes to first.
use Rattle.std.proofs.Common.{flat_map, length, map, ap, ◌≡◌, ◌∙◌, arith, rules, sym, subst}
use Rattle.std.proofs.lemmas.List.Sorted.{answers_always}
use Rattle.std.specs.Map.{values_of}
use Rattle.base_words.specs.declared.op.Op.{Op}
use Rattle.base_notes.specs.declared.entry.Entry.{Entry}
use Rattle.base_notes.specs.Entries.{entry_in}
use Rattle.flow_graph.specs.SettingOf.{setting}
use Rattle.ceiling_rounds.specs.InRounds.{angle_of, often_of, pieces_of}
use Rattle.print_hops.specs.WaitsText.{wait_line}
use Rattle.print_hops.proofs.KindRows.{dearest_sorted, sort_key}
use Rattle.print_hops.proofs.SameKinds.{reordered_same, unique_same}
use Rattle.print_ceilings.specs.KindRows.{AreRows}
use Rattle.print_ceilings.specs.RoundsWaitsOf.{is_of, row_text, IsRowOf}
use Rattle.print_ceilings.proofs.Laid.{are_laid}
use Rattle.print_ceilings.proofs.RoundsWaitsFound.{dearest_first, first_visit, number_in, row_short, rows_lines, time_in}
use Rattle.print_ceilings.proofs.RowRoom.{hops_laid, hops_seen, whole}
use Rattle.print_ceilings.proofs.waits.WaitsInRounds.of.Goals as goal

pub returns : goal.returns
returns c = λ g visits same out.
    let times = entry_in c.args.times.now in
    let walk = c.args.walk.now in
    let r = c.requires.right in
    let told = r.1.1.1 in
    let order = r.1.1.0.order in
    let pieces = pieces_of walk in
    let often = often_of walk in
    let rows = c.sort_by_key.new.self in
    let before = c.in_ok-by_kind.ensures in
    let are : AreRows times pieces often (length pieces) rows =
    record {
      found = λ kind.
          subst (IsRowOf times pieces often (length pieces) (is_of kind))
          (sym (reordered_same c.in_ok-by_kind.by_kind rows c.sort_by_key.ensures.reordered.2 kind))
          (before.found kind);
      apart = unique_same rows c.sort_by_key.ensures.unique;
    } in
    let own = setting r.0 c.args.times.now r.1.0 in
    let own_laid = hops_laid r.0 c.args.times.now r.1.0 walk r.1.1 in
    let own_hops = hops_seen r.0 c.args.times.now r.1.0 walk r.1.1 in
    let sorted =
    dearest_sorted time_in number_in rows.entries
    (λ row has. omega (
      arith,
      row_short own (angle_of walk) own_hops pieces often told.each.1 order told.adds own_laid rows are row has,
      whole r.0 c.args.times.now r.1.0 walk r.1.1,
      c.requires.early,
    ))
    (c.in_ok-sort_by_key.ensures.sorted (sort_key time_in number_in)
    (answers_always _ _ _ (λ f a r g h. search rules))) in
    let laid = are_laid g walk visits out in
    let are_g : AreRows g.times pieces often (length pieces) rows =
    subst (λ (t : Op → Entry). AreRows t pieces often (length pieces) rows) (sym same) are in (
      map (first_visit visits) (values_of rows.entries),
      dearest_first g (angle_of walk) visits pieces often told.each.1 order told.adds laid rows are_g sorted,
      ap (flat_map (row_text times)) (c.in_ok-rows.ensures.items ∙ c.as_slice.ensures ∙ c.values.ensures.rest)
          ∙ subst (λ (t : Op → Entry). flat_map (row_text t) (values_of rows.entries)
          ≡ flat_map (wait_line t (angle_of walk) visits) (map (first_visit visits) (values_of rows.entries))) same
          (rows_lines g (angle_of walk) visits pieces often told.each.1 order told.adds laid rows are_g),
      c.all_waits_in_rounds-waited.ensures g visits same out,
    )
