-- Of Scan::new: the start's key alone keeps something, the moment of the start. So this is what is
-- known before any key has been taken.
use Rattle.std.proofs.Common.{◌≡◌, ℕ, ◌*◌, List, length, Option, None, set, replicate, Some, ap, sym, ◌∙◌, refl, subst}
use Rattle.read_decks.specs.InDeck.{start_in}
use Rattle.flow_graph.specs.Flow.{deck_of}
use Rattle.flow_acceptance.specs.OrderedFlow.{in_order}
use Rattle.bound_scan.specs.declared.latest.Latest.{Latest}
use Rattle.bound_scan.specs.KeysOf.{setting_of}
use Rattle.bound_scan.specs.Keys.{keys_of, place_at}
use Rattle.bound_scan.specs.RowOf.{counts_number}
use Rattle.bound_scan.specs.Table.{number_of}
use Rattle.bound_scan.proofs.EntriesRaised.{number_none}
use Rattle.bound_scan.specs.Scanned.{Scanned}
use Rattle.bound_scan.proofs.Begun.{begun}
use Rattle.bound_scan.proofs.Nodes.{as_long}
use Rattle.bound_scan.specs.InCells.{kept_in}
use Rattle.bound_scan.proofs.scan.Scan.new.Goals as goal

pub returns-clause-scanned : goal.returns-clause-scanned
returns-clause-scanned g c =
    let keys = c.args.keys.now in
    let setting = setting_of keys.accepted.now c.args.times.now in
    let order = in_order keys.accepted.now in
    let key = c.start_key-key.result in
    let start : Latest = record { clock = c.start_angle-angle.result; origin = None } in
    let words : c.len-words.result ≡ length order =
    as_long keys c.len-words.result c.requires.keys c.len-words.ensures in
    let size : keys.counts * c.len-words.result ≡ keys_of setting.notes.marks order =
    ap (λ (n : ℕ). keys.counts * n) words ∙ ap (λ (n : ℕ). n * length order) c.requires.keys.counts in
    let cells : kept_in c.in_ok-cells.cells ≡ set (replicate (keys_of setting.notes.marks order) None) key (Some start) =
    c.in_ok-cells.ensures.kept ∙ ap (λ (n : ℕ). set (replicate n None) key (Some start)) size in
    let starts : c.start-start.result.number ≡ start_in (deck_of keys.accepted.now.flow) =
    c.start-start.ensures in
    record {
      keys = c.requires.keys;
      leaps = c.requires.leaps;
      cells = record {
        held = c.in_ok-cells.ensures.held;
        entries = c.in_ok-cells.ensures.entries (place_at order) (counts_number setting.notes.marks order)
            (starts ∙ sym c.start_key-key.ensures.at)
            (sym (ap (number_of setting.notes.marks) c.start_key-key.ensures.passed ∙ number_none setting.notes.marks));
        angle = c.in_ok-cells.ensures.angle ∙ c.start_angle-angle.ensures;
        words = c.in_ok-cells.ensures.words ∙ words;
        counts = c.in_ok-cells.ensures.counts ∙ c.requires.keys.counts;
      };
      scanned = subst (λ (last : Latest). Scanned setting order 0 0 (kept_in c.in_ok-cells.cells) last)
          (sym c.in_ok-cells.ensures.last)
          (subst (λ (all : List (Option Latest)). Scanned setting order 0 0 all start) (sym cells)
          (begun setting order key start c.start_key-key.ensures c.start_angle-angle.ensures refl));
      turns = c.requires.none;
    }
