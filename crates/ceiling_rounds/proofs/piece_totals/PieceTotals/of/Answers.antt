use Rattle.std.proofs.Common.{◌≡◌, ◌<◌, ◌^◌, ℕ, List, [], length, map, ap, sym, ◌∙◌, arith, subst}
use Rattle.std.specs.Prelude.{slice_index}
use Rattle.std.proofs.lemmas.List.{length-map}
use Rattle.flow_walks.specs.Pieces.{spelled}
use Rattle.ceiling_rounds.specs.declared.stretch.Stretch.{Stretch}
use Rattle.ceiling_rounds.proofs.OftenLaws.{all_ones}
use Rattle.ceiling_rounds.proofs.SpelledLaws.{long_behind}
use Rattle.ceiling_rounds.proofs.Wholes.{lasting_each}
use Rattle.ceiling_rounds.proofs.piece_totals.PieceTotals.of.Goals as goal

pub returns : goal.returns
returns c g are =
    let pieces = c.args.pieces.now in
    let stretches = c.args.stretches.now in
    let made = rw c.in-Some.is at c.in_ok-often.ensures in
    let times : c.in_ok-times_of.field-0.items ≡ map (λ (one : Stretch). one.time) stretches =
    c.in_ok-times_of.ensures in
    let long : length c.in_ok-times_of.field-0.items ≡ length stretches =
    ap length times ∙ length-map stretches (λ (one : Stretch). one.time) in
    let count : length (spelled pieces) ≡ c.in-Some.often.hops =
    sym (all_ones (spelled pieces)) ∙ made.1 (λ one. 1) ∙ sym made.2 in
    let finite : length (spelled pieces) < 2 ^ 127 =
    subst (λ (n : ℕ). n < 2 ^ 127) (sym count) c.if-often-ge-MOST_HOPS.false in
    record {
      each = (omega (arith, long, are.each, long_behind [] pieces), made.0);
      lasts = λ number less.
          ap (λ (xs : List ℕ). slice_index xs number) times ∙ lasting_each g pieces stretches number are less;
      adds = made.1;
      finite = finite;
      few = c.are_few.ensures c.if-not-are_few.false;
    }
