use Rattle.std.proofs.Common.{◌≡◌, List, ℕ, ◌++◌, append_assoc, ap, ◌∙◌}
use Rattle.std.specs.Prelude.{codes, decimal}
use Rattle.base_notes.specs.Entries.{entry_in}
use Rattle.flow_walks.specs.Pieces.{seen_placed}
use Rattle.print_lines.proofs.Passing.{◌⊳◌, passes_as}
use Rattle.print_hops.specs.declared.moments.Moments.{Moments}
use Rattle.print_hops.specs.Moments.{later, moments_of}
use Rattle.print_hops.specs.MomentsText.{moments_text}
use Rattle.print_hops.specs.Pieces.{times_text}
use Rattle.print_hops.specs.WalkText.{hop_text}
use Rattle.print_ceilings.specs.RoundsText.{from_to}
use Rattle.print_ceilings.proofs.hop_line.put_placed.Goals as goal

grouped : (hop moments behind ended last : List ℕ)
    → hop ++ (moments ++ behind ++ ended ++ last) ≡ hop ++ moments ++ behind ++ ended ++ last
grouped hop moments behind ended last = simp append_assoc

pub returns : goal.returns
returns g c =
    let one = seen_placed c.args.one in
    let begun = c.args.begun in
    let begin = hop_text (from_to begun c.args.ended one) ++ codes " begun " ++ decimal begun in
    let moments = moments_of (entry_in c.args.times.now) one.angle one.place one.hop.ins one.hop.way 0 in
    passes_as
    (ap (λ (some : Moments). begin ++ times_text (later begun some) c.args.ended (codes "\n")) c.of-moments.ensures
    ∙ grouped begin (moments_text (later begun moments)) (codes " ended ") (decimal c.args.ended) (codes "\n"))
    (c.put_hop.ensures ⊳ c.put_times_later.ensures)
