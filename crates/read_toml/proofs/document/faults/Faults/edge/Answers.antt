-- Of edge: an array of other than two values is out of range; of two values the faults are theirs.
use Rattle.std.proofs.Common.{◌≡◌, ℕ, List, [], ◌∷◌, ◌++◌, ap, sym, ◌∙◌}
use Rattle.std.specs.Prelude.{codes, decimal, ◌+◌}
use Rattle.base_words.specs.Location.{is_location}
use Rattle.toml.specs.View.{view}
use Rattle.read_toml.specs.Document.{range, number_faults}
use Rattle.read_toml.proofs.Adding.{adds_more, adds_same}
use Rattle.read_toml.proofs.EdgeValues.{edge_value_range, edge_value_two}
use Rattle.read_toml.proofs.document.faults.Faults.edge.Goals as goal

pub returns-then-len-ne2 : goal.returns-then-len-ne2
returns-then-len-ne2 c =
    let path : List ℕ = c.args.path.now ++ codes "." ++ decimal (c.args.place + 1) in
    adds_same _ _ _ _
    (ap (λ (p : List ℕ). range p ∷ []) c.in_ok-at.ensures
    ∙ sym (edge_value_range path (view c.args.value.now) c.in-Some.ends.now.items c.in-Some.ensures
    (λ many. c.if-len-ne2.true (c.len.ensures ∙ c.in-Some.ends.now.ok.0 ∙ many))))
    c.in_ok-wrong_at-2.ensures

pub returns : goal.returns
returns c =
    let path : List ℕ = c.args.path.now ++ codes "." ++ decimal (c.args.place + 1) in
    let from = c.index.result.now in
    let onto = c.index-2.result.now in
    let at : c.as_str.result.now ≡ path = c.as_str.ensures.value ∙ c.in_ok-at.ensures in
    let at-2 : c.as_str-2.result.now ≡ path = c.as_str-2.ensures.value ∙ c.in_ok-at.ensures in
    adds_same _ _ _ _
    (ap (λ (p : List ℕ). number_faults (p ++ codes ".1") is_location (view from)
    ++ number_faults (c.as_str-2.result.now ++ codes ".2") is_location (view onto)) at
    ∙ ap (λ (p : List ℕ). number_faults (path ++ codes ".1") is_location (view from)
    ++ number_faults (p ++ codes ".2") is_location (view onto)) at-2
    ∙ sym (edge_value_two path (view c.args.value.now) c.in-Some.ends.now.items from onto c.in-Some.ensures
    (sym c.in-Some.ends.now.ok.0 ∙ sym c.len.ensures ∙ c.if-len-ne2.false) c.index.ensures c.index-2.ensures))
    (adds_more _ _ _ _ _ c.in_ok-end.ensures c.in_ok-end-2.ensures)
