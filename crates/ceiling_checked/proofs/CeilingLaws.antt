-- What is right of a ceiling, and of a size that is too large for one.
use Rattle.std.proofs.Common.{◌≡◌, ℕ, ◌+◌, ◌*◌, ◌^◌, ◌<◌, ◌≤◌, Bool, true, false, List, [], ◌∷◌, length, Option, ap, sym, ◌∙◌, arith}
use Rattle.std.proofs.Common.{inl, inr}
use Rattle.std.specs.Prelude.{◌==◌, if◌then◌else◌, All}
use Rattle.std.proofs.Math.Nat.{mul-le-mul_left, mul-le-mul_right}
use Rattle.std.proofs.lemmas.Bool.{cases_lt}
use Rattle.base_words.specs.declared.word.Word.{Word}
use Rattle.read_decks.specs.declared.deck.Deck.{Deck}
use Rattle.read_decks.specs.InDeck.{loads_in, start_in}
use Rattle.base_notes.specs.Allowed.{Notes, AreSound}
use Rattle.base_notes.specs.declared.notes.mark.Mark.{Mark}
use Rattle.base_notes.specs.declared.times.Times.{Times}
use Rattle.machine_steps.specs.Counts.{is_inside}
use Rattle.machine_steps.specs.Timing.{longest_step}
use Rattle.flow_graph.specs.Accepted.{counts_of, product_of, IsAdmitted, IsSound}
use Rattle.flow_graph.specs.Executed.{each_place, AreAllNodes}
use Rattle.flow_graph.specs.Hops.{Node}
use Rattle.flow_graph.specs.MostPasses.{factor, passes_from}
use Rattle.flow_graph.specs.RunHops.{hops_taken}
use Rattle.flow_graph.specs.SettingOf.{setting}
use Rattle.flow_graph.specs.Walk.{IsWalk, Setting, Taken, time_of}
use Rattle.flow_graph.proofs.KeptWalk.{kept_walk}
use Rattle.flow_graph.proofs.LongestLaws.{longest_near}
use Rattle.flow_graph.proofs.PassLaws.{no_counts_within}
use Rattle.flow_graph.proofs.Proper.{is_proper}
use Rattle.flow_acceptance.proofs.Acceptances.{one_reached}
use Rattle.flow_acceptance.proofs.Products.{counts_positive}
use Rattle.ceiling_rows.specs.Steps.{TakesAtMost}
use Rattle.ceiling_checked.specs.Affine.{owed_by}
use Rattle.ceiling_checked.specs.Right.{ArePrices, IsCeiling}
use Rattle.ceiling_checked.specs.Size.{passes_together, IsWithinSize}
use Rattle.ceiling_checked.proofs.Bounded.{walk_total}

-- A mark can be passed no more often than there are counts.
factor_few : (all : List Mark) (k place most : ℕ) → factor all k place most ≤ most + 1
factor_few all k place most = go (place == k) (is_inside all k place)
  where
    go : (own inside : Bool) → (if own then most else (if inside then most + 1 else 1)) ≤ most + 1
    go true inside = omega arith
    go false true = omega arith
    go false false = omega arith

passes_few : (all : List Mark) (k place : ℕ) (marks : List Mark) → passes_from all k place marks ≤ counts_of marks
passes_few all k place [] = omega arith
passes_few all k place (mark ∷ marks) =
    let own = mul-le-mul_right (passes_from all k (place + 1) marks) (factor_few all k place mark.most) in
    let others = mul-le-mul_left (mark.most + 1) (passes_few all k (place + 1) marks) in
    omega (arith, own, others)

-- nor all marks together than so many times as often
together_few : (all : List Mark) (index : ℕ) (marks : List Mark)
    → passes_together all index marks ≤ length marks * counts_of all
together_few all index [] = omega arith
together_few all index (mark ∷ marks) =
    omega (arith, passes_few all index 0 all, together_few all (index + 1) marks)

-- as long as any step takes at most, with the next search
abbrev farthest : ℕ
farthest = longest_step + 49

takes_farthest : (g : Setting) (executed : List ℕ) → TakesAtMost g executed farthest
takes_farthest g executed = record {
  some = omega arith;
  each = λ place clock hop there has at. omega (arith, longest_near g.times place hop.ins hop.way clock);
}

-- Where the size is too large, so is the product.
pub large_product : (g : Setting) (nodes : List Node) (executed : List ℕ) → length g.notes.marks ≤ 64
    → length nodes < 2 ^ 64 → 1 ≤ length executed → IsWithinSize g nodes (2 ^ 127)
    → 4000000 < product_of executed g.notes.marks
large_product g nodes executed few short some large = elim (cases_lt 4000000 (product_of executed g.notes.marks)) [
  | inl more ↦ more
  | inr small ↦ (
      let counts = counts_of g.notes.marks in
      let size = length nodes in
      let all : length g.notes.marks * counts ≤ 64 * counts = mul-le-mul_right counts few in
      let once : 1 * counts ≤ length executed * counts = mul-le-mul_right counts some in
      let passes : 1 + passes_together g.notes.marks 0 g.notes.marks ≤ 260000000 =
      omega (arith, together_few g.notes.marks 0 g.notes.marks, all, counts_positive g.notes.marks, once, small) in
      let grows : size * farthest * (1 + passes_together g.notes.marks 0 g.notes.marks) ≤ size * farthest * 260000000 =
      mul-le-mul_left (size * farthest) passes in
      absurd (omega (arith, large farthest (takes_farthest g (each_place nodes)), grows, short)))
]

-- The executed locations are those of the nodes.
pub executed_places : (loads : ℕ → Option Word) (notes : Notes) (start : ℕ) (executed : List ℕ) (nodes : List Node)
    → IsAdmitted loads notes start executed → AreAllNodes loads notes start nodes → executed ≡ each_place nodes
executed_places loads notes start executed nodes admitted are =
    sym admitted.order.places ∙ ap each_place (one_reached loads notes start admitted.order.nodes nodes admitted.order.reached are)

-- An admitted deck is sound.
pub admitted_sound : (deck : Deck) (notes : Notes) (executed : List ℕ)
    → IsAdmitted (loads_in deck) notes (start_in deck) executed → IsSound (loads_in deck) notes (start_in deck)
admitted_sound deck notes executed admitted = record {
  good = λ place is. (admitted.there place is, admitted.profile place is);
  unaltered = λ place ins is allowed altered. admitted.unaltered place ins altered.0 is allowed altered.1 altered.2;
}

-- Prices of a certificate with their total are a ceiling.
pub is_ceiling : (deck : Deck) (times : Times) (notes : Notes) (nodes : List Node) (prices : List ℕ) (total : ℕ)
    → AreSound notes → AreAllNodes (loads_in deck) notes (start_in deck) nodes
    → IsAdmitted (loads_in deck) notes (start_in deck) (each_place nodes)
    → IsWithinSize (setting deck times notes) nodes total
    → All (IsWithinSize (setting deck times notes) nodes) prices → ArePrices (setting deck times notes) prices total
    → IsCeiling (setting deck times notes) prices total
is_ceiling deck times notes nodes prices total sound reached admitted low prices_low are =
    let g = setting deck times notes in
    let proper = is_proper deck times notes sound in
    let below : (angle : ℕ) (hops : List Taken) → IsWalk g angle hops → time_of hops ≤ total =
    λ angle hops walk. walk_total g (owed_by notes.marks prices are.form) total are.certificate angle hops proper.starts
    (no_counts_within notes.marks) walk in
    record {
      nodes = nodes;
      reached = reached;
      admitted = admitted;
      low = low;
      prices_low = prices_low;
      are = are;
      walks = below;
      kept = λ s steps first is_run kept.
          let walked = kept_walk g (each_place nodes) s steps proper admitted first is_run kept in
          omega (arith, below s.first_angle (hops_taken steps) walked.0, walked.1);
    }
