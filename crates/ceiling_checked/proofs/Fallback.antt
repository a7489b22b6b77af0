-- The prices by the order of the nodes: that they pay, and what they come to.
use Rattle.std.proofs.Common.{◌≡◌, ℕ, ◌+◌, ◌*◌, ◌^◌, ◌<◌, ◌≤◌, List, length, map, ap, sym, ◌∙◌, subst, arith, mul-add}
use Rattle.std.specs.Prelude.{slice_index, All, Contains}
use Rattle.std.proofs.Math.Nat.{mul-le-mul_left, mul-le-mul_right}
use Rattle.base_notes.specs.declared.notes.mark.Mark.{Mark}
use Rattle.base_notes.specs.Allowed.{StandInEarlier}
use Rattle.flow_graph.specs.Accepted.{capped}
use Rattle.flow_graph.specs.Executed.{each_place, AreAllNodes}
use Rattle.flow_graph.specs.Hops.{first_node, Node}
use Rattle.flow_graph.specs.Walk.{IsProper, Setting}
use Rattle.flow_graph.proofs.Orders.{first_reached, has_reached}
use Rattle.flow_acceptance.specs.Free.{IsNodeOrder}
use Rattle.flow_acceptance.proofs.Products.{told_exact}
use Rattle.ceiling_rows.specs.Steps.{TakesAtMost}
use Rattle.ceiling_checked.specs.Affine.{owed_by}
use Rattle.ceiling_checked.specs.Certificate.{IsCertificate}
use Rattle.ceiling_checked.specs.InRounds.{passes_in_all, passes_inside, priced, AreInRounds}
use Rattle.ceiling_checked.specs.Right.{ArePrices}
use Rattle.ceiling_checked.specs.Size.{passes_together, size_of}
use Rattle.ceiling_checked.proofs.ByOrder.{certificate_by, form_by, high, prices_by, total_by, total_low}
use Rattle.ceiling_checked.proofs.RoundSums.{inside_few, told_prices}
use Rattle.ceiling_checked.proofs.Rounded.{rounds_paid}
use Rattle.ceiling_checked.proofs.Shut.{owed_same, priced_long, prices_few, same_certificate}
use Rattle.ceiling_checked.proofs.Together.{together}

-- what is told of a number is no more than that
told_few : (n m : ℕ) → m ≡ capped n → m ≤ n
told_few n m is = omega (arith, is)

-- all passes, by what is told of those in rounds, are no more than those that a walk has at most
pub passes_few : (marks : List Mark) (rounds : List ℕ) → StandInEarlier 0 marks → AreInRounds capped marks rounds
    → passes_in_all marks rounds ≤ passes_together marks 0 marks
passes_few marks rounds nested are =
    together marks rounds nested are.long
    (λ k below. told_few (1 + passes_inside marks k 0 marks rounds) (slice_index rounds k) (are.each k below))

-- The product that is told is no more than what no ceiling is above.
pub size_low : (marks : List Mark) (words longest passes more product : ℕ) (rounds : List ℕ) → StandInEarlier 0 marks
    → AreInRounds capped marks rounds → passes ≡ capped (passes_in_all marks rounds) → more ≡ capped (1 + passes)
    → product ≡ capped (words * longest * more) → product ≤ size_of marks words longest
size_low marks words longest passes more product rounds nested are all one is =
    let few : more ≤ 1 + passes_together marks 0 marks =
    omega (
      arith,
      passes_few marks rounds nested are,
      told_few (passes_in_all marks rounds) passes all,
      told_few (1 + passes) more one,
    ) in
    let grows : words * longest * more ≤ size_of marks words longest = mul-le-mul_left (words * longest) few in
    omega (arith, told_few (words * longest * more) product is, grows)

module _ (g : Setting) (nodes order : List Node) (proper : IsProper g)
    (reached : AreAllNodes g.loads g.notes g.start nodes)
    (free : IsNodeOrder g.loads g.notes nodes order) (longest : ℕ) (takes : TakesAtMost g (each_place nodes) longest)
    (rounds : List ℕ) (are : AreInRounds capped g.notes.marks rounds) (passes more product : ℕ)
    (all : passes ≡ capped (passes_in_all g.notes.marks rounds)) (one : more ≡ capped (1 + passes))
    (is : product ≡ capped (length nodes * longest * more)) (small : product < 2 ^ 127) where
  abbrev pub words : ℕ
  words = length nodes

  abbrev pub unit : ℕ
  unit = words * longest

  -- some node is there
  some_words : 1 ≤ words
  some_words =
      let there : Contains nodes (first_node g.notes g.start) =
      has_reached g.loads g.notes g.start nodes reached (first_node g.notes g.start)
      (first_reached g.loads g.notes g.start) in
      omega (arith, there.1)

  exact : unit * more ≡ product
  exact = sym (is ∙ told_exact (unit * more) (omega (arith, is, small)))

  some : 1 ≤ unit
  some = omega (arith, mul-le-mul_left words takes.some, some_words)

  -- so nothing was cut off
  more_small : more < 2 ^ 127
  more_small =
      let once : 1 * more ≤ unit * more = mul-le-mul_right more some in
      omega (arith, once, exact, small)

  passes_are : passes ≡ passes_in_all g.notes.marks rounds
  passes_are = omega (arith, all, one, more_small)

  more_is : more ≡ 1 + passes_in_all g.notes.marks rounds
  more_is = omega (arith, all, one, more_small)

  each : (k : ℕ) → k < length g.notes.marks
      → slice_index rounds k ≡ 1 + passes_inside g.notes.marks k 0 g.notes.marks rounds
  each k below =
      omega (arith, are.each k below, inside_few g.notes.marks k 0 g.notes.marks rounds, more_is, more_small)

  prices_are : map (λ round. capped (unit * round)) rounds ≡ prices_by unit rounds
  prices_are =
      told_prices unit rounds
      (λ k below.
      let within : k < length g.notes.marks = omega (arith, below, are.long) in
      let few : unit * slice_index rounds k ≤ unit * more =
      mul-le-mul_left unit
      (omega (arith, each k within, inside_few g.notes.marks k 0 g.notes.marks rounds, more_is)) in
      omega (arith, few, exact, small))

  pub by_order : (prices : List ℕ) (total sum : ℕ) → prices ≡ priced capped unit g.notes.marks rounds
      → sum ≡ capped (unit * passes) → total ≡ high order (first_node g.notes g.start) * longest + sum
      → ArePrices g prices total × (total ≤ size_of g.notes.marks words longest)
      × All (λ price. price ≤ size_of g.notes.marks words longest) prices
  by_order prices total sum made summed is_total =
      let whole : unit * more ≡ unit * 1 + unit * passes_in_all g.notes.marks rounds =
      ap (λ (n : ℕ). unit * n) more_is ∙ mul-add unit 1 (passes_in_all g.notes.marks rounds) in
      let sum_is : sum ≡ unit * passes_in_all g.notes.marks rounds =
      omega (arith, summed, ap (λ (n : ℕ). unit * n) passes_are, whole, exact, small) in
      let same : total_by g nodes order proper reached free longest takes rounds are.long each ≡ total =
      omega (arith, is_total, sum_is) in
      let low = total_low g nodes order proper reached free longest takes rounds are.long each in
      let fits : unit * (1 + passes_in_all g.notes.marks rounds) ≡ unit * more = ap (λ (n : ℕ). unit * n) (sym more_is) in
      let grows : unit * (1 + passes_in_all g.notes.marks rounds) ≤ size_of g.notes.marks words longest =
      mul-le-mul_left unit (omega (arith, passes_few g.notes.marks rounds proper.notes.nested are)) in
      let certificate : IsCertificate g (owed_by g.notes.marks prices (form_by longest order)) total =
      same_certificate g (owed_by g.notes.marks (prices_by unit rounds) (form_by longest order))
      (owed_by g.notes.marks prices (form_by longest order)) total
      (λ node angle counts.
      ap (λ (all : List ℕ). owed_by g.notes.marks all (form_by longest order) node angle counts) made
      ∙ owed_same unit g.notes.marks rounds (form_by longest order) node angle counts
      ∙ ap (λ (all : List ℕ). owed_by g.notes.marks all (form_by longest order) node angle counts) prices_are)
      (subst (IsCertificate g (owed_by g.notes.marks (prices_by unit rounds) (form_by longest order))) same
      (certificate_by g nodes order proper reached free longest takes rounds are.long each)) in (
        record {
          each = ap length made ∙ priced_long unit g.notes.marks rounds are.long;
          form = form_by longest order;
          certificate = certificate;
          small = omega (arith, same, low, fits, exact, small);
          rounds = rounds_paid g prices (form_by longest order) total proper certificate;
        },
        omega (arith, same, low, grows),
        subst (All (λ price. price ≤ size_of g.notes.marks words longest)) (sym made)
            (prices_few unit (size_of g.notes.marks words longest) g.notes.marks rounds
            (omega (arith, whole, fits, grows))),
      )
