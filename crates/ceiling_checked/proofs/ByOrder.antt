-- Every admitted deck has a certificate, by an order in which each edge free of marks goes on: a node's level is as much
-- for each node from it on as a step takes at most, every region has all nodes, and the price of a mark is as much for all
-- nodes for each pass in a round of it.
use Rattle.std.proofs.Common.{◌≡◌, ℕ, zero, suc, ◌+◌, ◌-◌, ◌*◌, ◌%◌, ◌<◌, ◌≤◌, Bool, true, false, cond, List, [], ◌∷◌, length, map}
use Rattle.std.proofs.Common.{Option, Some, None, refl, ap, sym, ◌∙◌, subst, inl, inr, arith, eq-eqb, mul-add}
use Rattle.std.specs.Prelude.{◌==◌, if◌then◌else◌, slice_index, Contains, IsNone}
use Rattle.std.proofs.Math.Nat.{mul_assoc, mul_comm, mul-le-mul_right}
use Rattle.std.proofs.lemmas.Bool.{eqb-true, false≢true}
use Rattle.std.proofs.lemmas.List.{length-map}
use Rattle.base_notes.specs.declared.notes.mark.Mark.{Mark}
use Rattle.base_notes.specs.Marks.{is_on, mark_from, mark_on}
use Rattle.machine_rotation.specs.Waits.{available_recurs}
use Rattle.machine_rotation.proofs.Waited.{first_again}
use Rattle.machine_steps.specs.Counts.{after_pass, is_inside, no_counts, passed_from, AreWithin}
use Rattle.machine_steps.specs.Timing.{found}
use Rattle.machine_steps.specs.Ways.{Way, to}
use Rattle.machine_steps.proofs.Chained.{found_keeps_time}
use Rattle.machine_steps.specs.Calls.{MayGo}
use Rattle.base_graphs.specs.Graph.{height_of}
use Rattle.base_graphs.proofs.Members.{no_more}
use Rattle.base_graphs.proofs.Lists.{contains_cases, contains_here, contains_none, contains_there}
use Rattle.flow_graph.specs.Accepted.{IsFreeLink}
use Rattle.flow_graph.specs.Executed.{each_place, same_node, AreAllNodes}
use Rattle.flow_graph.specs.Hops.{edge_between, first_node, hops, Hop, IsLink, IsNode, Node}
use Rattle.flow_graph.specs.Longest.{longest}
use Rattle.flow_graph.specs.Walk.{IsProper, Setting}
use Rattle.flow_graph.proofs.FromAngles.{found_angle}
use Rattle.flow_graph.proofs.Links.{node_law}
use Rattle.flow_graph.proofs.Orders.{first_reached, has_executed, has_reached, reached_next, reached_only}
use Rattle.flow_acceptance.specs.Free.{IsNodeOrder}
use Rattle.flow_acceptance.proofs.Heights.{height_of_here, height_of_low, height_of_there, lower_of, tells}
use Rattle.ceiling_rows.specs.SiteRows.{node_behind}
use Rattle.ceiling_rows.proofs.Angles.{found_again}
use Rattle.ceiling_rows.specs.Steps.{TakesAtMost}
use Rattle.ceiling_checked.specs.Affine.{cost_left, owed_by, Affine}
use Rattle.ceiling_checked.specs.Certificate.{IsAllowed, IsCertificate, Pays}
use Rattle.ceiling_checked.specs.Charge.{charge_from}
use Rattle.ceiling_checked.specs.InRounds.{passes_in_all, passes_inside}
use Rattle.ceiling_checked.proofs.Left.{marked_step}
use Rattle.ceiling_checked.proofs.Owing.{owed_at, owed_there}
use Rattle.ceiling_checked.proofs.Rounded.{not_own}

-- as much for each place from one on; of none, no level
abbrev pub for_each : ℕ → ℕ → Option ℕ
for_each most zero = None
for_each most (suc more) = Some (suc more * most)

-- how far before the end of the order a node stands
abbrev pub high : List Node → Node → ℕ
high = height_of same_node

-- the level of a node, where its instruction is found at an angle
abbrev pub level_by : ℕ → List Node → Node → ℕ → Option ℕ
level_by most order node angle = if found node.place angle == angle then for_each most (high order node) else None

-- the form of what is owed
abbrev pub form_by : ℕ → List Node → Affine
form_by most order = record { level = level_by most order; region = λ index node angle. true; debt = 0 }

-- the price of each mark, by the passes in a round of it
abbrev pub prices_by : ℕ → List ℕ → List ℕ
prices_by unit rounds = map (λ round. unit * round) rounds

-- what a level that there is comes to
level_is : (most : ℕ) (order : List Node) (node : Node) (angle level : ℕ) → level_by most order node angle ≡ Some level
    → (found node.place angle ≡ angle) × (1 ≤ high order node) × (level ≡ high order node * most)
level_is most order node angle level is = go (found node.place angle == angle) refl (high order node) is
  where
    go : (here : Bool) → (found node.place angle == angle) ≡ here → (more : ℕ)
        → (if here then for_each most more else None) ≡ Some level
        → (found node.place angle ≡ angle) × (1 ≤ more) × (level ≡ more * most)
    go true at zero some = cc
    go true at (suc more) some = (eqb-true (found node.place angle) angle at, omega arith, cc)
    go false at more some = cc

level_there : (most : ℕ) (order : List Node) (node : Node) (angle : ℕ) → found node.place angle ≡ angle
    → 1 ≤ high order node → level_by most order node angle ≡ Some (high order node * most)
level_there most order node angle at some =
    rw (eq-eqb (found node.place angle) angle at) (go (high order node) some)
  where
    go : (more : ℕ) → 1 ≤ more → for_each most more ≡ Some (more * most)
    go zero some = absurd (omega (arith, some))
    go (suc more) some = refl

-- and one on the drum at its own
found_own_angle : (place : ℕ) → place < 2000 → found place (place % 50) ≡ place % 50
found_own_angle place below =
    omega (
      arith,
      found_angle place (place % 50) below,
      (found_keeps_time place).never_earlier (place % 50),
      (found_keeps_time place).within_span (place % 50),
    )

-- a round's price times most
turned : (unit round most : ℕ) → unit * round * most ≡ unit * (most * round)
turned unit round most = mul_assoc unit round most ∙ ap (λ (n : ℕ). unit * n) (mul_comm round most)

-- what is charged where every region has all places: for the marks inside, all passes in their rounds
charge_inside : (all : List Mark) (unit k : ℕ) → is_inside all k k ≡ false → (index : ℕ) (marks : List Mark)
    (rounds : List ℕ)
    → charge_from all (λ j. true) (λ j. true) (Some k) index marks (prices_by unit rounds)
    ≡ unit * passes_inside all k index marks rounds
charge_inside all unit k other index [] rounds = omega arith
charge_inside all unit k other index (mark ∷ marks) [] = omega arith
charge_inside all unit k other index (mark ∷ marks) (round ∷ rounds) =
    let rest : ℕ = passes_inside all k (index + 1) marks rounds in
    omega (
      arith,
      go (index == k) (is_inside all index k) refl refl,
      charge_inside all unit k other (index + 1) marks rounds,
      mul-add unit (if is_inside all index k then mark.most * round else 0) rest,
    )
  where
    go : (own inside : Bool) → (index == k) ≡ own → is_inside all index k ≡ inside
        → unit * round * (if own then 0 else (if inside then mark.most else 0))
        ≡ unit * (if inside then mark.most * round else 0)
    go true true is in_it =
        let same : index ≡ k = eqb-true index k is in
        absurd (false≢true (sym other ∙ ap (λ (n : ℕ). is_inside all n k) (sym same) ∙ in_it))
    go true false is in_it = omega arith
    go false true is in_it = turned unit round mark.most
    go false false is in_it = omega arith

-- what is left before any pass
left_whole : (unit index : ℕ) (marks : List Mark) (rounds : List ℕ) → length rounds ≡ length marks
    → cost_left (λ j. true) index marks (prices_by unit rounds) (no_counts marks)
    ≡ unit * passes_in_all marks rounds
left_whole unit index [] rounds long = omega arith
left_whole unit index (mark ∷ marks) [] long = omega arith
left_whole unit index (mark ∷ marks) (round ∷ rounds) long =
    let all : mark.most - 0 ≡ mark.most = omega arith in
    omega (
      arith,
      ap (λ (n : ℕ). unit * round * n) all,
      turned unit round mark.most,
      left_whole unit (index + 1) marks rounds (omega (arith, long)),
      mul-add unit (mark.most * round) (passes_in_all marks rounds),
    )

-- the mark on an edge is one of the marks
pub mark_within : (place : ℕ) (marks : List Mark) (from onto k : ℕ) → mark_from place marks from onto ≡ Some k
    → k < place + length marks
mark_within place [] from onto k e = cc
mark_within place (mark ∷ marks) from onto k e =
    go (is_on mark from onto) e (mark_within (place + 1) marks from onto k)
  where
    go : (here : Bool) → cond here (Some place) (mark_from (place + 1) marks from onto) ≡ Some k
        → (mark_from (place + 1) marks from onto ≡ Some k → k < place + 1 + length marks) → k < place + suc (length marks)
    go true h others = let at : place ≡ k = cc in omega (arith, at)
    go false h others = omega (arith, others h)

-- the price of a mark
price_of_round : (unit : ℕ) (rounds : List ℕ) (k : ℕ) → slice_index (prices_by unit rounds) k ≡ unit * slice_index rounds k
price_of_round unit [] k = omega arith
price_of_round unit (round ∷ rounds) zero = refl
price_of_round unit (round ∷ rounds) (suc k) = price_of_round unit rounds k

-- a member has a height, and what has one is a member
high_some : (xs : List Node) (x : Node) → Contains xs x → 1 ≤ high xs x
high_some [] x there = absurd (contains_none x there)
high_some (a ∷ xs) x there = elim (tells same_node node_law a x) [
  | inl same ↦ omega (arith, height_of_here same_node node_law a x xs same.1)
  | inr other ↦ (elim (contains_cases a x xs there) [
    | inl same ↦ absurd (other.1 same)
    | inr behind ↦ omega (arith, height_of_there same_node node_law a x xs other.1, high_some xs x behind)
  ])
]

member_of_high : (xs : List Node) (x : Node) → 1 ≤ high xs x → Contains xs x
member_of_high [] x some = absurd (omega (arith, some))
member_of_high (a ∷ xs) x some = elim (tells same_node node_law a x) [
  | inl same ↦ subst (Contains (a ∷ xs)) same.1 (contains_here a xs)
  | inr other ↦ contains_there a x xs
      (member_of_high xs x (omega (arith, some, height_of_there same_node node_law a x xs other.1)))
]

module _ (g : Setting) (nodes order : List Node) (proper : IsProper g)
    (are : AreAllNodes g.loads g.notes g.start nodes)
    (free : IsNodeOrder g.loads g.notes nodes order) (most : ℕ) (longest_is : TakesAtMost g (each_place nodes) most)
    (rounds : List ℕ) (long : length rounds ≡ length g.notes.marks)
    (each : (k : ℕ) → k < length g.notes.marks
    → slice_index rounds k ≡ 1 + passes_inside g.notes.marks k 0 g.notes.marks rounds) where
  abbrev pub marks : List Mark
  marks = g.notes.marks

  abbrev pub unit : ℕ
  unit = length nodes * most

  abbrev pub prices : List ℕ
  prices = prices_by unit rounds

  abbrev pub form : Affine
  form = form_by most order

  abbrev pub Owed : Node → ℕ → List ℕ → Option ℕ
  Owed = owed_by marks prices form

  -- what the passes cost that are left
  abbrev pub cost : List ℕ → ℕ
  cost counts = cost_left (λ j. true) 0 marks prices counts

  reached : (node : Node) → Contains order node → IsNode g.loads g.notes g.start node
  reached node there = reached_only g.loads g.notes g.start nodes are node (free.only node there)

  -- the edge of nodes of a hop that is allowed
  link_of : (node : Node) (hop : Hop) (next : ℕ) → Contains (hops g.loads g.notes node.place) hop → hop.way ≡ to next
      → MayGo g.notes.calls node.ways (edge_between node.place next)
      → IsLink g.loads g.notes node (node_behind g.notes node next)
  link_of node hop next has on may = record {
    edge = (
      hop.ins,
      subst (λ (w : Way). Contains (hops g.loads g.notes node.place) (record { ins = hop.ins; way = w })) on has,
    );
    may = may;
    behind = refl;
  }

  -- where an edge of a node of the order leads is in the order
  next_there : (node next : Node) → Contains order node → IsLink g.loads g.notes node next → Contains order next
  next_there node next there link =
      free.all next
      (has_reached g.loads g.notes g.start nodes are next
      (reached_next g.loads g.notes g.start node next (reached node there) link))

  pub start_there : Contains order (first_node g.notes g.start)
  start_there =
      free.all (first_node g.notes g.start)
      (has_reached g.loads g.notes g.start nodes are (first_node g.notes g.start) (first_reached g.loads g.notes g.start))

  -- a level is no more than as much for all nodes
  low : (node : Node) → high order node * most ≤ unit
  low node =
      mul-le-mul_right most
      (omega (arith, height_of_low same_node node_law order node, no_more order nodes free.different free.only))

  -- where a hop goes on, the next level is paid for too
  goes_on : (node next : Node) (angle : ℕ) (counts : List ℕ) → Contains order node → IsLink g.loads g.notes node next
      → 1 ≤ high order node → (ended when : ℕ) → ended + 49 ≤ angle + most → when ≤ ended + 49
      → AreWithin marks (after_pass marks node.place next.place counts) → (mark : Option ℕ)
      → mark_on marks node.place next.place ≡ mark
      → when + (high order next * most + cost (after_pass marks node.place next.place counts))
      ≤ angle + (high order node * most + cost counts)
  goes_on node next angle counts there link some ended when near arrives within None none =
      let less = lower_of same_node node_law (IsFreeLink g.loads g.notes) order node next free.different free.onward there
      (link, subst IsNone (sym none) refl) in
      let same : after_pass marks node.place next.place counts ≡ counts =
      ap (λ (found : Option ℕ). elim found [
        | None ↦ counts
        | Some passed ↦ passed_from marks passed 0 counts
      ]) none in
      let step : (high order next + 1) * most ≤ high order node * most =
      mul-le-mul_right most (omega (arith, less.1)) in
      omega (arith, near, arrives, step, ap cost same)
  goes_on node next angle counts there link some ended when near arrives within (Some k) on =
      let same : after_pass marks node.place next.place counts ≡ passed_from marks k 0 counts =
      ap (λ (found : Option ℕ). elim found [
        | None ↦ counts
        | Some passed ↦ passed_from marks passed 0 counts
      ]) on in
      let below : k < length marks = omega (arith, mark_within 0 marks node.place next.place k on) in
      let inside : ℕ = passes_inside marks k 0 marks rounds in
      let paid = marked_step marks (λ j. true) (λ j. true) k prices counts
      (length-map rounds (λ round. unit * round) ∙ long) (subst (AreWithin marks) same within) in
      let charged = charge_inside marks unit k (not_own marks k proper.notes.nested) 0 marks rounds in
      let price : slice_index prices k ≡ unit * 1 + unit * inside =
      price_of_round unit rounds k ∙ ap (λ (n : ℕ). unit * n) (each k below) ∙ mul-add unit 1 inside in
      let own : 1 * most ≤ high order node * most = mul-le-mul_right most some in
      omega (arith, near, arrives, ap cost same, paid, charged, price, low next, own)

  pays : (node : Node) (angle due : ℕ) (counts : List ℕ) → angle < 50 → AreWithin marks counts
      → Owed node angle counts ≡ Some due → (hop : Hop) → Contains (hops g.loads g.notes node.place) hop
      → IsAllowed g.notes node counts hop.way → Pays g Owed node angle counts due hop
  pays node angle due counts on_drum few at hop has may =
      let so = owed_at marks prices form node angle due counts at in
      let is = level_is most order node angle so.0 so.1 in
      let there : Contains order node = member_of_high order node is.1 in
      let member : Contains (each_place nodes) node.place =
      has_executed g.loads g.notes g.start nodes are node.place (node.ways, reached node there) in
      let ended : ℕ = longest g.times node.place hop.ins hop.way angle in
      let near : ended + 49 ≤ angle + most = longest_is.each node.place angle hop member has is.0 in
      let own : 1 * most ≤ high order node * most = mul-le-mul_right most is.1 in
      record {
        ends = omega (arith, near, own, so.2, is.2);
        goes_on = λ next on.
            let allowed = subst (IsAllowed g.notes node counts) on may in
            let behind : Node = node_behind g.notes node next in
            let link = link_of node hop next has on allowed.0 in
            let after : List ℕ = after_pass marks node.place next counts in
            let when : ℕ = found next ended in
            let next_at : level_by most order behind (when % 50) ≡ Some (high order behind * most) =
            level_there most order behind (when % 50) (found_again next when (first_again (available_recurs next) ended))
            (high_some order behind (next_there node behind there link)) in (
              high order behind * most + cost after - 0,
              owed_there marks prices form behind (when % 50) (high order behind * most) after next_at,
              omega (
                arith,
                goes_on node behind angle counts there link is.1 ended when near
                    ((found_keeps_time next).within_span ended) allowed.1
                    (mark_on marks node.place next) refl,
                so.2,
                is.2,
              ),
            );
      }

  -- the total
  abbrev pub total_by : ℕ
  total_by = high order (first_node g.notes g.start) * most + unit * passes_in_all marks rounds

  -- Every admitted deck has a certificate.
  pub certificate_by : IsCertificate g Owed total_by
  certificate_by = record {
    starts =
        let first : Node = first_node g.notes g.start in
        let there = high_some order first start_there in
        let at = level_there most order first (g.start % 50) (found_own_angle g.start proper.starts) there in
        let whole = left_whole unit 0 marks rounds long in
        let sum : high order first * most + cost (no_counts marks) - 0 ≡ total_by = omega (arith, whole) in
        owed_there marks prices form first (g.start % 50) (high order first * most) (no_counts marks) at ∙ ap Some sum;
    pays = pays;
  }

  pub total_low : total_by ≤ unit * (1 + passes_in_all marks rounds)
  total_low = omega (arith, low (first_node g.notes g.start), mul-add unit 1 (passes_in_all marks rounds))
