-- The prices of a certificate pay for every round of a mark.
use Rattle.std.proofs.Common.{◌≡◌, ℕ, ◌+◌, ◌%◌, ◌<◌, ◌≤◌, Bool, true, false, List, [], ◌∷◌, ◌++◌, Option, Some, None}
use Rattle.std.proofs.Common.{refl, ap, sym, ◌∙◌, subst, arith}
use Rattle.std.proofs.lemmas.List.{append_assoc}
use Rattle.std.proofs.lemmas.Option.{same_Some}
use Rattle.machine_rotation.specs.Waits.{available_recurs}
use Rattle.machine_rotation.proofs.Waited.{first_again}
use Rattle.base_notes.specs.declared.notes.mark.Mark.{Mark}
use Rattle.base_notes.specs.Allowed.{Notes, StandInEarlier}
use Rattle.base_notes.specs.Marks.{mark_on}
use Rattle.machine_steps.specs.Calls.{none_open, open_along, GoBack}
use Rattle.machine_steps.proofs.Returning.{along_joined}
use Rattle.base_notes.specs.declared.notes.call.Call.{Call}
use Rattle.machine_steps.specs.Counts.{after_pass, is_inside, no_counts, passed_from, AreWithin}
use Rattle.machine_steps.specs.Since.{counts_along}
use Rattle.machine_steps.specs.Timing.{found}
use Rattle.machine_steps.specs.Ways.{Way, early, to, late}
use Rattle.machine_steps.proofs.SinceLaws.{inside_iff, leads_earlier}
use Rattle.flow_graph.specs.Hops.{first_node, Node}
use Rattle.flow_graph.specs.Walk.{edge_taken, edges_taken}
use Rattle.ceiling_rows.specs.SiteRows.{node_behind}
use Rattle.std.proofs.lemmas.Grind.{flat_map-append}
use Rattle.flow_graph.specs.Walk.{FollowHop, IsProper, IsWalkFrom, Setting, Taken, time_from, time_of}
use Rattle.flow_graph.proofs.FromAngles.{found_angle}
use Rattle.flow_graph.proofs.PassLaws.{no_counts_within}
use Rattle.ceiling_checked.specs.Affine.{cost_left, owed_by, Affine}
use Rattle.ceiling_checked.specs.Certificate.{IsCertificate}
use Rattle.ceiling_checked.specs.Rounds.{open_behind, PayForRounds}
use Rattle.ceiling_checked.proofs.Bounded.{back_next, due_first, due_next, IsDue}
use Rattle.ceiling_checked.proofs.Owing.{owed_at}
use Rattle.ceiling_checked.proofs.RoundLeft.{round_left}

-- where hops end whose last is this one
time_last : (time : ℕ) (earlier : List Taken) (last : Taken) → time_from time (earlier ++ last ∷ []) ≡ last.ended
time_last time [] last = refl
time_last time (hop ∷ earlier) last = time_last hop.ended earlier last

-- no mark stands inside of itself
pub not_own : (marks : List Mark) (k : ℕ) → StandInEarlier 0 marks → is_inside marks k k ≡ false
not_own marks k nested = go (is_inside marks k k) refl
  where
    go : (b : Bool) → is_inside marks k k ≡ b → is_inside marks k k ≡ false
    go false is = is
    go true is =
        let through = (inside_iff marks k k nested).0 is in
        let earlier : k < k = leads_earlier marks nested through.0 k k through.1 in
        absurd (omega (arith, earlier))

-- the node that hops lead to from another, the last of which goes on to a place
abbrev pub led_to : Notes → Node → List Taken → ℕ → Node
led_to notes node hops next = record { place = next; ways = open_along notes.calls node.ways (edges_taken hops) }

module _ (g : Setting) (owed : Node → ℕ → List ℕ → Option ℕ) (total : ℕ) (is : IsCertificate g owed total)
    (angle : ℕ) where
  -- What is due where hops come, the last of which goes on to a place: with the clock then, no more than before. The walk
  -- goes on there.
  pub due_along : (node : Node) (time : ℕ) (counts : List ℕ) (clock due next : ℕ) (earlier : List Taken) (last : Taken)
      (rest : List Taken) → IsWalkFrom g angle node.place time counts (earlier ++ last ∷ rest)
      → GoBack g.notes.calls node.ways (edges_taken (earlier ++ last ∷ rest)) → last.way ≡ to next
      → IsDue g owed angle node time counts clock due
      → (before : List ℕ) × (later : ℕ) × (when : ℕ)
      × (counts_along g.notes.marks counts (edges_taken (earlier ++ last ∷ []))
      ≡ after_pass g.notes.marks last.place next before)
      × IsDue g owed angle (led_to g.notes node (earlier ++ last ∷ []) next) last.ended
      (after_pass g.notes.marks last.place next before) when later
      × (when + later ≤ clock + due)
      × IsWalkFrom g angle next last.ended (after_pass g.notes.marks last.place next before) rest
      × GoBack g.notes.calls (led_to g.notes node (earlier ++ last ∷ []) next).ways (edges_taken rest)
  due_along node time counts clock due next [] last rest walk back on is_due =
      let follows : AreWithin g.notes.marks (after_pass g.notes.marks node.place next counts)
      × IsWalkFrom g angle next last.ended (after_pass g.notes.marks node.place next counts) rest =
      subst (λ (way : Way). FollowHop way (λ next.
      AreWithin g.notes.marks (after_pass g.notes.marks node.place next counts)
      × IsWalkFrom g angle next last.ended (after_pass g.notes.marks node.place next counts) rest) rest) on walk.1 in
      let goes = back_next g owed total is angle node last rest next walk.0.here on back in
      let so = due_next g owed total is angle node time counts clock due last next is_due walk.0.here walk.0.begins
      walk.0.allowed walk.0.timed on goes.0 follows.0 in
      let here : after_pass g.notes.marks node.place next counts ≡ after_pass g.notes.marks last.place next counts =
      ap (λ (n : ℕ). after_pass g.notes.marks n next counts) (sym walk.0.here) in
      let edges : edges_taken (last ∷ []) ≡ record { from = last.place; onto = next } ∷ [] =
      ap (λ (way : Way). edge_taken last.place way ++ []) on in
      let ways : (node_behind g.notes node next).ways ≡ open_along g.notes.calls node.ways (edges_taken (last ∷ [])) =
      sym (ap (open_along g.notes.calls node.ways)
      (edges ∙ ap (λ (n : ℕ). record { from = n; onto = next } ∷ []) walk.0.here)) in
      let led : node_behind g.notes node next ≡ led_to g.notes node (last ∷ []) next =
      ap (λ (w : List (Option ℕ)). let made : Node = record { place = next; ways = w } in made) ways in (
        counts,
        so.0,
        so.1,
        ap (counts_along g.notes.marks counts) edges,
        subst (λ (n : Node). IsDue g owed angle n last.ended (after_pass g.notes.marks last.place next counts) so.1 so.0) led
            (subst (λ (after : List ℕ). IsDue g owed angle (node_behind g.notes node next) last.ended after so.1 so.0) here
            so.2),
        so.3,
        subst (λ (after : List ℕ). IsWalkFrom g angle next last.ended after rest) here follows.1,
        subst (λ (w : List (Option ℕ)). GoBack g.notes.calls w (edges_taken rest)) ways goes.1,
      )
  due_along node time counts clock due next (hop ∷ earlier) last rest walk back on is_due =
      by (λ step from so_far now due_then walked backs. due_along step from so_far now due_then next earlier last rest walked
      backs on) hop.way refl walk.1
    where
      Result : Node → ℕ → List ℕ → List Taken → Type 0
      Result at most from hops = (before : List ℕ) × (later : ℕ) × (when : ℕ)
          × (counts_along g.notes.marks from (edges_taken hops)
          ≡ after_pass g.notes.marks last.place next before)
          × IsDue g owed angle (led_to g.notes at hops next) last.ended (after_pass g.notes.marks last.place next before) when
          later × (when + later ≤ most)
          × IsWalkFrom g angle next last.ended (after_pass g.notes.marks last.place next before) rest
          × GoBack g.notes.calls (led_to g.notes at hops next).ways (edges_taken rest)

      none : hop.way ≡ hop.way → earlier ++ last ∷ rest ≡ [] → Result node (clock + due) counts (hop ∷ (earlier ++ last ∷ []))
      none same nothing = absurd (go earlier nothing)
        where
          go : (es : List Taken) → es ++ last ∷ rest ≡ [] → ⊥
          go [] clash = cc
          go (e ∷ es) clash = cc

      by : ((step : Node) (from : ℕ) (so_far : List ℕ) (now due_then : ℕ)
          → IsWalkFrom g angle step.place from so_far (earlier ++ last ∷ rest)
          → GoBack g.notes.calls step.ways (edges_taken (earlier ++ last ∷ rest))
          → IsDue g owed angle step from so_far now due_then
          → Result step (now + due_then) so_far (earlier ++ last ∷ []))
          → (way : Way) → hop.way ≡ way
          → FollowHop way (λ step.
          AreWithin g.notes.marks (after_pass g.notes.marks node.place step counts)
          × IsWalkFrom g angle step hop.ended (after_pass g.notes.marks node.place step counts) (earlier ++ last ∷ rest))
          (earlier ++ last ∷ rest) → Result node (clock + due) counts (hop ∷ (earlier ++ last ∷ []))
      by further early is_way nothing = none refl nothing
      by further late is_way nothing = none refl nothing
      by further (to step) is_way follows =
          let goes = back_next g owed total is angle node hop (earlier ++ last ∷ rest) step walk.0.here is_way back in
          let so = due_next g owed total is angle node time counts clock due hop step is_due walk.0.here walk.0.begins
          walk.0.allowed walk.0.timed is_way goes.0 follows.0 in
          let after : List ℕ = after_pass g.notes.marks node.place step counts in
          let more = further (node_behind g.notes node step) hop.ended after so.1 so.0 follows.1 goes.1 so.2 in
          let edges : edges_taken (hop ∷ (earlier ++ last ∷ []))
          ≡ record { from = node.place; onto = step } ∷ edges_taken (earlier ++ last ∷ []) =
          ap (λ (way : Way). edge_taken hop.place way ++ edges_taken (earlier ++ last ∷ [])) is_way
          ∙ ap (λ (n : ℕ). record { from = n; onto = step } ∷ edges_taken (earlier ++ last ∷ [])) walk.0.here in
          let ways : open_along g.notes.calls (node_behind g.notes node step).ways (edges_taken (earlier ++ last ∷ []))
          ≡ open_along g.notes.calls node.ways (edges_taken (hop ∷ (earlier ++ last ∷ []))) =
          sym (ap (open_along g.notes.calls node.ways) edges) in (
            more.0,
            more.1,
            more.2,
            ap (counts_along g.notes.marks counts) edges ∙ more.3,
            subst (λ (w : List (Option ℕ)). IsDue g owed angle (record { place = next; ways = w }) last.ended
                (after_pass g.notes.marks last.place next more.0) more.2 more.1) ways more.4,
            omega (arith, more.5, so.3),
            more.6,
            subst (λ (w : List (Option ℕ)). GoBack g.notes.calls w (edges_taken rest)) ways more.7,
          )

-- counts behind a pass of a mark
counts_behind : (marks : List Mark) (from onto k : ℕ) (counts : List ℕ) → mark_on marks from onto ≡ Some k
    → after_pass marks from onto counts ≡ passed_from marks k 0 counts
counts_behind marks from onto k counts on =
    ap (λ (found : Option ℕ). elim found [
      | None ↦ counts
      | Some passed ↦ passed_from marks passed 0 counts
    ]) on

-- in a round the same is open at the end as at the beginning
open_same : (calls : List Call) (before round earlier : List Taken) (one : Taken) (inner : List Taken) (last : Taken)
    → before ≡ earlier ++ one ∷ [] → round ≡ inner ++ last ∷ []
    → open_behind calls (before ++ round) ≡ open_behind calls before
    → open_along calls (open_along calls (none_open calls) (edges_taken (earlier ++ one ∷ []))) (edges_taken (inner ++ last ∷ []))
    ≡ open_along calls (none_open calls) (edges_taken (earlier ++ one ∷ []))
open_same calls before round earlier one inner last begins ends again =
    ap (λ (hops : List Taken). open_along calls (open_along calls (none_open calls) (edges_taken hops))
    (edges_taken (inner ++ last ∷ []))) (sym begins)
    ∙ ap (λ (hops : List Taken). open_along calls (open_along calls (none_open calls) (edges_taken before))
    (edges_taken hops)) (sym ends)
    ∙ sym (along_joined calls (none_open calls) (edges_taken before) (edges_taken round))
    ∙ ap (open_along calls (none_open calls)) (sym (flat_map-append (λ hop. edge_taken hop.place hop.way) before round))
    ∙ again ∙ ap (λ (hops : List Taken). open_along calls (none_open calls) (edges_taken hops)) begins

pub rounds_paid : (g : Setting) (prices : List ℕ) (form : Affine) (total : ℕ) → IsProper g
    → IsCertificate g (owed_by g.notes.marks prices form) total → PayForRounds g prices
rounds_paid g prices form total proper is angle k place before round is_round =
    let marks = g.notes.marks in
    let calls = g.notes.calls in
    let owed = owed_by marks prices form in
    let below : place < 2000 = is_round.on_drum in
    let first = is_round.begins in
    let last = is_round.ends in
    let whole : before ++ round ≡ first.0 ++ first.1 ∷ round =
    ap (λ (hops : List Taken). hops ++ round) first.2 ∙ append_assoc first.0 (first.1 ∷ []) round in
    let walk = subst (IsWalkFrom g angle g.start 0 (no_counts marks)) whole is_round.walk.from_start in
    let back = subst (λ (hops : List Taken). GoBack calls (none_open calls) (edges_taken hops)) whole is_round.walk.back in
    let here = due_along g owed total is angle (first_node g.notes g.start) 0 (no_counts marks) (found g.start angle) total
    place first.0 first.1 round walk back first.3
    (due_first g owed total is angle proper.starts (no_counts_within marks)) in
    let node : Node = led_to g.notes (first_node g.notes g.start) (first.0 ++ first.1 ∷ []) place in
    let counts : List ℕ = after_pass marks first.1.place place here.0 in
    let begun : ℕ = first.1.ended in
    let now : ℕ = found place (angle + begun) in
    let turned : here.2 % 50 ≡ now % 50 =
    ap (λ (n : ℕ). n % 50) (sym here.4.stays) ∙ found_angle place here.2 below
    ∙ sym (found_angle place (angle + begun) below) in
    let due : IsDue g owed angle node begun counts now here.1 = record {
      near = omega arith;
      stays = first_again (available_recurs place) (angle + begun);
      within = here.4.within;
      at = ap (λ (n : ℕ). owed node n counts) (sym turned) ∙ here.4.at;
    } in
    let rest : IsWalkFrom g angle place begun counts (last.0 ++ last.1 ∷ []) =
    subst (IsWalkFrom g angle place begun counts) last.2 here.6 in
    let rest_back : GoBack calls node.ways (edges_taken (last.0 ++ last.1 ∷ [])) =
    subst (λ (hops : List Taken). GoBack calls node.ways (edges_taken hops)) last.2 here.7 in
    let there = due_along g owed total is angle node begun counts now here.1 place last.0 last.1 [] rest rest_back last.3
    due in
    let same_node : led_to g.notes node (last.0 ++ last.1 ∷ []) place ≡ node =
    ap (λ (w : List (Option ℕ)). let made : Node = record { place = place; ways = w } in made)
    (open_same calls before round first.0 first.1 last.0 last.1 first.2 last.2 is_round.open_again) in
    let after : List ℕ = after_pass marks last.1.place place there.0 in
    let again : there.2 % 50 ≡ now % 50 =
    ap (λ (n : ℕ). n % 50) (sym there.4.stays) ∙ found_angle place there.2 below
    ∙ sym (found_angle place (angle + begun) below) in
    let one = owed_at marks prices form node (now % 50) here.1 counts due.at in
    let other = owed_at marks prices form node (now % 50) there.1 after
    (ap (λ (n : ℕ). owed node n after) (sym again) ∙ ap (λ (n : Node). owed n (there.2 % 50) after) (sym same_node)
    ∙ there.4.at) in
    let level : one.0 ≡ other.0 = same_Some one.0 other.0 (sym one.1 ∙ other.1) in
    let behind : counts ≡ passed_from marks k 0 here.0 = counts_behind marks first.1.place place k here.0 first.4 in
    let behind_last : after ≡ passed_from marks k 0 there.0 =
    counts_behind marks last.1.place place k there.0 last.4 in
    let within : ℕ → Bool = λ j. form.region j node (now % 50) in
    let edges = edges_taken round in
    let taken : edges_taken round ≡ edges_taken (last.0 ++ last.1 ∷ []) = ap edges_taken last.2 in
    let less = round_left marks within k (not_own marks k proper.notes.nested) prices here.0 there.0 edges
    (subst (AreWithin marks) behind here.4.within) (subst (AreWithin marks) behind_last there.4.within)
    (ap (λ (from : List ℕ). counts_along marks from edges) (sym behind) ∙ ap (counts_along marks counts) taken
    ∙ there.3 ∙ behind_last) in
    let begins : time_of before ≡ begun = ap time_of first.2 ∙ time_last 0 first.0 first.1 in
    let ends : time_of (before ++ round) ≡ last.1.ended =
    ap time_of (ap (λ (hops : List Taken). before ++ hops) last.2 ∙ sym (append_assoc before last.0 (last.1 ∷ [])))
    ∙ time_last 0 (before ++ last.0) last.1 in
    omega (
      arith,
      less,
      level,
      one.2,
      other.2,
      there.5,
      there.4.near,
      ap (cost_left within 0 marks prices) behind,
      ap (cost_left within 0 marks prices) behind_last,
      ap (λ (n : ℕ). found place (angle + n)) begins,
      ap (λ (n : ℕ). found place (angle + n)) ends,
    )
