-- That what is added up over the hops of a kind has room.
use Rattle.std.proofs.Common.{◌≡◌, ℕ, ◌+◌, ◌*◌, ◌^◌, ◌<◌, ◌≤◌, Bool, true, List, ◌∷◌, length, map, take, []}
use Rattle.std.proofs.Common.{refl, ap, ◌∙◌, arith, Some}
use Rattle.std.specs.Prelude.{slice_get, slice_index, sum_by, Contains}
use Rattle.std.proofs.lemmas.List.Sums.{sum_by-cons}
use Rattle.std.proofs.lemmas.Option.{get_or_from_slice_get, slice_get_within}
use Rattle.base_words.specs.declared.op.Op.{Op}
use Rattle.read_decks.specs.declared.deck.Deck.{Deck}
use Rattle.base_notes.specs.declared.entry.Entry.{Entry}
use Rattle.base_notes.specs.declared.times.Times.{Times}
use Rattle.base_notes.specs.Allowed.{Notes}
use Rattle.base_notes.specs.Entries.{entry_in}
use Rattle.flow_graph.specs.SettingOf.{setting}
use Rattle.flow_graph.specs.Walk.{Taken}
use Rattle.flow_graph.proofs.LongestLaws.{longest_near}
use Rattle.flow_walks.specs.Visited.{visited, Visited}
use Rattle.flow_walks.specs.declared.piece.Piece.TheVariants as piece
use Rattle.flow_walks.specs.declared.piece.Placed.{Placed}
use Rattle.flow_walks.specs.Pieces.{placed, seen_placed, spelled, spelled_behind, spelled_by, spelled_of, PlacedHop}
use Rattle.ceiling_rounds.specs.declared.in_rounds.InRounds.{InRounds}
use Rattle.ceiling_rounds.specs.InRounds.{angle_of, lasting_of, often_of, pieces_of, passes_in, summed, takes, total_of}
use Rattle.ceiling_rounds.specs.InRounds.{IsInRoundsOf}
use Rattle.ceiling_rounds.proofs.OftenLaws.{all_ones, own}
use Rattle.ceiling_rounds.proofs.SpelledLaws.{spelled_piece}
use Rattle.print_hops.specs.declared.spent.Spent.{Spent}
use Rattle.print_hops.specs.declared.sums.Sums.{Sums}
use Rattle.print_hops.specs.declared.waited.Waited.{Waited}
use Rattle.print_ceilings.specs.declared.waits.kind_row.KindRow.{KindRow}
use Rattle.print_ceilings.specs.RoundsWaitsOf.{of_those, waited_over, waits_cards, waits_data, waits_instruction, IsOfPiece, IsRow}
use Rattle.print_ceilings.specs.SpelledOut.{placed_visit, AreSpelledOut}
use Rattle.print_ceilings.proofs.FirstComings.{comes}
use Rattle.print_ceilings.proofs.KindSums.{laid_hop, sum_at_most, those_at_most, waits_whole}
use Rattle.print_ceilings.proofs.Laid.{are_laid, AreLaid}
use Rattle.print_ceilings.proofs.RowSteps.{one_own, summed_next, summed_part}
use Rattle.print_ceilings.proofs.Totals.{whole_takes}

-- The sums of two rows leave room for both.
pub record HasRoom (before alone : KindRow) : Type 0 where
  pub visits : before.sums.visits + alone.sums.visits < 2 ^ 128
  pub time : before.sums.time + alone.sums.time < 2 ^ 128
  pub instruction : before.sums.instruction + alone.sums.instruction < 2 ^ 128
  pub operand : before.sums.operand + alone.sums.operand < 2 ^ 128

-- What all hops wait so far leaves room for a hop that comes so often.
pub record HasWholeRoom (waited : Waited) (spent : Spent) (often : ℕ) : Type 0 where
  pub instruction : waited.instruction + often * spent.instruction < 2 ^ 128
  pub operand : waited.operand + often * spent.operand < 2 ^ 128
  pub cards : waited.cards + often * spent.cards < 2 ^ 128

placed_seen : (angle : ℕ) (hops : List Taken)
    → map (placed_visit angle) (map visited hops) ≡ map (placed angle) hops
placed_seen angle [] = refl
placed_seen angle (hop ∷ hops) = ap (λ (rest : List PlacedHop). placed angle hop ∷ rest) (placed_seen angle hops)

module _ (deck : Deck) (times : Times) (notes : Notes) (walk : InRounds) (right : IsInRoundsOf deck times notes walk) where
  abbrev entries : Op → Entry
  entries = entry_in times

  abbrev pub hops_seen : List Visited
  hops_seen = map visited right.0.hops

  pub spelled_out : AreSpelledOut (setting deck times notes) walk hops_seen
  spelled_out = record {
    walk_of = record { hops = right.0.hops; walk = right.0.walk; time = right.0.time; same = refl };
    longest = right.0.longest;
    pieces = placed_seen (angle_of walk) right.0.hops ∙ right.0.same;
  }

  pub hops_laid : AreLaid entries (angle_of walk) 0 hops_seen (spelled (pieces_of walk))
  hops_laid = are_laid (setting deck times notes) walk hops_seen spelled_out

  pub whole : sum_by (takes entries) (spelled (pieces_of walk)) ≡ total_of walk
  whole =
      whole_takes (setting deck times notes) (angle_of walk) (total_of walk) (pieces_of walk) (passes_in walk) right.0

  -- what a hop waits is part of what it takes
  hop_waits : (one : PlacedHop) → Contains (spelled (pieces_of walk)) one
      → waits_instruction entries one + waits_data entries one + waits_cards entries one ≤ takes entries one
  hop_waits one has =
      let its = laid_hop entries (angle_of walk) 0 hops_seen (spelled (pieces_of walk)) hops_laid one has in
      waits_whole entries (angle_of walk) its.2.0 its.0 one its.2.1

  -- sums over the walk
  instruction_all : sum_by (waits_instruction entries) (spelled (pieces_of walk)) ≤ total_of walk
  instruction_all =
      omega (
        arith,
        whole,
        sum_at_most (waits_instruction entries) (takes entries) (spelled (pieces_of walk))
            (λ hop has. omega (arith, hop_waits hop has)),
      )

  data_all : sum_by (waits_data entries) (spelled (pieces_of walk)) ≤ total_of walk
  data_all =
      omega (
        arith,
        whole,
        sum_at_most (waits_data entries) (takes entries) (spelled (pieces_of walk))
            (λ hop has. omega (arith, hop_waits hop has)),
      )

  cards_all : sum_by (waits_cards entries) (spelled (pieces_of walk)) ≤ total_of walk
  cards_all =
      omega (
        arith,
        whole,
        sum_at_most (waits_cards entries) (takes entries) (spelled (pieces_of walk))
            (λ hop has. omega (arith, hop_waits hop has)),
      )

  -- ---- a piece that is a hop

  module _ (number : ℕ) (one : Placed) (here : slice_get (pieces_of walk) number ≡ Some (piece.Hop one)) where
    inside : number < length (pieces_of walk)
    inside = slice_get_within (pieces_of walk) number (piece.Hop one) here

    pub has_often : number < length (often_of walk)
    has_often = omega (arith, inside, right.1.each.1)

    -- it takes what its hop takes
    pub hop_lasts : slice_index (lasting_of walk) number ≡ takes entries (seen_placed one)
    hop_lasts =
        let before = spelled_behind [] (take number (pieces_of walk)) in
        let its : spelled_of (pieces_of walk) number ≡ seen_placed one ∷ [] =
        spelled_piece (pieces_of walk) number inside (piece.Hop one)
        ∙ ap (spelled_by before) (get_or_from_slice_get (pieces_of walk) number (piece.Hop one) (piece.Hop one) here) in
        right.1.lasts number inside ∙ ap (sum_by (takes entries)) its
        ∙ omega (arith, sum_by-cons (takes entries) (seen_placed one) [])

    -- which is short
    pub hop_short : takes entries (seen_placed one) < 2 ^ 64
    hop_short =
        let hop = seen_placed one in
        omega (arith, longest_near entries hop.place hop.hop.ins hop.hop.way hop.angle)

    pub waits_in : waits_instruction entries (seen_placed one) + waits_data entries (seen_placed one)
        ≤ takes entries (seen_placed one)
    waits_in = omega (arith, hop_waits (seen_placed one) (comes (pieces_of walk) right.0.order number one here))

    abbrev times_it : ℕ
    times_it = slice_index (often_of walk) number

    -- as often as it comes it is part of the whole
    part_of : (what : PlacedHop → ℕ)
        → summed what (take number (pieces_of walk)) (take number (often_of walk))
        + times_it * own what (piece.Hop one) ≤ sum_by what (spelled (pieces_of walk))
    part_of what =
        omega (
          arith,
          summed_next (pieces_of walk) (often_of walk) right.1.each.1 number (piece.Hop one) here what,
          summed_part what (pieces_of walk) (often_of walk) (number + 1),
          right.1.adds what,
        )

    pub all_short : times_it * takes entries (seen_placed one) ≤ total_of walk
    all_short = omega (arith, part_of (takes entries), whole)

    -- no sum over all hops is too large with this piece
    pub has_whole_room : (waited : Waited) (spent : Spent) → total_of walk < 2 ^ 127
        → waited ≡ waited_over entries (take number (pieces_of walk)) (take number (often_of walk))
        → spent.instruction ≡ waits_instruction entries (seen_placed one)
        → spent.operand ≡ waits_data entries (seen_placed one)
        → spent.cards ≡ waits_cards entries (seen_placed one) → HasWholeRoom waited spent times_it
    has_whole_room waited spent early is instruction operand cards = record {
      instruction =
          omega (
            arith,
            ap (λ (w : Waited). w.instruction) is,
            ap (λ (n : ℕ). times_it * n) instruction,
            early,
            part_of (waits_instruction entries),
            instruction_all,
          );
      operand =
          omega (
            arith,
            ap (λ (w : Waited). w.operand) is,
            ap (λ (n : ℕ). times_it * n) operand,
            early,
            part_of (waits_data entries),
            data_all,
          );
      cards =
          omega (
            arith,
            ap (λ (w : Waited). w.cards) is,
            ap (λ (n : ℕ). times_it * n) cards,
            early,
            part_of (waits_cards entries),
            cards_all,
          );
    }

    -- of the hops of a kind
    module _ (is : PlacedHop → Bool) (so : is (seen_placed one) ≡ true) where
      sum_so_far : (what : PlacedHop → ℕ)
          → summed (of_those is what) (take number (pieces_of walk)) (take number (often_of walk))
          + times_it * what (seen_placed one) ≤ sum_by what (spelled (pieces_of walk))
      sum_so_far what =
          omega (
            arith,
            part_of (of_those is what),
            ap (λ (n : ℕ). times_it * n) (one_own is what one so),
            those_at_most is what (spelled (pieces_of walk)),
          )

      -- no sum of a row is too large with this piece
      pub has_room : (before alone : KindRow) → total_of walk < 2 ^ 127
          → IsRow entries (pieces_of walk) (often_of walk) number is before
          → IsOfPiece entries (often_of walk) number one alone → HasRoom before alone
      has_room before alone early its row = record {
        visits =
            omega (
              arith,
              ap (λ (s : Sums). s.visits) its.sums,
              row.visits,
              sum_so_far (λ _. 1),
              all_ones (spelled (pieces_of walk)),
              right.1.finite,
            );
        time =
            omega (
              arith,
              ap (λ (s : Sums). s.time) its.sums,
              row.time,
              early,
              sum_so_far (takes entries),
              whole,
            );
        instruction =
            omega (
              arith,
              ap (λ (s : Sums). s.instruction) its.sums,
              row.instruction,
              early,
              sum_so_far (waits_instruction entries),
              instruction_all,
            );
        operand =
            omega (
              arith,
              ap (λ (s : Sums). s.operand) its.sums,
              row.operand,
              early,
              sum_so_far (waits_data entries),
              data_all,
            );
      }
