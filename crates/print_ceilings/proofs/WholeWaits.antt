-- What all hops of a walk wait, piece by piece.
use Rattle.std.proofs.Common.{◌≡◌, ℕ, ◌+◌, ◌*◌, List, length, take, ap, sym, ◌∙◌, arith, Some, refl}
use Rattle.std.specs.Prelude.{slice_get, slice_index, sum_by}
use Rattle.std.proofs.Math.Nat.{mul-zero}
use Rattle.base_words.specs.declared.op.Op.{Op}
use Rattle.base_notes.specs.declared.entry.Entry.{Entry}
use Rattle.flow_walks.specs.Visited.{Visited}
use Rattle.flow_walks.specs.declared.piece.Piece.{Piece}
use Rattle.flow_walks.specs.declared.piece.Piece.TheVariants as piece
use Rattle.flow_walks.specs.declared.piece.Placed.{Placed}
use Rattle.flow_walks.specs.Pieces.{seen_placed, PlacedHop}
use Rattle.ceiling_rounds.specs.InRounds.{summed}
use Rattle.ceiling_rounds.proofs.OftenLaws.{own}
use Rattle.print_hops.specs.declared.spent.Spent.{Spent}
use Rattle.print_hops.specs.declared.waited.Waited.{Waited}
use Rattle.print_hops.specs.Waits.{for_cards, for_data, for_instruction}
use Rattle.print_hops.specs.KindsOf.{waited_of}
use Rattle.print_ceilings.specs.RoundsWaitsOf.{waited_over, waits_cards, waits_data, waits_instruction}
use Rattle.print_ceilings.proofs.KindSums.{all_laid, same_cards, same_data, same_instruction}
use Rattle.print_ceilings.proofs.Laid.{AreLaid}
use Rattle.print_ceilings.proofs.RowSteps.{summed_next}

pub same_waited : (a b : Waited) → a.instruction ≡ b.instruction → a.operand ≡ b.operand → a.cards ≡ b.cards → a ≡ b
same_waited a b p q r = λ j. record { instruction = p j; operand = q j; cards = r j }

-- a piece that is no hop has nothing of its own
own_nothing : (what : PlacedHop → ℕ) (one : Piece) → ((other : Placed) → one ≡ piece.Hop other → ⊥)
    → own what one ≡ 0
own_nothing what (piece.Hop one) none = absurd (none one refl)
own_nothing what (piece.Row names) none = refl
own_nothing what (piece.Rounds rounds) none = refl

module _ (times : Op → Entry) (pieces : List Piece) (often : List ℕ) (each : length often ≡ length pieces)
    (limit : ℕ) where
  abbrev before : Waited
  before = waited_over times (take limit pieces) (take limit often)

  abbrev after : Waited
  after = waited_over times (take (limit + 1) pieces) (take (limit + 1) often)

  pub waited_kept : (one : Piece) → slice_get pieces limit ≡ Some one
      → ((other : Placed) → one ≡ piece.Hop other → ⊥) → (waited : Waited) → waited ≡ before → waited ≡ after
  waited_kept one here none waited is =
      is ∙ same_waited before after (kept (waits_instruction times)) (kept (waits_data times)) (kept (waits_cards times))
    where
      kept : (what : PlacedHop → ℕ) → summed what (take limit pieces) (take limit often)
          ≡ summed what (take (limit + 1) pieces) (take (limit + 1) often)
      kept what =
          omega (
            arith,
            summed_next pieces often each limit one here what,
            ap (λ (n : ℕ). slice_index often limit * n) (own_nothing what one none),
            mul-zero (slice_index often limit),
          )

  pub waited_more : (one : Placed) → slice_get pieces limit ≡ Some (piece.Hop one)
      → (waited new : Waited) (spent : Spent) → waited ≡ before
      → spent.instruction ≡ waits_instruction times (seen_placed one)
      → spent.operand ≡ waits_data times (seen_placed one) → spent.cards ≡ waits_cards times (seen_placed one)
      → new.instruction ≡ waited.instruction + slice_index often limit * spent.instruction
      → new.operand ≡ waited.operand + slice_index often limit * spent.operand
      → new.cards ≡ waited.cards + slice_index often limit * spent.cards → new ≡ after
  waited_more one here waited new spent is p q r instruction operand cards =
      same_waited new after
      (more (waits_instruction times) new.instruction waited.instruction spent.instruction instruction
      (ap (λ (w : Waited). w.instruction) is) p)
      (more (waits_data times) new.operand waited.operand spent.operand operand (ap (λ (w : Waited). w.operand) is) q)
      (more (waits_cards times) new.cards waited.cards spent.cards cards (ap (λ (w : Waited). w.cards) is) r)
    where
      more : (what : PlacedHop → ℕ) (now so_far alone : ℕ) → now ≡ so_far + slice_index often limit * alone
          → so_far ≡ summed what (take limit pieces) (take limit often) → alone ≡ what (seen_placed one)
          → now ≡ summed what (take (limit + 1) pieces) (take (limit + 1) often)
      more what now so_far alone sum was its =
          omega (
            arith,
            sum,
            was,
            ap (λ (n : ℕ). slice_index often limit * n) its,
            summed_next pieces often each limit (piece.Hop one) here what,
          )

-- what the pieces' hops wait is what the visits do
pub waited_all : (times : Op → Entry) (angle : ℕ) (visits : List Visited) (hops : List PlacedHop)
    (pieces : List Piece) (often : List ℕ) → ((what : PlacedHop → ℕ) → sum_by what hops ≡ summed what pieces often)
    → AreLaid times angle 0 visits hops → waited_over times pieces often ≡ waited_of times angle visits
waited_all times angle visits hops pieces often adds laid =
    same_waited (waited_over times pieces often) (waited_of times angle visits)
    (sym (adds (waits_instruction times)) ∙ sym (all_laid times angle (for_instruction times angle)
    (waits_instruction times) (λ at visit one it. same_instruction times angle at visit one it) 0 visits hops laid))
    (sym (adds (waits_data times)) ∙ sym (all_laid times angle (for_data times angle) (waits_data times)
    (λ at visit one it. same_data times angle at visit one it) 0 visits hops laid))
    (sym (adds (waits_cards times)) ∙ sym (all_laid times angle (for_cards times) (waits_cards times)
    (λ at visit one it. same_cards times angle at visit one it) 0 visits hops laid))
