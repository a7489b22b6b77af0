-- What is known of a scan that hasn't begun.
use Rattle.std.proofs.Common.{◌≡◌, ℕ, ◌<◌, List, set, replicate, ap, sym, ◌∙◌, subst, inl, inr, Option, Some, None}
use Rattle.std.proofs.Common.{arith}
use Rattle.std.proofs.lemmas.Bool.{cases_eq, cases_lt}
use Rattle.std.proofs.lemmas.List.{get_or-set_other, get_or-set_same, get_or-replicate, get_or_past, length-set}
use Rattle.std.proofs.lemmas.List.{length-replicate}
use Rattle.machine_steps.specs.Counts.{no_counts}
use Rattle.flow_graph.specs.Walk.{Setting}
use Rattle.bound_scan.specs.declared.latest.Latest.{Latest}
use Rattle.bound_scan.specs.Keys.{keys_of, IsKey}
use Rattle.bound_scan.specs.Scanned.{cell_at, IsBackedBy, IsLastBy, Scanned}
use Rattle.bound_scan.specs.Table.{start_angle}

-- the moment of the start is kept at one key alone
only_start : (size first : ℕ) (start : Latest) (key : ℕ) (kept : Latest) → first < size
    → cell_at (set (replicate size None) first (Some start)) key ≡ Some kept
    → (key ≡ first) × (kept ≡ start)
only_start size first start key kept inside e = elim (cases_eq key first) [
  | inl same ↦ (
      let there : cell_at (set (replicate size None) first (Some start)) first ≡ Some kept =
      subst (λ (k : ℕ). cell_at (set (replicate size None) first (Some start)) k ≡ Some kept) same e in
      let is : Some start ≡ Some kept =
      sym (get_or-set_same (replicate size None) first (Some start) None
      (omega (arith, inside, length-replicate {A = Option Latest} size None))) ∙ there in
      let eq : kept ≡ start = cc in
      (same, eq))
  | inr ne ↦ (
      let other : cell_at (set (replicate size None) first (Some start)) key ≡ cell_at (replicate size None) key =
      get_or-set_other (replicate size None) first key (Some start) None ne in
      let clash : None ≡ Some kept = sym (none_there size key) ∙ sym other ∙ e in
      absurd (nothing clash))
]
  where
    nothing : None ≡ Some kept → ⊥
    nothing h = cc

    none_there : (n k : ℕ) → cell_at (replicate n None) k ≡ None
    none_there n k = elim (cases_lt k n) [
      | inl inside ↦ get_or-replicate n k None None inside
      | inr past ↦ get_or_past (replicate n None) k None
          (omega (arith, past, length-replicate {A = Option Latest} n None))
    ]

pub begun : (g : Setting) (order : List ℕ) (first : ℕ) (start : Latest)
    → IsKey g.notes.marks order first g.start (no_counts g.notes.marks) → start.clock ≡ start_angle g.start
    → start.origin ≡ None
    → Scanned g order 0 0 (set (replicate (keys_of g.notes.marks order) None) first (Some start)) start
begun g order first start is clock origin =
    let size = keys_of g.notes.marks order in
    let cells : List (Option Latest) = set (replicate size None) first (Some start) in
    let there : cell_at cells first ≡ Some start =
    get_or-set_same (replicate size None) first (Some start) None
    (omega (arith, is.below, length-replicate {A = Option Latest} size None)) in
    record {
      size = length-set (replicate size None) first (Some start) ∙ length-replicate {A = Option Latest} size None;
      begins = record { key = first; is = is; kept = start; there = there; after = omega (arith, clock) };
      backed = λ key kept e.
          let one = only_start size first start key kept is.below e in
          subst (λ (k : ℕ). IsBackedBy g order 0 cells k kept.clock kept.origin) (sym one.0)
          (subst (λ (l : Latest). IsBackedBy g order 0 cells first l.clock l.origin) (sym one.1)
          (subst (IsBackedBy g order 0 cells first start.clock) (sym origin) (is, clock)));
      took = λ key kept hop below e has. absurd (omega (arith, below));
      ends = subst (IsLastBy g order 0 cells start.clock) (sym origin) clock;
      below = λ key kept e.
          let one = only_start size first start key kept is.below e in
          omega (arith, ap (λ (l : Latest). l.clock) one.1);
      near = λ key kept e.
          let one = only_start size first start key kept is.below e in
          omega (arith, ap (λ (l : Latest). l.clock) one.1, clock);
      last_near = omega (arith, clock);
    }
