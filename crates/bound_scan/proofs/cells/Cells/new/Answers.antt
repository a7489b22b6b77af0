-- Of Cells::new: the start's entry is the only one, and its round the only one that is noted to
-- keep something.
use Rattle.std.proofs.Common.{rules, ◌≡◌, ℕ, zero, suc, ◌*◌, ◌/◌, ◌<◌, true, false, List, [], ◌∷◌, length, set, replicate, ap, sym}
use Rattle.std.proofs.Common.{◌∙◌, inl, inr, Bool, None, subst, arith}
use Rattle.std.specs.Prelude.{slice_get, Contains}
use Rattle.std.proofs.lemmas.List.{length-replicate, length-set}
use Rattle.std.proofs.lemmas.Nat.{div_below}
use Rattle.base_graphs.proofs.Lists.{contains_cases, contains_none, get_written}
use Rattle.bound_scan.specs.declared.worst.Worst.{Worst}
use Rattle.base_words.specs.declared.location.Location.{Location}
use Rattle.bound_scan.specs.InEntries.{pairs_of}
use Rattle.bound_scan.proofs.InCellsLaws.{first_is}
use Rattle.bound_scan.proofs.cells.Cells.new.Goals as goal

-- the one entry is the start's
first_pair : (pairs : List (ℕ × Worst)) (start key : ℕ) (first entry : Worst) → pairs ≡ (start, first) ∷ []
    → Contains pairs (key, entry) → ◌≡◌ {A = ℕ × Worst} (start, first) (key, entry)
first_pair pairs start key first entry is there =
    elim (contains_cases (start, first) (key, entry) []
    (subst (λ (all : List (ℕ × Worst)). Contains all (key, entry)) is there)) [
      | inl same ↦ same
      | inr none ↦ absurd (contains_none (key, entry) none)
    ]

first_key : (pairs : List (ℕ × Worst)) (start key : ℕ) (first entry : Worst) → pairs ≡ (start, first) ∷ []
    → Contains pairs (key, entry) → start ≡ key
first_key pairs start key first entry is there =
    ap (λ (pair : ℕ × Worst). pair.0) (first_pair pairs start key first entry is there)

-- its round is one of the rounds
first_round : (start words counts : ℕ) → start < counts * words → start / words < counts
first_round start zero counts below = absurd (omega (arith, below))
first_round start (suc words) counts below = div_below start (suc words) counts (omega arith) below

pub returns-clause-held : goal.returns-clause-held
returns-clause-held c =
    let start = c.args.start_key in
    let words = c.args.words in
    let rounds : c.in_ok-rounds.rounds.items ≡ replicate c.args.counts false =
    c.in_ok-rounds.ensures.items_if_clones_equal (λ y h. search rules) in
    let long : length c.in_ok-rounds.rounds.items ≡ c.args.counts =
    ap (λ (all : List Bool). length all) rounds ∙ length-replicate c.args.counts false in
    record {
      kept = c.in_ok-entries.ensures.kept;
      rounds = length-set c.in_ok-rounds.rounds.items (start / words) true ∙ long;
      noted = λ key entry there.
          let same : start ≡ key =
          first_key (pairs_of c.in_ok-entries.entries) start key c.in_ok-entries.ensures.entry.0 entry
          c.in_ok-entries.ensures.entry.1 there in (
            omega (arith, same, c.requires.there),
            ap (λ (k : ℕ). slice_get (set c.in_ok-rounds.rounds.items (start / words) true) (k / words)) (sym same)
                ∙ get_written c.in_ok-rounds.rounds.items (start / words) true
                (omega (arith, long, first_round start words c.args.counts c.requires.there)),
          );
      few = c.requires.few;
    }

pub returns-clause-kept : goal.returns-clause-kept
returns-clause-kept c =
    first_is c.in_ok-entries.entries (c.args.counts * c.args.words) c.args.start_key
    (record { clock = c.args.angle; origin = None }) c.requires.there c.in_ok-entries.ensures.start
    c.in_ok-entries.ensures.others

pub returns-clause-entries : goal.returns-clause-entries
returns-clause-entries c = λ place_of counts_of at counted key entry there.
    let first = c.in_ok-entries.ensures.entry in
    let same =
    first_pair (pairs_of c.in_ok-entries.entries) c.args.start_key key first.0 entry first.1 there in
    let own : c.args.start_key ≡ key = ap (λ (pair : ℕ × Worst). pair.0) same in (
      sym (ap (λ (pair : ℕ × Worst). pair.1.place.number) same) ∙ ap (λ (l : Location). l.number) first.2.place ∙ at
          ∙ ap place_of own,
      sym (ap (λ (pair : ℕ × Worst). pair.1.counts) same) ∙ first.2.counts ∙ counted ∙ ap counts_of own,
    )
