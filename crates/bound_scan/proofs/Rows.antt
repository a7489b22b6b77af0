-- The table that a finished scan holds: a row of each key that something is kept at.
use Rattle.std.proofs.Common.{◌≡◌, ℕ, ◌-◌, ◌<◌, ◌≤◌, List, [], refl, ap, sym, ◌∙◌}
use Rattle.std.proofs.Common.{subst, Option, Some, arith}
use Rattle.std.specs.Prelude.{Contains}
use Rattle.base_notes.specs.declared.notes.mark.Mark.{Mark}
use Rattle.machine_steps.proofs.Returning.{none_to_keep}
use Rattle.base_graphs.specs.Graph.{AreDifferent}
use Rattle.flow_graph.specs.Walk.{Setting, edges_taken}
use Rattle.bound_scan.specs.declared.latest.Latest.{Latest}
use Rattle.bound_scan.proofs.DigitsLaws.{number_injective}
use Rattle.bound_scan.specs.Keys.{keys_of, place_at, counts_at, IsOrdered}
use Rattle.bound_scan.proofs.KeyLaws.{counts_within, one_key}
use Rattle.bound_scan.proofs.Raises.{kept_inside}
use Rattle.bound_scan.specs.RowOf.{row_of}
use Rattle.bound_scan.specs.Scanned.{cell_at, Scanned}
use Rattle.bound_scan.specs.Table.{start_angle, number_of, IsReached, Row, IsRow, AreApart, IsTable}
use Rattle.bound_scan.proofs.Unpassed.{no_later_arrival}
use Rattle.bound_scan.proofs.Walked.{not_before, comes_from_start}

-- a row is that of one of the first keys
pub record IsRowOf (g : Setting) (order : List ℕ) (cells : List (Option Latest)) (first : ℕ) (row : Row) : Type 0 where
  pub key : ℕ
  pub below : key < first
  pub kept : Latest
  pub there : cell_at cells key ≡ Some kept
  pub is : row_of g order key kept ≡ row

-- Rows are those of the first keys: each is of a key at which something is kept, each of these keys has its own, and no
-- two are for one location and counts.
pub record AreRowsOf (g : Setting) (order : List ℕ) (cells : List (Option Latest)) (first : ℕ) (rows : List Row) : Type 0
  where
    pub from : (row : Row) → Contains rows row → IsRowOf g order cells first row
    pub has : (key : ℕ) (kept : Latest) → key < first → cell_at cells key ≡ Some kept
        → Contains rows (row_of g order key kept)
    pub apart : AreApart rows

module _ (g : Setting) (order : List ℕ) (cells : List (Option Latest)) where
  -- Keys of one location and one number of counts are one.
  pub one_row : (a b : ℕ) → AreDifferent order → a < keys_of g.notes.marks order → b < keys_of g.notes.marks order
      → place_at order a ≡ place_at order b
      → number_of g.notes.marks (counts_at g.notes.marks order a)
      ≡ number_of g.notes.marks (counts_at g.notes.marks order b) → a ≡ b
  one_row a b different below before places numbers =
      let marks : List Mark = g.notes.marks in
      let counts : counts_at marks order a ≡ counts_at marks order b =
      number_injective marks (counts_at marks order a) (counts_at marks order b) (counts_within marks order a below)
      (counts_within marks order b before) numbers in
      one_key marks order (place_at order b) (counts_at marks order b) a b different
      (record { below = below; at = places; passed = counts }) (record { below = before; at = refl; passed = refl })

module _ (g : Setting) (order : List ℕ) (cells : List (Option Latest)) (last : Latest)
    (ordered : IsOrdered g.loads g.notes g.start order) (starts : g.start < 2000)
    (s : Scanned g order (keys_of g.notes.marks order) (keys_of g.notes.marks order) cells last) where
  -- what is kept at one key is one
  pub one_kept : (a b : ℕ) (p q : Latest) → a ≡ b → cell_at cells a ≡ Some p → cell_at cells b ≡ Some q
      → p.clock ≡ q.clock
  one_kept a b p q same there here =
      let at : cell_at cells b ≡ Some p = subst (λ (k : ℕ). cell_at cells k ≡ Some p) same there in
      go (sym at ∙ here)
    where
      go : Some p ≡ Some q → p.clock ≡ q.clock
      go e =
          let eq : p ≡ q = cc in
          ap (λ (kept : Latest). kept.clock) eq

  -- something is kept at keys alone
  pub is_inside : (key : ℕ) (kept : Latest) → cell_at cells key ≡ Some kept → key < keys_of g.notes.marks order
  is_inside key kept there = omega (arith, kept_inside cells key kept there, s.size)

  -- the row of a key is reached, by a walk from the angle behind the start's
  row_reached : (key : ℕ) (kept : Latest) → cell_at cells key ≡ Some kept
      → IsReached g (start_angle g.start) (place_at order key)
      (number_of g.notes.marks (counts_at g.notes.marks order key)) (kept.clock - start_angle g.start)
  row_reached key kept there =
      let comes = comes_from_start g order cells last ordered starts s key kept there [] tt in
      record {
        hops = comes.0;
        walk = record {
          on_drum = omega arith;
          from_start = comes.1;
          back = none_to_keep g.notes.calls _ (edges_taken comes.0) ordered.plain;
        };
        passes = counts_at g.notes.marks order key;
        number = refl;
        arrives = comes.3 (place_at order key) (kept.clock - start_angle g.start) (counts_at g.notes.marks order key)
            (refl, refl, refl);
      }

  -- and by none later
  row_most : (key : ℕ) (kept : Latest) → cell_at cells key ≡ Some kept → (angle time : ℕ)
      → IsReached g angle (place_at order key) (number_of g.notes.marks (counts_at g.notes.marks order key)) time
      → time ≤ kept.clock - start_angle g.start
  row_most key kept there angle time reached =
      let came = no_later_arrival g order cells last ordered starts s angle reached.hops (place_at order key) time
      reached.passes reached.walk reached.arrives in
      let same : came.key ≡ key =
      one_row g order cells came.key key ordered.different came.is.below (is_inside key kept there) came.is.at
      (ap (number_of g.notes.marks) came.is.passed ∙ reached.number) in
      omega (arith, came.after, one_kept came.key key came.kept kept same came.there there)

  -- each row is right
  row_right : (row : Row) → IsRowOf g order cells (keys_of g.notes.marks order) row → IsRow g row
  row_right row of =
      let right : IsRow g (row_of g order of.key of.kept) = record {
        reached = row_reached of.key of.kept of.there;
        most = row_most of.key of.kept of.there;
        angled = omega (arith, not_before g order cells last ordered starts s of.key of.kept of.there);
      } in
      subst (IsRow g) of.is right

  -- The rows of the keys are the table.
  pub is_table : (rows : List Row) → AreRowsOf g order cells (keys_of g.notes.marks order) rows → IsTable g rows
  is_table rows are = record {
    right = λ row has. row_right row (are.from row has);
    all = λ angle place counts time reached.
        let came = no_later_arrival g order cells last ordered starts s angle reached.hops place time reached.passes
        reached.walk reached.arrives in (
          row_of g order came.key came.kept,
          are.has came.key came.kept came.is.below came.there,
          came.is.at,
          ap (number_of g.notes.marks) came.is.passed ∙ reached.number,
        );
    apart = are.apart;
  }
