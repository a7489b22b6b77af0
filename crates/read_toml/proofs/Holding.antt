-- A table without a fault says a pattern, a list, a call.
use Rattle.std.proofs.Common.{◌≡◌, ℕ, ◌+◌, ◌-◌, Bool, true, false, List, [], ◌∷◌, take}
use Rattle.std.proofs.Common.{Option, Some, refl, ap, sym, ◌∙◌, subst, arith}
use Rattle.std.specs.Prelude.{codes, not}
use Rattle.base_words.specs.declared.location.Location.{Location}
use Rattle.base_notes.specs.declared.notes.call.Call.{Call}
use Rattle.read_toml.specs.Calls.{IsCall, Opening, call_checks, call_faults, call_keys, exit_faults, is_opened, opening_from}
use Rattle.read_toml.specs.Calls.{opening_in, openings_in}
use Rattle.base_notes.specs.EdgeOf.{edge_of}
use Rattle.read_toml.specs.Document.{number_at, locations_at}
use Rattle.read_toml.specs.Elements.{HoldsCall, HoldsList, HoldsPattern}
use Rattle.read_toml.specs.NotesDocument as said
use Rattle.read_toml.proofs.Elements.{said_each, said_length, tables_hold, tables_some}
use Rattle.read_toml.proofs.Faultless.{LocationAt, each_none, location_also, location_within, number_within, value_there}
use Rattle.toml.specs.Data.{Members}

pub pattern_holds : (place : ℕ) (at : List ℕ) (fields : Members) → said.pattern_faults (place + 1) at fields ≡ []
    → HoldsPattern fields
pattern_holds place at fields none =
    let each = each_none (said.pattern_checks at fields) none in
    let op = number_within 0 99 at said.pattern_keys (codes "op") fields each.1.0 refl each.1.1.0 in
    let to = number_within (number_at (codes "d_from") fields) 9999 at said.pattern_keys (codes "d_to") fields each.1.0
    refl each.1.1.1.1.0 in
    let i = number_within 0 9999 at said.pattern_keys (codes "i") fields each.1.0 refl each.1.1.1.1.1.0 in (
      record {
        op = number_at (codes "op") fields;
        d_from = number_at (codes "d_from") fields;
        d_to = number_at (codes "d_to") fields;
        i = number_at (codes "i") fields;
        two = omega (arith, op.1);
        ordered = to.0;
        four = omega (arith, to.1);
        next_four = omega (arith, i.1);
      },
      record { op = refl; d_from = refl; d_to = refl; i = refl },
    )

-- a list says its location, and some patterns
pub list_place : (place : ℕ) (at : List ℕ) (fields : Members) → said.list_faults (place + 1) at fields ≡ []
    → LocationAt (codes "location") fields
list_place place at fields none =
    let each = each_none (said.list_checks at fields) none in
    location_within at said.list_keys (codes "location") fields each.1.0 refl each.1.1.0

pub list_holds : (place : ℕ) (at : List ℕ) (fields : Members) → said.list_faults (place + 1) at fields ≡ []
    → HoldsList fields
list_holds place at fields none =
    let each = each_none (said.list_checks at fields) none in
    let has = value_there at said.list_keys fields (codes "pattern") each.1.0 refl in
    let count = tables_some 1 64 said.pattern_faults at (codes "pattern") fields has.0 has.1 each.1.1.1.0 in
    let all = tables_hold 1 (Some 64) said.pattern_faults (λ _. HoldsPattern) pattern_holds at (codes "pattern") fields
    each.1.1.1.0 in
    let patterns = said_each (λ _. said.IsPattern) 0 (said.tables_at (codes "pattern") fields) all in
    let many = said_length (λ _. said.IsPattern) 0 (said.tables_at (codes "pattern") fields) patterns.0 patterns.1 in
    record {
      list = record { location = number_at (codes "location") fields; patterns = patterns.0 };
      says = record { location = refl; patterns = patterns.1 };
      place = (list_place place at fields none).exists;
      some = omega (arith, many, count.0);
      few = omega (arith, many, count.1);
    }

-- what a call opens
abbrev pub opening_of : Call → Opening
opening_of call = record { edge = edge_of call.edge; exit = call.exit.number }

-- A call says its locations, and opens what no earlier one opens.
pub record CallAt (document : Members) (place : ℕ) (fields : Members) : Type 0 where
  pub from : LocationAt (codes "from") fields
  pub onto : LocationAt (codes "to") fields
  pub exit : LocationAt (codes "exit") fields
  pub back : LocationAt (codes "back") fields
  pub new : is_opened (take place (openings_in document)) (opening_in fields) ≡ false

not_true : (b : Bool) → not b ≡ true → b ≡ false
not_true true is = cc
not_true false is = refl

pub call_at : (document : Members) (place : ℕ) (at : List ℕ) (fields : Members)
    → call_faults document (place + 1) at fields ≡ [] → CallAt document place fields
call_at document place at fields none =
    let each = each_none (call_checks document (place + 1) at fields) none in
    let earlier : place + 1 - 1 ≡ place = omega arith in
    let openings : List (Option Opening) = take place (openings_in document) in
    let exit = location_also (λ _. not (is_opened openings (opening_in fields))) at call_keys (codes "exit") fields each.1.0
    refl (subst (λ (n : ℕ). exit_faults (take n (openings_in document)) at (codes "exit") fields ≡ []) earlier
    each.1.1.1.1.0) in
    record {
      from = location_within at call_keys (codes "from") fields each.1.0 refl each.1.1.0;
      onto = location_within at call_keys (codes "to") fields each.1.0 refl each.1.1.1.0;
      exit = exit.0;
      back = location_within at call_keys (codes "back") fields each.1.0 refl each.1.1.1.1.1.0;
      new = not_true (is_opened openings (opening_in fields)) exit.1;
    }

abbrev place_at : (key : List ℕ) (fields : Members) → LocationAt key fields → Location
place_at key fields at = record { number = number_at key fields; exists = at.exists }

pub call_holds : (document : Members) (place : ℕ) (fields : Members) → CallAt document place fields → HoldsCall fields
call_holds document place fields call = (
  record {
    edge = record { from = place_at (codes "from") fields call.from; onto = place_at (codes "to") fields call.onto };
    exit = place_at (codes "exit") fields call.exit;
    back = place_at (codes "back") fields call.back;
  },
  record { from = refl; onto = refl; exit = refl; back = refl },
)

-- the table of a call says what it opens
pub opening_is : (document : Members) (place : ℕ) (fields : Members) (call : Call) → CallAt document place fields
    → IsCall fields call → opening_in fields ≡ Some (opening_of call)
opening_is document place fields call at is =
    ap (λ (xs : List ℕ). opening_from xs (locations_at (codes "to") fields) (locations_at (codes "exit") fields))
    (at.from.alone ∙ ap (λ (n : ℕ). let ns : List ℕ = n ∷ [] in ns) (sym is.from))
    ∙ ap (λ (xs : List ℕ). opening_from (call.edge.from.number ∷ []) xs (locations_at (codes "exit") fields))
    (at.onto.alone ∙ ap (λ (n : ℕ). let ns : List ℕ = n ∷ [] in ns) (sym is.onto))
    ∙ ap (λ (xs : List ℕ). opening_from (call.edge.from.number ∷ []) (call.edge.onto.number ∷ []) xs)
    (at.exit.alone ∙ ap (λ (n : ℕ). let ns : List ℕ = n ∷ [] in ns) (sym is.exit))
