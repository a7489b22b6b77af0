-- What short notes say is what they say as long notes, and the other way round.
use Rattle.std.proofs.Common.{◌≡◌, ℕ, ◌+◌, ◌-◌, ◌≤◌, List, [], ◌∷◌, Option, Some, None, refl, ap, sym, ◌∙◌, subst, inl, inr}
use Rattle.std.proofs.Common.{◌⊎◌, arith, add-one}
use Rattle.std.specs.Prelude.{codes, pos}
use Rattle.base_notes.specs.declared.notes.call.Call.{Call}
use Rattle.base_notes.specs.declared.notes.mark.Mark.{Mark}
use Rattle.base_notes.specs.Allowed.{Notes}
use Rattle.read_toml.specs.declared.notes.read.NotesRead.{NotesRead}
use Rattle.read_toml.specs.declared.notes.read.NotesRead.TheVariants.{Short, Long}
use Rattle.read_toml.specs.Calls.{IsCall}
use Rattle.read_toml.specs.Document.{number_at, number_in, whole}
use Rattle.read_toml.specs.Elements.{Each}
use Rattle.read_toml.specs.LongMarks.{IsMark, StandsIn, edges_said, name_in, names_in, text_in}
use Rattle.read_toml.specs.LongNotes.{IsLongNotes}
use Rattle.read_toml.specs.NotesDocument as said
use Rattle.read_toml.specs.Says.{IsNotesOf, faults_of}
use Rattle.read_toml.specs.ShortNotes as short
use Rattle.read_toml.proofs.Elements.{found_items, tables_hold}
use Rattle.read_toml.proofs.Faultless.{each_none, nothing_at, number_at_is, whole_there}
use Rattle.read_toml.proofs.NotesThere.{one_edge, short_checks, short_too}
use Rattle.toml.specs.Data.{Data, string, integer, Members, get_member}

-- What is so of the table of a mark of short notes without a fault.
record IsPlain (place : ℕ) (fields : Members) : Type 0 where
  edges : (let edges : List (ℕ × ℕ) = short.edge_in fields ∷ [] in edges_said fields ≡ edges)
  name : name_in (Some fields) ≡ None
  inside : (get_member (codes "inside") fields ≡ None)
      ⊎ ((n : ℕ) × (get_member (codes "inside") fields ≡ Some (integer (pos n))) × (1 ≤ n) × (n ≤ place))

plain : (place : ℕ) (at : List ℕ) (fields : Members) → short.mark_faults (place + 1) at fields ≡ [] → IsPlain place fields
plain place at fields none =
    let each = each_none (short.mark_checks (place + 1) at fields) none in
    record {
      edges = one_edge place at fields none;
      name = ap text_in (nothing_at at short.mark_keys (codes "name") fields refl each.0);
      inside = go (get_member (codes "inside") fields) refl each.1.1.1.1.1.0;
    }
  where
    go : (found : Option Data) → get_member (codes "inside") fields ≡ found
        → whole 1 (place + 1 - 1) at (codes "inside") fields ≡ []
        → (get_member (codes "inside") fields ≡ None)
        ⊎ ((n : ℕ) × (get_member (codes "inside") fields ≡ Some (integer (pos n))) × (1 ≤ n) × (n ≤ place))
    go None e fine = inl e
    go (Some value) e fine =
        let outer = whole_there 1 (place + 1 - 1) at (codes "inside") fields value e fine in
        inr (outer.0, outer.1, outer.2, omega (arith, outer.3))

-- the outer mark by its number
none_inside : (fields : Members) → get_member (codes "inside") fields ≡ None → number_at (codes "inside") fields ≡ 0
none_inside fields lacks = ap (λ (found : Option Data). elim found [ None ↦ 0 | Some value ↦ number_in value ]) lacks

inside_short : (names : List (Option (List ℕ))) (place : ℕ) (fields : Members) (inside : Option ℕ) → IsPlain place fields
    → StandsIn names place fields inside → inside ≡ short.index_of (number_at (codes "inside") fields)
inside_short names place fields None is lacks = sym (ap short.index_of (none_inside fields lacks))
inside_short names place fields (Some outer) is (value, at, outer_is, below) = elim (is.inside) [
  | inl lacks ↦ let no : None ≡ Some value = sym lacks ∙ at in cc
  | inr (n, has, low, high) ↦
      let same : Some (integer (pos n)) ≡ Some value = sym has ∙ at in
      elim outer_is [
        | inl number ↦
            let both : Some (integer (pos n)) ≡ Some (integer (pos (outer + 1))) = same ∙ ap Some number in
            let count : n ≡ outer + 1 = cc in
            sym (ap short.index_of (number_at_is (codes "inside") fields n has ∙ count ∙ add-one outer))
        | inr (name, named, stands) ↦
            let both : Some (integer (pos n)) ≡ Some (string name) = same ∙ ap Some named in cc
      ]
]

inside_long : (names : List (Option (List ℕ))) (place : ℕ) (fields : Members) (inside : Option ℕ) → IsPlain place fields
    → inside ≡ short.index_of (number_at (codes "inside") fields) → StandsIn names place fields inside
inside_long names place fields inside is same = elim (is.inside) [
  | inl lacks ↦
      subst (StandsIn names place fields) (sym (same ∙ ap short.index_of (none_inside fields lacks))) lacks
  | inr (n, has, low, high) ↦
      let count : n ≡ n - 1 + 1 = omega (arith, low) in
      let at : inside ≡ Some (n - 1) =
      same ∙ ap short.index_of (number_at_is (codes "inside") fields n has ∙ count ∙ add-one (n - 1)) in
      subst (StandsIn names place fields) (sym at)
      (integer (pos n), has, inl (ap (λ (k : ℕ). integer (pos k)) count), omega (arith, low, high))
]

mark_short : (D : Members) (place : ℕ) (fields : Members) (mark : Mark) → IsPlain place fields → IsMark D place fields mark
    → short.IsMark fields mark
mark_short D place fields mark plain is =
    let edge : ℕ × ℕ = (mark.from.number, mark.onto.number) in
    let same : edge ∷ mark.others ≡ short.edge_in fields ∷ [] = is.edges ∙ plain.edges in
    let first : edge ≡ short.edge_in fields = cc in
    record {
      from = ap (λ (e : ℕ × ℕ). e.0) first;
      onto = ap (λ (e : ℕ × ℕ). e.1) first;
      others = cc;
      most = is.most;
      inside = inside_short (names_in D) place fields mark.inside plain is.inside;
      name = is.name ∙ plain.name;
    }

mark_long : (D : Members) (place : ℕ) (fields : Members) (mark : Mark) → IsPlain place fields → short.IsMark fields mark
    → IsMark D place fields mark
mark_long D place fields mark plain is = record {
  edges = ap (λ (n : ℕ). let es : List (ℕ × ℕ) = (n, mark.onto.number) ∷ mark.others in es) is.from
      ∙ ap (λ (n : ℕ). let es : List (ℕ × ℕ) = (number_at (codes "from") fields, n) ∷ mark.others in es) is.onto
      ∙ ap (λ (others : List (ℕ × ℕ)). short.edge_in fields ∷ others) is.others ∙ sym plain.edges;
  most = is.most;
  inside = inside_long (names_in D) place fields mark.inside plain is.inside;
  name = is.name ∙ sym plain.name;
}

module _ (D : Members) where
  marks_short : (place : ℕ) (tables : List Members) (marks : List Mark) → Each IsPlain place tables
      → said.AreSaid (IsMark D) place tables marks
      → said.AreSaid (λ index fields mark. short.IsMark fields mark) place tables marks
  marks_short place [] [] each are = tt
  marks_short place [] (mark ∷ marks) each are = absurd are
  marks_short place (fields ∷ tables) [] each are = absurd are
  marks_short place (fields ∷ tables) (mark ∷ marks) each are =
      (mark_short D place fields mark each.0 are.0, marks_short (place + 1) tables marks each.1 are.1)

  marks_long : (place : ℕ) (tables : List Members) (marks : List Mark) → Each IsPlain place tables
      → said.AreSaid (λ index fields mark. short.IsMark fields mark) place tables marks
      → said.AreSaid (IsMark D) place tables marks
  marks_long place [] [] each are = tt
  marks_long place [] (mark ∷ marks) each are = absurd are
  marks_long place (fields ∷ tables) [] each are = absurd are
  marks_long place (fields ∷ tables) (mark ∷ marks) each are =
      (mark_long D place fields mark each.0 are.0, marks_long (place + 1) tables marks each.1 are.1)

no_calls : (D : Members) → get_member (codes "call") D ≡ None → said.tables_at (codes "call") D ≡ []
no_calls D lacks = ap (λ (found : Option Data). said.tables_of (found_items found)) lacks

nothing_said : (tables : List Members) (calls : List Call) → tables ≡ []
    → said.AreSaid (λ index fields call. IsCall fields call) 0 tables calls → calls ≡ []
nothing_said tables [] none are = refl
nothing_said [] (call ∷ calls) none are = absurd are
nothing_said (fields ∷ tables) (call ∷ calls) none are = cc

all_plain : (D : Members) → short.notes_faults D ≡ [] → Each IsPlain 0 (said.tables_at (codes "mark") D)
all_plain D none =
    tables_hold 0 (Some 8) short.mark_faults IsPlain plain [] (codes "mark") D (each_none (short_checks D) none).1.1.1.1.0

without_calls : (D : Members) → short.notes_faults D ≡ [] → said.tables_at (codes "call") D ≡ []
without_calls D none =
    no_calls D (nothing_at [] short.note_keys (codes "call") D refl (each_none (short_checks D) none).0)

pub short_says : (D : Members) (notes : Notes) → short.notes_faults D ≡ [] → IsLongNotes D notes → short.IsNotes D notes
short_says D notes none is = record {
  faultless = none;
  marks = marks_short D 0 (said.tables_at (codes "mark") D) notes.marks (all_plain D none) is.marks;
  calls = nothing_said (said.tables_at (codes "call") D) notes.calls (without_calls D none) is.calls;
  rest = is.rest;
}

pub long_says : (D : Members) (notes : Notes) → short.IsNotes D notes → IsLongNotes D notes
long_says D notes is = record {
  faultless = short_too D is.faultless;
  marks = marks_long D 0 (said.tables_at (codes "mark") D) notes.marks (all_plain D is.faultless) is.marks;
  calls = subst (λ (tables : List Members). said.AreSaid (λ index fields call. IsCall fields call) 0 tables notes.calls)
      (sym (without_calls D is.faultless))
      (subst (λ (calls : List Call). said.AreSaid (λ index fields call. IsCall fields call) 0 [] calls) (sym is.calls) tt);
  rest = is.rest;
}

-- whichever notes are read
pub says_of : (read : NotesRead) (D : Members) (notes : Notes) → faults_of read D ≡ [] → IsLongNotes D notes
    → IsNotesOf read D notes
says_of Short D notes none is = short_says D notes none is
says_of Long D notes none is = is
