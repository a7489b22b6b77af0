-- The table of a mark of long notes without a fault says a mark.
use Rattle.std.proofs.Common.{◌≡◌, ℕ, zero, suc, ◌+◌, ◌-◌, ◌<◌, ◌≤◌, Bool, true, false, ◌||◌, ◌&&◌, cond, List, [], ◌∷◌, ◌++◌}
use Rattle.std.proofs.Common.{length, take, Option, Some, None, is_some, refl, ap, sym, ◌∙◌, subst, inl, inr, arith}
use Rattle.std.proofs.Math.Nat.{le_refl}
use Rattle.std.proofs.lemmas.Bool.{and_parts, leb-true}
use Rattle.std.specs.List.{AllByRecursion}
use Rattle.std.specs.Prelude.{IfSome, IsTrue, codes, decimal, nat_le, not, pos, slice_get}
use Rattle.base_words.specs.Location.{IsLocation, is_location}
use Rattle.base_notes.specs.declared.notes.mark.Mark.{Mark}
use Rattle.base_notes.specs.Marks.{edges_of}
use Rattle.base_notes.specs.Names.{is_name}
use Rattle.read_toml.specs.Document.{range, at_key, count_of, is_count, is_one_of, items_in, missing_in, number_at, number_in}
use Rattle.read_toml.specs.Elements.{HoldsMark, IsOnLocations}
use Rattle.read_toml.specs.LongMarks.{StandsIn, edge_checks, edge_of_value, edge_value_faults, edges_by, edges_faults}
use Rattle.read_toml.specs.LongMarks.{edges_listed, edges_said, is_name_of, is_named, listed_edge_faults, lists_edges}
use Rattle.read_toml.specs.LongMarks.{long_mark_checks, long_mark_faults, name_faults, name_in, names_in, outer_faults}
use Rattle.read_toml.specs.LongMarks.{text_in, wanted_keys}
use Rattle.read_toml.proofs.Added.{key_some}
use Rattle.read_toml.proofs.Elements.{found_items}
use Rattle.read_toml.proofs.Faultless.{each_none, is_location_of, location_within, number_said, number_within, said_of}
use Rattle.read_toml.proofs.Naming.{is_that}
use Rattle.read_toml.proofs.Sequences.{none_before, none_behind}
use Rattle.toml.specs.Data.{Data, string, integer, float, boolean, datetime, array, table, Items, no_items, item}
use Rattle.toml.specs.Data.{Members, get_member}

-- a value without a fault is an edge between locations
end_on : (value : Data) → ((n : ℕ) × (value ≡ integer (pos n)) × (is_location n ≡ true))
    → IsLocation (number_in value)
end_on value (n, is, holds) = subst (λ (v : Data). IsLocation (number_in v)) (sym is) (is_location_of n holds)

edge_on : (path : List ℕ) (value : Data) → edge_value_faults path value ≡ [] → IsOnLocations (edge_of_value value)
edge_on path (array no_items) none = cc
edge_on path (array (item a no_items)) none = cc
edge_on path (array (item a (item b no_items))) none = (
  end_on a (number_said (path ++ codes ".1") is_location a (none_before _ _ none)),
  end_on b (number_said (path ++ codes ".2") is_location b (none_behind _ _ none)),
)
edge_on path (array (item a (item b (item c more)))) none = cc
edge_on path (string s) none = cc
edge_on path (integer z) none = cc
edge_on path (float x) none = cc
edge_on path (boolean b) none = cc
edge_on path (datetime d) none = cc
edge_on path (table fields) none = cc

listed_on : (path : List ℕ) (number : ℕ) (items : Items) → listed_edge_faults path number items ≡ []
    → AllByRecursion IsOnLocations (edges_listed items)
listed_on path number no_items none = tt
listed_on path number (item value items) none = (
  edge_on (path ++ codes "." ++ decimal number) value (none_before _ _ none),
  listed_on path (number + 1) items (none_behind _ _ none),
)

listed_count : (items : Items) → length (edges_listed items) ≡ count_of items
listed_count no_items = refl
listed_count (item value items) = ap suc (listed_count items)

-- the edges of a table, of which there is a first, are between locations
record EdgesOn (edges : List (ℕ × ℕ)) : Type 0 where
  ends : AllByRecursion IsOnLocations edges
  some : 1 ≤ length edges

array_on : (path : List ℕ) (value : Data) → edges_faults path value ≡ [] → EdgesOn (edges_listed (items_in value))
array_on path (array items) none = go (is_count 1 (Some 64) (count_of items)) refl none
  where
    go : (fits : Bool) → is_count 1 (Some 64) (count_of items) ≡ fits
        → cond fits (listed_edge_faults path 1 items) (range path ∷ []) ≡ [] → EdgesOn (edges_listed items)
    go true count fine =
        let both = and_parts (nat_le 1 (count_of items)) (nat_le (count_of items) 64) count in
        record {
          ends = listed_on path 1 items fine;
          some = omega (arith, listed_count items, leb-true 1 (count_of items) both.0);
        }
    go false count fine = cc
array_on path (string s) none = cc
array_on path (integer z) none = cc
array_on path (float x) none = cc
array_on path (boolean b) none = cc
array_on path (datetime d) none = cc
array_on path (table _) none = cc

edges_on : (listed : Bool) (at : List ℕ) (fields : Members) → listed ≡ lists_edges fields
    → missing_in at (wanted_keys listed) fields ≡ [] → edge_checks listed at fields ≡ []
    → EdgesOn (edges_by listed fields)
edges_on true at fields is there none = go (get_member (codes "edges") fields) refl is none
  where
    go : (found : Option Data) → get_member (codes "edges") fields ≡ found
        → true ≡ (is_some found && not (is_some (get_member (codes "from") fields)
        || is_some (get_member (codes "to") fields)))
        → said_of (edges_faults (at ++ codes "edges")) found ≡ [] → EdgesOn (edges_listed (found_items found))
    go None e lists fine = cc
    go (Some value) e lists fine = array_on (at ++ codes "edges") value fine
edges_on false at fields is there none =
    let keys : List (List ℕ) = codes "from" ∷ codes "to" ∷ codes "most" ∷ [] in
    let from = location_within at keys (codes "from") fields there refl (none_before _ _ none) in
    let onto = location_within at keys (codes "to") fields there refl (none_behind _ _ none) in
    let both : IsLocation (number_at (codes "from") fields) × IsLocation (number_at (codes "to") fields) =
    (from.exists, onto.exists) in
    record { ends = (both, tt); some = le_refl 1 }

most_among : (listed : Bool) → is_one_of (codes "most") (wanted_keys listed) ≡ true
most_among true = refl
most_among false = refl

-- a name that is one of the earlier ones is that of one of them
record NamedAt (names : List (Option (List ℕ))) (place : ℕ) (name : List ℕ) : Type 0 where
  pub outer : ℕ
  pub below : outer < place
  pub at : slice_get names outer ≡ Some (Some name)

named_at : (names : List (Option (List ℕ))) (place : ℕ) (name : List ℕ) → is_named (take place names) name ≡ true
    → NamedAt names place name
named_at names zero name named = cc
named_at [] (suc place) name named = cc
named_at (one ∷ names) (suc place) name named = go (is_name_of name one) refl named (named_at names place name)
  where
    go : (here : Bool) → is_name_of name one ≡ here → (here || is_named (take place names) name) ≡ true
        → (is_named (take place names) name ≡ true → NamedAt names place name) → NamedAt (one ∷ names) (suc place) name
    go true is test further =
        record { outer = 0; below = omega arith; at = ap (λ (o : Option (List ℕ)). Some o) (is_that name one is) }
    go false is test further =
        let later = further test in
        record { outer = suc later.outer; below = omega (arith, later.below); at = later.at }

outer_there : (names : List (Option (List ℕ))) (place : ℕ) (at : List ℕ) (fields : Members)
    → at_key (outer_faults names place) at (codes "inside") fields ≡ []
    → (inside : Option ℕ) × StandsIn names place fields inside
outer_there names place at fields none = go (get_member (codes "inside") fields) refl
  where
    number : (value : Data) → get_member (codes "inside") fields ≡ Some value
        → ((n : ℕ) × (value ≡ integer (pos n)) × ((nat_le 1 n && nat_le n place) ≡ true))
        → (inside : Option ℕ) × StandsIn names place fields inside
    number value e (n, is, holds) =
        let both = and_parts (nat_le 1 n) (nat_le n place) holds in
        let low : 1 ≤ n = leb-true 1 n both.0 in
        let high : n ≤ place = leb-true n place both.1 in
        let one_less : n ≡ n - 1 + 1 = omega (arith, low) in
        (Some (n - 1), (value, e, inl (is ∙ ap (λ (k : ℕ). integer (pos k)) one_less), omega (arith, low, high)))

    text : (s : List ℕ) → get_member (codes "inside") fields ≡ Some (string s)
        → is_named (take place names) s ≡ true → (inside : Option ℕ) × StandsIn names place fields inside
    text s e named =
        let there = named_at names place s named in
        (Some there.outer, (string s, e, inr (s, refl, there.at), there.below))

    said : (value : Data) → get_member (codes "inside") fields ≡ Some value
        → outer_faults names place (at ++ codes "inside") value ≡ []
        → (inside : Option ℕ) × StandsIn names place fields inside
    said (string s) e fine = by (is_named (take place names) s) refl fine
      where
        by : (named : Bool) → is_named (take place names) s ≡ named
            → cond named [] (range (at ++ codes "inside") ∷ []) ≡ []
            → (inside : Option ℕ) × StandsIn names place fields inside
        by true named fine = text s e named
        by false named fine = cc
    said (integer z) e fine =
        number (integer z) e (number_said (at ++ codes "inside") (λ n. nat_le 1 n && nat_le n place) (integer z) fine)
    said (float x) e fine = cc
    said (boolean b) e fine = cc
    said (datetime d) e fine = cc
    said (array items) e fine = cc
    said (table _) e fine = cc

    go : (found : Option Data) → get_member (codes "inside") fields ≡ found
        → (inside : Option ℕ) × StandsIn names place fields inside
    go None e = (None, e)
    go (Some value) e =
        said value e (sym (key_some (outer_faults names place) at (codes "inside") fields value (sym e)) ∙ none)

-- a name that a table says without a fault is one
name_proper : (names : List (Option (List ℕ))) (place : ℕ) (at : List ℕ) (fields : Members)
    → at_key (name_faults names place) at (codes "name") fields ≡ []
    → IfSome (name_in (Some fields)) (λ text. IsTrue (is_name text))
name_proper names place at fields = go (get_member (codes "name") fields)
  where
    by : (path : List ℕ) (s : List ℕ) (proper named : Bool) → is_name s ≡ proper
        → cond (proper && not named) [] (range path ∷ []) ≡ [] → IsTrue (is_name s)
    by path s true named is fine = is
    by path s false named is fine = cc

    go : (found : Option Data)
        → said_of (name_faults names place (at ++ codes "name")) found ≡ []
        → IfSome (text_in found) (λ text. IsTrue (is_name text))
    go None fine = tt
    go (Some (string s)) fine =
        by (at ++ codes "name") s (is_name s) (is_named (take place names) s) refl fine
    go (Some (integer z)) fine = cc
    go (Some (float x)) fine = cc
    go (Some (boolean b)) fine = cc
    go (Some (datetime d)) fine = cc
    go (Some (array items)) fine = cc
    go (Some (table _)) fine = cc

-- a mark of some edges, of which there is a first
mark_of : (edges : List (ℕ × ℕ)) (most : ℕ) (inside : Option ℕ) (name : Option (List ℕ)) → EdgesOn edges → most ≤ 9999
    → (mark : Mark) × (edges_of mark ≡ edges) × (mark.most ≡ most) × (mark.inside ≡ inside) × (mark.name ≡ name)
mark_of [] most inside name edges few = absurd (omega (arith, edges.some))
mark_of (first ∷ others) most inside name edges few = (
  record {
    from = record { number = first.0; exists = edges.ends.0.0 };
    onto = record { number = first.1; exists = edges.ends.0.1 };
    others = others;
    most = most;
    inside = inside;
    name = name;
    four_digits = few;
  },
  refl,
  refl,
  refl,
  refl,
)

pub mark_holds : (document : Members) (place : ℕ) (at : List ℕ) (fields : Members)
    → long_mark_faults document (place + 1) at fields ≡ [] → HoldsMark document place fields
mark_holds document place at fields none =
    let names = names_in document in
    let each = each_none (long_mark_checks document (place + 1) at fields) none in
    let earlier : place + 1 - 1 ≡ place = omega arith in
    let edges = edges_on (lists_edges fields) at fields refl each.1.0 each.1.1.0 in
    let most = number_within 0 9999 at (wanted_keys (lists_edges fields)) (codes "most") fields each.1.0
    (most_among (lists_edges fields)) each.1.1.1.0 in
    let inside = outer_there names place at fields
    (subst (λ (n : ℕ). at_key (outer_faults names n) at (codes "inside") fields ≡ []) earlier each.1.1.1.1.0) in
    let mark = mark_of (edges_said fields) (number_at (codes "most") fields) inside.0 (name_in (Some fields)) edges most.1
    in
    record {
      mark = mark.0;
      says = record {
        edges = mark.1;
        most = mark.2;
        inside = subst (StandsIn names place fields) (sym mark.3) inside.1;
        name = mark.4;
      };
      ends = edges.ends;
      name = name_proper names place at fields
          (subst (λ (n : ℕ). at_key (name_faults names n) at (codes "name") fields ≡ []) earlier each.1.1.1.1.1.0);
    }
