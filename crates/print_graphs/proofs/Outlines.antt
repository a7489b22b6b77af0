-- Words put into boxes.
use Rattle.std.proofs.Common.{◌≡◌, ℕ, zero, suc, ◌+◌, ◌<◌, Bool, true, false, List, [], ◌∷◌, ◌++◌, map, take, drop, set, length}
use Rattle.std.proofs.Common.{◌≤◌, get_or, Some, refl, ap, sym, subst, ◌∙◌, inl, inr, arith}
use Rattle.std.specs.Prelude.{if◌then◌else◌, slice_get}
use Rattle.std.proofs.lemmas.Bool.{cases_lt}
use Rattle.std.proofs.lemmas.List.{drop_more, length-drop, take_more}
use Rattle.std.proofs.lemmas.Option.{get_or_from_slice_get, slice_get_within}
use Rattle.base_notes.specs.declared.notes.mark.Mark.{Mark}
use Rattle.flow_graph.specs.Executed.{with_new}
use Rattle.flow_graph.proofs.Additions.{with_new_append}
use Rattle.print_graphs.specs.declared.node.Node as held
use Rattle.print_graphs.specs.Graph.{Node}
use Rattle.print_graphs.specs.GraphOf.{node_of}
use Rattle.print_graphs.specs.Outline.{goes_straight, join, put_behind}

-- one word more is added to those that were there
pub added_so_far : (old now after words : List ℕ) (k word : ℕ) → slice_get words k ≡ Some word
    → now ≡ with_new old (take k words) → after ≡ with_new now (word ∷ []) → after ≡ with_new old (take (k + 1) words)
added_so_far old now after words k word at before added =
    added ∙ ap (λ (places : List ℕ). with_new places (word ∷ [])) before
    ∙ sym (with_new_append old (take k words) (word ∷ []))
    ∙ ap (with_new old) (sym (take_more words k word (slice_get_within words k word at)
    ∙ ap (λ (last : ℕ). take k words ++ last ∷ []) (get_or_from_slice_get words k word word at)))

-- what is left begins with what stands at its place
pub first_left : (xs ys : List Bool) (x d : Bool) (k : ℕ) → x ∷ xs ≡ drop k ys
    → (get_or ys k d ≡ x) × (xs ≡ drop (k + 1) ys)
first_left xs ys x d k e =
    let inside : k < length ys = omega (arith, ap (λ (all : List Bool). length all) e, length-drop k ys) in
    let both : x ∷ xs ≡ get_or ys k d ∷ drop (k + 1) ys = e ∙ drop_more ys k d inside in (
      sym (ap (λ (all : List Bool). get_or all 0 d) both),
      ap (λ (all : List Bool). drop 1 all) both,
    )

-- what is so of each before a place, and of the one there, is so of each before the next
pub so_far : (boxes : List held.Node) (Holds : held.Node → Type 0) (place : ℕ) (there : held.Node)
    → ((k : ℕ) (one : held.Node) → k < place → slice_get boxes k ≡ Some one → Holds one)
    → place < length boxes → there ≡ get_or boxes place there → Holds there
    → (k : ℕ) (one : held.Node) → k < place + 1 → slice_get boxes k ≡ Some one → Holds one
so_far boxes Holds place there before inside is holds k one below at = elim (cases_lt k place) [
  | inl earlier ↦ before k one earlier at
  | inr past ↦ subst Holds
      (is ∙ ap (λ (n : ℕ). get_or boxes n there) (here k place past below) ∙ get_or_from_slice_get boxes k one there at)
      holds
]
  where
    here : (k place : ℕ) → place ≤ k → k < place + 1 → place ≡ k
    here k place past below = omega (arith, past, below)

module _ (marks : List Mark) (loops : List (ℕ × ℕ)) (word : Node) where
  abbrev pub straight : held.Node → Bool
  straight one = goes_straight marks loops word.place (node_of one)

  -- a word is put behind the first box that goes straight on to it
  pub put_there : (boxes : List held.Node) (place : ℕ) (box joined : held.Node) → slice_get boxes place ≡ Some box
      → straight box ≡ true
      → ((k : ℕ) (one : held.Node) → k < place → slice_get boxes k ≡ Some one → straight one ≡ false)
      → node_of joined ≡ join (node_of box) word
      → map node_of (set boxes place joined) ≡ put_behind marks loops (map node_of boxes) word
  put_there [] place box joined at is before same = absurd (omega (arith, slice_get_within [] place box at))
  put_there (one ∷ boxes) zero box joined at is before same =
      let here : one ≡ box = get_or_from_slice_get (one ∷ boxes) 0 box box at in
      ap (λ (node : Node). node ∷ map node_of boxes) (same ∙ ap (λ (b : held.Node). join (node_of b) word) (sym here))
      ∙ sym (ap (λ (t : Bool). if t then join (node_of one) word ∷ map node_of boxes
      else node_of one ∷ put_behind marks loops (map node_of boxes) word) (ap straight here ∙ is))
  put_there (one ∷ boxes) (suc place) box joined at is before same =
      ap (λ (nodes : List Node). node_of one ∷ nodes)
      (put_there boxes place box joined at is
      (λ k other below there. before (suc k) other (omega (arith, below)) there) same)
      ∙ sym (ap (λ (t : Bool). if t then join (node_of one) word ∷ map node_of boxes
      else node_of one ∷ put_behind marks loops (map node_of boxes) word)
      (before 0 one (omega arith) refl))

  -- and where none does, it is a box of its own
  pub put_last : (boxes : List held.Node)
      → ((k : ℕ) (one : held.Node) → slice_get boxes k ≡ Some one → straight one ≡ false)
      → map node_of boxes ++ word ∷ [] ≡ put_behind marks loops (map node_of boxes) word
  put_last [] none = refl
  put_last (one ∷ boxes) none =
      ap (λ (nodes : List Node). node_of one ∷ nodes) (put_last boxes (λ k other there. none (suc k) other there))
      ∙ sym (ap (λ (t : Bool). if t then join (node_of one) word ∷ map node_of boxes
      else node_of one ∷ put_behind marks loops (map node_of boxes) word) (none 0 one refl))
