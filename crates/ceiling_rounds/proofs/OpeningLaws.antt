-- What openings ask and leave: of no step, of one, one behind the other, and over rounds.
use Rattle.std.proofs.Common.{◌≡◌, ℕ, zero, suc, Bool, true, false, List, [], ◌∷◌, ◌++◌, length, map, take, replicate}
use Rattle.std.proofs.Common.{refl, ap, sym, ◌∙◌, subst, arith, Option, Some, None}
use Rattle.std.specs.Prelude.{slice_get, ◌==◌, if◌then◌else◌}
use Rattle.std.proofs.lemmas.List.{append-nil, length-replicate}
use Rattle.base_words.specs.declared.location.Location.{Location}
use Rattle.base_notes.specs.declared.notes.call.Call.{Call}
use Rattle.machine_steps.specs.Calls.{none_open, open_along, opened, opened_by, way_behind, GoBack, MayGo}
use Rattle.machine_steps.specs.OpenIn.{number_of}
use Rattle.machine_steps.specs.Since.{Edge}
use Rattle.machine_steps.proofs.Returning.{along_joined, back_joined}
use Rattle.flow_walks.specs.Pieces.{repeated}
use Rattle.ceiling_rounds.specs.declared.opening.Opening.{Opening}
use Rattle.ceiling_rounds.specs.declared.opening.Opening.TheVariants.{Kept, Set}
use Rattle.ceiling_rounds.specs.Opening.{way_left, ways_left, AreBoth, AreRight, IsBoth, IsOfStep, Meet, Meets}

abbrev Ways : Type 0
Ways = List (Option ℕ)

-- no step
left_kept : (n : ℕ) (ways : Ways) → length ways ≡ n → ways ≡ ways_left (replicate n Kept) ways
left_kept zero ways long = refl
left_kept (suc n) [] long = absurd (omega (arith, long))
left_kept (suc n) (way ∷ ways) long =
    ap (λ (rest : Ways). way ∷ rest) (left_kept n ways (omega (arith, long)))

pub kept_right : (calls : List Call) (openings : List Opening) → openings ≡ replicate (length calls) Kept
    → AreRight calls [] openings
kept_right calls openings all = record {
  each = ap length all ∙ length-replicate (length calls) Kept;
  back = λ ways long meet. tt;
  left = λ ways long meet.
      left_kept (length calls) ways long ∙ ap (λ (os : List Opening). ways_left os ways) (sym all);
}

-- the way back that a step opens is what is open behind it, where none was
behind_closed : (calls : List Call) (edge : Edge) (exit : ℕ)
    → way_behind calls edge exit None ≡ opened_by calls edge exit
behind_closed calls edge exit = one (opened_by calls edge exit) (exit == edge.from)
  where
    one : (o : Option ℕ) (own : Bool)
        → (elim o as (λ _. Option ℕ) [ None ↦ if own then None else None | Some back ↦ Some back ]) ≡ o
    one None true = refl
    one None false = refl
    one (Some back) own = refl

-- the way back with which a step opens the exit of a call, by what is open behind it where nothing was
pub opened_at : (all : List Call) (edge : Edge) (calls : List Call) (held : List (Option Location)) (k : ℕ)
    (call : Call) (way : Option Location) → map number_of (take (length calls) held) ≡ opened all edge calls (none_open calls)
    → slice_get calls k ≡ Some call → slice_get held k ≡ Some way → number_of way ≡ opened_by all edge call.exit.number
opened_at all edge [] held k call way same at has = cc
opened_at all edge (one ∷ calls) [] k call way same at has = cc
opened_at all edge (one ∷ calls) (first ∷ held) zero call way same at has =
    let its : one ≡ call = cc in
    let own : first ≡ way = cc in
    let head : number_of first ≡ way_behind all edge one.exit.number None = cc in
    ap number_of (sym own) ∙ head ∙ behind_closed all edge one.exit.number
    ∙ ap (λ (c : Call). opened_by all edge c.exit.number) its
opened_at all edge (one ∷ calls) (first ∷ held) (suc k) call way same at has =
    let rest : map number_of (take (length calls) held) ≡ opened all edge calls (none_open calls) = cc in
    opened_at all edge calls held k call way rest at has

-- the openings of a step along an edge, at the exits of these calls
abbrev pub AreOfStep : List Call → Edge → List Call → List Opening → Type 0
AreOfStep all edge [] [] = Unit {0}
AreOfStep all edge (call ∷ calls) (opening ∷ openings) =
    IsOfStep all edge call.exit.number opening × AreOfStep all edge calls openings
AreOfStep _ _ _ _ = ⊥

of_step_long : (all : List Call) (edge : Edge) (calls : List Call) (openings : List Opening)
    → AreOfStep all edge calls openings → length openings ≡ length calls
of_step_long all edge [] [] are = refl
of_step_long all edge [] (opening ∷ openings) are = absurd are
of_step_long all edge (call ∷ calls) [] are = absurd are
of_step_long all edge (call ∷ calls) (opening ∷ openings) are = ap suc (of_step_long all edge calls openings are.1)

step_goes : (all : List Call) (edge : Edge) (calls : List Call) (openings : List Opening) (ways : Ways)
    → AreOfStep all edge calls openings → length ways ≡ length calls → Meet openings ways
    → MayGo calls ways edge × (opened all edge calls ways ≡ ways_left openings ways)
step_goes all edge [] [] [] are long meet = (tt, refl)
step_goes all edge [] [] (way ∷ ways) are long meet = absurd (omega (arith, long))
step_goes all edge [] (opening ∷ openings) ways are long meet = absurd are
step_goes all edge (call ∷ calls) [] ways are long meet = absurd are
step_goes all edge (call ∷ calls) (opening ∷ openings) [] are long meet = absurd (omega (arith, long))
step_goes all edge (call ∷ calls) (opening ∷ openings) (way ∷ ways) are long meet =
    let one = are.0 way meet.0 in
    let rest = step_goes all edge calls openings ways are.1 (omega (arith, long)) meet.1 in
    let here = one.1 in
    let others = rest.1 in
    ((one.0, rest.0), cc (here, others))

pub step_right : (calls : List Call) (edge : Edge) (openings : List Opening) → AreOfStep calls edge calls openings
    → AreRight calls (edge ∷ []) openings
step_right calls edge openings are = record {
  each = of_step_long calls edge calls openings are;
  back = λ ways long meet. ((step_goes calls edge calls openings ways are long meet).0, tt);
  left = λ ways long meet. (step_goes calls edge calls openings ways are long meet).1;
}

pub step_more : (all : List Call) (edge : Edge) (calls : List Call) (openings : List Opening) (k : ℕ) (call : Call)
    (opening : Opening) → slice_get calls k ≡ Some call → AreOfStep all edge (take k calls) openings
    → IsOfStep all edge call.exit.number opening
    → AreOfStep all edge (take (suc k) calls) (openings ++ opening ∷ [])
step_more all edge [] openings k call opening at are is = cc
step_more all edge (one ∷ calls) [] zero call opening at are is =
    let same : call ≡ one = cc in
    (subst (λ (c : Call). IsOfStep all edge c.exit.number opening) same is, tt)
step_more all edge (one ∷ calls) (other ∷ openings) zero call opening at are is = absurd are
step_more all edge (one ∷ calls) [] (suc k) call opening at are is = absurd are
step_more all edge (one ∷ calls) (other ∷ openings) (suc k) call opening at are is =
    (are.0, step_more all edge calls openings k call opening at are.1 is)

-- what is left, once more
left_again : (openings : List Opening) (ways : Ways)
    → ways_left openings (ways_left openings ways) ≡ ways_left openings ways
left_again [] ways = refl
left_again (opening ∷ openings) [] = refl
left_again (Kept ∷ openings) (way ∷ ways) = ap (λ (rest : Ways). way ∷ rest) (left_again openings ways)
left_again (Set asks leaves ∷ openings) (way ∷ ways) =
    ap (λ (rest : Ways). way_left (Set asks leaves) way ∷ rest) (left_again openings ways)

left_long : (openings : List Opening) (ways : Ways) → length (ways_left openings ways) ≡ length ways
left_long [] ways = refl
left_long (opening ∷ openings) [] = refl
left_long (opening ∷ openings) (way ∷ ways) = ap suc (left_long openings ways)

-- openings one behind the other
both_long : (firsts nexts all : List Opening) → AreBoth firsts nexts all → length all ≡ length firsts
both_long [] [] [] are = refl
both_long [] [] (both ∷ all) are = absurd are
both_long [] (next ∷ nexts) all are = absurd are
both_long (first ∷ firsts) [] all are = absurd are
both_long (first ∷ firsts) (next ∷ nexts) [] are = absurd are
both_long (first ∷ firsts) (next ∷ nexts) (both ∷ all) are = ap suc (both_long firsts nexts all are.1)

both_meet : (firsts nexts all : List Opening) (ways : Ways) → AreBoth firsts nexts all → Meet all ways
    → Meet firsts ways × Meet nexts (ways_left firsts ways)
    × (ways_left all ways ≡ ways_left nexts (ways_left firsts ways))
both_meet [] [] [] ways are meet = (tt, tt, refl)
both_meet [] [] (both ∷ all) ways are meet = absurd are
both_meet [] (next ∷ nexts) all ways are meet = absurd are
both_meet (first ∷ firsts) [] all ways are meet = absurd are
both_meet (first ∷ firsts) (next ∷ nexts) [] ways are meet = absurd are
both_meet (first ∷ firsts) (next ∷ nexts) (both ∷ all) [] are meet = (tt, tt, refl)
both_meet (first ∷ firsts) (next ∷ nexts) (both ∷ all) (way ∷ ways) are meet =
    let one = are.0 way meet.0 in
    let rest = both_meet firsts nexts all ways are.1 meet.1 in
    let here = one.2 in
    let others = rest.2 in
    ((one.0, rest.0), (one.1, rest.1), cc (here, others))

pub both_right : (calls : List Call) (xs ys : List Edge) (firsts nexts all : List Opening) → AreRight calls xs firsts
    → AreRight calls ys nexts → AreBoth firsts nexts all → AreRight calls (xs ++ ys) all
both_right calls xs ys firsts nexts all first second are = record {
  each = both_long firsts nexts all are ∙ first.each;
  back = λ ways long meet.
      let so = both_meet firsts nexts all ways are meet in
      back_joined calls ways xs ys (first.back ways long so.0)
      (subst (λ (between : Ways). GoBack calls between ys) (sym (first.left ways long so.0))
      (second.back (ways_left firsts ways) (left_long firsts ways ∙ long) so.1));
  left = λ ways long meet.
      let so = both_meet firsts nexts all ways are meet in
      along_joined calls ways xs ys
      ∙ ap (λ (between : Ways). open_along calls between ys) (first.left ways long so.0)
      ∙ second.left (ways_left firsts ways) (left_long firsts ways ∙ long) so.1 ∙ sym so.2;
}

pub both_more : (firsts nexts all : List Opening) (k : ℕ) (first next both : Opening)
    → slice_get firsts k ≡ Some first → slice_get nexts k ≡ Some next → AreBoth (take k firsts) (take k nexts) all
    → IsBoth first next both → AreBoth (take (suc k) firsts) (take (suc k) nexts) (all ++ both ∷ [])
both_more [] nexts all k first next both at has are is = cc
both_more (one ∷ firsts) [] all k first next both at has are is = cc
both_more (one ∷ firsts) (other ∷ nexts) [] zero first next both at has are is =
    let same : first ≡ one = cc in
    let its : next ≡ other = cc in
    (subst (λ (n : Opening). IsBoth one n both) its (subst (λ (f : Opening). IsBoth f next both) same is), tt)
both_more (one ∷ firsts) (other ∷ nexts) (x ∷ all) zero first next both at has are is = absurd are
both_more (one ∷ firsts) (other ∷ nexts) [] (suc k) first next both at has are is = absurd are
both_more (one ∷ firsts) (other ∷ nexts) (x ∷ all) (suc k) first next both at has are is =
    (are.0, both_more firsts nexts all k first next both at has are.1 is)

-- Rounds of steps, whose openings come to so much with themselves behind them.
module _ (calls : List Call) (edges : List Edge) (openings all : List Opening) (right : AreRight calls edges openings)
    (are : AreBoth openings openings all) where
  -- where each round begins with what is asked
  rounds_go : (more : ℕ) (ways : Ways) → length ways ≡ length calls → Meet openings ways
      → Meet openings (ways_left openings ways)
      → GoBack calls ways (repeated (suc more) edges)
      × (open_along calls ways (repeated (suc more) edges) ≡ ways_left openings ways)
  rounds_go zero ways long meet again =
      subst (λ (es : List Edge). GoBack calls ways es × (open_along calls ways es ≡ ways_left openings ways))
      (sym (append-nil edges)) (right.back ways long meet, right.left ways long meet)
  rounds_go (suc more) ways long meet again =
      let behind = ways_left openings ways in
      let others : List Edge = repeated (suc more) edges in
      let so =
      rounds_go more behind (left_long openings ways ∙ long) again
      (subst (Meet openings) (sym (left_again openings ways)) again) in (
        back_joined calls ways edges others (right.back ways long meet)
            (subst (λ (between : Ways). GoBack calls between others) (sym (right.left ways long meet)) so.0),
        along_joined calls ways edges others
            ∙ ap (λ (between : Ways). open_along calls between others) (right.left ways long meet) ∙ so.1
            ∙ left_again openings ways,
      )

  pub rounds_right : (more : ℕ) → AreRight calls (repeated (suc more) edges) all
  rounds_right more = record {
    each = both_long openings openings all are ∙ right.each;
    back = λ ways long meet.
        let so = both_meet openings openings all ways are meet in
        (rounds_go more ways long so.0 so.1).0;
    left = λ ways long meet.
        let so = both_meet openings openings all ways are meet in
        (rounds_go more ways long so.0 so.1).1 ∙ sym (so.2 ∙ left_again openings ways);
  }

-- openings that ask nothing where all is closed, and one more
pub closed_more : (openings : List Opening) (k : ℕ) (opening : Opening) (calls : List Call)
    → slice_get openings k ≡ Some opening → Meet (take k openings) (none_open calls) → Meets opening None
    → Meet (take (suc k) openings) (none_open calls)
closed_more [] k opening calls at meet is = cc
closed_more (one ∷ openings) k opening [] at meet is = tt
closed_more (one ∷ openings) zero opening (call ∷ calls) at meet is =
    let same : opening ≡ one = cc in
    (subst (λ (o : Opening). Meets o None) same is, tt)
closed_more (one ∷ openings) (suc k) opening (call ∷ calls) at meet is =
    (meet.0, closed_more openings k opening calls at meet.1 is)
