use Rattle.std.proofs.Common.{◌≡◌, ◌+◌, subst, Some, None, arith, inl, inr, ℕ}
use Rattle.std.proofs.lemmas.Bool.{cases_lt}
use Rattle.std.specs.Prelude.{slice_get}
use Rattle.read_decks.proofs.Puts.{read_at, free_at}
use Rattle.read_decks.proofs.deck.loading.first_given.Goals as goal

pub returns-in-Some-clause-found : goal.returns-in-Some-clause-found
returns-in-Some-clause-found c = record {
  low = omega arith;
  high = omega (arith, c.loop-place-test.true);
  has = (
    c.in-Some.given,
    read_at c.args.image.now (c.args.first + c.loop-place.place) _ _
        (omega (arith, c.requires.drum, c.requires.within, c.loop-place-test.true)) c.in-Some.is,
  );
  free = λ other low high. c.loop-place.invariant other low high;
}

pub returns-in-Some-clause-given : goal.returns-in-Some-clause-given
returns-in-Some-clause-given c =
    read_at c.args.image.now (c.args.first + c.loop-place.place) _ _
    (omega (arith, c.requires.drum, c.requires.within, c.loop-place-test.true)) c.in-Some.is

pub loop-place-preserved : goal.loop-place-preserved
loop-place-preserved c n low high =
    let here : slice_get c.args.image.now (c.args.first + c.loop-place.place) ≡ Some None =
    free_at c.args.image.now (c.args.first + c.loop-place.place) _
    (omega (arith, c.requires.drum, c.requires.within, c.loop-place-test.true)) c.in_default.not-Some in
    elim (cases_lt n (c.args.first + c.loop-place.place)) [
      | inl before ↦ c.loop-place.invariant n low before
      | inr upto ↦
          let at : c.args.first + c.loop-place.place ≡ n = omega (arith, upto, high) in
          subst (λ (k : ℕ). slice_get c.args.image.now k ≡ Some None) at here
    ]
