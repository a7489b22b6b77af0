use Rattle.std.proofs.Common.{◌≡◌, List, ℕ, ◌++◌, subst, sym, arith, []}
use Rattle.std.specs.Prelude.{codes, ◌⊎◌}
use Rattle.read_documents.specs.Joined.{AreWholeLines, IsCut}
use Rattle.read_documents.proofs.Cuts.{is_cut, no_cut, is_plain}
use Rattle.read_documents.proofs.joined.split_at_line.Goals as goal

pub returns-in-Some-clause-found : goal.returns-in-Some-clause-found
returns-in-Some-clause-found c =
    let text = c.args.text.now in
    let mark = c.args.mark.now in
    let behind = c.in-Some.behind.now in
    let told = c.in-Some.ensures in
    subst (λ (before : List ℕ). IsCut mark text before behind) (sym c.split_at.ensures.front)
    (is_cut mark text behind c.loop-at.at (is_plain mark c.requires) (omega (arith, c.loop-at-test.true))
    (subst AreWholeLines c.split_at.ensures.front told.0)
    c.loop-at.invariant
    (subst (λ (rest : List ℕ). (rest ≡ mark ++ codes "\n" ++ behind) ⊎ ((rest ≡ mark) × (behind ≡ [])))
    c.split_at.ensures.back told.1))

pub returns-clause-none : goal.returns-clause-none
returns-clause-none c =
    no_cut c.args.mark.now c.args.text.now
    (λ k below. c.loop-at.invariant k (omega (arith, below, c.loop-at-test.false)))
