use Rattle.std.proofs.Common.{◌≡◌, ◌&&◌, Bool, true, false, not, [], ◌∷◌, refl, sym, ◌∙◌, inl, inr, arith}
use Rattle.std.specs.Prelude.{codes}
use Rattle.program_command.specs.Line.{NamesFilesOf, begins_with_hyphen, bound}
use Rattle.print_lines.specs.declared.fault.Fault.TheVariants as fault
use Rattle.program_run.proofs.BoundsOfFiles.{of_files, refused_line}
use Rattle.program_run.proofs.laws.bound_is_of_the_files.Goals as goal

-- a word that isn't taken for an option, and others
apart : (b rest : Bool) → (not b && rest) ≡ true → (b ≡ false) × (rest ≡ true)
apart true rest e = cc
apart false rest e = (refl, e)

pub returns : goal.returns
returns c deck times notes input files failures reply held names told answers =
    let named = deck ∷ times ∷ notes ∷ [] in
    let first = apart (begins_with_hyphen deck) _ names in
    let second = apart (begins_with_hyphen times) _ first.1 in
    let third = apart (begins_with_hyphen notes) _ second.1 in
    let line : NamesFilesOf bound named = (first.0, (second.0, (third.0, tt))) in
    let taken = c.each_line_is_taken.ensures.taken 0 bound (omega arith) named line in
    let said = c.each_line_is_taken.ensures.said 0 bound (omega arith) named line in
    elim answers [
      | inl (command, of, is) ↦
          of_files files held deck times notes command failures reply told (sym of.said ∙ said) (is held)
      | inr (refused, are, none, so) ↦
          inr (fault.Memory, refused_line (codes "bound" ∷ named) refused reply are taken so)
    ]
