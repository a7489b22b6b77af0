-- Lines that are told one after the other.
use Rattle.std.proofs.Common.{◌≡◌, ℕ, suc, List, [], ◌∷◌, length, refl, ap, sym, ◌∙◌, subst}
use Rattle.std.proofs.lemmas.Grind.{flat_map-append}
use Rattle.std.proofs.lemmas.List.{append-nil}
use Rattle.base_devices.specs.Device.{Device}
use Rattle.print_lines.specs.declared.sheet.Sheet.{Sheet}
use Rattle.print_lines.specs.Stands.{Passes}
use Rattle.print_lines.proofs.Passing.{◌⊳◌, passes_as, passes_none}
use Rattle.print_ceilings.specs.declared.progress.Progress.{Progress}
use Rattle.print_ceilings.specs.RoundsText.{at_time, both, end_line, end_rounds_line, one_more}
use Rattle.print_ceilings.specs.RoundsText.{part_line, rounds_line, Telling, PartsSoFar}
use Rattle.print_ceilings.specs.ProgressOf.{told_of, HasTold}

-- ---- tellings, one after the other

-- nothing
pub told_none : (now : Device) (sheet : Sheet) (progress : Progress)
    → HasTold now sheet progress now sheet progress ([], told_of progress)
told_none now sheet progress = record { lines = passes_none now sheet; now = refl; parts = refl }

-- the same
pub told_as : {one other : List (List ℕ) × PartsSoFar} {before after : Device} {sheet sheet' : Sheet}
    {old new : Progress}
    → one ≡ other → HasTold before sheet old after sheet' new one → HasTold before sheet old after sheet' new other
told_as {one} {other} {before} {after} {sheet} {sheet'} {old} {new} same =
    subst (HasTold before sheet old after sheet' new) same

-- a line
pub told_line : (line : List ℕ) (told : PartsSoFar) (old : Progress) {new : Progress} {before after : Device}
    {sheet sheet' : Sheet}
    → told_of new ≡ told → length new.parts.items ≡ length old.parts.items → Passes before sheet after sheet' line
    → HasTold before sheet old after sheet' new (line ∷ [], told)
told_line line told old now parts put =
    record { lines = passes_as (sym (append-nil line)) put; now = now; parts = parts }

-- one, and then the other
pub told_then : (one other : Telling) {before between after : Device} {sheet sheet' sheet″ : Sheet}
    {old mid new : Progress}
    → HasTold before sheet old between sheet' mid (one (told_of old))
    → HasTold between sheet' mid after sheet″ new (other (told_of mid))
    → HasTold before sheet old after sheet″ new (both one other (told_of old))
told_then one other {before} {between} {after} {sheet} {sheet'} {sheet″} {old} {mid} {new} first second =
    let next = told_as (ap other first.now) second in
    let told = one (told_of old) in record {
      lines =
          passes_as (sym (flat_map-append (λ (line : List ℕ). line) told.0 (other told.1).0)) (first.lines ⊳ next.lines);
      now = next.now;
      parts = second.parts ∙ first.parts;
    }

-- ---- a line as a telling, with what it does to how far the walk is told

abbrev pub lineup : (PartsSoFar → List ℕ) → (PartsSoFar → PartsSoFar) → Telling
lineup line change told = (line told ∷ [], change told)

-- the lines of parts and of rounds
abbrev pub begin_part : ℕ → Telling
begin_part number = lineup (λ told. part_line (suc told.begun)) (one_more number)

abbrev pub end_part : ℕ → Telling
end_part part = lineup (λ _. end_line part) (λ told. told)

abbrev pub begin_rounds : ℕ → ℕ → ℕ → Telling
begin_rounds times from onto = lineup (λ _. rounds_line times from onto) (λ told. told)

abbrev pub end_rounds : ℕ → ℕ → Telling
end_rounds each ended = lineup (λ _. end_rounds_line each ended) (at_time ended)
