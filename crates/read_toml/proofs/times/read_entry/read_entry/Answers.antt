use Rattle.std.proofs.Common.{◌∷◌, [], refl}
use Rattle.std.specs.Prelude.{codes}
use Rattle.base_words.specs.declared.parity.Parity.TheVariants.{Any, Even, Odd}
use Rattle.toml.specs.Data.{string}
use Rattle.toml.specs.View.{table_view}
use Rattle.read_toml.specs.TimesDocument.{text_of}
use Rattle.read_toml.proofs.Choices.{chosen_text}
use Rattle.read_toml.proofs.TimesEntries.{parity_stands}
use Rattle.read_toml.proofs.times.read_entry.read_entry.Goals as goal

pub chosen-requires : goal.chosen-requires
chosen-requires c =
    (string (text_of c.requires.0.parity), c.requires.1.parity, (c.requires.0.parity, parity_stands c.requires.0.parity))

pub returns : goal.returns
returns c = record {
  before = c.number.ensures;
  after = c.number-2.ensures;
  parity = chosen_text text_of ((codes "any", Any) ∷ (codes "even", Even) ∷ (codes "odd", Odd) ∷ []) (codes "parity")
      (table_view c.args.fields.now.table.now) c.chosen.result (refl, (refl, (refl, tt))) c.chosen.ensures;
  per = c.number-3.ensures;
  wait_min = c.number-4.ensures;
  wait_max = c.number-5.ensures;
}
