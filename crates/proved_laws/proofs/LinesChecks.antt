-- Definitions evaluated, with answers that were worked out apart from them.
use Rattle.std.proofs.Common.{◌≡◌, true, false, [], ◌∷◌, flat_map, None, Some, refl, arith}
use Rattle.std.specs.Prelude.{codes}
use Rattle.read_decks.specs.declared.deck.fault.DeckFault.TheVariants as of_deck
use Rattle.base_words.specs.declared.location.Location.{Location}
use Rattle.base_words.specs.Location.{IsLocation}
use Rattle.base_words.specs.Word.{spelling, word}
use Rattle.flow_graph.specs.declared.refusal.Refusal.TheVariants.{Alters, NotInProfile}
use Rattle.print_lines.specs.declared.fault.Fault.TheVariants as fault
use Rattle.print_lines.specs.declared.part.Part.TheVariants as part
use Rattle.print_lines.specs.declared.part.PartFault.TheVariants as bytes
use Rattle.print_lines.specs.FaultText.{fault_text, next_location}
use Rattle.print_lines.specs.NameText.{name_text}

-- the lines of faults without plain numbers
of_deck_text : fault_text (fault.Deck of_deck.Read) ≡ codes "fault 1 deck read\n"
of_deck_text = refl

of_part_text : fault_text (fault.Part part.Inputs bytes.TooLong) ≡ codes "fault 52 inputs toolong\n"
of_part_text = refl

hundred : IsLocation 100
hundred = (omega arith, λ past. omega arith)

upper : IsLocation 8003
upper = (omega arith, λ past. omega arith)

abbrev at_100 : Location
at_100 = record { number = 100; exists = hundred }

abbrev at_upper : Location
at_upper = record { number = 8003; exists = upper }

of_locations :
    (fault_text (fault.Loaded at_100) ≡ codes "fault 47 inputs loaded 0100\n")
    × (fault_text (fault.Refused (NotInProfile at_100 7)) ≡ codes "fault 32 notinprofile 0100 07\n")
    × (fault_text (fault.Refused (Alters at_100 at_upper)) ≡ codes "fault 34 alters 0100 8003\n")
    × (flat_map next_location (at_100 ∷ at_upper ∷ []) ≡ codes " 0100 8003")
of_locations = (refl, refl, refl, refl)

of_words : (spelling (word true 1968) ≡ codes "-0000001968") × (spelling (word false 6901030106) ≡ codes "+6901030106")
of_words = (refl, refl)

of_names : (name_text None ≡ []) × (name_text (Some (codes "cards")) ≡ codes " name cards")
of_names = (refl, refl)
