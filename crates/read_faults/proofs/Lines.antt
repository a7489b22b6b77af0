-- The lines of all faults: those of a document, and that a fault always has one.
use Rattle.std.proofs.Common.{◌≡◌, ℕ, List, [], ◌∷◌, ◌++◌, flat_map, Option, Some, None, refl, ◌∙◌, ap}
use Rattle.std.proofs.Common.{subst, inl, inr, append_assoc, Result, Ok, Err, IfOk}
use Rattle.std.proofs.Common.{◌+◌, ◌<◌, length, get_or, map, take, sym}
use Rattle.std.proofs.lemmas.Grind.{flat_map-append}
use Rattle.std.proofs.lemmas.List.{append-nil, map-append, take_more}
use Rattle.std.specs.Prelude.{codes, decimal, string_bytes, IfSome}
use Rattle.base_words.specs.declared.location.Location.{Location}
use Rattle.print_lines.specs.declared.fault.Fault.TheVariants.{Loaded}
use Rattle.read_decks.specs.declared.deck.fault.DeckFault.{DeckFault}
use Rattle.read_decks.specs.DeckText.{Line, IsDeck}
use Rattle.read_replays.specs.declared.fault.InputFault.{InputFault}
use Rattle.read_replays.specs.InputsText as input_lines
use Rattle.read_replays.specs.InputsText.{AreInputs}
use Rattle.print_lines.specs.FaultText.{deck_text, fault_text, input_text, note_text}
use Rattle.read_toml.specs.declared.complaint.Complaint.{Complaint}
use Rattle.base_notes.specs.declared.fault.NoteFault.{NoteFault}
use Rattle.read_toml.specs.AllFaults.{AreAllFaults}
use Rattle.read_toml.specs.Complaint.{Complains, line_at}
use Rattle.read_toml.specs.Document.{Fault}
use Rattle.toml.specs.Data.{Members}
use Rattle.read_faults.specs.declared.placed_fault.PlacedFault.{PlacedFault}
use Rattle.read_faults.specs.DeckFaults.{AreDeckFaults}
use Rattle.read_faults.specs.InputFaults.{AreInputFaults}
use Rattle.read_faults.specs.FaultLines.{Named, at_line, earlier_text, slip_text, placed_text, deck_fault_text}
use Rattle.read_faults.specs.FaultLines.{input_fault_text, note_fault_text, loaded_text, complaint_text, IsComplaint}
use Rattle.read_faults.specs.FaultLines.{AreDocumentLines, AreLoadedTwice, AreLinesOfInputs, AreFaultLines}
use Rattle.read_faults.specs.FaultLines.{more_text, alike_text, told_text}
use Rattle.read_faults.specs.Alike.{has_slip, more_alike, first_alike}
use Rattle.read_faults.specs.NamedTexts.{complaint_said}
use Rattle.read_faults.specs.contracts.slip.Slip.{the_type}
use Rattle.read_faults.specs.declared.slip.Slip.{Slip}
use Rattle.std.specs.Option.{option_eq, option_and_then}
use Rattle.std.specs.Prelude.{Bool, true, false, find, nat_eq, if◌then◌else◌}
use Rattle.std.proofs.Common.{rules}
use borrow.Author.Tests.{tests}
use denote.Enum.Bare.{sameb, true_same}
use Rattle.read_faults.proofs.Begin.{none_is_deck}
use Rattle.read_faults.proofs.BeginInputs.{none_is_inputs}

-- what is said of bytes that are no document
pub said_of : (name bytes : List ℕ) (complaint : Option Complaint) → Complains bytes complaint
    → IsComplaint name bytes (complaint_said name complaint)
said_of name bytes None whole = inl (whole, refl)
said_of name bytes (Some complaint) none =
    let at = none.1 in
    let message = string_bytes complaint.message in
    inr (
      none.0,
      (
        at.offset,
        at.within,
        message,
        ap (λ (line : ℕ). complaint_text name line complaint.column message) at.line
            ∙ ap (λ (column : ℕ). complaint_text name (line_at bytes at.offset) column message) at.column,
      ),
    )

-- the lines of a document behind a text
pub lines_of_document : (faults_of : Members → List Fault) (part : List ℕ) (text : Named) (faults : List NoteFault)
    (complaint : Option Complaint) (old between new : List ℕ)
    → AreAllFaults faults_of text.bytes faults → Complains text.bytes complaint
    → between ≡ old ++ flat_map (note_fault_text text.name part) faults
    → new ≡ between ++ complaint_said text.name complaint
    → (lines : List ℕ) × AreDocumentLines faults_of part text lines × (new ≡ old ++ lines)
lines_of_document faults_of part text faults complaint old between new are complains p q =
    let own = flat_map (note_fault_text text.name part) faults in
    let said = complaint_said text.name complaint in (
      own ++ said,
      record {
        faults = faults;
        are = are;
        complaint = said;
        said = said_of text.name text.bytes complaint complains;
        all = refl;
      },
      q ∙ ap (λ (xs : List ℕ). xs ++ said) p ∙ append_assoc old own said,
    )

-- and as what a call returns
pub lines_returned : {V E : Type 0} (result : Result V E) (items : V → List ℕ) (faults_of : Members → List Fault)
    (part : List ℕ) (text : Named) (faults : List NoteFault) (complaint : Option Complaint) (old between : List ℕ)
    → AreAllFaults faults_of text.bytes faults → Complains text.bytes complaint
    → between ≡ old ++ flat_map (note_fault_text text.name part) faults
    → IfOk result (λ new. items new ≡ between ++ complaint_said text.name complaint)
    → IfOk result (λ new. (lines : List ℕ) × AreDocumentLines faults_of part text lines × (items new ≡ old ++ lines))
lines_returned (Ok new) items faults_of part text faults complaint old between are complains p q =
    lines_of_document faults_of part text faults complaint old between (items new) are complains p q
lines_returned (Err fault) items faults_of part text faults complaint old between are complains p q = tt

-- one location more
pub loaded_more : (name old text new : List ℕ) (loaded : List Location) (index : ℕ) (location : Location)
    → index < length loaded → location ≡ get_or loaded index location
    → text ≡ old ++ flat_map (loaded_text name) (map (λ one. one.number) (take index loaded))
    → new ≡ text ++ at_line name None ++ fault_text (Loaded location)
    → new ≡ old ++ flat_map (loaded_text name) (map (λ one. one.number) (take (index + 1) loaded))
loaded_more name old text new loaded index location less is so_far more =
    let numbers : List Location → List ℕ = λ ls. map (λ one. one.number) ls in
    let all : take (index + 1) loaded ≡ take index loaded ++ location ∷ [] =
    take_more loaded index location less ∙ ap (λ (one : Location). take index loaded ++ one ∷ []) (sym is) in
    let own : flat_map (loaded_text name) (numbers (take index loaded ++ location ∷ []))
    ≡ flat_map (loaded_text name) (numbers (take index loaded)) ++ loaded_text name location.number =
    ap (flat_map (loaded_text name)) (map-append (λ (one : Location). one.number) (take index loaded) (location ∷ []))
    ∙ flat_map-append (loaded_text name) (numbers (take index loaded)) (location.number ∷ [])
    ∙ ap (λ (xs : List ℕ). flat_map (loaded_text name) (numbers (take index loaded)) ++ xs)
    (append-nil (loaded_text name location.number)) in
    let here : text ++ at_line name None ++ fault_text (Loaded location) ≡ text ++ loaded_text name location.number =
    simp append_assoc in
    more ∙ here ∙ ap (λ (xs : List ℕ). xs ++ loaded_text name location.number) so_far
    ∙ append_assoc old (flat_map (loaded_text name) (numbers (take index loaded))) (loaded_text name location.number)
    ∙ ap (λ (xs : List ℕ). old ++ xs)
    (sym own ∙ ap (λ (ls : List Location). flat_map (loaded_text name) (numbers ls)) (sym all))

-- the lines of inputs behind a text, as what a call returns
pub inputs_returned : {V E : Type 0} (result : Result V E) (items : V → List ℕ) (deck inputs : Named)
    (faults : List (PlacedFault InputFault)) (loaded old between : List ℕ)
    → AreInputFaults inputs.bytes faults → AreLoadedTwice deck.bytes inputs.bytes loaded
    → between ≡ old ++ flat_map (input_fault_text inputs.name faults) faults
    → IfOk result (λ new. items new ≡ between ++ flat_map (loaded_text inputs.name) loaded)
    → IfOk result (λ new. (lines : List ℕ) × AreLinesOfInputs deck (Some inputs) lines × (items new ≡ old ++ lines))
inputs_returned (Ok new) items deck inputs faults loaded old between are both p q =
    let own = flat_map (input_fault_text inputs.name faults) faults in
    let twice = flat_map (loaded_text inputs.name) loaded in (
      own ++ twice,
      (own, (faults, are, refl), (loaded, both, refl)),
      q ∙ ap (λ (xs : List ℕ). xs ++ twice) p ∙ append_assoc old own twice,
    )
inputs_returned (Err fault) items deck inputs faults loaded old between are both p q = tt

-- a text that a call returns is another that equals it
pub text_returned : {V E : Type 0} (result : Result V E) (items : V → List ℕ) (xs ys : List ℕ) → xs ≡ ys
    → IfOk result (λ new. items new ≡ xs) → IfOk result (λ new. items new ≡ ys)
text_returned (Ok new) items xs ys e p = p ∙ e
text_returned (Err fault) items xs ys e p = tt

-- the line of what `toml` says, piece by piece
pub complaint_in_pieces : (text name message : List ℕ) (line column : ℕ) (first second third fourth fifth : List ℕ)
    → first ≡ text ++ name
    → second ≡ first ++ codes ":" ++ decimal line
    → third ≡ second ++ codes ":" ++ decimal column
    → fourth ≡ third ++ codes ": "
    → fifth ≡ fourth ++ message
    → fifth ++ codes "\n" ≡ text ++ complaint_text name line column message
complaint_in_pieces text name message line column first second third fourth fifth p q r s t =
    let of_second = q ∙ ap (λ (xs : List ℕ). xs ++ codes ":" ++ decimal line) p in
    let of_third = r ∙ ap (λ (xs : List ℕ). xs ++ codes ":" ++ decimal column) of_second in
    let of_fourth = s ∙ ap (λ (xs : List ℕ). xs ++ codes ": ") of_third in
    let of_fifth = t ∙ ap (λ (xs : List ℕ). xs ++ message) of_fourth in
    ap (λ (xs : List ℕ). xs ++ codes "\n") of_fifth ∙ simp append_assoc

-- the line of how many more are like one, piece by piece
pub more_in_pieces : (text name : List ℕ) (more line : ℕ) (at : Option ℕ) (first second third fourth : List ℕ)
    → at ≡ Some line
    → first ≡ text ++ at_line name None
    → second ≡ first ++ decimal more
    → third ≡ second ++ codes " more lines like line "
    → fourth ≡ third ++ decimal line
    → fourth ++ codes "\n" ≡ text ++ more_text name more at
more_in_pieces text name more line at first second third fourth is p q r s =
    let of_second = q ∙ ap (λ (xs : List ℕ). xs ++ decimal more) p in
    let of_third = r ∙ ap (λ (xs : List ℕ). xs ++ codes " more lines like line ") of_second in
    let of_fourth = s ∙ ap (λ (xs : List ℕ). xs ++ decimal line) of_third in
    let all : fourth ++ codes "\n" ≡ text ++ more_text name more (Some line) =
    ap (λ (xs : List ℕ). xs ++ codes "\n") of_fourth ∙ simp append_assoc in
    all ∙ ap (λ (one : Option ℕ). text ++ more_text name more one) (sym is)

-- two texts of which nothing comes are nothing
no_parts : (xs ys : List ℕ) → [] ≡ xs ++ ys → ([] ≡ xs) × ([] ≡ ys)
no_parts [] ys e = (refl, e)
no_parts (x ∷ xs) ys e = cc

-- where a fault stands is never nothing
place_fills : (name : List ℕ) (line : Option ℕ) → [] ≡ at_line name line → ⊥
place_fills name None e = let end = (no_parts name (codes ": ") e).1 in cc end
place_fills name (Some line) e = let end = (no_parts (name ++ codes ":" ++ decimal line) (codes ": ") e).1 in cc end

-- nothing comes of no faults alone, where each fault has a line
none_mapped : {A : Type 0} (text : A → List ℕ) → ((x : A) → [] ≡ text x → ⊥) → (xs : List A) → [] ≡ flat_map text xs
    → xs ≡ []
none_mapped text fills [] e = refl
none_mapped text fills (x ∷ xs) e = absurd (fills x (no_parts (text x) (flat_map text xs) e).0)

-- the lines of a fault that has a place are never nothing
placed_fills : {Fault : Type 0} (line name : List ℕ) (placed : PlacedFault Fault) → [] ≡ placed_text line name placed → ⊥
placed_fills line name placed e =
    let placed_at = at_line name placed.line in
    let earlier = earlier_text name placed.earlier in
    let slip = slip_text name placed.line placed.slip in
    let behind = (no_parts (placed_at ++ line ++ earlier) slip e).0 in
    let pair = (no_parts (placed_at ++ line) earlier behind).0 in
    place_fills name placed.line (no_parts placed_at line pair).0

-- a choice that is made
chosen : {A : Type 0} (b : Bool) (x y : A) → b ≡ true → (if b then x else y) ≡ x
chosen true x y e = refl
chosen false x y e = cc (e)

-- a line is the same as itself
same_line : (line : Option ℕ) → option_eq nat_eq line line ≡ true
same_line None = refl
same_line (Some n) = search (rules, tests)

-- the first of many alike has its lines
many_fill : {Fault : Type 0} (line name : List ℕ) (placed : PlacedFault Fault) (more first : Option ℕ)
    → first ≡ placed.line → [] ≡ alike_text name (placed_text line name placed) placed.line more first → ⊥
many_fill line name placed None first same e = placed_fills line name placed e
many_fill line name placed (Some more) first same e =
    let own = placed_text line name placed in
    let behind = more_text name more placed.line in
    let is : option_eq nat_eq first placed.line ≡ true =
    ap (λ (at : Option ℕ). option_eq nat_eq at placed.line) same ∙ same_line placed.line in
    let told : [] ≡ own ++ behind = e ∙ chosen (option_eq nat_eq first placed.line) (own ++ behind) [] is in
    placed_fills line name placed (no_parts own behind told).0

-- the first fault of a text is the first of those that are like it
first_is_first : {Fault : Type 0} (slip : Slip) (first : PlacedFault Fault) (others : List (PlacedFault Fault))
    → first.slip ≡ Some slip → first_alike (first ∷ others) (Some slip) ≡ first.line
first_is_first {Fault} slip first others has =
    let is : has_slip slip first ≡ true =
    ap (λ (own : Option Slip). option_eq (sameb the_type) own (Some slip)) has ∙ true_same the_type slip slip refl in
    ap (option_and_then (λ (one : PlacedFault Fault). one.line))
    (chosen (has_slip slip first) (Some first) (find (has_slip slip) others) is)

-- so something is told of it
first_fills : {Fault : Type 0} (line name : List ℕ) (first : PlacedFault Fault) (others : List (PlacedFault Fault))
    (slip : Option Slip) → first.slip ≡ slip
    → [] ≡ alike_text name (placed_text line name first) first.line (more_alike (first ∷ others) slip)
    (first_alike (first ∷ others) slip)
    → ⊥
first_fills line name first others None has e = placed_fills line name first e
first_fills line name first others (Some slip) has e =
    many_fill line name first (more_alike (first ∷ others) (Some slip)) (first_alike (first ∷ others) (Some slip))
    (first_is_first slip first others has) e

-- nothing comes of no faults alone
none_told : {Fault : Type 0} (line_of : Fault → List ℕ) (name : List ℕ) (faults : List (PlacedFault Fault))
    → [] ≡ flat_map (λ placed. told_text (line_of placed.fault) name faults placed) faults → faults ≡ []
none_told line_of name [] e = refl
none_told {Fault} line_of name (first ∷ others) e =
    let text : PlacedFault Fault → List ℕ =
    λ placed. told_text (line_of placed.fault) name (first ∷ others) placed in
    absurd (first_fills (line_of first.fault) name first others first.slip refl
    (no_parts (text first) (flat_map text others) e).0)

deck_none : (name : List ℕ) (faults : List (PlacedFault DeckFault)) → [] ≡ flat_map (deck_fault_text name faults) faults
    → faults ≡ []
deck_none name faults e = none_told deck_text name faults e

input_none : (name : List ℕ) (faults : List (PlacedFault InputFault))
    → [] ≡ flat_map (input_fault_text name faults) faults → faults ≡ []
input_none name faults e = none_told input_text name faults e

notes_none : (name part : List ℕ) (faults : List NoteFault) → [] ≡ flat_map (note_fault_text name part) faults
    → faults ≡ []
notes_none name part faults e =
    none_mapped (note_fault_text name part)
    (λ fault none. place_fills name None (no_parts (at_line name None) (note_text part fault) none).0) faults e

-- where no lines are, a document has no faults
pub document_none : (faults_of : Members → List Fault) (part : List ℕ) (text : Named) (lines : List ℕ)
    → AreDocumentLines faults_of part text lines → [] ≡ lines → AreAllFaults faults_of text.bytes []
document_none faults_of part text lines are e =
    let parts = no_parts (flat_map (note_fault_text text.name part) are.faults) are.complaint (e ∙ are.all) in
    subst (AreAllFaults faults_of text.bytes) (notes_none text.name part are.faults parts.0) are.are

-- and inputs have none
inputs_none : (deck : Named) (inputs : Option Named) (lines : List ℕ) → AreLinesOfInputs deck inputs lines → [] ≡ lines
    → IfSome inputs (λ text. (stated : List input_lines.Line) × AreInputs text.bytes stated)
inputs_none deck None lines are e = tt
inputs_none deck (Some inputs) lines (of_text, (faults, are, own), (loaded, both, all)) e =
    let parts = no_parts of_text (flat_map (loaded_text inputs.name) loaded) (e ∙ all) in
    let nothing : faults ≡ [] = input_none inputs.name faults (parts.0 ∙ own) in
    none_is_inputs inputs.bytes (subst (AreInputFaults inputs.bytes) nothing are)

-- and a deck has none, nor have the documents, nor inputs
pub all_none : (deck times notes : Named) (inputs : Option Named) (all : AreFaultLines deck times notes inputs [])
    → ((lines : List Line) × IsDeck deck.bytes lines) × ([] ≡ all.of_times) × ([] ≡ all.of_notes)
    × IfSome inputs (λ text. (stated : List input_lines.Line) × AreInputs text.bytes stated)
all_none deck times notes inputs all =
    let own = flat_map (deck_fault_text deck.name all.faults) all.faults in
    let last = no_parts (own ++ all.of_times ++ all.of_notes) all.of_inputs all.all in
    let second = no_parts (own ++ all.of_times) all.of_notes last.0 in
    let first = no_parts own all.of_times second.0 in (
      none_is_deck deck.bytes
          (subst (AreDeckFaults deck.bytes) (deck_none deck.name all.faults first.0) all.are),
      first.1,
      second.1,
      inputs_none deck inputs all.of_inputs all.inputs_are last.1,
    )
